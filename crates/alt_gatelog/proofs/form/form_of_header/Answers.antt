use Rattle.std.proofs.Common.{rules}
use Rattle.alt_gatelog.specs.Log.{header}
use Rattle.alt_gatelog.specs.declared.form.Form.TheVariants.{One, Two}
use Rattle.alt_gatelog.proofs.form.form_of_header.Goals as goal

pub returns-then-eq-clause-some : goal.returns-then-eq-clause-some
unfolding header
returns-then-eq-clause-some c = search rules

pub returns-then-eq-2-clause-some : goal.returns-then-eq-2-clause-some
unfolding header
returns-then-eq-2-clause-some c = search rules

pub returns-clause-none : goal.returns-clause-none
unfolding header
returns-clause-none c One is = search rules
returns-clause-none c Two is = search rules
