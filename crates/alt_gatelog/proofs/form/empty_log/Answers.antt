use Rattle.std.proofs.Common.{◌∷◌, [], ◌++◌, sym, ap}
use Rattle.alt_gatelog.specs.Log.{header}
use Rattle.alt_gatelog.specs.declared.form.Form.{Form}
use Rattle.alt_gatelog.proofs.form.empty_log.Goals as goal

pub returns-in-One : goal.returns-in-One
unfolding header
returns-in-One c = ap (λ (form : Form). header form ++ 0 ∷ []) (sym c.in-One.is)

pub returns-in-Two : goal.returns-in-Two
unfolding header
returns-in-Two c = ap (λ (form : Form). header form ++ 0 ∷ []) (sym c.in-Two.is)
