-- What the parser answers of the text is what the text states.
use Rattle.std.proofs.Common.{ap, ◌∙◌, sym, subst, List, ℕ, Option, Err, Bor, option_map}
use Rattle.alt_expr.specs.Given.{with_hashes, with_colons}
use Rattle.alt_expr.specs.Languages.{conditions}
use Rattle.alt_expr.specs.Lookups.{given_by}
use Rattle.alt_expr.specs.declared.cond.Cond.{Cond}
use Rattle.alt_expr.proofs.CondTexts.{condition_of}
use Rattle.alt_expr.specs.NamesGiven.{used_names, used_values}
use Rattle.alt_expr.proofs.CondWhole.{unique}
use Rattle.alt_machine.specs.Expressions as machine
use Rattle.alt_machine.proofs.Spoken.{hashes_noted, colons_noted}
use Rattle.alt_said.proofs.Stated.{read_ok, read_err}
use Rattle.alt_said.specs.Steps.{Comes}
use Rattle.alt_said.specs.Words.{stop_of}
use Rattle.alt_said.specs.declared.stop.Stop.{Stop}
use Rattle.alt_said.proofs.texts.condition_stated.Goals as goal

-- the text of the option
abbrev text_in : Option (Bor (List ℕ)) → Option (List ℕ)
text_in o = option_map (λ t. t.now) o

pub returns-in-Ok-clause-stated : goal.returns-in-Ok-clause-stated
returns-in-Ok-clause-stated c =
    let g = given_by c.args.names.now c.args.values.now in
    ap (λ o. machine.stated_by_text condition_of g (text_in o)) c.in-Some.is
    ∙ read_ok conditions condition_of g (unique g) c.in-Some.text.now c.in-Ok.condition
    c.in-Ok.ensures.parsed

pub returns-in-Ok-clause-names : goal.returns-in-Ok-clause-names
returns-in-Ok-clause-names c =
    hashes_noted c.in-Some.text.now c.args.names.now c.parse.new.names c.in-Ok.condition
    c.in-Ok.ensures.names
    ∙ ap (λ o. with_hashes (machine.words_of (text_in o)) (used_names c.args.names.now))
    (sym c.in-Some.is)

pub returns-in-Ok-clause-values : goal.returns-in-Ok-clause-values
returns-in-Ok-clause-values c =
    colons_noted c.in-Some.text.now c.args.values.now c.parse.new.values c.in-Ok.condition
    c.in-Ok.ensures.values
    ∙ ap (λ o. with_colons (machine.words_of (text_in o)) (used_values c.args.values.now))
    (sym c.in-Some.is)

pub returns-in-Err-clause-stated : goal.returns-in-Err-clause-stated
returns-in-Err-clause-stated c =
    let g = given_by c.args.names.now c.args.values.now in
    subst (λ (stop : Stop). Comes {X = Option (Cond)} (λ x. x)
    (machine.stated_by_text condition_of g (text_in c.args.text)) (Err stop)) (sym c.stop_of.ensures)
    (subst (λ o. Comes {X = Option (Cond)} (λ x. x) (machine.stated_by_text condition_of g (text_in o))
    (Err (stop_of c.in-Err.fault))) (sym c.in-Some.is)
    (read_err conditions condition_of g (unique g) c.in-Some.text.now c.in-Err.fault
    c.in-Err.ensures.parsed))
