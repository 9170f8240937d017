-- What the parser answers of the text is what the text states.
use Rattle.std.proofs.Common.{ap, ◌∙◌, sym, subst, List, ℕ, Option, Err, Bor, option_map}
use Rattle.alt_expr.specs.Given.{with_hashes}
use Rattle.alt_expr.specs.Languages.{projections}
use Rattle.alt_expr.specs.Lookups.{names_alone}
use Rattle.alt_expr.specs.declared.path.PathPart.{PathPart}
use Rattle.alt_expr.proofs.PathsTexts.{paths_of}
use Rattle.alt_expr.specs.NamesGiven.{given_names, used_names}
use Rattle.alt_expr.proofs.PathsWhole.{unique}
use Rattle.alt_machine.specs.Expressions as machine
use Rattle.alt_machine.proofs.Spoken.{hashes_noted}
use Rattle.alt_said.proofs.Stated.{read_ok, read_err}
use Rattle.alt_said.specs.Steps.{Comes}
use Rattle.alt_said.specs.Words.{stop_of}
use Rattle.alt_said.specs.declared.stop.Stop.{Stop}
use Rattle.alt_said.proofs.texts.paths_stated.Goals as goal

-- the text of the option
abbrev text_in : Option (Bor (List ℕ)) → Option (List ℕ)
text_in o = option_map (λ t. t.now) o

pub returns-in-Ok-clause-stated : goal.returns-in-Ok-clause-stated
returns-in-Ok-clause-stated c =
    let g = names_alone (given_names c.args.names.now) in
    ap (λ o. machine.stated_by_text paths_of g (text_in o)) c.in-Some.is
    ∙ read_ok projections paths_of g (unique g) c.in-Some.text.now c.in-Ok.paths
    c.in-Ok.ensures.parsed

pub returns-in-Ok-clause-names : goal.returns-in-Ok-clause-names
returns-in-Ok-clause-names c =
    hashes_noted c.in-Some.text.now c.args.names.now c.parse.new.names c.in-Ok.paths
    c.in-Ok.ensures.names
    ∙ ap (λ o. with_hashes (machine.words_of (text_in o)) (used_names c.args.names.now))
    (sym c.in-Some.is)

pub returns-in-Err-clause-stated : goal.returns-in-Err-clause-stated
returns-in-Err-clause-stated c =
    let g = names_alone (given_names c.args.names.now) in
    subst (λ (stop : Stop). Comes {X = Option (List (List PathPart))} (λ x. x)
    (machine.stated_by_text paths_of g (text_in c.args.text)) (Err stop)) (sym c.stop_of.ensures)
    (subst (λ o. Comes {X = Option (List (List PathPart))} (λ x. x)
    (machine.stated_by_text paths_of g (text_in o))
    (Err (stop_of c.in-Err.fault))) (sym c.in-Some.is)
    (read_err projections paths_of g (unique g) c.in-Some.text.now c.in-Err.fault
    c.in-Err.ensures.parsed))
