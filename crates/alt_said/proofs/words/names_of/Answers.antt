-- The first name that is refused, or all of them.
use Rattle.std.proofs.Common.{sym, ap, ◌∙◌, Ok}
use Rattle.serde_json.specs.View.{members_view}
use Rattle.alt_said.proofs.Said.{names_free, names_read, names_refused, names_known}
use Rattle.alt_said.proofs.words.names_of.Goals as goal

pub returns-in-Some-clause-given : goal.returns-in-Some-clause-given
returns-in-Some-clause-given c = (
  names_refused (members_view c.args.names.now.entries) c.in-Some.refusal (sym c.in-Some.ensures),
  names_known (members_view c.args.names.now.entries) c.in-Some.refusal (sym c.in-Some.ensures),
)

pub of_json-requires : goal.of_json-requires
of_json-requires c = names_free (members_view c.args.names.now.entries) (sym c.in-None.ensures)

pub returns-in_ok-of_json-in-None-clause-given : goal.returns-in_ok-of_json-in-None-clause-given
returns-in_ok-of_json-in-None-clause-given c =
    names_read (members_view c.args.names.now.entries) (sym c.in-None.ensures)
    ∙ ap (λ x. Ok x) (sym c.in_ok-of_json-in-None.ensures.given)
