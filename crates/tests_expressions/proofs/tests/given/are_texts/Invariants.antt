use Rattle.std.proofs.Common.{◌≡◌}
use Rattle.serde_json.specs.View.{members_view}
use Rattle.alt_expr.specs.NamesIn.{gives_names}
use Rattle.tests_expressions.proofs.tests.given.are_texts.Given as goal

abbrev pub invariant-loop-name : goal.invariant-loop-name
invariant-loop-name l = gives_names (members_view l.members.entries)
    ≡ gives_names (members_view l.name-iterator)
