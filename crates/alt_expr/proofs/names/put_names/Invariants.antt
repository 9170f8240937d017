use Rattle.std.proofs.Common.{◌≡◌, ◌||◌, true}
use Rattle.serde_json.specs.View.{members_view}
use Rattle.alt_expr.specs.Given.{are_names}
use Rattle.alt_expr.specs.NamesIn.{gives_names, names_in, gives_empty}
use Rattle.alt_expr.proofs.names.put_names.Given as goal

abbrev pub invariant-loop-word : goal.invariant-loop-word
invariant-loop-word l = record {
  given : names_in l.initial.given (members_view l.members.entries)
      ≡ names_in l.given (members_view l.word-iterator);
  empty : gives_empty (members_view l.members.entries)
      ≡ (l.empty || gives_empty (members_view l.word-iterator));
  names : are_names l.given ≡ true;
  left : gives_names (members_view l.word-iterator) ≡ true;
}
