use Rattle.std.proofs.Common.{◌≡◌, drop}
use Rattle.std.specs.List.{list_any}
use Rattle.alt_value.specs.Stands.{tree_of}
use Rattle.alt_expr.specs.Holds as spec
use Rattle.alt_condeval.proofs.contained.has_element.Given as goal

abbrev pub invariant-loop-i : goal.invariant-loop-i
invariant-loop-i l = list_any (λ s. spec.same s (tree_of l.b)) l.list
    ≡ list_any (λ s. spec.same s (tree_of l.b)) (drop l.i l.list)
