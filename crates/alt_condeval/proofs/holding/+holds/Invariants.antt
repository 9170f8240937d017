use Rattle.std.proofs.Common.{◌≡◌, drop}
use Rattle.std.specs.List.{list_any, list_all}
use Rattle.alt_expr.specs.Holds.{holds}
use Rattle.alt_condeval.proofs.holding.+holds.Given as goal

abbrev pub invariant-any-loop-member : goal.invariant-any-loop-member
invariant-any-loop-member g l =
    list_any (holds (g.V.AttrView.attribute l.view)) l.members
    ≡ list_any (holds (g.V.AttrView.attribute l.view)) (drop l.member-index l.members)

abbrev pub invariant-all-loop-member : goal.invariant-all-loop-member
invariant-all-loop-member g l =
    list_all (holds (g.V.AttrView.attribute l.view)) l.members
    ≡ list_all (holds (g.V.AttrView.attribute l.view)) (drop l.member-index l.members)
