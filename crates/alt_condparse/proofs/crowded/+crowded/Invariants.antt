use Rattle.std.proofs.Common.{◌≡◌, drop}
use Rattle.std.specs.List.{list_any}
use Rattle.alt_expr.specs.Crowded.{is_crowded}
use Rattle.alt_condparse.proofs.crowded.+crowded.Given as goal

abbrev pub invariant-is_one_crowded-loop-member : goal.invariant-is_one_crowded-loop-member
invariant-is_one_crowded-loop-member l = list_any is_crowded l.members
    ≡ list_any is_crowded (drop l.member-index l.members)
