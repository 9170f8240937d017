use Rattle.std.proofs.Common.{◌≡◌, drop, length}
use Rattle.std.specs.List.{sum_by}
use Rattle.alt_value.specs.Size.{left_after}
use Rattle.alt_value.proofs.measure.left_of_texts.Given as goal

abbrev pub invariant-loop-member : goal.invariant-loop-member
invariant-loop-member l = left_after l.initial.left (sum_by length l.set)
    ≡ left_after l.left (sum_by length (drop l.member-index l.member-items))
