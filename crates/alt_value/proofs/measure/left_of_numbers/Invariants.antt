use Rattle.std.proofs.Common.{◌≡◌, drop}
use Rattle.std.specs.List.{sum_by}
use Rattle.alt_value.specs.Size.{left_after, number_size}
use Rattle.alt_value.proofs.measure.left_of_numbers.Given as goal

abbrev pub invariant-loop-member : goal.invariant-loop-member
invariant-loop-member l = left_after l.initial.left (sum_by number_size l.set)
    ≡ left_after l.left (sum_by number_size (drop l.member-index l.member-items))
