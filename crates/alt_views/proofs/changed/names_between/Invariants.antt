-- Beside the names so far the attributes of the new item, and then those of the old one, are in the other.
use Rattle.std.proofs.Common.{map, length, take}
use Rattle.alt_views.proofs.Beside.{HoldsBeside, IsNamed, IsOld}
use Rattle.alt_views.proofs.changed.names_between.Given as goal

abbrev pub invariant-loop-at : goal.invariant-loop-at
invariant-loop-at l = HoldsBeside (map (λ n. n.now) l.names.items) (IsOld l.old) (take l.at l.new)

abbrev pub invariant-loop-at-2 : goal.invariant-loop-at-2
invariant-loop-at-2 l =
    HoldsBeside (map (λ n. n.now) l.names.items) (IsOld l.old) (take (length l.new) l.new)
    × HoldsBeside (map (λ n. n.now) l.names.items) (IsNamed l.new) (take l.at l.old)
