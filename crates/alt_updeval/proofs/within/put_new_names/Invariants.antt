use Rattle.std.proofs.Common.{map, take}
use Rattle.std.specs.List.{list_any}
use Rattle.std.specs.Ordering.{eq_by_cmp}
use Rattle.alt_value.specs.Members.{text_order}
use Rattle.alt_updeval.specs.Shown.{way_of}
use Rattle.alt_updeval.proofs.Maps.{Seen}
use Rattle.alt_updeval.proofs.within.put_new_names.Given as goal

-- each new name so far has what is put there
abbrev pub invariant-loop-name : goal.invariant-loop-name
invariant-loop-name l = Seen (map way_of l.ways) l.old l.fn.out
    (λ q. list_any (λ p. eq_by_cmp text_order q p.0.now) (take l.name-index l.name-items)) l.out
