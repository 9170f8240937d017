-- Finite maps by texts.
use Rattle.std.proofs.Common.{◌≡◌, ℕ, List}
use Rattle.std.proofs.lemmas.Cmp.{nat_list_cmp_total}
use Rattle.std.specs.FinMap.{get, same_map, nat_cmp-IsAntisymmetric, slice_cmp-IsAntisymmetric}
use Rattle.alt_machine.specs.State.{Texts}

-- maps that answer alike are one map
pub same_texts : {X : Type 0} (m n : Texts X) → ((q : List ℕ) → get m q ≡ get n q) → m ≡ n
same_texts m n h = same_map nat_list_cmp_total
    (slice_cmp-IsAntisymmetric nat_cmp-IsAntisymmetric) m n h
