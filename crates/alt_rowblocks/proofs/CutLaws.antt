-- A key cuts sorted rows in two.
use Rattle.std.proofs.Common.{◌≡◌, ℕ, List, [], ◌∷◌, ◌++◌, T, false}
use Rattle.std.specs.List.{AllByRecursion}
use Rattle.std.specs.Ordering.{is_gt}
use Rattle.std.specs.FinMap.Entries.{is_sorted, below_all}
use Rattle.alt_base.proofs.Bools.{first_holds, second_holds}
use Rattle.alt_base.proofs.Orderings.{is_lt-holds}
use Rattle.alt_cells.specs.Keys.{key_cmp}
use Rattle.alt_cells.proofs.CellLaws.{key_total}
use Rattle.alt_rowblocks.specs.Format.{Entry}
use Rattle.alt_rowblocks.specs.Cut.{IsBelowKey, IsFromKey}
use Rattle.alt_rowblocks.proofs.SearchLaws.{at_or_above, first_below}

module _ (key : List ℕ) where
  -- rows before one at or below the key are below it
  pub below_front : (xs : List Entry) (y : Entry) (ys : List Entry)
      → T (is_sorted key_cmp (xs ++ y ∷ ys)) → is_gt (key_cmp y.0 key) ≡ false
      → AllByRecursion (IsBelowKey key) xs
  below_front [] y ys h up = tt
  below_front (x ∷ xs) y ys h up = (
    at_or_above x.0 y.0 key (first_below x xs y ys h) up,
    below_front xs y ys
        (second_holds _ _ h) up,
  )

  -- rows behind one that isn't below it aren't
  from_behind : (y : Entry) (es : List Entry) → IsFromKey key y → T (below_all key_cmp y.0 es)
      → AllByRecursion (IsFromKey key) es
  from_behind y [] n h = tt
  from_behind y (e ∷ es) n h = (
    (λ lower. n (key_total.trans y.0 e.0 key (is_lt-holds _ (first_holds _ _ h)) lower)),
    from_behind y es n (second_holds _ _ h),
  )

  -- where the first of sorted rows is at a key or behind it, all are
  pub from_first : (y : Entry) (ys : List Entry) → T (is_sorted key_cmp (y ∷ ys)) → IsFromKey key y
      → AllByRecursion (IsFromKey key) (y ∷ ys)
  from_first y ys h n = (n, from_behind y ys n (first_holds _ _ h))
