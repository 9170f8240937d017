-- The entries of an ordered map, as those of a finite map.
use Rattle.std.proofs.Common.{◌≡◌, ℕ, Bool, T, List, [], ◌∷◌, map, Option, sym, ap, ◌∙◌}
use Rattle.std.specs.declared.cmp.Ordering.{Ordering}
use Rattle.std.specs.declared.cmp.Ordering.TheVariants.{Less}
use Rattle.std.specs.declared.ops.Bound.{Bound}
use Rattle.std.specs.Ordering.{is_lt}
use Rattle.std.specs.List.{AllByRecursion}
use Rattle.std.specs.List.Sorted.{IsStrictlySortedBy}
use Rattle.std.specs.BTreeMap.Range.{entries_between}
use Rattle.std.specs.FinMap.{entries, from_sorted, entries-from_sorted}
use Rattle.std.specs.FinMap.Entries.{is_sorted, below_all}
use Rattle.alt_base.proofs.Bools.{both_hold}
use Rattle.alt_base.proofs.Orderings.{less-holds}
use Rattle.alt_cells.specs.Keys.{key_cmp}
use Rattle.alt_cells.specs.Walks.{RowMap, RowList, turned, rows_from, first_bound, last_bound}

module _ {K X : Type 0} (R : K → K → Ordering) where
  -- a key below all
  below_keys : (k : K) (es : List (K × X)) → AllByRecursion (λ y. R k y ≡ Less) (map (λ e. e.0) es)
      → T (below_all R k es)
  below_keys k [] h = tt
  below_keys k (e ∷ es) h =
      both_hold (is_lt (R k e.0)) (below_all R k es) (less-holds (R k e.0) h.0)
      (below_keys k es h.1)

  -- keys that rise, in the words of a tree
  pub is_sorted_keys : (es : List (K × X)) → IsStrictlySortedBy R (map (λ e. e.0) es)
      → T (is_sorted R es)
  unfolding IsStrictlySortedBy
  is_sorted_keys [] h = tt
  is_sorted_keys (e ∷ es) h =
      both_hold (below_all R e.0 es) (is_sorted R es) (below_keys e.0 es h.0)
      (is_sorted_keys es h.1)

-- a range of the map is what a walk gives from the place
pub range_is : (es range : RowList) (rows : RowMap) (from : Option (List ℕ)) (forward : Bool)
    (first last : Bound (List ℕ)) → IsStrictlySortedBy key_cmp (map (λ e. e.0) es)
    → rows ≡ from_sorted es → first ≡ first_bound forward from → last ≡ last_bound forward from
    → range ≡ entries_between key_cmp first last es
    → rows_from rows from forward ≡ turned forward range
range_is es range rows from forward first last ordered is f l between =
    ap (turned forward) ((λ i. entries_between key_cmp (sym f i) (sym l i)
    ((ap entries is ∙ entries-from_sorted key_cmp es (is_sorted_keys key_cmp es ordered)) i))
    ∙ sym between)
