-- Filters of blocks: what one more adds, and that a key which one denies isn't in its block.
use Rattle.std.proofs.Common.{◌≡◌, ℕ, zero, suc, ◌+◌, ◌<◌, List, [], ◌∷◌, ◌++◌, length, take, get_or, Some, None, cond, refl, sym, ap, subst, ◌∙◌}
use Rattle.std.specs.Prelude.{slice_get}
use Rattle.std.specs.Ordering.{is_eq}
use Rattle.std.specs.declared.cmp.Ordering.{Ordering}
use Rattle.std.specs.declared.cmp.Ordering.TheVariants.{Less, Equal, Greater}
use Rattle.std.specs.FinMap.Entries.{find}
use Rattle.std.proofs.lemmas.List.{take_more}
use Rattle.alt_cells.specs.Keys.{key_cmp}
use Rattle.alt_cells.proofs.CellLaws.{key_exact}
use Rattle.alt_fields.proofs.Apart.{all_append, all_map}
use Rattle.alt_filter.specs.Filters.{Holds}
use Rattle.alt_filter.specs.declared.filter.Filter.{Filter}
use Rattle.alt_rowblocks.specs.Filtering.{AreFilters, FilterHoldsRows, IsDenied}
use Rattle.alt_rowblocks.specs.Format.{Entry}

-- the filter of one block more
pub filters-push : (filters : List Filter) (blocks : List (List Entry)) (f : Filter)
    (b : List Entry) → AreFilters filters blocks → FilterHoldsRows f b
    → AreFilters (filters ++ f ∷ []) (blocks ++ b ∷ [])
filters-push [] [] f b are holds = (holds, tt)
filters-push [] (c ∷ blocks) f b are holds = absurd are
filters-push (g ∷ filters) [] f b are holds = absurd are
filters-push (g ∷ filters) (c ∷ blocks) f b are holds =
    (are.0, filters-push filters blocks f b are.1 holds)

-- a filter that holds what another did, and a further key, holds rows with one more
pub holds_more : (old new : Filter) (rows : List Entry) (e : Entry)
    → ((key : List ℕ) → Holds old key → Holds new key) → Holds new e.0 → FilterHoldsRows old rows
    → FilterHoldsRows new (rows ++ e ∷ [])
holds_more old new rows e kept added holds =
    all_append (λ (x : Entry). Holds new x.0) rows (e ∷ [])
    (all_map (λ (x : Entry). Holds old x.0) (λ (x : Entry). Holds new x.0) rows
    (λ x. kept x.0) holds) (added, tt)

-- the same of the rows of a list up to a place
pub holds_next : (old new : Filter) (rows : List Entry) (i : ℕ) (e : Entry) → i < length rows
    → e ≡ get_or rows i e
    → ((key : List ℕ) → Holds old key → Holds new key) → Holds new e.0
    → FilterHoldsRows old (take i rows) → FilterHoldsRows new (take (i + 1) rows)
holds_next old new rows i e less at kept added holds =
    subst (FilterHoldsRows new) (ap (λ (x : Entry). take i rows ++ x ∷ []) at
    ∙ sym (take_more rows i e less)) (holds_more old new (take i rows) e kept added holds)

-- a key that the filter of rows doesn't hold is at none of them
none_held : (filter : Filter) (rows : List Entry) (key : List ℕ) → FilterHoldsRows filter rows
    → (Holds filter key → ⊥) → find key_cmp key rows ≡ None
none_held filter [] key holds denied = refl
none_held filter (e ∷ rows) key holds denied =
    by_order (key_cmp key e.0) refl (none_held filter rows key holds.1 denied)
  where
    by_order : (r : Ordering) → key_cmp key e.0 ≡ r → find key_cmp key rows ≡ None
        → cond (is_eq r) (Some e.1) (find key_cmp key rows) ≡ None
    by_order Less is rest = rest
    by_order Equal is rest =
        absurd (denied (subst (Holds filter) (sym (key_exact key e.0 is)) holds.0))
    by_order Greater is rest = rest

-- nor in the block whose filter denies it
pub denied_in : (filters : List Filter) (blocks : List (List Entry)) (i : ℕ) (key : List ℕ)
    → AreFilters filters blocks → IsDenied (slice_get filters i) key
    → find key_cmp key (get_or blocks i []) ≡ None
denied_in [] blocks i key are denied = absurd denied
denied_in (f ∷ filters) [] i key are denied = absurd are
denied_in (f ∷ filters) (b ∷ blocks) zero key are denied = none_held f b key are.0 denied
denied_in (f ∷ filters) (b ∷ blocks) (suc i) key are denied =
    denied_in filters blocks i key are.1 denied
