-- The rows of an index after an item changes: those of the items after it, also where the item's key in the index changes.
use Rattle.std.proofs.Common.{◌≡◌, ◌≢◌, ℕ, zero, suc, Bool, true, false, List, [], ◌∷◌, map, Option, Some, None, refl, sym, ap, ◌∙◌, All, AllPairs, option_map, slice_get, slice_index_or, length, ◌<◌, arith}
use Rattle.std.proofs.lemmas.List.Elements.{All-head, All-tail}
use Rattle.std.proofs.lemmas.Option.{slice_get-map, slice_get_within, get_or_from_slice_get}
use Rattle.std.specs.Prelude.{if◌then◌else◌, option_and_then, unwrap_or}
use Rattle.std.specs.List.{flat_map}
use Rattle.std.specs.Ordering.{eq_by_cmp}
use Rattle.std.specs.FinMap as finite
use Rattle.alt_cells.specs.Changes.{Columns}
use Rattle.alt_cells.specs.Keys.{key_cmp}
use Rattle.alt_layout.specs.Layout.{Layout, shown, shown_by, change_of}
use Rattle.alt_writes.specs.Writes.{Write}
use Rattle.alt_layout.specs.Writes.{with_write}
use Rattle.alt_machine.specs.Indexed.{index_entry, index_items}
use Rattle.alt_machine.specs.State.{Texts}
use Rattle.alt_machine.specs.Writes.{with_item}
use Rattle.alt_machine.proofs.Rekeying.{AreApart, unless_at, moved, get-rekeyed-with_item, gives}
use Rattle.alt_schema.specs.declared.schema.IndexSchema.{IndexSchema}
use Rattle.alt_schema.specs.declared.schema.TableSchema.{TableSchema}
use Rattle.alt_rowchanges.proofs.ChangeLaws.{ShowsWrite, AreOthers, others-append, change_of-behind, change_of-front}
use Rattle.alt_rowchanges.proofs.Moving.{WasShown, RowCanShow, shown-moved_changes, others-moved_changes}
use Rattle.alt_value.specs.Tree.{Pair}
use Rattle.alt_views.specs.IndexRows.{KeyedRow, beside_keys, built_row, built_row_changes, index_columns, moved_changes, moves_in, row_in_index}
use Rattle.alt_views.proofs.ItemRowLaws.{item_can_show}

-- ---- the changes of one index among those of all

-- the changes of the other indexes are of other families
others-changes_in : (d : TableSchema) (old new : Option (List Pair)) (family : ℕ)
    (is : List IndexSchema) → All (λ f. f ≢ family) (map (λ (i : IndexSchema). i.family) is)
    → AreOthers family (flat_map (built_row_changes d old new) is)
others-changes_in d old new family [] h = tt
others-changes_in d old new family (i ∷ is) h =
    others-append family (built_row_changes d old new i) (flat_map (built_row_changes d old new) is)
    (others-moved_changes i.family family (option_and_then (built_row d i) old)
    (option_and_then (built_row d i) new)
    (All-head (λ f. f ≢ family) i.family (map (λ (i : IndexSchema). i.family) is) h))
    (others-changes_in d old new family is
    (All-tail (λ f. f ≢ family) i.family (map (λ (i : IndexSchema). i.family) is) h))

-- the family of an index at a place, in the list of families
family_at : (is : List IndexSchema) (n : ℕ) (i : IndexSchema) (x : ℕ) → slice_get is n ≡ Some i
    → (n < length (map (λ (i : IndexSchema). i.family) is))
    × (slice_index_or (map (λ (i : IndexSchema). i.family) is) n x ≡ i.family)
family_at is n i x at =
    let there = slice_get-map (λ (i : IndexSchema). i.family) is n
    ∙ ap (option_map (λ (i : IndexSchema). i.family)) at in (
      slice_get_within (map (λ (i : IndexSchema). i.family) is) n i.family there,
      get_or_from_slice_get (map (λ (i : IndexSchema). i.family) is) n i.family x there,
    )

-- Of the changes of all indexes, those of the family of one are its own.
pub change_of-index : (d : TableSchema) (old new : Option (List Pair)) (is : List IndexSchema)
    (n : ℕ) (i : IndexSchema) → AllPairs (λ f g. f ≢ g) (map (λ (i : IndexSchema). i.family) is)
    → slice_get is n ≡ Some i → (key : List ℕ)
    → change_of i.family key (flat_map (built_row_changes d old new) is)
    ≡ change_of i.family key (built_row_changes d old new i)
change_of-index d old new [] n i differ at key = absurd (let no : None ≡ Some i = at in cc no)
change_of-index d old new (j ∷ is) zero i differ at key =
    let same : j ≡ i = ap (λ o. unwrap_or o j) at in
    change_of-front i.family key (built_row_changes d old new j) (flat_map (built_row_changes d old new) is)
    (others-changes_in d old new i.family is (λ k x within same_family.
    differ 0 (suc k) x (omega arith) (omega (arith, within))
    (ap (λ (i : IndexSchema). i.family) same ∙ sym same_family)))
    ∙ ap (λ i'. change_of i.family key (built_row_changes d old new i')) same
change_of-index d old new (j ∷ is) (suc n) i differ at key =
    let there = family_at is n i j.family at in
    change_of-behind i.family key (built_row_changes d old new j) (flat_map (built_row_changes d old new) is)
    (others-moved_changes j.family i.family (option_and_then (built_row d j) old)
    (option_and_then (built_row d j) new) (λ same. differ 0 (suc n) j.family (omega arith)
    (omega (arith, there.0)) (same ∙ sym there.1)))
    ∙ change_of-index d old new is n i
    (λ a b x below within. differ (suc a) (suc b) x (omega (arith, below)) (omega (arith, within)))
    at key

-- ---- what moves, as items and as rows

module _ (columns : List Pair → Columns) where
  -- an item as its row
  abbrev row_of : List ℕ × List Pair → KeyedRow
  row_of e = (e.0, columns e.1)

  unless-rows : (key : List ℕ) (o : Option (List ℕ × List Pair)) (before : Option (List Pair))
      → unless_at key (option_map row_of o) (option_map columns before)
      ≡ option_map columns (unless_at key o before)
  unless-rows key None before = refl
  unless-rows key (Some e) before = by_test (eq_by_cmp key_cmp key e.0)
    where
      by_test : (b : Bool) → (if b then None else option_map columns before)
          ≡ option_map columns (if b then None else before)
      by_test true = refl
      by_test false = refl

  -- rows move as the items do
  pub moved-rows : (key : List ℕ) (o n : Option (List ℕ × List Pair)) (before : Option (List Pair))
      → moved key (option_map row_of o) (option_map row_of n) (option_map columns before)
      ≡ option_map columns (moved key o n before)
  moved-rows key o None before = unless-rows key o before
  moved-rows key o (Some e) before = by_test (eq_by_cmp key_cmp key e.0)
    where
      by_test : (b : Bool) → (if b then Some (columns e.1)
          else unless_at key (option_map row_of o) (option_map columns before))
          ≡ option_map columns (if b then Some e.1 else unless_at key o before)
      by_test true = refl
      by_test false = unless-rows key o before

-- ---- one index

module _ (d : TableSchema) (i : IndexSchema) where
  -- the row of an item that may not be there
  row_of-entry : (o : Option (List Pair)) → option_and_then (row_in_index d i) o
      ≡ option_map (row_of (index_columns d i)) (option_and_then (index_entry d i) o)
  row_of-entry None = refl
  row_of-entry (Some item) = refl

  -- it can be shown
  can_show : (o : Option (List ℕ × List Pair))
      → RowCanShow (option_map (row_of (index_columns d i)) o)
  can_show None = tt
  can_show (Some e) = item_can_show (beside_keys d i e.1)

  module _ (items : Texts (List Pair)) (place : List ℕ) (apart : AreApart (index_entry d i) items)
    where
      -- the row of the item at a place was shown at its key
      was_shown : (key : List ℕ)
          → WasShown (option_map (row_of (index_columns d i))
          (option_and_then (index_entry d i) (finite.get items place))) key
          (option_map (index_columns d i) (finite.get (index_items d i items) key))
      was_shown key = by_item (finite.get items place) refl
        where
          by_entry : (item : List Pair) → finite.get items place ≡ Some item
              → (e : Option (List ℕ × List Pair)) → index_entry d i item ≡ e
              → WasShown (option_map (row_of (index_columns d i)) e) key
              (option_map (index_columns d i) (finite.get (index_items d i items) key))
          by_entry item at None is = tt
          by_entry item at (Some e) is = λ same. ap (option_map (index_columns d i))
              (gives (index_entry d i) items apart key e.1 (
                place,
                (
                  item,
                  (
                    at,
                    is ∙ ap (λ k. Some (k, e.1)) (sym same),
                  ),
                ),
              ))

          by_item : (o : Option (List Pair)) → finite.get items place ≡ o
              → WasShown (option_map (row_of (index_columns d i))
              (option_and_then (index_entry d i) o)) key
              (option_map (index_columns d i) (finite.get (index_items d i items) key))
          by_item None at = tt
          by_item (Some item) at = by_entry item at (index_entry d i item) refl

      -- What its rows show with the changes of an item's row are those of the items after it.
      pub index_shown : (new : Option (List Pair))
          → AreApart (index_entry d i) (with_item items place new) → (key : List ℕ)
          → shown_by (change_of i.family key (moves_in d (finite.get items place) new i))
          (option_map (index_columns d i) (finite.get (index_items d i items) key))
          ≡ option_map (index_columns d i)
          (finite.get (index_items d i (with_item items place new)) key)
      index_shown new apart_after key =
          (λ j. shown_by (change_of i.family key
          (moved_changes i.family (row_of-entry (finite.get items place) j) (row_of-entry new j)))
          (option_map (index_columns d i) (finite.get (index_items d i items) key)))
          ∙ shown-moved_changes i.family
          (option_map (row_of (index_columns d i))
          (option_and_then (index_entry d i) (finite.get items place)))
          (option_map (row_of (index_columns d i)) (option_and_then (index_entry d i) new)) key
          (option_map (index_columns d i) (finite.get (index_items d i items) key)) (was_shown key)
          (can_show (option_and_then (index_entry d i) (finite.get items place)))
          (can_show (option_and_then (index_entry d i) new))
          ∙ moved-rows (index_columns d i) key
          (option_and_then (index_entry d i) (finite.get items place))
          (option_and_then (index_entry d i) new) (finite.get (index_items d i items) key)
          ∙ ap (option_map (index_columns d i))
          (sym (get-rekeyed-with_item (index_entry d i) items place new apart apart_after key))

      -- So are those after a write of them.
      pub index_shows : (l : Layout) (w : Write) → ShowsWrite l w → (new : Option (List Pair))
          → AreApart (index_entry d i) (with_item items place new)
          → ((key : List ℕ) → change_of i.family key w.changes
          ≡ change_of i.family key (moves_in d (finite.get items place) new i))
          → ((key : List ℕ) → shown l i.family key
          ≡ option_map (index_columns d i) (finite.get (index_items d i items) key))
          → (key : List ℕ) → shown (with_write l w) i.family key
          ≡ option_map (index_columns d i)
          (finite.get (index_items d i (with_item items place new)) key)
      index_shows l w law new apart_after changes before key =
          law i.family key
          ∙ (λ j. shown_by (changes key j) (before key j))
          ∙ index_shown new apart_after key
