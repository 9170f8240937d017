-- The rows of an index that is built further: those of several items more come in one write.
use Rattle.std.proofs.Common.{◌≡◌, refl, sym, ap, ◌∙◌, ℕ, Bool, true, false, cond, List, [], ◌∷◌, ◌++◌, Option, Some, None, option_map}
use Rattle.std.specs.FinMap as finite
use Rattle.std.specs.List.{flat_map}
use Rattle.std.specs.Ordering.{eq_by_cmp}
use Rattle.std.specs.Prelude.{if◌then◌else◌}
use Rattle.alt_cells.specs.Changes.{Columns, change_between}
use Rattle.alt_cells.specs.Keys.{key_cmp}
use Rattle.alt_cells.specs.declared.batch.RowChange.{RowChange}
use Rattle.alt_cells.proofs.CellLaws.{key_total}
use Rattle.alt_cells.proofs.ChangeLaws.{written-change_between}
use Rattle.alt_cells.proofs.SameKeys.{key_itself, one_key}
use Rattle.alt_layout.specs.Layout.{Layout, change_of, shown, shown_by}
use Rattle.alt_layout.specs.Writes.{with_write}
use Rattle.alt_machine.specs.Indexed.{index_entry, index_items}
use Rattle.alt_machine.specs.State.{Texts}
use Rattle.alt_machine.specs.Writes.{with_item}
use Rattle.alt_machine.proofs.BuildParts.{Placed, with_all}
use Rattle.alt_machine.proofs.Rekeying.{AreApart, gives}
use Rattle.alt_schema.specs.declared.schema.IndexSchema.{IndexSchema}
use Rattle.alt_schema.specs.declared.schema.TableSchema.{TableSchema}
use Rattle.alt_value.specs.Tree.{Pair}
use Rattle.alt_views.specs.IndexRows.{beside_keys, index_columns, moved_changes, moves_in}
use Rattle.alt_views.proofs.ItemRowLaws.{item_can_show}
use Rattle.alt_writes.specs.Writes.{Write}
use Rattle.alt_rowchanges.proofs.ChangeLaws.{ShowsWrite}
use Rattle.alt_rowchanges.proofs.IndexShows.{index_shown}
use Rattle.alt_rowchanges.proofs.StreamTrims.{change_first}

-- none stands where one stood, before it or among those in front of it
abbrev pub AreFresh : Texts (List Pair) → Placed → Type 0
AreFresh items [] = Unit {0}
AreFresh items (e ∷ es) = (finite.get items e.0 ≡ None) × AreFresh (with_item items e.0 (Some e.1)) es

-- what stood stands
pub kept_all : (items : Texts (List Pair)) (es : Placed) → AreFresh items es → (q : List ℕ)
    (x : List Pair) → finite.get items q ≡ Some x → finite.get (with_all items es) q ≡ Some x
kept_all items [] fresh q x there = there
kept_all items (e ∷ es) fresh q x there =
    kept_all (with_item items e.0 (Some e.1)) es fresh.1 q x
    (finite.get-insert key_total items e.0 e.1 q ∙ by (eq_by_cmp key_cmp q e.0) refl)
  where
    by : (b : Bool) → eq_by_cmp key_cmp q e.0 ≡ b → cond b (Some e.1) (finite.get items q) ≡ Some x
    by true same = absurd (let no : None ≡ Some x = sym fresh.0
        ∙ ap (finite.get items) (sym (one_key q e.0 same)) ∙ there in cc no)
    by false other = there

module _ (d : TableSchema) (i : IndexSchema) where
  -- the row changes of these items
  abbrev pub build_changes : Placed → List RowChange
  build_changes es = flat_map (λ (e : List ℕ × List Pair). moves_in d None (Some e.1) i) es

  -- what its rows are of these items
  abbrev pub rows_of : Texts (List Pair) → List ℕ → Option Columns
  rows_of items key = option_map (index_columns d i) (finite.get (index_items d i items) key)

  -- where no two of more items have one key, no two of these have
  pub apart_of : (items more : Texts (List Pair))
      → ((q : List ℕ) (x : List Pair) → finite.get items q ≡ Some x → finite.get more q ≡ Some x)
      → AreApart (index_entry d i) more → AreApart (index_entry d i) items
  apart_of items more inside apart p q x y key v w at_p at_q entry_x entry_y =
      apart p q x y key v w (inside p x at_p) (inside q y at_q) entry_x entry_y

  -- All of them in one write show what one after the other does.
  pub build_shown : (items : Texts (List Pair)) (es : Placed) → AreFresh items es
      → AreApart (index_entry d i) (with_all items es) → (key : List ℕ)
      → shown_by (change_of i.family key (build_changes es)) (rows_of items key)
      ≡ rows_of (with_all items es) key
  build_shown items [] fresh apart key = refl
  build_shown items (e ∷ es) fresh apart key =
      by (build_shown (with_item items e.0 (Some e.1)) es fresh.1 apart key) here
      (index_entry d i e.1) refl
    where
      -- those that stood are apart, and so are they with the first of these
      apart_next : AreApart (index_entry d i) (with_item items e.0 (Some e.1))
      apart_next = apart_of (with_item items e.0 (Some e.1))
          (with_all (with_item items e.0 (Some e.1)) es)
          (kept_all (with_item items e.0 (Some e.1)) es fresh.1) apart

      apart_items : AreApart (index_entry d i) items
      apart_items = apart_of items (with_all items (e ∷ es))
          (kept_all items (e ∷ es) fresh) apart

      -- what the changes of the first show
      here : shown_by (change_of i.family key (moves_in d None (Some e.1) i)) (rows_of items key)
          ≡ rows_of (with_item items e.0 (Some e.1)) key
      here = ap (λ o. shown_by (change_of i.family key (moves_in d o (Some e.1) i)) (rows_of items key))
          (sym fresh.0)
          ∙ index_shown d i items e.0 apart_items (Some e.1) apart_next key

      -- the first is there at last
      last : finite.get (with_all (with_item items e.0 (Some e.1)) es) e.0 ≡ Some e.1
      last = kept_all (with_item items e.0 (Some e.1)) es fresh.1 e.0 e.1
          (finite.get-insert key_total items e.0 e.1 e.0
          ∙ ap (λ b. cond b (Some e.1) (finite.get items e.0)) (key_itself e.0))

      by : shown_by (change_of i.family key (build_changes es)) (rows_of (with_item items e.0 (Some e.1)) key)
          ≡ rows_of (with_all (with_item items e.0 (Some e.1)) es) key
          → shown_by (change_of i.family key (moves_in d None (Some e.1) i)) (rows_of items key)
          ≡ rows_of (with_item items e.0 (Some e.1)) key
          → (o : Option (List ℕ × List Pair)) → index_entry d i e.1 ≡ o
          → shown_by (change_of i.family key (moves_in d None (Some e.1) i ++ build_changes es))
          (rows_of items key)
          ≡ rows_of (with_all (with_item items e.0 (Some e.1)) es) key
      by rest here None is =
          ap (λ (o : Option (List ℕ × List Pair)). shown_by (change_of i.family key
          (moved_changes i.family None (option_map (λ f. (f.0, index_columns d i f.1)) o)
          ++ build_changes es)) (rows_of items key)) is
          ∙ ap (shown_by (change_of i.family key (build_changes es)))
          (sym (ap (λ (o : Option (List ℕ × List Pair)). shown_by (change_of i.family key
          (moved_changes i.family None (option_map (λ f. (f.0, index_columns d i f.1)) o)))
          (rows_of items key)) is) ∙ here)
          ∙ rest
      by rest here (Some f) is =
          ap (λ (o : Option (List ℕ × List Pair)). shown_by (change_of i.family key
          (moved_changes i.family None (option_map (λ f. (f.0, index_columns d i f.1)) o)
          ++ build_changes es)) (rows_of items key)) is
          ∙ ap (λ c. shown_by c (rows_of items key)) (change_first (change_between i.family f.0 None
          (Some (index_columns d i f.1))) key (build_changes es))
          ∙ at_key (eq_by_cmp key_cmp key f.0) refl
        where
          at_key : (b : Bool) → eq_by_cmp key_cmp key f.0 ≡ b
              → shown_by (if b then Some (change_between i.family f.0 None (Some (index_columns d i f.1)))
              else change_of i.family key (build_changes es)) (rows_of items key)
              ≡ rows_of (with_all (with_item items e.0 (Some e.1)) es) key
          at_key true same =
              written-change_between i.family f.0 None (Some (index_columns d i f.1))
              (item_can_show (beside_keys d i f.1))
              ∙ sym (ap (option_map (index_columns d i))
              (gives (index_entry d i) (with_all (with_item items e.0 (Some e.1)) es) apart key f.1 (
                e.0,
                (
                  e.1,
                  (last, is ∙ ap (λ k. Some (k, f.1)) (sym (one_key key f.0 same))),
                ),
              )))
          at_key false other =
              ap (shown_by (change_of i.family key (build_changes es)))
              (sym (ap (λ (o : Option (List ℕ × List Pair)). shown_by (change_of i.family key
              (moved_changes i.family None (option_map (λ f. (f.0, index_columns d i f.1)) o)))
              (rows_of items key)) is
              ∙ ap (λ c. shown_by c (rows_of items key))
              (change_first (change_between i.family f.0 None (Some (index_columns d i f.1))) key []
              ∙ ap (λ b. if b then Some (change_between i.family f.0 None (Some (index_columns d i f.1)))
              else None) other)) ∙ here)
              ∙ rest

  -- So after a write of them the index shows those of the items with them.
  pub build_shows : (l : Layout) (w : Write) → ShowsWrite l w → (items : Texts (List Pair))
      (es : Placed) → AreFresh items es → AreApart (index_entry d i) (with_all items es)
      → ((key : List ℕ) → change_of i.family key w.changes
      ≡ change_of i.family key (build_changes es))
      → ((key : List ℕ) → shown l i.family key ≡ rows_of items key)
      → (key : List ℕ) → shown (with_write l w) i.family key ≡ rows_of (with_all items es) key
  build_shows l w law items es fresh apart changes before key = law i.family key
      ∙ (λ j. shown_by (changes key j) (before key j))
      ∙ build_shown items es fresh apart key
