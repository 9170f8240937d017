-- Items that have the same of what an index keeps have one row there.
use Rattle.std.proofs.Common.{◌≡◌, ◌<◌, refl, sym, ap, subst, ◌∙◌, ℕ, suc, Bool, true, false, not, cond, List, [], ◌∷◌, ◌++◌, map, length, get_or, Option, Some, None, option_map, arith}
use Rattle.std.proofs.lemmas.Bool.{false≢true}
use Rattle.std.proofs.lemmas.Map.Text.{is_eq-slice_cmp}
use Rattle.std.proofs.lemmas.Slice.Eq.{bytes_eq-Decides}
use Rattle.std.specs.Prelude.{◌&&◌, ◌||◌, if◌then◌else◌, is_none, option_and_then}
use Rattle.std.specs.Option.{option_map_or}
use Rattle.std.specs.List.{list_any}
use Rattle.std.specs.Str.{bytes_eq}
use Rattle.std.specs.FinMap.{entries, get}
use Rattle.std.specs.FinMap.Entries.{where_key, is_sorted-where_key, same_entries}
use Rattle.alt_base.proofs.Lists.{bytes_eq-itself}
use Rattle.alt_cells.specs.Changes.{Columns, change_between, gone_cells, cells_between, differs, is_changed, with_value, without_value}
use Rattle.alt_cells.specs.Keys.{key_cmp}
use Rattle.alt_cells.specs.declared.batch.RowChange.{RowChange}
use Rattle.alt_cells.proofs.Searched.{get_entry}
use Rattle.alt_keyorder.specs.Place.{Place, place_bytes}
use Rattle.alt_machine.specs.Building.{is_built_of_item, reaches}
use Rattle.alt_machine.specs.Indexed.{index_place}
use Rattle.alt_machine.specs.Keys.{place_of}
use Rattle.alt_schema.specs.Bare.{is_whole}
use Rattle.alt_schema.specs.Indexes.{has_part, is_in_index, is_key, is_key_value, is_projected, cut, longest_hash, longest_range, of_range, stands_among_names}
use Rattle.alt_schema.specs.declared.schema.IndexSchema.{IndexSchema}
use Rattle.alt_schema.specs.declared.schema.KeyAttr.{KeyAttr}
use Rattle.alt_schema.specs.declared.schema.TableSchema.{TableSchema}
use Rattle.alt_value.specs.Item.{at_name}
use Rattle.alt_value.specs.Members.{text_order}
use Rattle.alt_value.specs.Tree.{Pair}
use Rattle.alt_value.proofs.Texts.{text_total, text_apart}
use Rattle.alt_views.specs.private.Changed.{AreAlikeBeside, DifferAt, index_may_change}
use Rattle.alt_views.specs.IndexRows.{KeyedRow, built_row, built_row_changes, if_said, index_columns, moved_changes, row_in_index}
use Rattle.alt_views.proofs.Keeping.{hash_is_key, range_is_key, own_kept, own_place-cut, place-cut}
use Rattle.alt_views.proofs.Parts.{at_name-where}

-- ---- a row that stays says nothing

-- where no key passes, nothing is left
no_keys : (p : List ℕ → Bool) (es : List (List ℕ × List ℕ))
    → ((n : ℕ) (e : List ℕ × List ℕ) → n < length es → e ≡ get_or es n e → p e.0 ≡ false)
    → where_key key_cmp p es ≡ []
no_keys p [] h = refl
no_keys p (e ∷ es) h =
    ap (λ b. cond b (e ∷ where_key key_cmp p es) (where_key key_cmp p es))
    (h 0 e (omega arith) refl)
    ∙ no_keys p es (λ n e within at. h (suc n) e (omega (arith, within)) at)

-- no column changes
unchanged : (m : Columns) (name : List ℕ) → is_changed m m name ≡ false
unchanged m name = by (get m name)
  where
    by : (o : Option (List ℕ)) → option_map_or (differs o) o false ≡ false
    by None = refl
    by (Some v) = ap not (bytes_eq-itself v)

-- so no cell does
no_cells : (m : Columns) → cells_between (Some m) (Some m) ≡ []
no_cells m =
    ap (λ es. map with_value es ++ gone_cells m m)
    (no_keys (is_changed m m) (entries m) (λ n e within at. unchanged m e.0))
    ∙ ap (λ es. map without_value es)
    (no_keys (λ q. is_none (get m q)) (entries m) (λ n e within at.
    ap is_none (get_entry m (entries m) n e refl within at)))

-- a change without cells isn't made
pub unsaid : (c : RowChange) → c.cells ≡ [] → if_said c ≡ []
unsaid c none = subst (λ given. if_said (record c { cells = given }) ≡ []) (sym none) refl

-- A row that stays changes nothing.
pub moved_changes-same : (family : ℕ) (o : Option KeyedRow) → moved_changes family o o ≡ []
moved_changes-same family None = refl
moved_changes-same family (Some r) =
    ap (λ b. if b
    then if_said (change_between family r.0 (Some r.1) (Some r.1))
    else change_between family r.0 (Some r.1) None ∷ change_between family r.0 None (Some r.1) ∷ [])
    (is_eq-slice_cmp r.0 r.0 ∙ bytes_eq-itself r.0)
    ∙ unsaid (change_between family r.0 (Some r.1) (Some r.1)) (no_cells r.1)

-- ---- what is kept

-- a name that passes isn't among names that don't
not_among : (p : List ℕ → Bool) (names : List (List ℕ)) (name : List ℕ)
    → list_any p names ≡ false → p name ≡ true → stands_among_names names name ≡ false
not_among p [] name none passes = refl
not_among p (n ∷ ns) name none passes = by (λ none. not_among p ns name none passes)
    (p n) refl (bytes_eq n name) refl none
  where
    by : (list_any p ns ≡ false → stands_among_names ns name ≡ false) → (a : Bool) → p n ≡ a → (b : Bool)
        → bytes_eq n name ≡ b → (a || list_any p ns) ≡ false → (b || stands_among_names ns name) ≡ false
    by rest true of b same none = absurd (false≢true (sym none))
    by rest false of false same none = rest none
    by rest false of true same none =
        let is : n ≡ name = grind (arith, same, bytes_eq-Decides) in
        absurd (false≢true (sym of ∙ ap p is ∙ passes))

module _ (d : TableSchema) (i : IndexSchema) where
  -- what the index keeps of two items that are alike at the names that it keeps
  pub cut-alike : (names : List (List ℕ)) (o n : List Pair) → AreAlikeBeside names o n
      → list_any (is_projected d i) names ≡ false → cut d i o ≡ cut d i n
  cut-alike names o n alike none = same_entries text_order text_total text_apart
      (cut d i o) (cut d i n)
      (is_sorted-where_key text_order (is_projected d i) o alike.old_item.0)
      (is_sorted-where_key text_order (is_projected d i) n alike.new_item.0)
      (λ q. at_name-where (is_projected d i) q o ∙ by q (is_projected d i q) refl
      ∙ sym (at_name-where (is_projected d i) q n))
    where
      by : (q : List ℕ) (b : Bool) → is_projected d i q ≡ b
          → cond b (at_name q o) None ≡ cond b (at_name q n) None
      by q true kept = alike.values q (not_among (is_projected d i) names q none kept)
      by q false kept = refl

  -- a key attribute that is kept is in what is kept exactly where it is in the item
  has-cut : (most : ℕ) (item : List Pair) (key : KeyAttr) → is_projected d i key.name ≡ true
      → has_part most (cut d i item) key ≡ has_part most item key
  has-cut most item key kept = ap (λ o. option_map_or (is_key_value most key.kind) o false)
      (at_name-where (is_projected d i) key.name item
      ∙ ap (λ b. cond b (at_name key.name item) None) kept)

  -- what is kept of an item is in the index exactly where the item is
  in-cut : (item : List Pair) → is_in_index i (cut d i item) ≡ is_in_index i item
  in-cut item = λ j. has-cut longest_hash item i.hash
      (own_kept d i i.hash.name (hash_is_key i.hash i.range)) j
      && range i.range (own_kept d i) j
    where
      range : (r : Option KeyAttr)
          → ((name : List ℕ) → is_key i.hash r name ≡ true → is_projected d i name ≡ true)
          → of_range (has_part longest_range (cut d i item)) true r
          ≡ of_range (has_part longest_range item) true r
      range None kept = refl
      range (Some r) kept = has-cut longest_range item r (kept r.name (range_is_key i.hash r))

  -- a row by whether it is there, its place and what is kept
  row_by : Bool → Option Place → List Pair → Option KeyedRow
  row_by there place kept = option_map (λ (e : List ℕ × List Pair). (e.0, index_columns d i e.1))
      (option_and_then (λ row. option_map (λ at. (place_bytes at, row)) place)
      (if there then Some kept else None))

  -- items of which the same is kept have one row
  pub row-alike : (o n : List Pair) → cut d i o ≡ cut d i n
      → row_in_index d i o ≡ row_in_index d i n
  unfolding row_by
  row-alike o n same =
      let there : is_in_index i o ≡ is_in_index i n =
      sym (in-cut o) ∙ ap (is_in_index i) same ∙ in-cut n in
      let place : index_place d i o ≡ index_place d i n =
      sym (place-cut d i o) ∙ ap (index_place d i) same ∙ place-cut d i n in
      λ j. row_by (there j) (place j) (same j)

  -- an index is built of both or of neither
  reached-alike : (o n : List Pair) → cut d i o ≡ cut d i n
      → is_built_of_item d i.built o ≡ is_built_of_item d i.built n
  reached-alike o n same = ap (λ p. option_map_or (reaches d i.built) p (is_whole i.built))
      (sym (own_place-cut d i o) ∙ ap (place_of d) same ∙ own_place-cut d i n)

  -- so they have one row as far as it is built
  pub built-alike : (o n : List Pair) → cut d i o ≡ cut d i n → built_row d i o ≡ built_row d i n
  built-alike o n same = λ j. if reached-alike o n same j then row-alike o n same j else None

  -- An index that keeps none of the names at which items differ has no change.
  pub nothing_changes : (names : Option (List (List ℕ))) (old new : Option (List Pair))
      → DifferAt names old new → index_may_change d i names ≡ false → built_row_changes d old new i ≡ []
  nothing_changes None old new differ unkept = absurd (false≢true (sym unkept))
  nothing_changes (Some names) None new differ unkept = absurd differ
  nothing_changes (Some names) (Some o) None differ unkept = absurd differ
  nothing_changes (Some names) (Some o) (Some n) differ unkept =
      ap (λ r. moved_changes i.family r (built_row d i n))
      (built-alike o n (cut-alike names o n differ unkept))
      ∙ moved_changes-same i.family (built_row d i n)
