-- The parts of a step of building: the index that is built, and its rows one after another.
use Rattle.std.proofs.Common.{◌≡◌, ◌≤◌, ◌<◌, ◌+◌, ◌&&◌, ◌||◌, refl, sym, ap, subst, ◌∙◌, ℕ, zero, suc, Bool, true, false, cond, List, [], ◌∷◌, ◌++◌, length, map as each, take, drop, Option, Some, None, option_map, slice_get, append_assoc, arith}
use Rattle.std.proofs.lemmas.Slice.Eq.{bytes_eq-Decides}
use Rattle.std.specs.Prelude.{◌==◌, option_and_then}
use Rattle.std.specs.Str.{bytes_eq}
use Rattle.alt_cells.specs.Batches.{has_row}
use Rattle.alt_cells.specs.Changes.{Columns, change_between}
use Rattle.alt_cells.specs.declared.batch.RowChange.{RowChange}
use Rattle.alt_machine.specs.Building.{building_in}
use Rattle.alt_machine.specs.Indexed.{index_entry}
use Rattle.alt_opening.specs.StateRows.{catalog_family}
use Rattle.alt_rowchanges.specs.Steps.{AreApartIn, step_row_changes}
use Rattle.alt_value.specs.Tree.{Pair}
use Rattle.alt_views.specs.IndexRows.{index_columns, moved_changes, moves_in, row_in_index}
use Rattle.std.proofs.lemmas.Bool.Decides.{nat_tests}
use Rattle.std.proofs.lemmas.List.{append-nil}
use Rattle.std.proofs.lemmas.Option.{same_Some}
use Rattle.std.specs.List.{find, flat_map, last_or}
use Rattle.alt_schema.specs.Indexes.{indexes}
use Rattle.alt_schema.specs.declared.schema.IndexSchema.{IndexSchema}
use Rattle.alt_schema.specs.declared.schema.TableSchema.{TableSchema}
use Rattle.alt_views.proofs.Batched.{has_row-append}

module _ {A : Type 0} (p : A → Bool) where
  -- the first from a place on that passes is the one there, or the first behind it
  pub find_from : (xs : List A) (n : ℕ) (x : A) → slice_get xs n ≡ Some x
      → find p (drop n xs) ≡ cond (p x) (Some x) (find p (drop (suc n) xs))
  find_from [] n x at = absurd (let no : None ≡ Some x = at in cc no)
  find_from (y ∷ ys) zero x at = subst (λ z. find p (y ∷ ys) ≡ cond (p z) (Some z) (find p ys))
      (same_Some y x at) refl
  find_from (y ∷ ys) (suc n) x at = find_from ys n x at

  -- behind the last there is none
  pub find_last : (xs : List A) (n : ℕ) → length xs ≤ n → find p (drop n xs) ≡ None
  find_last [] zero h = refl
  find_last [] (suc n) h = refl
  find_last (y ∷ ys) zero h = absurd (omega (arith, h))
  find_last (y ∷ ys) (suc n) h = find_last ys n (omega (arith, h))

-- the last of what is made of the first so many
pub last_made : {A B : Type 0} (f : A → B) (xs : List A) (n : ℕ) (x : A) (o : Option B)
    → slice_get xs n ≡ Some x → last_or o (each f (take (suc n) xs)) ≡ Some (f x)
last_made f [] n x o at = absurd (let no : None ≡ Some x = at in cc no)
last_made f (y ∷ ys) zero x o at = ap (λ z. Some (f z)) (same_Some y x at)
last_made f (y ∷ ys) (suc n) x o at = last_made f ys n x (Some (f y)) at

-- what stands behind a list stands there
pub at_behind : {A : Type 0} (xs ys : List A) (n : ℕ)
    → slice_get (xs ++ ys) (length xs + n) ≡ slice_get ys n
at_behind [] ys n = ap (slice_get ys) (let same : 0 + n ≡ n = omega arith in same)
at_behind (x ∷ xs) ys n = ap (slice_get (x ∷ (xs ++ ys)))
    (let same : suc (length xs) + n ≡ suc (length xs + n) = omega arith in same)
    ∙ at_behind xs ys n

-- what stands among the first so many
taken_at : {A : Type 0} (xs : List A) (n m : ℕ) (y : A) → slice_get (take n xs) m ≡ Some y
    → (m < n) × (slice_get xs m ≡ Some y)
taken_at xs zero m y at = absurd (let no : None ≡ Some y = at in cc no)
taken_at [] (suc n) m y at = absurd (let no : None ≡ Some y = at in cc no)
taken_at (x ∷ xs) (suc n) zero y at = (omega arith, at)
taken_at (x ∷ xs) (suc n) (suc m) y at =
    let (less, there) = taken_at xs n m y at in (omega (arith, less), there)

-- one more is made of one more
flat_more : {A B : Type 0} (f : A → List B) (xs : List A) (n : ℕ) (x : A)
    → slice_get xs n ≡ Some x → flat_map f (take (suc n) xs) ≡ flat_map f (take n xs) ++ f x
flat_more f [] n x at = absurd (let no : None ≡ Some x = at in cc no)
flat_more f (y ∷ ys) zero x at = append-nil (f y) ∙ ap f (same_Some y x at)
flat_more f (y ∷ ys) (suc n) x at = ap (λ zs. f y ++ zs) (flat_more f ys n x at)
    ∙ sym (append_assoc (f y) (flat_map f (take n ys)) (f x))

-- ---- rows one after another

-- the row that the index of that number has of an item is the one of the index that is being built
pub row_of : (d : TableSchema) (i : IndexSchema) → building_in d ≡ Some i → (at : ℕ)
    → slice_get d.globals at ≡ building_in d → (n : ℕ) → n ≡ length d.locals → (x : List Pair)
    (o : Option (List ℕ × Columns))
    → o ≡ option_and_then (λ j. row_in_index d j x) (slice_get (indexes d) (n + at))
    → o ≡ row_in_index d i x
row_of d i building at there n counted x o is = is
    ∙ ap (option_and_then (λ j. row_in_index d j x))
    (ap (λ k. slice_get (indexes d) (k + at)) counted
    ∙ at_behind d.locals d.globals at ∙ there ∙ building)

module _ (d e : TableSchema) (i : IndexSchema) (low : 1 ≤ i.family) where
  -- an item that isn't in the index, or is at another key, brings no row of a key
  none_moves : (key : List ℕ) (x : List Pair)
      → ((v : List Pair) → index_entry d i x ≡ Some (key, v) → ⊥)
      → has_row (moves_in d None (Some x) i) i.family key ≡ false
  none_moves key x none = by (index_entry d i x) refl
    where
      by : (o : Option (List ℕ × List Pair)) → index_entry d i x ≡ o
          → has_row (moved_changes i.family None (option_map (λ f. (f.0, index_columns d i f.1)) o))
          i.family key ≡ false
      by None is = refl
      by (Some f) is = test (bytes_eq f.0 key) refl
        where
          no_both : (b : Bool) → ((b && false) || false) ≡ false
          no_both true = refl
          no_both false = refl

          test : (b : Bool) → bytes_eq f.0 key ≡ b
              → (((i.family == i.family) && b) || false) ≡ false
          test false other = no_both (i.family == i.family)
          test true same = absurd (none f.1
              (is ∙ ap (λ k. Some (k, f.1)) ((bytes_eq-Decides f.0 key).0 same)))

  -- nor do several
  none_of_all : (key : List ℕ) (items : List (List Pair))
      → ((m : ℕ) (y w : List Pair) → slice_get items m ≡ Some y
      → index_entry d i y ≡ Some (key, w) → ⊥)
      → has_row (flat_map (λ y. moves_in d None (Some y) i) items) i.family key ≡ false
  none_of_all key [] none = refl
  none_of_all key (y ∷ ys) none = has_row-append (moves_in d None (Some y) i)
      (flat_map (λ z. moves_in d None (Some z) i) ys) i.family key
      (none_moves key y (λ w is. none 0 y w refl is))
      (none_of_all key ys (λ m z w at is. none (suc m) z w at is))

  abbrev so_far : List (List Pair) → List RowChange
  so_far items = step_row_changes d e i items

  -- the row of the next item is none of those before it
  step_free : (items : List (List Pair)) → AreApartIn d i items → (n : ℕ) (x : List Pair)
      → slice_get items n ≡ Some x → (key : List ℕ) (v : List Pair)
      → index_entry d i x ≡ Some (key, v)
      → has_row (so_far (take n items)) i.family key ≡ false
  step_free items apart n x at key v is = ap (λ b. (b && bytes_eq d.name key)
      || has_row (flat_map (λ y. moves_in d None (Some y) i) (take n items)) i.family key) other
      ∙ none_of_all key (take n items) (λ m y w at_y is_y.
      let (less, there) = taken_at items n m y at_y in
      let same = apart n m x y key v w at there is is_y in omega (arith, less, same))
    where
      other : (catalog_family == i.family) ≡ false
      other = grind (arith, nat_tests)

  step_next : (items : List (List Pair)) (n : ℕ) (x : List Pair) → slice_get items n ≡ Some x
      → so_far (take (n + 1) items) ≡ so_far (take n items) ++ moves_in d None (Some x) i
  step_next items n x at =
      ap (λ k. so_far (take k items)) (let same : n + 1 ≡ suc n = omega arith in same)
      ∙ ap (λ cs. so_far [] ++ cs)
      (flat_more (λ y. moves_in d None (Some y) i) items n x at)

  module _ (items : List (List Pair)) (apart : AreApartIn d i items) (n : ℕ) (x : List Pair)
      (at : slice_get items n ≡ Some x) (before after : List RowChange)
      (so : before ≡ so_far (take n items)) where
    -- an item that isn't in the index brings none
    pub step_none : row_in_index d i x ≡ None → after ≡ before → after ≡ so_far (take (n + 1) items)
    step_none none same = same ∙ so ∙ sym (append-nil (so_far (take n items)))
        ∙ ap (λ cs. so_far (take n items) ++ cs) (sym (ap (moved_changes i.family None) none))
        ∙ sym (step_next items n x at)

    -- one that is brings one more
    pub step_row : (key : List ℕ) (columns : Columns) → row_in_index d i x ≡ Some (key, columns)
        → (has_row before i.family key ≡ false
        → after ≡ before ++ change_between i.family key None (Some columns) ∷ [])
        → after ≡ so_far (take (n + 1) items)
    step_row key columns row put = by (index_entry d i x) refl row
      where
        by : (o : Option (List ℕ × List Pair)) → index_entry d i x ≡ o
            → option_map {U = List ℕ × Columns} (λ f. (f.0, index_columns d i f.1)) o
            ≡ Some (key, columns)
            → after ≡ so_far (take (n + 1) items)
        by None is told = absurd (let no : None ≡ Some (key, columns) = told in cc no)
        by (Some f) is told =
            let one : f.0 ≡ key = ap (λ (r : List ℕ × Columns). r.0) (same_Some _ _ told) in
            put (subst (λ cs. has_row cs i.family key ≡ false) (sym so)
            (step_free items apart n x at key f.1 (is ∙ ap (λ k. Some (k, f.1)) one)))
            ∙ ap (λ cs. cs ++ change_between i.family key None (Some columns) ∷ []) so
            ∙ ap (λ cs. so_far (take n items) ++ cs)
            (sym (ap (moved_changes i.family None) row))
            ∙ sym (step_next items n x at)
