-- The changes of a row that goes, comes, moves or stays.
use Rattle.std.proofs.Common.{◌≡◌, refl, sym, ap, subst, ◌∙◌, ℕ, Bool, true, false, List, [], ◌∷◌, ◌++◌, length, Option, Some, None, option_map, append_assoc, arith}
use Rattle.std.proofs.lemmas.Bool.{false≢true}
use Rattle.std.proofs.lemmas.List.Elements.{All-head, All-tail}
use Rattle.std.proofs.lemmas.Map.Text.{is_eq-slice_cmp}
use Rattle.std.proofs.lemmas.Slice.Eq.{bytes_eq-Decides}
use Rattle.std.specs.Prelude.{◌==◌, ◌&&◌, ◌||◌, if◌then◌else◌}
use Rattle.std.specs.Str.{bytes_eq}
use Rattle.alt_cells.specs.Batches.{has_row}
use Rattle.alt_cells.specs.Changes.{change_between}
use Rattle.alt_cells.specs.declared.batch.RowChange.{RowChange}
use Rattle.alt_views.specs.Batches.{AreNew}
use Rattle.alt_views.specs.IndexRows.{if_said, moved_changes}
use Rattle.alt_views.specs.Read.{row_at}
use Rattle.alt_views.specs.declared.indexed.IndexRow.{IndexRow}
use Rattle.alt_views.proofs.Batched.{has_row-append}

-- ---- a change that may say nothing

-- a change with a cell is made
pub is_said : (c : RowChange) → (c.cells ≡ [] → ⊥) → if_said c ≡ c ∷ []
is_said c some = by c.cells refl
  where
    by : (cells : List (List ℕ × Option (List ℕ))) → c.cells ≡ cells → if_said c ≡ c ∷ []
    by [] is = absurd (some is)
    by (cell ∷ cells) is = subst
        (λ given. if_said (record c { cells = given }) ≡ record c { cells = given } ∷ [])
        (sym is) refl

-- the row of a change with a cell is new, where that of the change that is said is
pub said_new : (batch : List RowChange) (c d : RowChange) → c ≡ d → (length c.cells == 0) ≡ false
    → AreNew batch (if_said d) → has_row batch c.family c.key ≡ false
said_new batch c d same some new =
    All-head (λ (x : RowChange). has_row batch x.family x.key ≡ false) c []
    (subst (AreNew batch) (ap if_said (sym same) ∙ is_said c (λ none.
    false≢true (sym some ∙ ap (λ cells. length cells == 0) none))) new)

-- ---- a row that moves

-- keys that differ do so the other way round
turned : (a b : List ℕ) → bytes_eq a b ≡ false → bytes_eq b a ≡ false
turned a b differ = grind (arith, bytes_eq-Decides)

-- the second of two changes is new behind the first, whose row has another key
second_new : (batch : List RowChange) (c d : RowChange) → AreNew batch (c ∷ d ∷ [])
    → bytes_eq c.key d.key ≡ false → has_row (batch ++ c ∷ []) d.family d.key ≡ false
second_new batch c d new differ = has_row-append batch (c ∷ []) d.family d.key
    (All-head (λ (x : RowChange). has_row batch x.family x.key ≡ false) d []
    (All-tail (λ (x : RowChange). has_row batch x.family x.key ≡ false) c (d ∷ []) new))
    (by (c.family == d.family))
  where
    by : (b : Bool) → ((b && bytes_eq c.key d.key) || false) ≡ false
    by true = ap (λ t. t || false) differ
    by false = refl

module _ (family : ℕ) (batch : List RowChange) (before after : Option IndexRow) where
  -- the changes of the row that was there into the one that is to be there
  abbrev changes : Option IndexRow → Option IndexRow → List RowChange
  changes b a = moved_changes family (option_map row_at b) (option_map row_at a)

  abbrev IsNew : RowChange → Type 0
  IsNew c = has_row batch c.family c.key ≡ false

  -- one that goes, and one that comes
  abbrev gone_change : IndexRow → RowChange
  gone_change row = change_between family row.key (Some row.columns) None

  abbrev made_change : IndexRow → RowChange
  made_change row = change_between family row.key None (Some row.columns)

  pub goes_new : (gone : IndexRow) → before ≡ Some gone → after ≡ None
      → AreNew batch (changes before after) → has_row batch family gone.key ≡ false
  goes_new gone was is new = All-head IsNew (gone_change gone) []
      (subst (AreNew batch) (λ j. changes (was j) (is j)) new)

  pub comes_new : (made : IndexRow) → before ≡ None → after ≡ Some made
      → AreNew batch (changes before after) → has_row batch family made.key ≡ false
  comes_new made was is new = All-head IsNew (made_change made) []
      (subst (AreNew batch) (λ j. changes (was j) (is j)) new)

  module _ (gone made : IndexRow) (was : before ≡ Some gone) (is : after ≡ Some made) where
    -- the test of the keys, in place of theirs
    tested : (b : Bool) → bytes_eq made.key gone.key ≡ b → changes before after ≡ (if b
        then if_said (change_between family gone.key (Some gone.columns) (Some made.columns))
        else gone_change gone ∷ made_change made ∷ [])
    tested b test = (λ j. changes (was j) (is j))
        ∙ ap (λ t. if t
        then if_said (change_between family gone.key (Some gone.columns) (Some made.columns))
        else gone_change gone ∷ made_change made ∷ [])
        (is_eq-slice_cmp made.key gone.key ∙ test)

    -- where the key stays, the columns change
    pub stays : bytes_eq made.key gone.key ≡ true → changes before after
        ≡ if_said (change_between family gone.key (Some gone.columns) (Some made.columns))
    stays same = tested true same

    -- else one row goes and one comes
    pub moves : bytes_eq made.key gone.key ≡ false
        → changes before after ≡ gone_change gone ∷ made_change made ∷ []
    moves differ = tested false differ

    pub first_new : bytes_eq made.key gone.key ≡ false → AreNew batch (changes before after)
        → has_row batch family gone.key ≡ false
    first_new differ new = All-head IsNew (gone_change gone) (made_change made ∷ [])
        (subst (AreNew batch) (moves differ) new)

    -- the row that comes is new behind the one that goes
    pub then_new : (taken : List RowChange) → bytes_eq made.key gone.key ≡ false
        → AreNew batch (changes before after) → taken ≡ batch ++ gone_change gone ∷ []
        → has_row taken family made.key ≡ false
    then_new taken differ new is_taken =
        ap (λ cs. has_row cs family made.key) is_taken
        ∙ second_new batch (gone_change gone) (made_change made)
        (subst (AreNew batch) (moves differ) new)
        (turned made.key gone.key differ)

    -- one change behind the other
    pub both_made : (taken : List RowChange) → bytes_eq made.key gone.key ≡ false
        → taken ≡ batch ++ gone_change gone ∷ []
        → taken ++ made_change made ∷ [] ≡ batch ++ changes before after
    both_made taken differ is_taken = ap (λ cs. cs ++ made_change made ∷ []) is_taken
        ∙ append_assoc batch (gone_change gone ∷ []) (made_change made ∷ [])
        ∙ ap (λ cs. batch ++ cs) (sym (moves differ))
