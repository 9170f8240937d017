-- Changes of a write, joined where the family's row files don't have it.
use Rattle.std.proofs.Common.{◌≡◌, ◌<◌, ◌≤◌, ◌+◌, ◌==◌, ◌++◌, ◌∷◌, ℕ, Bool, true, false, List, [], take, length, get_or, refl, sym, ap, subst, ◌∙◌, eqb-true, arith}
use Rattle.std.proofs.lemmas.Bool.Decides.{nat_tests}
use Rattle.std.proofs.lemmas.List.{take_more}
use Rattle.std.specs.Prelude.{if◌then◌else◌, nat_lt}
use Rattle.std.specs.BTreeMap.{BTreeMap, get}
use Rattle.std.specs.FinMap.{empty}
use Rattle.std.specs.Ordering.{nat_cmp}
use Rattle.alt_cells.specs.declared.batch.RowChange.{RowChange}
use Rattle.alt_cells.specs.Changes.{row_of_change}
use Rattle.alt_cells.specs.Joined.{joined_map}
use Rattle.alt_cells.specs.Rows.{join_row}
use Rattle.alt_families.specs.Families.{Families, rows_in}
use Rattle.alt_families.specs.Memory.{IsWrittenTo}
use Rattle.alt_families.proofs.MemoryLaws.{changes_in-append, changes_one}
use Rattle.alt_layout.specs.Families.{with_one_write}
use Rattle.alt_layout.specs.Layout.{RowMap}
use Rattle.alt_layout.specs.Writes.{changes_in, one_row}
use Rattle.alt_layout.proofs.RowLaws.{none_behind, rows_join}
use Rattle.alt_writes.specs.Writes.{Write}
use Rattle.alt_recovery.specs.Flushed.{flushed_in}
use Rattle.alt_recovery.specs.Replays.{IsJoinedTo}

-- a write of these changes
abbrev pub write_with : ℕ → List RowChange → Write
write_with number changes = record { number = number; changes = changes }

-- a write without changes makes nothing of rows
joined_none : (flushed number f : ℕ) (m : RowMap)
    → with_one_write flushed f m (write_with number []) ≡ m
joined_none flushed number f m = by_test (nat_lt flushed number)
  where
    by_test : (t : Bool) → (if t then joined_map join_row m empty else m) ≡ m
    by_test true = none_behind m
    by_test false = refl

-- changes behind changes
joined_append : (flushed number f : ℕ) (m : RowMap) (xs ys : List RowChange)
    → with_one_write flushed f (with_one_write flushed f m (write_with number xs)) (write_with number ys)
    ≡ with_one_write flushed f m (write_with number (xs ++ ys))
joined_append flushed number f m xs ys = by_test (nat_lt flushed number)
  where
    by_test : (t : Bool) → (if t then joined_map join_row
        (if t then joined_map join_row m (changes_in number f xs) else m) (changes_in number f ys)
        else (if t then joined_map join_row m (changes_in number f xs) else m))
        ≡ (if t then joined_map join_row m (changes_in number f (xs ++ ys)) else m)
    by_test true = rows_join.assoc m (changes_in number f xs) (changes_in number f ys)
        ∙ ap (joined_map join_row m) (sym (changes_in-append number f xs ys))
    by_test false = refl

-- nothing joined yet
pub joined_start : (flushed : BTreeMap ℕ ℕ) (families : Families) (number : ℕ)
    → IsJoinedTo flushed families families (write_with number [])
joined_start flushed families number = record {
  rows = λ f. sym (joined_none (flushed_in flushed f) number f (rows_in (get nat_cmp families f)));
  files = λ f. refl;
}

-- one change more of a list
pub joined_more : (flushed : BTreeMap ℕ ℕ) (a b c : Families) (number i : ℕ) (cs : List RowChange)
    (x : RowChange) → i < length cs → x ≡ get_or cs i x
    → IsJoinedTo flushed a b (write_with number (take i cs))
    → IsJoinedTo flushed b c (write_with number (x ∷ []))
    → IsJoinedTo flushed a c (write_with number (take (i + 1) cs))
joined_more flushed a b c number i cs x within at first later =
    subst (λ l. IsJoinedTo flushed a c (write_with number l))
    (ap (λ (y : RowChange). take i cs ++ y ∷ []) at ∙ sym (take_more cs i x within))
    (record {
      rows = λ f. later.rows f
          ∙ ap (λ (m : RowMap). with_one_write (flushed_in flushed f) f m (write_with number (x ∷ [])))
          (first.rows f)
          ∙ joined_append (flushed_in flushed f) number f (rows_in (get nat_cmp a f)) (take i cs)
          (x ∷ []);
      files = λ f. later.files f ∙ first.files f;
    })

-- a change of another family makes nothing of rows
other_change : (number f : ℕ) (c : RowChange) (m : RowMap) → (c.family ≡ f → ⊥)
    → joined_map join_row m (changes_in number f (c ∷ [])) ≡ m
other_change number f c m other = ap (joined_map join_row m) (changes_one number f c
    ∙ by_test (c.family == f) refl) ∙ none_behind m
  where
    by_test : (t : Bool) → (c.family == f) ≡ t
        → (if t then one_row c.key (row_of_change number c) else empty) ≡ empty
    by_test true is = absurd (other (eqb-true c.family f is))
    by_test false is = refl

-- a change of a family whose files have the write counts for nothing
pub joined_below : (flushed : BTreeMap ℕ ℕ) (families : Families) (number : ℕ) (c : RowChange)
    → number ≤ flushed_in flushed c.family
    → IsJoinedTo flushed families families (write_with number (c ∷ []))
joined_below flushed families number c low = record {
  rows = λ f. by_test f (nat_lt (flushed_in flushed f) number) refl;
  files = λ f. refl;
}
  where
    by_test : (f : ℕ) (t : Bool) → nat_lt (flushed_in flushed f) number ≡ t
        → rows_in (get nat_cmp families f)
        ≡ (if t then joined_map join_row (rows_in (get nat_cmp families f))
        (changes_in number f (c ∷ [])) else rows_in (get nat_cmp families f))
    by_test f true is = sym (other_change number f c (rows_in (get nat_cmp families f)) (λ same.
        let high : flushed_in flushed f < number = grind (arith, nat_tests) in
        let here : number ≤ flushed_in flushed f = subst (λ g. number ≤ flushed_in flushed g) same low in
        omega (arith, high, here)))
    by_test f false is = refl

-- one of another family is joined
pub joined_above : (flushed : BTreeMap ℕ ℕ) (old new : Families) (number : ℕ) (c : RowChange)
    → flushed_in flushed c.family < number → IsWrittenTo old new number (c ∷ [])
    → IsJoinedTo flushed old new (write_with number (c ∷ []))
joined_above flushed old new number c high written = record {
  rows = λ f. written.rows f ∙ by_test f (nat_lt (flushed_in flushed f) number) refl;
  files = written.files;
}
  where
    by_test : (f : ℕ) (t : Bool) → nat_lt (flushed_in flushed f) number ≡ t
        → joined_map join_row (rows_in (get nat_cmp old f)) (changes_in number f (c ∷ []))
        ≡ (if t then joined_map join_row (rows_in (get nat_cmp old f))
        (changes_in number f (c ∷ [])) else rows_in (get nat_cmp old f))
    by_test f true is = refl
    by_test f false is = other_change number f c (rows_in (get nat_cmp old f)) (λ same.
        let low : number ≤ flushed_in flushed f = grind (arith, nat_tests) in
        let here : flushed_in flushed f < number = subst (λ g. flushed_in flushed g < number) same high in
        omega (arith, low, here))
