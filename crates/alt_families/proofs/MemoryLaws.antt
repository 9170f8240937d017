-- Changes of a write, joined to the rows in memory one by one.
use Rattle.std.proofs.Common.{◌≡◌, ◌+◌, ◌<◌, ◌==◌, ◌++◌, ℕ, Bool, true, false, cond, List, [], ◌∷◌, drop, take, length, get_or, Some, refl, sym, ap, subst, ◌∙◌, eqb-true, inl, inr, ⊎_elim}
use Rattle.std.proofs.lemmas.List.{drop_more, take_more}
use Rattle.std.specs.Prelude.{if◌then◌else◌}
use Rattle.std.specs.BTreeMap.{get}
use Rattle.std.specs.FinMap.{empty}
use Rattle.std.specs.Ordering.{nat_cmp, is_eq}
use Rattle.alt_base.proofs.Orderings.{is_eq-nat_cmp}
use Rattle.alt_cells.specs.declared.batch.RowChange.{RowChange}
use Rattle.alt_cells.specs.Changes.{row_of_change}
use Rattle.alt_cells.specs.Joined.{joined_map}
use Rattle.alt_cells.specs.Rows.{join_row}
use Rattle.alt_layout.specs.Layout.{RowMap}
use Rattle.alt_layout.specs.Writes.{changes_in, one_row, rows_with}
use Rattle.alt_writes.specs.Writes.{numbered}
use Rattle.alt_layout.proofs.RowLaws.{rows_join, none_before, none_behind}
use Rattle.alt_families.specs.Families.{Families, rows_in, files_in}
use Rattle.alt_families.specs.Memory.{AreChanged, AreWrittenTo, IsChanged, IsWrittenTo}
use Rattle.alt_families.specs.declared.family.Family.{Family}

-- changes behind changes
pub changes_in-append : (number family : ℕ) (xs ys : List RowChange)
    → changes_in number family (xs ++ ys)
    ≡ joined_map join_row (changes_in number family xs) (changes_in number family ys)
changes_in-append number family [] ys = sym (none_before (changes_in number family ys))
changes_in-append number family (c ∷ cs) ys =
    by_test (c.family == family) (changes_in-append number family cs ys)
  where
    by_test : (t : Bool) → changes_in number family (cs ++ ys)
        ≡ joined_map join_row (changes_in number family cs) (changes_in number family ys)
        → (if t then joined_map join_row (one_row c.key (row_of_change number c))
        (changes_in number family (cs ++ ys)) else changes_in number family (cs ++ ys))
        ≡ joined_map join_row (if t then joined_map join_row (one_row c.key (row_of_change number c))
        (changes_in number family cs) else changes_in number family cs)
        (changes_in number family ys)
    by_test true rest = ap (joined_map join_row (one_row c.key (row_of_change number c))) rest
        ∙ sym (rows_join.assoc (one_row c.key (row_of_change number c))
        (changes_in number family cs) (changes_in number family ys))
    by_test false rest = rest

-- nothing written yet
pub none_written : (families : Families) (number : ℕ) → IsWrittenTo families families number []
none_written families number = record {
  rows = λ f. sym (none_behind (rows_in (get nat_cmp families f)));
  files = λ f. refl;
}

-- one write behind another of the same number
pub written_then : (a b c : Families) (number : ℕ) (xs ys : List RowChange)
    → IsWrittenTo a b number xs → IsWrittenTo b c number ys → IsWrittenTo a c number (xs ++ ys)
written_then a b c number xs ys first later = record {
  rows = λ f. later.rows f
      ∙ ap (λ (m : RowMap). joined_map join_row m (changes_in number f ys)) (first.rows f)
      ∙ rows_join.assoc (rows_in (get nat_cmp a f)) (changes_in number f xs) (changes_in number f ys)
      ∙ ap (joined_map join_row (rows_in (get nat_cmp a f))) (sym (changes_in-append number f xs ys));
  files = λ f. later.files f ∙ first.files f;
}

-- one change more of a list
pub written_more : (a b c : Families) (number i : ℕ) (cs : List RowChange) (x : RowChange)
    → i < length cs → x ≡ get_or cs i x → IsWrittenTo a b number (take i cs)
    → IsWrittenTo b c number (x ∷ []) → IsWrittenTo a c number (take (i + 1) cs)
written_more a b c number i cs x within at first later =
    subst (IsWrittenTo a c number)
    (ap (λ (y : RowChange). take i cs ++ y ∷ []) at ∙ sym (take_more cs i x within))
    (written_then a b c number (take i cs) (x ∷ []) first later)

-- a family that no change so far has, nor one more, is as it was
pub others_written : (a b c : Families) (i : ℕ) (cs : List RowChange) (x : RowChange)
    → i < length cs → x ≡ get_or cs i x
    → ((f : ℕ) → (IsChanged (take i cs) f → ⊥) → get nat_cmp b f ≡ get nat_cmp a f)
    → ((f : ℕ) → (f ≡ x.family → ⊥) → get nat_cmp c f ≡ get nat_cmp b f) → (f : ℕ)
    → (IsChanged (take (i + 1) cs) f → ⊥) → get nat_cmp c f ≡ get nat_cmp a f
others_written a b c i cs x within at first later f out =
    let parts : (IsChanged (take i cs ++ x ∷ []) f → ⊥) =
    subst (λ (ys : List RowChange). IsChanged ys f → ⊥) (take_more cs i x within
    ∙ ap (λ (y : RowChange). take i cs ++ y ∷ []) (sym at)) out in
    later f (λ same. parts (last (take i cs) same)) ∙ first f (λ there. parts (front (take i cs) there))
  where
    front : (ys : List RowChange) → IsChanged ys f → IsChanged (ys ++ x ∷ []) f
    front [] there = absurd there
    front (y ∷ ys) there = ⊎_elim (λ (e : f ≡ y.family). inl e)
        (λ (rest : IsChanged ys f). inr (front ys rest)) there

    last : (ys : List RowChange) → f ≡ x.family → IsChanged (ys ++ x ∷ []) f
    last [] same = inl same
    last (y ∷ ys) same = inr (last ys same)

-- ---- batches

-- a write in front of others
written_first : (a b z : Families) (number : ℕ) (cs : List RowChange)
    (bs : List (List RowChange)) → IsWrittenTo a b number cs
    → AreWrittenTo b z (numbered (number + 1) bs) → AreWrittenTo a z (numbered number (cs ∷ bs))
written_first a b z number cs bs first later = record {
  rows = λ f. later.rows f
      ∙ ap (λ (m : RowMap). rows_with f m (numbered (number + 1) bs)) (first.rows f);
  files = λ f. later.files f ∙ first.files f;
}

-- the batch at a place, and those behind it
pub batch_written : (a b z : Families) (number i : ℕ) (bs : List (List RowChange))
    (x cs : List RowChange) → i < length bs → x ≡ get_or bs i x → cs ≡ x
    → IsWrittenTo a b number cs → AreWrittenTo b z (numbered (number + 1) (drop (i + 1) bs))
    → AreWrittenTo a z (numbered number (drop i bs))
batch_written a b z number i bs x cs within at is first later =
    subst (λ (ys : List (List RowChange)). AreWrittenTo a z (numbered number ys))
    (ap (λ (y : List RowChange). y ∷ drop (i + 1) bs) at ∙ sym (drop_more bs i x within))
    (written_first a b z number x (drop (i + 1) bs)
    (subst (IsWrittenTo a b number) is first) later)

-- a family that none of them changes is as it was
pub batch_others : (a b z : Families) (i : ℕ) (bs : List (List RowChange))
    (x cs : List RowChange) → i < length bs → x ≡ get_or bs i x → cs ≡ x
    → ((f : ℕ) → (IsChanged cs f → ⊥) → get nat_cmp b f ≡ get nat_cmp a f)
    → ((f : ℕ) → (AreChanged (drop (i + 1) bs) f → ⊥) → get nat_cmp z f ≡ get nat_cmp b f)
    → (f : ℕ) → (AreChanged (drop i bs) f → ⊥) → get nat_cmp z f ≡ get nat_cmp a f
batch_others a b z i bs x cs within at is first later f out =
    let parts : (AreChanged (x ∷ drop (i + 1) bs) f → ⊥) =
    subst (λ (ys : List (List RowChange)). AreChanged ys f → ⊥) (drop_more bs i x within
    ∙ ap (λ (y : List RowChange). y ∷ drop (i + 1) bs) (sym at)) out in
    later f (λ there. parts (inr there))
    ∙ first f (λ there. parts (inl (subst (λ (ys : List RowChange). IsChanged ys f) is there)))

-- ---- one family

-- a family's rows and files, with a change of another family or of it
pub changes_one : (number f : ℕ) (c : RowChange)
    → changes_in number f (c ∷ []) ≡ (if c.family == f
    then one_row c.key (row_of_change number c) else empty)
changes_one number f c = by_test (c.family == f)
  where
    by_test : (t : Bool) → (if t then joined_map join_row (one_row c.key (row_of_change number c)) empty
        else empty) ≡ (if t then one_row c.key (row_of_change number c) else empty)
    by_test true = none_behind (one_row c.key (row_of_change number c))
    by_test false = refl

-- One family put in, with the change joined to its rows and its files as they were.
pub put_written : (old new : Families) (number : ℕ) (c : RowChange) (family : Family)
    → ((q : ℕ) → get nat_cmp new q ≡ cond (is_eq (nat_cmp c.family q)) (Some family) (get nat_cmp old q))
    → family.table.0 ≡ joined_map join_row (rows_in (get nat_cmp old c.family))
    (one_row c.key (row_of_change number c))
    → family.files.items ≡ files_in (get nat_cmp old c.family)
    → IsWrittenTo old new number (c ∷ [])
put_written old new number c family at rows files = record {
  rows = λ f. rows_at f (c.family == f) refl;
  files = λ f. files_at f (c.family == f) refl;
}
  where
    found : (f : ℕ) (t : Bool) → (c.family == f) ≡ t
        → get nat_cmp new f ≡ cond t (Some family) (get nat_cmp old f)
    found f t is = at f ∙ ap (λ b. cond b (Some family) (get nat_cmp old f))
        (is_eq-nat_cmp c.family f ∙ is)

    rows_at : (f : ℕ) (t : Bool) → (c.family == f) ≡ t → rows_in (get nat_cmp new f)
        ≡ joined_map join_row (rows_in (get nat_cmp old f)) (changes_in number f (c ∷ []))
    rows_at f true is =
        let same : c.family ≡ f = eqb-true c.family f is in
        ap rows_in (found f true is) ∙ rows
        ∙ (λ i. joined_map join_row (rows_in (get nat_cmp old (same i)))
        (sym (changes_one number f c ∙ ap (λ t. if t
        then one_row c.key (row_of_change number c) else empty) is) i))
    rows_at f false is =
        ap rows_in (found f false is)
        ∙ sym (ap (joined_map join_row (rows_in (get nat_cmp old f)))
        (changes_one number f c ∙ ap (λ t. if t
        then one_row c.key (row_of_change number c) else empty) is)
        ∙ none_behind (rows_in (get nat_cmp old f)))

    files_at : (f : ℕ) (t : Bool) → (c.family == f) ≡ t
        → files_in (get nat_cmp new f) ≡ files_in (get nat_cmp old f)
    files_at f true is =
        let same : c.family ≡ f = eqb-true c.family f is in
        ap files_in (found f true is) ∙ files ∙ ap (λ g. files_in (get nat_cmp old g)) same
    files_at f false is = ap files_in (found f false is)
