-- Whether a family has so many bytes in memory that it is flushed.
use Rattle.std.proofs.Common.{◌≡◌, ◌<◌, ◌+◌, ◌++◌, ◌∙◌, length, take, get_or, ⊎_elim, inl, inr, cond, Bool, true, false, ℕ, List, [], ◌∷◌, ap, subst, sym}
use Rattle.std.proofs.lemmas.List.{take_more}
use Rattle.std.specs.Prelude.{◌⊎◌, Some}
use Rattle.std.specs.BTreeMap.{get}
use Rattle.std.specs.List.{AllByRecursion}
use Rattle.std.specs.Map.{lookup, values_of}
use Rattle.std.specs.Ordering.{nat_cmp}
use Rattle.alt_cells.specs.declared.batch.RowChange.{RowChange}
use Rattle.alt_families.specs.Families.{Families}
use Rattle.alt_families.specs.Memory.{AreChanged, IsChanged}
use Rattle.alt_families.specs.declared.family.Family.{Family}
use Rattle.alt_layout.proofs.MomentLaws.{same_or_not}
use Rattle.alt_drafts.specs.InHand.{AreBelow, bytes_in_memory}

-- A write changes rows of the family, or not.
changed_or_not : (cs : List RowChange) (family : ℕ)
    → IsChanged cs family ⊎ (IsChanged cs family → ⊥)
changed_or_not [] family = inr (λ there. there)
changed_or_not (c ∷ cs) family = ⊎_elim (λ (e : family ≡ c.family). inl (inl e))
    (λ (apart : family ≡ c.family → ⊥).
    ⊎_elim (λ (later : IsChanged cs family). inl (inr later))
    (λ (out : IsChanged cs family → ⊥). inr (λ there. ⊎_elim apart out there))
    (changed_or_not cs family)) (same_or_not family c.family)

-- the changes so far, with one more
pub changed_more : (cs : List RowChange) (i family : ℕ) (x : RowChange) → i < length cs
    → x ≡ get_or cs i x → IsChanged (take (i + 1) cs) family
    → IsChanged (take i cs) family ⊎ (family ≡ x.family)
changed_more cs i family x within at there = parts (take i cs)
    (subst (λ (ys : List RowChange). IsChanged ys family) (take_more cs i x within
    ∙ ap (λ (y : RowChange). take i cs ++ y ∷ []) (sym at)) there)
  where
    parts : (ys : List RowChange) → IsChanged (ys ++ x ∷ []) family
        → IsChanged ys family ⊎ (family ≡ x.family)
    parts [] there = ⊎_elim (λ (e : family ≡ x.family). inr e) (λ (no : ⊥). absurd no) there
    parts (y ∷ ys) there = ⊎_elim (λ (e : family ≡ y.family). inl (inl e))
        (λ (later : IsChanged (ys ++ x ∷ []) family). ⊎_elim
        (λ (old : IsChanged ys family). inl (inr old)) (λ (e : family ≡ x.family). inr e)
        (parts ys later)) there

-- One of several writes does, or none.
any_changed_or_not : (bs : List (List RowChange)) (family : ℕ)
    → AreChanged bs family ⊎ (AreChanged bs family → ⊥)
any_changed_or_not [] family = inr (λ there. there)
any_changed_or_not (b ∷ bs) family = ⊎_elim (λ (here : IsChanged b family). inl (inl here))
    (λ (apart : IsChanged b family → ⊥).
    ⊎_elim (λ (later : AreChanged bs family). inl (inr later))
    (λ (out : AreChanged bs family → ⊥). inr (λ there. ⊎_elim apart out there))
    (any_changed_or_not bs family)) (changed_or_not b family)

-- the batches so far, with one more
pub changed_batch : (bs : List (List RowChange)) (i family : ℕ) (x : List RowChange)
    → i < length bs → x ≡ get_or bs i x → AreChanged (take (i + 1) bs) family
    → AreChanged (take i bs) family ⊎ IsChanged x family
changed_batch bs i family x within at there = parts (take i bs)
    (subst (λ (ys : List (List RowChange)). AreChanged ys family) (take_more bs i x within
    ∙ ap (λ (y : List RowChange). take i bs ++ y ∷ []) (sym at)) there)
  where
    parts : (ys : List (List RowChange)) → AreChanged (ys ++ x ∷ []) family
        → AreChanged ys family ⊎ IsChanged x family
    parts [] there = ⊎_elim (λ (e : IsChanged x family). inr e) (λ (no : ⊥). absurd no) there
    parts (y ∷ ys) there = ⊎_elim (λ (e : IsChanged y family). inl (inl e))
        (λ (later : AreChanged (ys ++ x ∷ []) family). ⊎_elim
        (λ (old : AreChanged ys family). inl (inr old)) (λ (e : IsChanged x family). inr e)
        (parts ys later)) there

-- Where each family was below and those that batches change are, all are.
pub still_below : (old new : Families) (flush : ℕ) (before : Bool)
    (batches : List (List RowChange)) (after : Bool) → (before ≡ false → AreBelow flush old)
    → ((f : ℕ) → (AreChanged batches f → ⊥) → get nat_cmp new f ≡ get nat_cmp old f)
    → (after ≡ false → before ≡ false)
    → (after ≡ false → (f : ℕ) → AreChanged batches f → bytes_in_memory (get nat_cmp new f) < flush)
    → after ≡ false → AreBelow flush new
still_below old new flush before batches after calm others back changed none family = ⊎_elim
    (λ (there : AreChanged batches family). changed none family there)
    (λ (out : AreChanged batches family → ⊥). subst (λ o. bytes_in_memory o < flush)
    (sym (others family out)) (calm (back none) family)) (any_changed_or_not batches family)

-- Each value that a map finds is below where all are.
pub found_below : (test : ℕ → Bool) (es : List (ℕ × Family)) (flush : ℕ) → 0 < flush
    → AllByRecursion (λ (f : Family). f.table.1 < flush) (values_of es)
    → bytes_in_memory (lookup test es) < flush
found_below test [] flush some all = some
found_below test (e ∷ es) flush some all =
    here (test e.0) (found_below test es flush some all.1)
  where
    here : (t : Bool) → bytes_in_memory (lookup test es) < flush
        → bytes_in_memory (cond t (Some e.1) (lookup test es)) < flush
    here true rest = all.0
    here false rest = rest
