-- The files that a version names once some of a family have given way to one that was made of them.
use Rattle.std.proofs.Common.{◌≡◌, ◌<◌, inl, inr, ℕ, Bool, true, false, List, [], ◌∷◌, ◌++◌, length, take, drop, refl, sym, ap, subst, ◌∙◌, arith, append_assoc}
use Rattle.std.proofs.lemmas.List.{take-append-drop}
use Rattle.std.specs.Prelude.{◌⊎◌, ◌==◌, if◌then◌else◌}
use Rattle.std.specs.List.{AllByRecursion}
use Rattle.alt_fields.proofs.Apart.{all_append, all_front, all_back}
use Rattle.alt_manifest.specs.Versions.{AreDistinct, IsIn, row_files}
use Rattle.alt_manifest.specs.declared.version.FamilyVersion.{FamilyVersion}
use Rattle.alt_layout.specs.Families.{files_of}
use Rattle.alt_layout.specs.Merged.{with_made}
use Rattle.alt_layout.proofs.FileLaws.{in_either}
use Rattle.alt_layout.proofs.FlushedFiles.{distinct_put}
use Rattle.alt_manifest.proofs.Among.{distinct_back, in_back, in_front}

-- a list with some numbers in the place of others
pub record IsSwapped (xs ys old new : List ℕ) : Type 0 where
  pub front : List ℕ
  pub back : List ℕ
  pub before : xs ≡ front ++ (old ++ back)
  pub after : ys ≡ front ++ (new ++ back)

-- so are the row files
pub swap_files : (family taken : ℕ) (made : List ℕ) (fs : List FamilyVersion)
    → 0 < length (files_of fs family)
    → IsSwapped (row_files fs) (row_files (with_made family taken made fs))
    (take taken (files_of fs family)) made
swap_files family taken made [] some = absurd (omega (arith, some))
swap_files family taken made (f ∷ fs) some =
    here (f.family == family) (swap_files family taken made fs) some
  where
    here : (t : Bool) → (0 < length (files_of fs family)
        → IsSwapped (row_files fs) (row_files (with_made family taken made fs))
        (take taken (files_of fs family)) made)
        → 0 < length (if t then f.files else files_of fs family)
        → IsSwapped (f.files ++ row_files fs) (row_files (if t
        then record { family = f.family; flushed = f.flushed; files = made ++ drop taken f.files } ∷ fs
        else f ∷ with_made family taken made fs))
        (take taken (if t then f.files else files_of fs family)) made
    here true rest some = record {
      front = [];
      back = drop taken f.files ++ row_files fs;
      before = ap (λ x. x ++ row_files fs) (sym (take-append-drop taken f.files))
          ∙ append_assoc (take taken f.files) (drop taken f.files) (row_files fs);
      after = append_assoc made (drop taken f.files) (row_files fs);
    }
    here false rest some =
        let later = rest some in record {
          front = f.files ++ later.front;
          back = later.back;
          before = ap (λ x. f.files ++ x) later.before ∙ sym (append_assoc f.files later.front
              (take taken (files_of fs family) ++ later.back));
          after = ap (λ x. f.files ++ x) later.after
              ∙ sym (append_assoc f.files later.front (made ++ later.back));
        }

-- behind other numbers
pub swap_behind : (zs xs ys old new : List ℕ) → IsSwapped xs ys old new
    → IsSwapped (zs ++ xs) (zs ++ ys) old new
swap_behind zs xs ys old new swap = record {
  front = zs ++ swap.front;
  back = swap.back;
  before = ap (λ x. zs ++ x) swap.before ∙ sym (append_assoc zs swap.front (old ++ swap.back));
  after = ap (λ x. zs ++ x) swap.after ∙ sym (append_assoc zs swap.front (new ++ swap.back));
}

-- what is in it is new, or was in it
pub in_swapped : (xs ys old new : List ℕ) (n : ℕ) → IsSwapped xs ys old new → IsIn ys n
    → IsIn new n ⊎ IsIn xs n
in_swapped xs ys old new n swap there = subst (λ zs. IsIn new n ⊎ IsIn zs n) (sym swap.before)
    (in_either swap.front (new ++ swap.back) n
    (λ front. inr (in_front swap.front (old ++ swap.back) n front))
    (λ rest. in_either new swap.back n (λ made. inl made)
    (λ back. inr (in_back swap.front (old ++ swap.back) n (in_back old swap.back n back))) rest)
    (subst (λ zs. IsIn zs n) swap.after there))

-- what holds of each number and of the new ones
pub all_swapped : (P : ℕ → Type 0) (xs ys old new : List ℕ) → IsSwapped xs ys old new
    → AllByRecursion P xs → AllByRecursion P new → AllByRecursion P ys
all_swapped P xs ys old new swap all made = subst (AllByRecursion P) (sym swap.after)
    (let parts : AllByRecursion P (swap.front ++ (old ++ swap.back)) =
    subst (AllByRecursion P) swap.before all in
    all_append P swap.front (new ++ swap.back)
    (all_front P swap.front (old ++ swap.back) parts)
    (all_append P new swap.back made
    (all_back P old swap.back (all_back P swap.front (old ++ swap.back) parts))))

-- distinct numbers without some of them
distinct_without : (front old back : List ℕ) → AreDistinct (front ++ (old ++ back))
    → AreDistinct (front ++ back)
distinct_without [] old back distinct = distinct_back old back distinct
distinct_without (x ∷ front) old back distinct = (
  λ there. distinct.0 (in_either front back x (λ h. in_front front (old ++ back) x h)
      (λ h. in_back front (old ++ back) x (in_back old back x h)) there),
  distinct_without front old back distinct.1,
)

-- and with others
distinct_with : (front new back : List ℕ) → AreDistinct (front ++ back) → AreDistinct new
    → AllByRecursion (λ n. IsIn (front ++ back) n → ⊥) new → AreDistinct (front ++ (new ++ back))
distinct_with front [] back distinct apart none = distinct
distinct_with front (n ∷ new) back distinct apart none =
    distinct_put (front ++ (new ++ back)) (front ++ n ∷ (new ++ back)) n
    (record { front = front; back = new ++ back; before = refl; after = refl })
    (distinct_with front new back distinct apart.1 none.1)
    (λ there. in_either front (new ++ back) n (λ h. none.0 (in_front front back n h))
    (λ rest. in_either new back n (λ h. apart.0 h) (λ h. none.0 (in_back front back n h)) rest)
    there)

-- so the numbers with the new ones in their place are distinct
pub distinct_swapped : (xs ys old new : List ℕ) → IsSwapped xs ys old new → AreDistinct xs
    → AreDistinct new → AllByRecursion (λ n. IsIn xs n → ⊥) new → AreDistinct ys
distinct_swapped xs ys old new swap distinct apart none =
    subst AreDistinct (sym swap.after)
    (distinct_with swap.front new swap.back
    (distinct_without swap.front old swap.back (subst AreDistinct swap.before distinct)) apart
    (narrow new none))
  where
    narrow : (ns : List ℕ) → AllByRecursion (λ n. IsIn xs n → ⊥) ns
        → AllByRecursion (λ n. IsIn (swap.front ++ swap.back) n → ⊥) ns
    narrow [] none = tt
    narrow (n ∷ ns) none = (
      λ there. none.0 (subst (λ zs. IsIn zs n) (sym swap.before)
          (in_either swap.front swap.back n
          (λ h. in_front swap.front (old ++ swap.back) n h)
          (λ h. in_back swap.front (old ++ swap.back) n (in_back old swap.back n h)) there)),
      narrow ns none.1,
    )
