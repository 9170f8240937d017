-- A file of which a stop leaves what reads give, and what a write into it may leave then.
use Rattle.std.proofs.Common.{◌≡◌, lit<, inl, inr, ℕ, Bool, true, false, List, [], ◌∷◌, ◌++◌, length, Option, Some, None, refl, sym, ◌∙◌, subst}
use Rattle.alt_disk.specs.Fates.{Shape, Fates, Fits, FitsShape, FitsBytes, synced, opened, wrote}
use Rattle.alt_disk.specs.Disk.{DiskState, IsSettled, now}
use Rattle.alt_disk.proofs.Shapes.{knows, known_append, front_fits, synced_fits, Begins, WroteOrNot}

-- some bytes that fit a shape: zeros where it is open
some_bytes : List (Option ℕ) → List ℕ
some_bytes [] = []
some_bytes (Some b ∷ known) = b ∷ some_bytes known
some_bytes (None ∷ known) = 0 ∷ some_bytes known

-- they do fit it
some_fits : (known : List (Option ℕ)) (loose : Bool) → FitsBytes known loose (some_bytes known)
unfolding some_bytes
some_fits [] true = tt
some_fits [] false = refl
some_fits (Some b ∷ known) loose = (refl, some_fits known loose)
some_fits (None ∷ known) loose = (lit< tt, some_fits known loose)

-- a shape that fits one list of bytes alone has nothing open
only_bytes : (known : List (Option ℕ)) (loose : Bool) (bytes : List ℕ)
    → ((c : List ℕ) → FitsBytes known loose c → c ≡ bytes) → (known ≡ knows bytes) × (loose ≡ false)
unfolding some_bytes
only_bytes [] false [] only = (refl, refl)
only_bytes [] true [] only = absurd (let longer : 0 ∷ [] ≡ [] = only (0 ∷ []) (lit< tt, tt) in
    cc longer)
only_bytes [] loose (b ∷ bytes) only = absurd
    (let none : [] ≡ b ∷ bytes = only [] (some_fits [] loose) in cc none)
only_bytes (None ∷ known) loose bytes only = absurd
    (let zeros : 0 ∷ some_bytes known ≡ bytes =
    only (0 ∷ some_bytes known) (lit< tt, some_fits known loose) in
    let ones : 1 ∷ some_bytes known ≡ bytes =
    only (1 ∷ some_bytes known) (lit< tt, some_fits known loose) in cc (zeros, ones))
only_bytes (Some x ∷ known) loose [] only = absurd
    (let longer : x ∷ some_bytes known ≡ [] =
    only (x ∷ some_bytes known) (refl, some_fits known loose) in cc longer)
only_bytes (Some x ∷ known) loose (b ∷ bytes) only =
    let first : x ≡ b = (let whole : x ∷ some_bytes known ≡ b ∷ bytes =
    only (x ∷ some_bytes known) (refl, some_fits known loose) in cc whole) in
    let rest = only_bytes known loose bytes (λ c fits. let whole : x ∷ c ≡ b ∷ bytes =
    only (x ∷ c) (refl, fits) in cc whole) in
    ((λ i. Some (first i) ∷ rest.0 i), rest.1)

-- a file that was synced is settled
pub synced_settled : (s : DiskState) (f : ℕ) (bytes : List ℕ) → s.file f ≡ Some bytes
    → now s f ≡ synced bytes → IsSettled s f
synced_settled s f bytes there kept = λ left fits. synced_fits bytes left
    (subst (λ (x : Fates). Fits x left) kept fits) ∙ sym there

module _ (front back : List ℕ) (at n : ℕ) (is : at ≡ length front) where
  -- what a write behind the front may leave: a file that still begins with it
  abbrev Left : Option (List ℕ) → Type 0
  Left left = (l : List ℕ) × (left ≡ Some l) × Begins front l

  whole_left : (left : Option (List ℕ)) → left ≡ Some (front ++ back) → Left left
  whole_left left same = (front ++ back, same, record { rest = back; is = refl })

  opened_left : (known : List (Option ℕ)) → known ≡ knows (front ++ back) → (left : Option (List ℕ))
      → FitsShape (Some (record { known = opened at n known; loose = true })) left → Left left
  opened_left known all None fits = absurd fits
  opened_left known all (Some c) fits =
      let here = subst (λ (k : List (Option ℕ)). FitsBytes (opened at n k) true c)
      (all ∙ known_append front back) fits in (
        c,
        refl,
        front_fits front (knows back) n true c
            (subst (λ (a : ℕ). FitsBytes (opened a n (knows front ++ knows back)) true c) is here),
      )

  wrote_left : (last : Option Shape) (others : List (Option Shape))
      → ((left : Option (List ℕ)) → Fits (record { last = last; others = others }) left
      → left ≡ Some (front ++ back))
      → (left : Option (List ℕ)) → Fits (wrote at n (record { last = last; others = others })) left
      → Left left
  wrote_left None others only left fits = absurd
      (let none : None ≡ Some (front ++ back) = only None (inl tt) in cc none)
  wrote_left (Some s) others only left (inl fits) =
      let exact = only_bytes s.known s.loose (front ++ back)
      (λ c there. let same : Some c ≡ Some (front ++ back) = only (Some c) (inl there) in
      cc same) in
      opened_left s.known exact.0 left fits
  wrote_left (Some s) others only left (inr fits) = whole_left left (only left (inr fits))

  -- the call of a write behind a front leaves the front of a settled file, also where it failed
  pub settled_front : (old new : Fates) (ok : Bool)
      → ((left : Option (List ℕ)) → Fits old left → left ≡ Some (front ++ back))
      → WroteOrNot at n old new ok
      → (left : Option (List ℕ)) → Fits new left → (l : List ℕ) × (left ≡ Some l) × Begins front l
  settled_front old new ok only (inl done) left fits =
      wrote_left old.last old.others only left (subst (λ (s : Fates). Fits s left) done fits)
  settled_front old new ok only (inr not_done) left fits =
      whole_left left (only left (subst (λ (s : Fates). Fits s left) not_done.1 fits))
