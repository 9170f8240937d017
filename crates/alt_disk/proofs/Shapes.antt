-- What a stop may leave after a write or a sync, as lists of bytes.
use Rattle.std.proofs.Common.{◌≡◌, ◌⊎◌, inl, inr, ℕ, zero, suc, Bool, true, false, List, [], ◌∷◌, ◌++◌, length, map, Option, Some, None, refl, sym, ◌∙◌, ap, subst}
use Rattle.std.proofs.lemmas.List.{append-nil}
use Rattle.alt_disk.specs.Fates.{Fates, Fits, FitsBytes, synced, opened, wrote}

-- bytes that are all known
abbrev pub knows : List ℕ → List (Option ℕ)
knows bytes = map (λ b. Some b) bytes

-- known bytes are left as they are
known_fits : (bytes c : List ℕ) → FitsBytes (knows bytes) false c → c ≡ bytes
known_fits [] c fits = fits
known_fits (x ∷ bytes) [] fits = absurd fits
known_fits (x ∷ bytes) (b ∷ c) fits = λ i. fits.0 i ∷ known_fits bytes c fits.1 i

-- after a sync a stop leaves what was synced
pub synced_fits : (bytes : List ℕ) (c : Option (List ℕ)) → Fits (synced bytes) c → c ≡ Some bytes
synced_fits bytes None (inl fits) = absurd fits
synced_fits bytes (Some c) (inl fits) = ap (λ (l : List ℕ). Some l) (known_fits bytes c fits)
synced_fits bytes c (inr none) = absurd none

-- a list that begins with another
pub record Begins (front whole : List ℕ) : Type 0 where
  pub rest : List ℕ
  pub is : whole ≡ front ++ rest

-- a list that begins with another, but for a gap of some length
pub record Gapped (front : List ℕ) (n : ℕ) (back whole : List ℕ) : Type 0 where
  pub gap : List ℕ
  pub size : length gap ≡ n
  pub rest : List ℕ
  pub is : whole ≡ front ++ gap ++ back ++ rest

-- a range of no bytes opens nothing
opened_none : (known : List (Option ℕ)) → opened zero zero known ≡ known
opened_none [] = refl
opened_none (k ∷ known) = refl

-- a range opened behind a front leaves the front
pub front_fits : (front : List ℕ) (back : List (Option ℕ)) (n : ℕ) (loose : Bool) (c : List ℕ)
    → FitsBytes (opened (length front) n (knows front ++ back)) loose c → Begins front c
front_fits [] back n loose c fits = record { rest = c; is = refl }
front_fits (x ∷ front) back n loose [] fits = absurd fits
front_fits (x ∷ front) back n loose (b ∷ c) fits =
    let more = front_fits front back n loose c fits.1 in
    record { rest = more.rest; is = λ i. fits.0 i ∷ more.is i }

-- known bytes are left as they are, whatever follows
back_fits : (back : List ℕ) (loose : Bool) (c : List ℕ) → FitsBytes (knows back) loose c
    → Begins back c
back_fits [] loose c fits = record { rest = c; is = refl }
back_fits (x ∷ back) loose [] fits = absurd fits
back_fits (x ∷ back) loose (b ∷ c) fits =
    let more = back_fits back loose c fits.1 in
    record { rest = more.rest; is = λ i. fits.0 i ∷ more.is i }

-- a range opened between a front and a back leaves both
gap_fits : (front gap back : List ℕ) (loose : Bool) (c : List ℕ)
    → FitsBytes (opened (length front) (length gap) (knows front ++ knows gap ++ knows back)) loose
    c → Gapped front (length gap) back c
gap_fits [] [] back loose c fits =
    let more = back_fits back loose c (subst (λ (k : List (Option ℕ)). FitsBytes k loose c)
    (opened_none (knows back)) fits) in
    record { gap = []; size = refl; rest = more.rest; is = more.is }
gap_fits [] (g ∷ gap) back loose [] fits = absurd fits
gap_fits [] (g ∷ gap) back loose (b ∷ c) fits =
    let more = gap_fits [] gap back loose c fits.1 in
    record {
      gap = b ∷ more.gap;
      size = ap (λ (n : ℕ). suc n) more.size;
      rest = more.rest;
      is =
          ap (λ (l : List ℕ). b ∷ l) more.is;
    }
gap_fits (x ∷ front) gap back loose [] fits = absurd fits
gap_fits (x ∷ front) gap back loose (b ∷ c) fits =
    let more = gap_fits front gap back loose c fits.1 in
    record { gap = more.gap; size = more.size; rest = more.rest; is = λ i. fits.0 i ∷ more.is i }

-- known bytes, in two parts
pub known_append : (xs ys : List ℕ) → knows (xs ++ ys) ≡ knows xs ++ knows ys
known_append [] ys = refl
known_append (x ∷ xs) ys = ap (λ (l : List (Option ℕ)). Some x ∷ l) (known_append xs ys)

-- what is known of a file that was synced, after the call of a write that may have failed
abbrev pub WroteOrNot : ℕ → ℕ → Fates → Fates → Bool → Type 0
WroteOrNot at n old new ok = (new ≡ wrote at n old) ⊎ ((ok ≡ false) × (new ≡ old))

-- a write behind a front, of a file that was synced
front_at : (front back : List ℕ) (at n : ℕ) → at ≡ length front → (c : Option (List ℕ))
    → Fits (wrote at n (synced (front ++ back))) c → (l : List ℕ) × (c ≡ Some l) × Begins front l
front_at front back at n is None (inl fits) = absurd fits
front_at front back at n is (Some c) (inl fits) =
    let known : List (Option ℕ) → Type 0 = λ k. FitsBytes (opened at n k) true c in
    let here = subst known (known_append front back) fits in (
      c,
      refl,
      front_fits front (knows back) n true c
          (subst (λ (a : ℕ). FitsBytes (opened a n (knows front ++ knows back)) true c) is here),
    )
front_at front back at n is c (inr none) = absurd none

-- a write between a front and a back
gap_at : (front gap back : List ℕ) (at n : ℕ) → at ≡ length front → n ≡ length gap
    → (c : Option (List ℕ)) → Fits (wrote at n (synced (front ++ gap ++ back))) c
    → (l : List ℕ) × (c ≡ Some l) × Gapped front (length gap) back l
gap_at front gap back at n is size None (inl fits) = absurd fits
gap_at front gap back at n is size (Some c) (inl fits) =
    let known : List (Option ℕ) → Type 0 = λ k. FitsBytes (opened at n k) true c in
    let here = subst known (known_append (front ++ gap) back
    ∙ ap (λ (l : List (Option ℕ)). l ++ knows back) (known_append front gap)) fits in
    let there = subst (λ (a : ℕ). FitsBytes (opened a n (knows front ++ knows gap ++ knows back))
    true c) is here in (
      c,
      refl,
      gap_fits front gap back true c (subst
          (λ (m : ℕ). FitsBytes (opened (length front) m (knows front ++ knows gap ++ knows back))
          true c) size there),
    )
gap_at front gap back at n is size c (inr none) = absurd none

-- the call of a write behind a front leaves the front, also where it failed
pub front_stays : (front back : List ℕ) (at n : ℕ) (old new : Fates) (ok : Bool) → at ≡ length front
    → old ≡ synced (front ++ back) → WroteOrNot at n old new ok → (c : Option (List ℕ)) → Fits new c
    → (l : List ℕ) × (c ≡ Some l) × Begins front l
front_stays front back at n old new ok is was (inl done) c fits =
    front_at front back at n is c (subst (λ (s : Fates). Fits s c)
    (done ∙ ap (wrote at n) was) fits)
front_stays front back at n old new ok is was (inr not_done) c fits = (
  front ++ back,
  synced_fits (front ++ back) c
      (subst (λ (s : Fates). Fits s c) (not_done.1 ∙ was) fits),
  record { rest = back; is = refl },
)

-- and one into a gap all but the gap
pub gap_stays : (front gap back : List ℕ) (at n : ℕ) (old new : Fates) (ok : Bool)
    → at ≡ length front → n ≡ length gap → old ≡ synced (front ++ gap ++ back)
    → WroteOrNot at n old new ok → (c : Option (List ℕ)) → Fits new c
    → (l : List ℕ) × (c ≡ Some l) × Gapped front (length gap) back l
gap_stays front gap back at n old new ok is size was (inl done) c fits =
    gap_at front gap back at n is size c (subst (λ (s : Fates). Fits s c)
    (done ∙ ap (wrote at n) was) fits)
gap_stays front gap back at n old new ok is size was (inr not_done) c fits = (
  front ++ gap ++ back,
  synced_fits (front ++ gap ++ back) c
      (subst (λ (s : Fates). Fits s c) (not_done.1 ∙ was) fits),
  record { gap = gap; size = refl; rest = []; is = sym (append-nil (front ++ gap ++ back)) },
)
