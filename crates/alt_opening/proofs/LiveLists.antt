-- Lists of families that rise: with some more, and without some.
use Rattle.std.proofs.Common.{◌≡◌, ◌≤◌, ◌<◌, ◌+◌, ◌==◌, ◌||◌, ⊎_elim, inl, inr, refl, sym, ap, subst, ◌∙◌, ℕ, zero, suc, Bool, true, false, not, nat_lt, List, [], ◌∷◌, length, get_or, Contains, arith}
use Rattle.std.specs.Prelude.{◌⊎◌, ◌≢◌, if◌then◌else◌}
use Rattle.std.specs.List.{list_any}
use Rattle.std.proofs.lemmas.Bool.{eqb-true, eq-eqb, false≢true, ltb-false, ltb-true, not-false}
use Rattle.alt_engine.specs.HandWorking.{AreLive}
use Rattle.alt_manifest.specs.Versions.{IsIn, RiseFrom}
use Rattle.alt_manifest.proofs.Among.{rise_lower}
use Rattle.alt_opening.specs.Live.{with_all, with_first, with_one, without_all}
use Rattle.alt_opening.specs.StateRows.{catalog_family}
use Rattle.alt_tablerows.proofs.GoodLaws.{found_is}

-- ---- elements

-- what a list contains is in it
pub contained_in : (xs : List ℕ) (x : ℕ) → Contains xs x → IsIn xs x
contained_in xs x c = by xs c.0 c.1 c.2
  where
    by : (ys : List ℕ) (k : ℕ) → k < length ys → get_or ys k x ≡ x → IsIn ys x
    by [] k within is = absurd (omega (arith, within))
    by (y ∷ ys) zero within is = inl (sym is)
    by (y ∷ ys) (suc k) within is = inr (by ys k (omega (arith, within)) is)

-- and the other way
pub in_contained : (xs : List ℕ) (x : ℕ) → IsIn xs x → Contains xs x
in_contained [] x there = absurd there
in_contained (y ∷ ys) x (inl e) = (0, omega arith, sym e)
in_contained (y ∷ ys) x (inr later) =
    let c = in_contained ys x later in
    let within = c.1 in (suc c.0, omega (arith, within), c.2)

-- a number that isn't below another, nor the same, is above it
past : (m n : ℕ) → m ≤ n → n ≢ m → m + 1 ≤ n
past m n low other = ⊎_elim (λ (e : n ≡ m). absurd (other e))
    (λ (above : m + 1 ≤ n). above) (either m n low)
  where
    either : (m n : ℕ) → m ≤ n → (n ≡ m) ⊎ (m + 1 ≤ n)
    either zero zero low = inl refl
    either zero (suc n) low = inr (omega arith)
    either (suc m) zero low = absurd (omega (arith, low))
    either (suc m) (suc n) low = ⊎_elim (λ (e : n ≡ m). inl (ap suc e))
        (λ (above : m + 1 ≤ n). inr (omega (arith, above))) (either m n (omega (arith, low)))

-- ---- one more

in_first : (family : ℕ) (gs : List ℕ) (f : ℕ) → IsIn (with_first family gs) f
    → (f ≡ family) ⊎ IsIn gs f
in_first family [] f there = there
in_first family (g ∷ gs) f there = by (g == family) there
  where
    by : (b : Bool) → IsIn (if b then g ∷ gs else family ∷ g ∷ gs) f
        → (f ≡ family) ⊎ IsIn (g ∷ gs) f
    by true there = inr there
    by false there = there

first_in : (family : ℕ) (gs : List ℕ) (f : ℕ) → (f ≡ family) ⊎ IsIn gs f
    → IsIn (with_first family gs) f
first_in family [] f there = there
first_in family (g ∷ gs) f there = by (g == family) refl
  where
    by : (b : Bool) → (g == family) ≡ b → IsIn (if b then g ∷ gs else family ∷ g ∷ gs) f
    by true e = ⊎_elim (λ (same : f ≡ family). inl (same ∙ sym (eqb-true g family e)))
        (λ (here : IsIn (g ∷ gs) f). here) there
    by false e = there

-- what is in the list with one more is that one, or was in it
pub in_one : (family : ℕ) (live : List ℕ) (f : ℕ) → IsIn (with_one family live) f
    → (f ≡ family) ⊎ IsIn live f
in_one family [] f there = there
in_one family (g ∷ gs) f there = by (λ later. in_one family gs f later) (nat_lt g family) there
  where
    by : (IsIn (with_one family gs) f → (f ≡ family) ⊎ IsIn gs f) → (b : Bool)
        → IsIn (if b then g ∷ with_one family gs else with_first family (g ∷ gs)) f
        → (f ≡ family) ⊎ IsIn (g ∷ gs) f
    by rest true there = ⊎_elim (λ (e : f ≡ g). inr (inl e))
        (λ (later : IsIn (with_one family gs) f). ⊎_elim (λ (e : f ≡ family). inl e)
        (λ (old : IsIn gs f). inr (inr old)) (rest later)) there
    by rest false there = in_first family (g ∷ gs) f there

-- and the other way
pub one_in : (family : ℕ) (live : List ℕ) (f : ℕ) → (f ≡ family) ⊎ IsIn live f
    → IsIn (with_one family live) f
one_in family [] f there = there
one_in family (g ∷ gs) f there = by (λ h. one_in family gs f h) (nat_lt g family)
  where
    by : ((f ≡ family) ⊎ IsIn gs f → IsIn (with_one family gs) f) → (b : Bool)
        → IsIn (if b then g ∷ with_one family gs else with_first family (g ∷ gs)) f
    by rest true = ⊎_elim (λ (new : f ≡ family). inr (rest (inl new)))
        (λ (old : IsIn (g ∷ gs) f). ⊎_elim (λ (e : f ≡ g). inl e)
        (λ (later : IsIn gs f). inr (rest (inr later))) old) there
    by rest false = first_in family (g ∷ gs) f there

-- it rises
rises_one : (n family : ℕ) (live : List ℕ) → n ≤ family → RiseFrom n live
    → RiseFrom n (with_one family live)
rises_one n family [] low rise = (low, tt)
rises_one n family (g ∷ gs) low rise =
    by (λ later. rises_one (g + 1) family gs later rise.1) (nat_lt g family) refl
  where
    first : family ≤ g → (b : Bool) → (g == family) ≡ b
        → RiseFrom n (if b then g ∷ gs else family ∷ g ∷ gs)
    first below true e = rise
    first below false e = (
      low,
      (past family g below (λ same. false≢true (sym e ∙ eq-eqb g family same)), rise.1),
    )

    by : (g + 1 ≤ family → RiseFrom (g + 1) (with_one family gs)) → (b : Bool)
        → nat_lt g family ≡ b
        → RiseFrom n (if b then g ∷ with_one family gs else with_first family (g ∷ gs))
    by rest true e = (rise.0, rest (let above = ltb-true g family e in omega (arith, above)))
    by rest false e = first (ltb-false g family e) (g == family) refl

-- ---- several more

-- what is in the list with several more is one of them, or was in it
pub in_all : (fs live : List ℕ) (f : ℕ) → IsIn (with_all fs live) f → IsIn fs f ⊎ IsIn live f
in_all [] live f there = inr there
in_all (x ∷ fs) live f there = ⊎_elim (λ (new : IsIn fs f). inl (inr new))
    (λ (one : IsIn (with_one x live) f). ⊎_elim (λ (e : f ≡ x). inl (inl e))
    (λ (old : IsIn live f). inr old) (in_one x live f one))
    (in_all fs (with_one x live) f there)

-- and the other way
pub all_in : (fs live : List ℕ) (f : ℕ) → IsIn fs f ⊎ IsIn live f → IsIn (with_all fs live) f
all_in [] live f there = ⊎_elim (λ (none : ⊥). absurd none) (λ (old : IsIn live f). old) there
all_in (x ∷ fs) live f there = all_in fs (with_one x live) f (⊎_elim
    (λ (new : IsIn (x ∷ fs) f). ⊎_elim (λ (e : f ≡ x). inr (one_in x live f (inl e)))
    (λ (later : IsIn fs f). inl later) new)
    (λ (old : IsIn live f). inr (one_in x live f (inr old))) there)

rises_all : (fs live : List ℕ) → RiseFrom 0 live → RiseFrom 0 (with_all fs live)
rises_all [] live rise = rise
rises_all (f ∷ fs) live rise =
    rises_all fs (with_one f live) (rises_one 0 f live (omega arith) rise)

-- they are live still
pub live_all : (fs live : List ℕ) → AreLive live → AreLive (with_all fs live)
live_all fs live are = record {
  rising = rises_all fs live are.rising;
  catalog = all_in fs live catalog_family (inr are.catalog);
}

-- ---- several less

-- the family stays
abbrev stays : List ℕ → ℕ → Bool
stays fs g = g == catalog_family || not (list_any (λ f. f == g) fs)

-- what stays is that of the catalog, or none of those that go
stays_is : (fs : List ℕ) (g : ℕ) → stays fs g ≡ true → (g ≡ catalog_family) ⊎ (IsIn fs g → ⊥)
stays_is fs g passes = by (g == catalog_family) refl passes
  where
    by : (b : Bool) → (g == catalog_family) ≡ b → (b || not (list_any (λ f. f == g) fs)) ≡ true
        → (g ≡ catalog_family) ⊎ (IsIn fs g → ⊥)
    by true e passes = inl (eqb-true g catalog_family e)
    by false e passes = inr (λ there.
        false≢true (sym (ap not ((found_is g fs).1 (in_contained fs g there))) ∙ passes))

-- and what goes is one of those, and isn't that of the catalog
goes_is : (fs : List ℕ) (g : ℕ) → stays fs g ≡ false → (g ≢ catalog_family) × IsIn fs g
goes_is fs g fails = by (g == catalog_family) refl fails
  where
    by : (b : Bool) → (g == catalog_family) ≡ b → (b || not (list_any (λ f. f == g) fs)) ≡ false
        → (g ≢ catalog_family) × IsIn fs g
    by true e fails = absurd (false≢true (sym fails))
    by false e fails = (
      λ same. false≢true (sym e ∙ eq-eqb g catalog_family same),
      contained_in fs g ((found_is g fs).0 (not-false (list_any (λ f. f == g) fs) fails)),
    )

-- what is in the list without several was in it, and is that of the catalog or none of them
pub in_without : (fs live : List ℕ) (f : ℕ) → IsIn (without_all fs live) f
    → IsIn live f × ((f ≡ catalog_family) ⊎ (IsIn fs f → ⊥))
in_without fs [] f there = absurd there
in_without fs (g ∷ gs) f there =
    by (λ later. in_without fs gs f later) (stays fs g) refl there
  where
    by : (IsIn (without_all fs gs) f → IsIn gs f × ((f ≡ catalog_family) ⊎ (IsIn fs f → ⊥)))
        → (b : Bool) → stays fs g ≡ b
        → IsIn (if b then g ∷ without_all fs gs else without_all fs gs) f
        → IsIn (g ∷ gs) f × ((f ≡ catalog_family) ⊎ (IsIn fs f → ⊥))
    by rest true e there = ⊎_elim (λ (same : f ≡ g). (
      inl same,
      ⊎_elim (λ (own : g ≡ catalog_family). inl (same ∙ own))
          (λ (none : IsIn fs g → ⊥). inr (subst (λ x. IsIn fs x → ⊥) (sym same) none))
          (stays_is fs g e),
    ))
        (λ (later : IsIn (without_all fs gs) f). (inr (rest later).0, (rest later).1)) there
    by rest false e there = (inr (rest there).0, (rest there).1)

-- and the other way
pub without_in : (fs live : List ℕ) (f : ℕ) → IsIn live f
    → (f ≡ catalog_family) ⊎ (IsIn fs f → ⊥) → IsIn (without_all fs live) f
without_in fs [] f there kept = absurd there
without_in fs (g ∷ gs) f there kept =
    by (λ later. without_in fs gs f later kept) (stays fs g) refl there
  where
    no : {P : Type 0} → f ≡ g → (g ≢ catalog_family) × IsIn fs g → P
    no same gone = ⊎_elim (λ (own : f ≡ catalog_family). absurd (gone.0 (sym same ∙ own)))
        (λ (none : IsIn fs f → ⊥). absurd (none (subst (IsIn fs) (sym same) gone.1))) kept

    by : (IsIn gs f → IsIn (without_all fs gs) f) → (b : Bool) → stays fs g ≡ b
        → IsIn (g ∷ gs) f → IsIn (if b then g ∷ without_all fs gs else without_all fs gs) f
    by rest true e there = ⊎_elim (λ (same : f ≡ g). inl same)
        (λ (later : IsIn gs f). inr (rest later)) there
    by rest false e there = ⊎_elim (λ (same : f ≡ g). no same (goes_is fs g e))
        (λ (later : IsIn gs f). rest later) there

rises_without : (n : ℕ) (fs live : List ℕ) → RiseFrom n live → RiseFrom n (without_all fs live)
rises_without n fs [] rise = tt
rises_without n fs (g ∷ gs) rise =
    by (rises_without (g + 1) fs gs rise.1) (stays fs g)
  where
    by : RiseFrom (g + 1) (without_all fs gs) → (b : Bool)
        → RiseFrom n (if b then g ∷ without_all fs gs else without_all fs gs)
    by rest true = (rise.0, rest)
    by rest false = rise_lower n (g + 1) (without_all fs gs)
        (let low = rise.0 in omega (arith, low)) rest

-- they are live still
pub live_without : (fs live : List ℕ) → AreLive live → AreLive (without_all fs live)
live_without fs live are = record {
  rising = rises_without 0 fs live are.rising;
  catalog = without_in fs live catalog_family are.catalog (inl refl);
}
