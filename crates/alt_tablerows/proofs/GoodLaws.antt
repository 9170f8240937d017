-- What the tests of a description that is read tell.
use Rattle.std.proofs.Common.{◌≡◌, ◌≢◌, ◌≤◌, ◌<◌, refl, sym, ◌∙◌, ℕ, zero, suc, not, nat_le, nat_lt, List, [], ◌∷◌, length, slice_index_or, arith, All, AllPairs, Contains}
use Rattle.std.specs.Bool.{Decides}
use Rattle.std.specs.List.{list_any}
use Rattle.std.specs.Prelude.{◌==◌, ◌&&◌}
use Rattle.std.proofs.lemmas.Bool.{leb-true, le-leb}
use Rattle.std.proofs.lemmas.Bool.Decides.{Decides-and, Decides-not, Decides-like, Decides-by_and, Decides-by_or, Decides-ltb, Decides-eqb}
use Rattle.std.proofs.lemmas.List.Kept.{AllPairs-cons}
use Rattle.std.proofs.lemmas.Slice.Eq.{bytes_eq-Decides}
use Rattle.alt_machine.specs.Building.{IsBuilt}
use Rattle.alt_machine.specs.State.{families_of}
use Rattle.alt_schema.specs.Described.{IsDescription}
use Rattle.alt_schemabytes.specs.Held.{IsHeld}
use Rattle.alt_schema.specs.declared.schema.TableSchema.{TableSchema}
use Rattle.alt_tablerows.specs.Good.{IsGood}
use Rattle.alt_tablerows.specs.private.Tests.{are_within, are_apart, passes_description_tests}
use Rattle.alt_tablerows.proofs.MadeLaws.{as_made, made_as}

-- an element at a place doesn't turn on what stands for none
pub same_at : (fs : List ℕ) (k a b : ℕ) → k < length fs → slice_index_or fs k a ≡ slice_index_or fs k b
same_at [] k a b within = absurd (omega (arith, within))
same_at (f ∷ fs) zero a b within = refl
same_at (f ∷ fs) (suc k) a b within = same_at fs k a b (omega (arith, within))

-- ---- families

-- the test decides whether all families are within those that were given out
pub within_is : (next : ℕ) (families : List ℕ)
    → Decides (are_within next families) (All (λ f. (1 ≤ f) × (f < next)) families)
within_is next families = Decides-by_and (λ f. nat_le 1 f && nat_lt f next)
    (λ f. (1 ≤ f) × (f < next)) (are_within next)
    (λ f. Decides-and (nat_le 1 f) (nat_lt f next) (leb-true 1 f, le-leb 1 f)
    (Decides-ltb f next)) refl (λ f fs. refl) families

-- a family is one of these
pub found_is : (family : ℕ) (families : List ℕ)
    → Decides (list_any (λ g. g == family) families) (Contains families family)
found_is family families = Decides-like (list_any (λ g. g == family) families)
    (λ o. (o.0, o.1, o.2 family))
    (λ c. (c.0, c.1, λ d. same_at families c.0 d family c.1 ∙ c.2))
    (Decides-by_or (λ g. g == family) (λ g. g ≡ family) (list_any (λ g. g == family))
    (λ g. Decides-eqb g family) refl (λ g gs. refl) families)

-- the test decides whether families are apart
pub apart_is : (families : List ℕ)
    → Decides (are_apart families) (AllPairs (λ f g. f ≢ g) families)
apart_is [] = (λ e i j d low within. absurd (omega (arith, within)), λ h. refl)
apart_is (f ∷ fs) = Decides-like (not (list_any (λ g. g == f) fs) && are_apart fs)
    (λ both. AllPairs-cons (λ f g. f ≢ g) f fs
    (λ k d within same. both.0 (k, within, same_at fs k f d within ∙ sym same)) both.1)
    (λ pairs. (
      λ c. pairs zero (suc c.0) f (omega arith) (let w = c.1 in omega (arith, w)) (sym c.2),
      λ i j d low within. pairs (suc i) (suc j) d (omega (arith, low)) (omega (arith, within)),
    ))
    (Decides-and (not (list_any (λ g. g == f) fs)) (are_apart fs)
    (Decides-not (list_any (λ g. g == f) fs) (found_is f fs)) (apart_is fs))

-- ---- a description

module _ (number next : ℕ) (name : List ℕ) (d : TableSchema) (whole : IsDescription d)
    (held : IsHeld d) (built : IsBuilt d) where
  -- the tests decide whether a description is good
  pub good_is : Decides (passes_description_tests number next name d) (IsGood number next name d)
  good_is = Decides-like (passes_description_tests number next name d)
      (λ h. record {
        named = h.0;
        made = as_made d h.1.0 whole built;
        held = held;
        number = h.1.1.0;
        families = h.1.1.1.0;
        differ = h.1.1.1.1;
      })
      (λ good. (good.named, (made_as d good.made, (good.number, (good.families, good.differ)))))
      (Decides-and _ _ (bytes_eq-Decides d.name name)
      (Decides-and _ _ (λ e. e, λ e. e)
      (Decides-and _ _ (Decides-and _ _ (leb-true 1 d.number, le-leb 1 d.number)
      (Decides-ltb d.number number))
      (Decides-and _ _ (within_is next (families_of d)) (apart_is (families_of d))))))
