-- Whether a table has one of some families.
use Rattle.std.proofs.Common.{◌≡◌, ◌<◌, refl, sym, ap, subst, ◌∙◌, ℕ, Bool, true, false, not, List, length, Some, slice_index_or, Contains, IsTrue}
use Rattle.std.specs.Bool.{Decides}
use Rattle.std.specs.List.{list_any, HoldsAt}
use Rattle.std.specs.Prelude.{◌==◌, ◌↔◌}
use Rattle.std.specs.FinMap as map
use Rattle.std.proofs.lemmas.Bool.{false≢true}
use Rattle.std.proofs.lemmas.Bool.Decides.{Decides-by_or, not_from_Decides}
use Rattle.alt_machine.specs.State.{Texts, families_of}
use Rattle.alt_schema.specs.declared.schema.TableSchema.{TableSchema}
use Rattle.alt_opening.specs.private.Opening.{IsApart, shares}
use Rattle.alt_tablerows.proofs.GoodLaws.{found_is, same_at}

-- a table has one of these families
sharing : (families : List ℕ) (e : TableSchema) → Decides (shares families e)
    ((k : ℕ) × (k < length (families_of e))
    × HoldsAt (λ f. Contains families f) (families_of e) k)
sharing families e = Decides-by_or (λ f. list_any (λ g. g == f) families)
    (λ f. Contains families f) (list_any (λ f. list_any (λ g. g == f) families))
    (λ f. found_is f families) refl (λ f fs. refl) (families_of e)

shares_none : (families : List ℕ) (e : TableSchema) → shares families e ≡ false
    → (f : ℕ) → Contains (families_of e) f → Contains families f → ⊥
shares_none families e none f c here = not_from_Decides (shares families e) (sharing families e)
    none (
      c.0,
      c.1,
      λ d. subst (Contains families)
          (sym (same_at (families_of e) c.0 d f c.1 ∙ c.2)) here,
    )

none_shares : (families : List ℕ) (e : TableSchema)
    → ((f : ℕ) → Contains (families_of e) f → Contains families f → ⊥)
    → shares families e ≡ false
none_shares families e apart = by (shares families e) refl
  where
    by : (b : Bool) → shares families e ≡ b → b ≡ false
    by false is = refl
    by true is =
        let (k, within, here) = (sharing families e).0 is in
        absurd (apart (slice_index_or (families_of e) k 0)
        (k, within, same_at (families_of e) k _ 0 within) (here 0))

-- no table has one of these families, exactly where each is apart from a description that has them
pub clash_is : (catalog : Texts TableSchema) (families : List ℕ) (d : TableSchema) (clash : Bool)
    → families ≡ families_of d
    → (clash ≡ false) ↔ ((other : List ℕ) (e : TableSchema) → map.get catalog other ≡ Some e
    → shares families e ≡ false)
    → IsTrue (not clash) ↔ IsApart catalog d
clash_is catalog families d clash same clashes = (
  λ none other e at.
      let none_here = clashes.0 (by clash none) other e at in
      record {
        families = λ f in_e in_d. shares_none families e none_here f in_e
            (subst (λ fs. Contains fs f) (sym same) in_d);
      },
  λ apart. ap not (clashes.1 (λ other e at. none_shares families e
      (λ f in_e here. (apart other e at).families f in_e (subst (λ fs. Contains fs f) same here)))),
)
  where
    by : (b : Bool) → not b ≡ true → b ≡ false
    by false e = refl
    by true e = absurd (false≢true e)
