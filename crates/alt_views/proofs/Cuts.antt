-- An item cut to some of its names, place by place.
use Rattle.std.proofs.Common.{◌≡◌, refl, ap, ℕ, zero, suc, ◌<◌, Bool, true, false, cond, T, List, [], ◌∷◌, length, take, Some, None, arith}
use Rattle.std.specs.declared.cmp.Ordering.TheVariants.{Less, Greater}
use Rattle.std.specs.List.{slice_get}
use Rattle.std.specs.FinMap.Entries.{where_key, is_sorted}
use Rattle.alt_base.proofs.Bools.{first_holds, second_holds}
use Rattle.alt_value.specs.Members.{text_order}
use Rattle.alt_value.specs.Tree.{Tree, Pair}
use Rattle.alt_value.specs.Item.{with_pair}
use Rattle.alt_value.proofs.NamedPairs.{below_at}
use Rattle.alt_value.proofs.Places.{turned}
use Rattle.alt_value.proofs.Texts.{text_total}

-- within the item there is a pair
pub pair_within : (ps : List Pair) (i : ℕ) → i < length ps → None ≡ slice_get ps i → ⊥
pair_within [] i h none = omega arith
pair_within (p ∷ ps) zero h none = cc
pair_within (p ∷ ps) (suc i) h none = pair_within ps i (omega arith) none

module _ (test : List ℕ → Bool) where
  -- one more that passes is put behind those before it
  pub kept : (ps : List Pair) (i : ℕ) (name : List ℕ) (t : Tree) → T (is_sorted text_order ps)
      → slice_get ps i ≡ Some (name, t) → test name ≡ true
      → with_pair name t (where_key text_order test (take i ps))
      ≡ where_key text_order test (take (suc i) ps)
  kept [] i name t h at passes = cc
  kept (p ∷ ps) zero name t h at passes =
      let same : p ≡ (name, t) = cc in
      rw (same, passes) refl
  kept (p ∷ ps) (suc i) name t h at passes =
      let above : text_order name p.0 ≡ Greater =
      turned text_order text_total p.0 name Less
      (below_at p.0 ps i name t (first_holds _ _ h) at) in
      let rest = kept ps i name t (second_holds _ _ h) at passes in
      elim (test p.0) as (λ b. with_pair name t
      (cond b (p ∷ where_key text_order test (take i ps))
      (where_key text_order test (take i ps)))
      ≡ cond b (p ∷ where_key text_order test (take (suc i) ps))
      (where_key text_order test (take (suc i) ps))) [
        | true ↦ rw above (ap (λ (qs : List Pair). p ∷ qs) rest)
        | false ↦ rest
      ]

  -- one more that doesn't pass is left out
  pub skipped : (ps : List Pair) (i : ℕ) (name : List ℕ) (t : Tree) → slice_get ps i
      ≡ Some (name, t) → test name ≡ false
      → where_key text_order test (take i ps) ≡ where_key text_order test (take (suc i) ps)
  skipped [] i name t at fails = cc
  skipped (p ∷ ps) zero name t at fails =
      let same : p ≡ (name, t) = cc in
      rw (same, fails) refl
  skipped (p ∷ ps) (suc i) name t at fails =
      ap (λ (qs : List Pair). cond (test p.0) (p ∷ qs) qs) (skipped ps i name t at fails)
