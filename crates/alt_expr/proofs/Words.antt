-- Given words one by one.
use Rattle.std.proofs.Common.{◌≡◌, refl, ℕ, zero, suc, ◌+◌, Bool, true, false, ◌||◌, not, List, [], ◌∷◌, drop, Some, OnOk, Result, Ok, Err, add-one}
use Rattle.std.proofs.lemmas.Bool.{and_from}
use Rattle.std.specs.Cmp.{first_so, second_so}
use Rattle.std.specs.Prelude.{slice_get}
use Rattle.std.specs.Option.{option_map_or}
use Rattle.std.specs.List.{list_all}
use Rattle.std.specs.declared.cmp.Ordering.TheVariants.{Less, Equal, Greater}
use Rattle.std.specs.FinMap.Entries.{by_order}
use Rattle.alt_value.specs.Item.{with_pair}
use Rattle.alt_value.specs.Members.{text_order, has_member}
use Rattle.alt_value.specs.Tree.{Tree, Pair}
use Rattle.alt_expr.specs.Given.{has_unused, is_given_name, are_names}

abbrev stays : List (List ℕ) → Pair → Bool
stays used p = not (has_member text_order p.0 used)

unused_step : (given : List Pair) (used : List (List ℕ)) (i : ℕ)
    → has_unused (drop i given) used
    ≡ (option_map_or (stays used) (slice_get given i) false
    || has_unused (drop (suc i) given) used)
unused_step [] used zero = refl
unused_step [] used (suc i) = refl
unused_step (p ∷ ps) used zero = refl
unused_step (p ∷ ps) used (suc i) = unused_step ps used i

-- the word at a place, and those behind it
pub unused_on : (given : List Pair) (used : List (List ℕ)) (i : ℕ)
    → has_unused (drop i given) used
    ≡ (option_map_or (stays used) (slice_get given i) false
    || has_unused (drop (i + 1) given) used)
unused_on given used i = rw add-one (unused_step given used i)

-- names with one name more are names
pub are_names-with_pair : (w : List ℕ) (t : Tree) (ps : List Pair) → is_given_name t ≡ true
    → are_names ps ≡ true → are_names (with_pair w t ps) ≡ true
are_names-with_pair w t [] name names = and_from _ _ name refl
are_names-with_pair w t (p ∷ ps) name names =
    elim (text_order w p.0) as (λ o. are_names
    (by_order o ((w, t) ∷ p ∷ ps) ((p.0, t) ∷ ps) (p ∷ with_pair w t ps)) ≡ true) [
      | Less ↦ and_from _ _ name names
      | Equal ↦ and_from _ _ name (second_so (is_given_name p.1) _ names)
      | Greater ↦ and_from _ _ (first_so _ _ names)
          (are_names-with_pair w t ps name (second_so (is_given_name p.1) _ names))
    ]

-- the same of an answer
pub names_put : {E : Type 0} (r : Result (Unit {0}) E) (w : List ℕ) (t : Tree) (old new : List Pair)
    → is_given_name t ≡ true → are_names old ≡ true
    → OnOk r (new ≡ with_pair w t old) → OnOk r (are_names new ≡ true)
names_put (Ok u) w t old new name names is = rw is (are_names-with_pair w t old name names)
names_put (Err e) w t old new name names is = tt

-- what holds of each value holds of the one at a place
pub kept_at : (holds : Tree → Bool) (ps : List Pair) (i : ℕ) (p : Pair) → Some p ≡ slice_get ps i
    → list_all (λ q. holds q.1) ps ≡ true → holds p.1 ≡ true
kept_at holds [] zero p at all = absurd (cc)
kept_at holds [] (suc i) p at all = absurd (cc)
kept_at holds (q ∷ qs) zero p at all =
    let same : p ≡ q = cc in rw same (first_so (holds q.1) _ all)
kept_at holds (q ∷ qs) (suc i) p at all = kept_at holds qs i p at (second_so (holds q.1) _ all)

-- each value may be kept where all may
pub each_kept : (ps : List Pair) → list_all (λ (p : Pair). true) ps ≡ true
each_kept [] = refl
each_kept (p ∷ ps) = each_kept ps
