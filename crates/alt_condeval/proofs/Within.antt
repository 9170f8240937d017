-- Bytes that stand within others: what a search for them tells.
use Rattle.std.proofs.Common.{◌≡◌, refl, sym, ap, ◌∙◌, ℕ, zero, suc, ◌≤◌, ◌<◌, Bool, true, false, ◌||◌, nat_le, List, [], ◌∷◌, length, take, drop, Option, Some, None, arith, length-take, length-drop}
use Rattle.std.proofs.lemmas.Bool.{or_left, lt-leb, or_right}
use Rattle.std.specs.Prelude.{nat_eq, is_some}
use Rattle.std.specs.List.{starts_with}
use Rattle.std.specs.Cmp.Lexicographic.{bytes_decides}
use Rattle.memchr.specs.Find.{FindsNeedle, OccursAt}
use Rattle.memchr.proofs.lemmas.MatchLemmas.{OccursAt-part, OccursAt-from_part}
use Rattle.alt_expr.specs.Holds.{stands_in}

by_either : {P : Type 0} (a b : Bool) → (a || b) ≡ true → (a ≡ true → P) → (b ≡ true → P) → P
by_either true b e f g = f refl
by_either false b e f g = g e

starts : (needle hay : List ℕ) → take (length needle) hay ≡ needle
    → starts_with nat_eq hay needle ≡ true
starts needle hay e = (bytes_decides needle (take (length needle) hay)).1 (sym e)

starts_so : (needle hay : List ℕ) → starts_with nat_eq hay needle ≡ true
    → take (length needle) hay ≡ needle
starts_so needle hay e = sym ((bytes_decides needle (take (length needle) hay)).0 e)

found : (needle hay : List ℕ) (k : ℕ) → k ≤ length hay → take (length needle) (drop k hay) ≡ needle
    → stands_in needle hay ≡ true
found needle [] zero le e = starts needle [] e
found needle [] (suc k) le e = absurd (omega arith)
found needle (c ∷ cs) zero le e =
    or_left (starts_with nat_eq (c ∷ cs) needle) _ (starts needle (c ∷ cs) e)
found needle (c ∷ cs) (suc k) le e =
    or_right (starts_with nat_eq (c ∷ cs) needle) _ (found needle cs k (omega arith) e)

place : (needle hay : List ℕ) → stands_in needle hay ≡ true
    → (k : ℕ) × (k ≤ length hay) × (take (length needle) (drop k hay) ≡ needle)
place needle [] e = (0, omega arith, starts_so needle [] e)
place needle (c ∷ cs) e =
    by_either (starts_with nat_eq (c ∷ cs) needle) (stands_in needle cs) e
    (λ here. (0, omega arith, starts_so needle (c ∷ cs) here))
    (λ later. let p = place needle cs later in (suc p.0, omega (arith, p.1), p.2))

occurs : (needle hay : List ℕ) (k : ℕ) → k ≤ length hay → take (length needle) (drop k hay) ≡ needle
    → OccursAt hay needle k
occurs needle hay k le e =
    let long : length (take (length needle) (drop k hay)) ≡ length needle = ap length e in
    OccursAt-from_part hay needle k
    (omega (arith, long, length-take (length needle) (drop k hay), length-drop k hay)) e

-- a search finds them exactly where they stand
pub told : (hay needle : List ℕ) (r : Option ℕ) → FindsNeedle hay needle 0 r
    → is_some r ≡ stands_in needle hay
told hay needle None h =
    elim (stands_in needle hay) as (λ b. stands_in needle hay ≡ b → false ≡ b) [
      | true ↦ λ e. let p = place needle hay e in
          absurd (h p.0 (omega arith) (omega (arith, p.1)) (occurs needle hay p.0 p.1 p.2))
      | false ↦ λ e. refl
    ] refl
told hay needle (Some k) h =
    let o = h.1 in
    sym (found needle hay k (omega (arith, o.fits)) (OccursAt-part hay needle k o))

-- what is longer than the bytes doesn't stand in them
pub too_long : (needle hay : List ℕ) → length hay < length needle → stands_in needle hay ≡ false
too_long needle hay less =
    elim (stands_in needle hay) as (λ b. stands_in needle hay ≡ b → b ≡ false) [
      | true ↦ λ e.
          let p = place needle hay e in
          let long : length (take (length needle) (drop p.0 hay)) ≡ length needle = ap length p.2 in
          absurd (omega (
            arith,
            long,
            less,
            length-take (length needle) (drop p.0 hay),
            length-drop p.0 hay,
          ))
      | false ↦ λ e. refl
    ] refl

-- where a text is longer than another no search is needed
pub told_by_length : (needle hay : List ℕ) → length hay < length needle
    → nat_le (length needle) (length hay) ≡ stands_in needle hay
told_by_length needle hay less =
    lt-leb (length needle) (length hay) less ∙ sym (too_long needle hay less)
