-- The last moment that was told, one stretch after another.
use Rattle.std.proofs.Common.{◌≡◌, ℕ, List, [], ◌∷◌, ◌++◌, Option, Some, refl, sym, ap, ◌∙◌}
use Rattle.alt_talks.specs.Own.{last_told}

pub last_told-append : (l : Option ℕ) (ms ns : List ℕ)
    → last_told l (ms ++ ns) ≡ last_told (last_told l ms) ns
last_told-append l [] ns = refl
last_told-append l (m ∷ ms) ns = last_told-append (Some m) ms ns

-- where none was told it is the one from before
pub told_none : (l : Option ℕ) (ms : List ℕ) → ms ≡ [] → l ≡ last_told l ms
told_none l ms e = ap (last_told l) (sym e)

-- where none was told behind one it is that one
pub told_one : (l : Option ℕ) (m : ℕ) (ms : List ℕ) → ms ≡ [] → Some m ≡ last_told l (m ∷ ms)
told_one l m ms e = ap (last_told (Some m)) (sym e)

-- one stretch and then another
pub told_both : (l k h : Option ℕ) (ms ns : List ℕ) → k ≡ last_told l ms → h ≡ last_told k ns
    → h ≡ last_told l (ms ++ ns)
told_both l k h ms ns first then =
    then ∙ ap (λ (j : Option ℕ). last_told j ns) first ∙ sym (last_told-append l ms ns)
