-- What is left of a text is its back.
use Rattle.std.proofs.Common.{◌≡◌, ap, ◌∙◌, ℕ, ◌+◌, ◌-◌, ◌≤◌, List, length, drop, arith, length-drop}
use Rattle.std.proofs.lemmas.List.{drop-drop}

-- a back of the text, which stands where the text is longer than it
pub record IsBack (whole rest : List ℕ) : Type 0 where
  pub fits : length rest ≤ length whole
  pub same : rest ≡ drop (length whole - length rest) whole

-- the back of a back is one
pub back_of_back : (whole rest : List ℕ) (k : ℕ) → IsBack whole rest → k ≤ length rest
    → IsBack whole (drop k rest)
back_of_back whole rest k b within =
    let fits = b.fits in
    let place : length whole - length rest + k
    ≡ length whole - length (drop k rest) = omega (arith, fits, length-drop k rest) in
    record {
      fits = omega (arith, fits, length-drop k rest);
      same = ap (drop k) b.same ∙ drop-drop k (length whole - length rest) whole
          ∙ ap (λ n. drop n whole) place;
    }
