-- A search among borrowed words.
use Rattle.std.proofs.Common.{◌≡◌, ℕ, List, [], ◌∷◌, map, refl, ap, Bor}
use Rattle.std.specs.Prelude.{◌||◌}
use Rattle.std.specs.List.{list_any}
use Rattle.std.specs.Str.{bytes_eq}
use Rattle.alt_named.specs.Named.{is_among}

-- it is one among the words
pub is_among_map : (words : List (Bor (List ℕ))) (s : List ℕ)
    → is_among (map (λ w. w.now) words) s ≡ list_any (λ w. bytes_eq w.now s) words
is_among_map [] s = refl
is_among_map (word ∷ words) s = ap (λ b. bytes_eq word.now s || b) (is_among_map words s)
