-- Lists of bytes, told place by place.
use Rattle.std.proofs.Common.{ℕ, suc, ◌<◌, List, [], ◌∷◌}
use Rattle.std.specs.Prelude.{get_or}
use Rattle.std.specs.List.{AllByRecursion}

-- where each place holds a byte, each member is one
pub all_bytes : (bs : List ℕ) → ((i : ℕ) → get_or bs i 0 < 256) → AllByRecursion (λ b. b < 256) bs
all_bytes [] h = tt
all_bytes (b ∷ bs) h = (h 0, all_bytes bs (λ i. h (suc i)))
