-- A stop of a piece is a stop of the value that it is a piece of.
use Rattle.std.proofs.Common.{◌≡◌, ap, ◌∙◌, ℕ, ◌+◌, List, ◌++◌, length}
use Rattle.alt_value.specs.CellBytes.{counted}
use Rattle.alt_cellbytes.specs.Places.{IsStopByBytes, IsStopAt}
use Rattle.alt_cellbytes.specs.declared.fault.Stop.{Stop}
use Rattle.alt_cellbytes.specs.declared.fault.Stop.TheVariants.{Left, Deep, NoMemory}
use Rattle.alt_cellbytes.proofs.Fields.{length-counted}

-- where only bytes can stop, what follows of a stop
pub stop_map : (P Q : ℕ → Type 0) (s : Stop) → ((n : ℕ) → P n → Q n) → IsStopByBytes P s → IsStopByBytes Q s
stop_map P Q (Left n) f h = f n h
stop_map P Q (Deep n) f h = absurd h
stop_map P Q NoMemory f h = tt

-- and the same where a value may also be nested too deep
pub stop_into : (P Q D : ℕ → Type 0) (s : Stop) → ((n : ℕ) → P n → Q n) → IsStopByBytes P s
    → IsStopAt Q D s
stop_into P Q D (Left n) f h = f n h
stop_into P Q D (Deep n) f h = absurd h
stop_into P Q D NoMemory f h = tt

-- what follows of either stop
pub both_map : (P Q C D : ℕ → Type 0) (s : Stop) → ((n : ℕ) → P n → Q n) → ((n : ℕ) → C n → D n)
    → IsStopAt P C s → IsStopAt Q D s
both_map P Q C D (Left n) f g h = f n h
both_map P Q C D (Deep n) f g h = g n h
both_map P Q C D NoMemory f g h = tt

-- how long bytes are that tell a count
pub length-told : (n : ℕ) (bytes more : List ℕ) → bytes ≡ counted n ++ more
    → length bytes ≡ 8 + length more
length-told n bytes more e = ap length e ∙ length-counted n more

-- a count that is 0
pub zero_told : (count : ℕ) (bytes more : List ℕ) → count ≡ 0 → bytes ≡ counted count ++ more
    → bytes ≡ counted 0 ++ more
zero_told count bytes more z e = e ∙ ap (λ n. counted n ++ more) z
