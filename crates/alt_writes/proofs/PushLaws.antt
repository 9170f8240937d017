-- Writes more behind others.
use Rattle.std.proofs.Common.{◌≡◌, ◌≤◌, ◌<◌, ◌+◌, ℕ, suc, List, [], ◌∷◌, ◌++◌, length, drop, get_or, refl, ap, arith}
use Rattle.std.proofs.lemmas.List.{drop_more}
use Rattle.alt_cells.specs.declared.batch.RowChange.{RowChange}
use Rattle.alt_writes.specs.Writes.{Write, AreRising, numbered, past}
use Rattle.alt_writes.specs.Bytes.{AllHeld, IsHeldWrite}

-- what a further write says fits, so all do
pub held-push : (ws : List Write) (w : Write) → AllHeld ws → IsHeldWrite w → AllHeld (ws ++ w ∷ [])
held-push [] w held fits = (fits, tt)
held-push (v ∷ vs) w held fits = (held.0, held-push vs w held.1 fits)

-- several further writes that fit
pub held-join : (vs ws : List Write) → AllHeld vs → AllHeld ws → AllHeld (vs ++ ws)
held-join [] ws held fits = fits
held-join (v ∷ vs) ws held fits = (held.0, held-join vs ws held.1 fits)

-- the number behind a further write is one past its own
pub past-push : (number : ℕ) (ws : List Write) (w : Write)
    → past number (ws ++ w ∷ []) ≡ w.number + 1
past-push number [] w = refl
past-push number (v ∷ vs) w = past-push (v.number + 1) vs w

-- and where it isn't below that of the writes before, all rise
pub rising-push : (number : ℕ) (ws : List Write) (w : Write) → AreRising number ws
    → past number ws ≤ w.number → AreRising number (ws ++ w ∷ [])
rising-push number [] w rising later = (later, tt)
rising-push number (v ∷ vs) w rising later =
    (rising.0, rising-push (v.number + 1) vs w rising.1 later)

-- batches as writes rise from their first number on
pub rising-numbered : (number : ℕ) (bs : List (List RowChange))
    → AreRising number (numbered number bs)
rising-numbered number [] = tt
rising-numbered number (b ∷ bs) = (omega arith, rising-numbered (number + 1) bs)

-- and there are as many
pub length-numbered : (number : ℕ) (bs : List (List RowChange))
    → length (numbered number bs) ≡ length bs
length-numbered number [] = refl
length-numbered number (b ∷ bs) = ap (λ n. suc n) (length-numbered (number + 1) bs)

-- those from one on
pub numbered-drop : (number i : ℕ) (bs : List (List RowChange)) → i < length bs
    → numbered number (drop i bs)
    ≡ record { number = number; changes = get_or bs i [] } ∷ numbered (number + 1) (drop (i + 1) bs)
numbered-drop number i bs less = ap (numbered number) (drop_more bs i [] less)
