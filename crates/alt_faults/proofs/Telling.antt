-- What one fault tells leads to what it tells otherwise.
use Rattle.std.proofs.Common.{ℕ, List}
use Rattle.alt_faults.specs.Faults.{Damage, bad_bytes, bad_digest, bad_row, Fault, failed, no_memory, spent, damaged, IsMemoryRefused, IsOutside, IsUndamaged, IsUnspent, OnlyDamaged, OnlyRow, OnlySpent, Outside, RowWhere, Tells, without_numbers}

-- what is asked of a number and of damage is met by a fault that tells neither
pub outside-tells : (P : ℕ → Type 0) (Q : Damage → Type 0) (f : Fault) → IsOutside f → Tells P Q f
outside-tells P Q failed h = tt
outside-tells P Q no_memory h = tt
outside-tells P Q (spent n) h = absurd h
outside-tells P Q (damaged d) h = absurd h

-- what is asked may be weakened
pub tells-more : (P R : ℕ → Type 0) (Q S : Damage → Type 0) → ((n : ℕ) → P n → R n)
    → ((d : Damage) → Q d → S d) → (f : Fault) → Tells P Q f → Tells R S f
tells-more P R Q S spends spoils failed h = tt
tells-more P R Q S spends spoils no_memory h = tt
tells-more P R Q S spends spoils (spent n) h = spends n h
tells-more P R Q S spends spoils (damaged d) h = spoils d h

-- so may what is asked of a wrong row
pub row-more : (P Q : ℕ → List ℕ → Type 0) → ((family : ℕ) (key : List ℕ) → P family key
    → Q family key) → (f : Fault) → OnlyRow P f → OnlyRow Q f
row-more P Q leads f = tells-more (λ n. ⊥) (λ n. ⊥) (RowWhere P) (RowWhere Q) (λ n no. no) by f
  where
    by : (d : Damage) → RowWhere P d → RowWhere Q d
    by (bad_bytes file place) h = h
    by (bad_digest file kept found) h = h
    by (bad_row family key) h = leads family key h

-- of a fault that tells no damage what is asked of its number is all
pub only-spent : (P : ℕ → Type 0) (f : Fault) → Tells P (λ damage. Unit {0}) f → IsUndamaged f
    → OnlySpent P f
only-spent P failed told whole = tt
only-spent P no_memory told whole = tt
only-spent P (spent n) told whole = told
only-spent P (damaged d) told whole = whole

-- two things that are so of damage are so together
pub both-damaged : (P Q : Damage → Type 0) (f : Fault) → OnlyDamaged P f → OnlyDamaged Q f
    → OnlyDamaged (λ d. P d × Q d) f
both-damaged P Q failed p q = tt
both-damaged P Q no_memory p q = tt
both-damaged P Q (spent n) p q = p
both-damaged P Q (damaged d) p q = (p, q)

-- neither number nor damage: nothing from inside
pub outside-neither : (f : Fault) → IsUnspent f → IsUndamaged f → IsOutside f
outside-neither failed unspent whole = tt
outside-neither no_memory unspent whole = tt
outside-neither (spent n) unspent whole = unspent
outside-neither (damaged d) unspent whole = whole

-- without its number a fault that tells no damage is nothing from inside
pub outside-numbers : (f : Fault) → IsUndamaged f → IsOutside (without_numbers f)
outside-numbers failed h = tt
outside-numbers no_memory h = tt
outside-numbers (spent n) h = tt
outside-numbers (damaged d) h = absurd h

-- want of memory is nothing from inside
pub memory-outside : (f : Fault) → IsMemoryRefused f → IsOutside f
memory-outside failed h = absurd h
memory-outside no_memory h = tt
memory-outside (spent n) h = absurd h
memory-outside (damaged d) h = absurd h

-- ---- what holds where the device failed, or memory was refused

-- both hold of every fault where both are true
pub outside-by : (P Q : Type 0) (f : Fault) → P → Q → Outside P Q f
outside-by P Q failed p q = p
outside-by P Q no_memory p q = q
outside-by P Q (spent n) p q = tt
outside-by P Q (damaged d) p q = tt

-- of want of memory alone the second is asked
pub memory-else : (P Q : Type 0) (f : Fault) → IsMemoryRefused f → Q → Outside P Q f
memory-else P Q failed h q = absurd h
memory-else P Q no_memory h q = q
memory-else P Q (spent n) h q = tt
memory-else P Q (damaged d) h q = tt

-- what is asked may be weakened
pub outside-more : (P R Q S : Type 0) → (P → R) → (Q → S) → (f : Fault) → Outside P Q f
    → Outside R S f
outside-more P R Q S first second failed h = first h
outside-more P R Q S first second no_memory h = second h
outside-more P R Q S first second (spent n) h = tt
outside-more P R Q S first second (damaged d) h = tt
