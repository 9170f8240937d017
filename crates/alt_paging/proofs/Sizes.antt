-- The sizes of items.
use Rattle.std.proofs.Common.{◌≡◌, ◌≢◌, ◌⊎◌, inl, inr, refl, ap, min, ℕ, ◌+◌, ◌-◌, ◌*◌, ◌/◌, ◌<◌, ◌≤◌, Bool, true, false, List, [], ◌∷◌, Some, None, nat_le, arith, le_trans, mul-le-mul_right, mul_comm}
use Rattle.std.specs.Prelude.{if◌then◌else◌}
use Rattle.std.proofs.Math.Nat.{div-mul-le_self, lt-mul-div-succ}
use Rattle.std.proofs.lemmas.Bool.{cases_lt}
use Rattle.alt_expr.specs.Pages.{page_bytes}
use Rattle.alt_value.specs.Item.{IsItem}
use Rattle.alt_value.specs.Size.{item_size, within}
use Rattle.alt_value.specs.Tree.{Pair}

-- an item that isn't empty has a name, and that has bytes
pub item_bytes : (item : List Pair) → IsItem item → item ≢ [] → 0 < item_size item
item_bytes [] h some = absurd (some refl)
item_bytes (([], t) ∷ ps) h some = absurd h.1
item_bytes ((b ∷ name, t) ∷ ps) h some = omega arith

-- a size that is within some bytes is that size
pub within_some : (most size n : ℕ) → Some n ≡ within most size → n ≡ size
within_some most size n e = by (nat_le size most) e
  where
    by : (b : Bool) → Some n ≡ (if b then Some size else None) → n ≡ size
    by true f = cc
    by false f = absurd (let g : ⊥ = cc in g)

-- so many items of that size fit where they are at most the bytes that are left, divided by it
pub room_left : (left largest n total : ℕ) → 0 < largest → 0 < left → left ≡ page_bytes - total
    → n < (left - 1) / largest + 1 → total + largest * n < page_bytes
room_left left largest n total some going is few =
    let most : n ≤ (left - 1) / largest = omega (arith, few) in
    let fits : n * largest ≤ left - 1 = le_trans (mul-le-mul_right largest most)
    (div-mul-le_self (left - 1) largest) in
    let turned = mul_comm n largest in
    omega (arith, fits, turned, is, going)

-- and one more of them has as many bytes as are left, or more
pub no_room : (left largest n total : ℕ) → 0 < largest → 0 < left → left ≡ page_bytes - total
    → n ≡ (left - 1) / largest + 1 → page_bytes ≤ total + largest * n
no_room left largest n total some going is all =
    let over : left - 1 < largest * ((left - 1) / largest + 1) = lt-mul-div-succ (left - 1) some in
    let same : largest * n ≡ largest * ((left - 1) / largest + 1) = ap (λ k. largest * k) all in
    omega (arith, over, same, is, going)

-- the lesser of two numbers is one of them
pub by_least : {P : Type 0} (a b n : ℕ) → n ≡ min a b → (n ≡ a → P) → (n ≡ b → P) → P
by_least {P} a b n is first second = by (cases_lt b a)
  where
    by : (b < a) ⊎ (a ≤ b) → P
    by (inl less) = second (omega (arith, is, less))
    by (inr le) = first (omega (arith, is, le))
