-- Which keys a range holds, in the order of their bytes.
use Rattle.std.specs.Prelude.{◌≡◌, ◌≢◌, ◌<◌, ℕ, List, [], ◌∷◌, ◌++◌, Option, Some, None}
use Rattle.std.specs.declared.cmp.Ordering.TheVariants.{Less, Greater}
use Rattle.alt_value.specs.Members.{text_order}

-- bytes before others
abbrev pub IsBelow : List ℕ → List ℕ → Type 0
IsBelow k l = text_order k l ≡ Less

-- bytes that are not above others
abbrev pub IsUpTo : List ℕ → List ℕ → Type 0
IsUpTo k l = text_order k l ≢ Greater

-- bytes below an end, where there is one
abbrev pub IsBelowEnd : List ℕ → Option (List ℕ) → Type 0
IsBelowEnd k None = Unit {0}
IsBelowEnd k (Some to) = IsBelow k to

-- from the first key of the range on, and below its end if it has one
abbrev pub IsInRange : List ℕ → Option (List ℕ) → List ℕ → Type 0
IsInRange from to k = IsUpTo from k × IsBelowEnd k to

-- numbers below 256
abbrev pub IsByteString : List ℕ → Type 0
IsByteString [] = Unit {0}
IsByteString (b ∷ bytes) = (b < 256) × IsByteString bytes

-- each byte is 255
abbrev pub AreHighestBytes : List ℕ → Type 0
AreHighestBytes [] = Unit {0}
AreHighestBytes (b ∷ bytes) = (b ≡ 255) × AreHighestBytes bytes

-- the last byte below 255 and what stands before it
pub record IsBoundOf (front : List ℕ) (last : ℕ) (prefix : List ℕ) : Type 0 where
  pub behind : List ℕ
  pub is : prefix ≡ front ++ last ∷ behind
  pub full : AreHighestBytes behind
  pub below : last < 255
