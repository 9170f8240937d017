-- Key bytes, whose byte order is the order of keys (docs/formats/key-bytes.md).
use Rattle.std.specs.Prelude.{◌≡◌, ℕ, zero, suc, Bool, if◌then◌else◌, List, [], ◌∷◌, ◌++◌, length}
use Rattle.std.specs.Str.{IsUtf8}
use Rattle.std.specs.Ordering.{ordering_then}
use Rattle.std.specs.declared.cmp.Ordering.{Ordering}
use Rattle.alt_decimal.specs.Number.{FitsDecimal}
use Rattle.alt_decimal.specs.Spelled.{spelled}
use Rattle.alt_value.specs.declared.kind.KeyKind.{KeyKind}
use Rattle.alt_value.specs.declared.kind.KeyKind.TheVariants.{S, N, B}
use Rattle.alt_value.specs.Members.{text_order}
use Rattle.alt_value.specs.Tree.{Tree, S_tree, N_tree, B_tree}

-- each byte 0 with a byte 255 behind it
abbrev pub escaped : List ℕ → List ℕ
escaped [] = []
escaped (zero ∷ s) = 0 ∷ 255 ∷ escaped s
escaped (suc b ∷ s) = suc b ∷ escaped s

-- no byte is 0
abbrev pub IsClean : List ℕ → Type 0
IsClean [] = Unit {0}
IsClean (zero ∷ s) = ⊥
IsClean (suc b ∷ s) = IsClean s

-- the bytes so that their end is seen: two bytes 0
abbrev pub closed : List ℕ → List ℕ
closed s = escaped s ++ 0 ∷ 0 ∷ []

-- the key part of a text, a number or a binary; other values have none
abbrev pub key_bytes : Tree → List ℕ
key_bytes (S_tree s) = closed s
key_bytes (N_tree z) = spelled z
key_bytes (B_tree b) = closed b
key_bytes _ = []

-- a value that can be a key attribute of that kind: a text in UTF-8, a number that fits, a binary
abbrev pub IsKeyOf : KeyKind → Tree → Type 0
IsKeyOf S (S_tree s) = IsUtf8 s
IsKeyOf N (N_tree z) = FitsDecimal z
IsKeyOf B (B_tree b) = Unit {0}
IsKeyOf _ _ = ⊥

-- a value of kind S, N or B
abbrev pub IsKey : Tree → Type 0
IsKey (S_tree s) = Unit {0}
IsKey (N_tree z) = Unit {0}
IsKey (B_tree b) = Unit {0}
IsKey _ = ⊥

-- that is the order of the key parts of two values, whatever follows them: what follows decides where the values are equal
abbrev pub IsPartOrder : Tree → Tree → Ordering → Type 0
IsPartOrder t u o = (x y : List ℕ) → text_order (key_bytes t ++ x) (key_bytes u ++ y)
    ≡ ordering_then o (text_order x y)

-- the key part of one value begins bytes that the part of the other begins only where they are one value
abbrev pub KeyBytesAreApart : Tree → Tree → Type 0
KeyBytesAreApart t u = (x y : List ℕ) → key_bytes t ++ x ≡ key_bytes u ++ y → t ≡ u

-- the key part of a value of that kind stands at the front, and has so many bytes
pub record IsPart (kind : KeyKind) (bytes : List ℕ) (t : Tree) (len : ℕ) : Type 0 where
  pub key : IsKeyOf kind t
  pub behind : List ℕ
  pub is : bytes ≡ key_bytes t ++ behind
  pub count : len ≡ length (key_bytes t)

-- no key part of that kind stands at the front
abbrev pub NoPart : KeyKind → List ℕ → Type 0
NoPart kind bytes = (t : Tree) (behind : List ℕ) → IsKeyOf kind t
    → bytes ≡ key_bytes t ++ behind → ⊥

-- no closed bytes stand at the front
abbrev pub IsUnclosed : List ℕ → Type 0
IsUnclosed bytes = (s behind : List ℕ) → bytes ≡ closed s ++ behind → ⊥

-- these closed bytes stand at the front, and have so many bytes
pub record IsClosedAt (bytes s : List ℕ) (len : ℕ) : Type 0 where
  pub behind : List ℕ
  pub is : bytes ≡ closed s ++ behind
  pub count : len ≡ length (closed s)

-- before the first 0 stands the front, and behind it the mark: 255, or else 0
pub record IsCutAtZero (bytes front : List ℕ) (goes_on : Bool) (after : List ℕ) : Type 0 where
  pub is : bytes ≡ front ++ 0 ∷ (if goes_on then 255 else 0) ∷ after
  pub clean : IsClean front
