-- Which keys an ask wants, as bytes (docs/formats/key-bytes.md).
use Rattle.std.specs.Prelude.{◌≡◌, ◌↔◌, ◌⊎◌, ℕ, true, List, [], ◌++◌, Option, Some, None}
use Rattle.alt_base.specs.Prefix.{IsPrefix}
use Rattle.alt_value.specs.declared.kind.KeyKind.{KeyKind}
use Rattle.alt_value.specs.Stands.{tree_of}
use Rattle.alt_value.specs.Tree.{Tree, S_tree, B_tree}
use Rattle.alt_expr.specs.KeyForm.{in_range}
use Rattle.alt_keyorder.specs.KeyBytes.{key_bytes, escaped, IsKey}
use Rattle.alt_keyorder.specs.Kinds.{IsOfKind, IsKeyFor}
use Rattle.alt_keyorder.specs.Place.{place_bytes, place_in_table}
use Rattle.alt_keyorder.specs.Range.{IsByteString, IsBelow, IsInRange, IsUpTo}
use Rattle.alt_keycond.specs.Asked.{test_of}
use Rattle.alt_keycond.specs.declared.ask.KeyAsk.{KeyAsk}
use Rattle.alt_keycond.specs.declared.ask.RangeAsk.{RangeAsk}
use Rattle.alt_keycond.specs.declared.ask.RangeAsk.TheVariants as r

-- a value is a text or a binary
abbrev pub HasFront : Tree → Type 0
HasFront (S_tree s) = Unit {0}
HasFront (B_tree b) = Unit {0}
HasFront _ = ⊥

-- the values that are asked of a RANGE attribute are keys, and a front is a text or a binary
abbrev pub AsksKeys : RangeAsk → Type 0
AsksKeys r.All = Unit {0}
AsksKeys (r.Eq v) = IsKey (tree_of v)
AsksKeys (r.Lt v) = IsKey (tree_of v)
AsksKeys (r.Le v) = IsKey (tree_of v)
AsksKeys (r.Gt v) = IsKey (tree_of v)
AsksKeys (r.Ge v) = IsKey (tree_of v)
AsksKeys (r.Between low high) = IsKey (tree_of low) × IsKey (tree_of high)
AsksKeys (r.Begins v) = HasFront (tree_of v)

-- they are of that kind; nothing is asked where there is no RANGE key
abbrev pub AsksOfKind : Option KeyKind → RangeAsk → Type 0
AsksOfKind k r.All = Unit {0}
AsksOfKind (Some k) (r.Eq v) = IsOfKind k (tree_of v)
AsksOfKind (Some k) (r.Lt v) = IsOfKind k (tree_of v)
AsksOfKind (Some k) (r.Le v) = IsOfKind k (tree_of v)
AsksOfKind (Some k) (r.Gt v) = IsOfKind k (tree_of v)
AsksOfKind (Some k) (r.Ge v) = IsOfKind k (tree_of v)
AsksOfKind (Some k) (r.Between low high) = IsOfKind k (tree_of low) × IsOfKind k (tree_of high)
AsksOfKind (Some k) (r.Begins v) = IsOfKind k (tree_of v)
AsksOfKind None _ = ⊥

-- Of all keys of such kinds, in a table and, as their front, in an index, a range holds exactly those that the ask wants: those
-- with its HASH value whose RANGE value meets its test.
unfoldable pub HoldsAsked : KeyAsk → List ℕ → Option (List ℕ) → Type 0
HoldsAsked ask from to =
    (h : KeyKind) (k : Option KeyKind) → IsOfKind h (tree_of ask.hash) → AsksOfKind k ask.range
    → (hash : Tree) (range : Option Tree) (more : List ℕ) → IsKeyFor h k hash range
    → IsByteString (place_bytes (place_in_table hash range) ++ more)
    → IsInRange from to (place_bytes (place_in_table hash range) ++ more)
    ↔ ((hash ≡ tree_of ask.hash) × (in_range (test_of ask.range) range ≡ true))

-- ---- for private contracts

-- the bytes that a key part begins with where its value begins with this one
abbrev pub front_bytes : Tree → List ℕ
front_bytes (S_tree s) = escaped s
front_bytes (B_tree b) = escaped b
front_bytes _ = []

-- bytes before a part, or that begin with it
abbrev pub IsUpToPart : List ℕ → List ℕ → Type 0
IsUpToPart y part = IsBelow y part ⊎ IsPrefix part y

-- what stands behind the HASH value meets what is asked
abbrev pub Meets : RangeAsk → List ℕ → Type 0
Meets r.All y = Unit {0}
Meets (r.Eq v) y = IsPrefix (key_bytes (tree_of v)) y
Meets (r.Lt v) y = IsBelow y (key_bytes (tree_of v))
Meets (r.Le v) y = IsUpToPart y (key_bytes (tree_of v))
Meets (r.Gt v) y = IsUpTo (key_bytes (tree_of v)) y × (IsPrefix (key_bytes (tree_of v)) y → ⊥)
Meets (r.Ge v) y = IsUpTo (key_bytes (tree_of v)) y
Meets (r.Between low high) y = IsUpTo (key_bytes (tree_of low)) y
    × IsUpToPart y (key_bytes (tree_of high))
Meets (r.Begins v) y = IsPrefix (front_bytes (tree_of v)) y

-- the keys of a range are those that begin with the front and go on with what meets the ask
unfoldable pub IsRangeUnder : List ℕ → RangeAsk → List ℕ → Option (List ℕ) → Type 0
IsRangeUnder front range from to =
    (key : List ℕ) → IsByteString key → IsInRange from to key
    ↔ ((y : List ℕ) × (key ≡ front ++ y) × Meets range y)

-- the keys of a range are those that begin with the prefix
unfoldable pub IsRangeOf : List ℕ → List ℕ → Option (List ℕ) → Type 0
IsRangeOf prefix from to = (key : List ℕ) → IsByteString key → IsPrefix prefix key
    ↔ IsInRange from to key
