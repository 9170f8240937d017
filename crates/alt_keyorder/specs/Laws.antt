-- The laws of key parts and of places, in tables and in indexes.
use Rattle.std.specs.Prelude.{◌≡◌, ◌↔◌, ℕ, ◌<◌, ◌^◌, List, ◌++◌, Option, Some, None}
use Rattle.std.specs.Ordering.{ordering_then}
use Rattle.std.specs.declared.cmp.Ordering.{Ordering}
use Rattle.std.specs.declared.cmp.Ordering.TheVariants.{Equal}
use Rattle.alt_base.specs.Prefix.{IsPrefix}
use Rattle.alt_value.specs.declared.kind.KeyKind.{KeyKind}
use Rattle.alt_value.specs.Members.{text_order}
use Rattle.alt_value.specs.Order.{tree_order}
use Rattle.alt_value.specs.Tree.{Tree}
use Rattle.alt_keyorder.specs.KeyBytes.{key_bytes, IsPartOrder}
use Rattle.alt_keyorder.specs.Kinds.{IsOfKind, IsKeyFor, IsPlaceOf}
use Rattle.alt_keyorder.specs.Place.{Place, place_order, place_bytes, place_in_table, place_in_index, IsPlace}
use Rattle.alt_keyorder.specs.Token.{token_of}

-- ---- laws of parts

-- Whatever follows it, the key part of a value is that of no other value of its kind.
abbrev pub OnePart : Type 0
OnePart = (kind : KeyKind) (t u : Tree) (x y : List ℕ) → IsOfKind kind t → IsOfKind kind u
    → key_bytes t ++ x ≡ key_bytes u ++ y → (t ≡ u) × (x ≡ y)

-- Values of one kind have an order, and their key parts lie so, whatever follows: what follows decides exactly where they are equal.
abbrev pub PartsLie : Type 0
PartsLie = (kind : KeyKind) (t u : Tree) → IsOfKind kind t → IsOfKind kind u
    → (o : Ordering) × (tree_order t u ≡ Some o) × IsPartOrder t u o

-- ---- laws of places

-- The byte order of key bytes is the order of places, whatever follows: what follows decides exactly where the places are equal.
abbrev pub KeysLieAsPlaces : Type 0
KeysLieAsPlaces =
    (p q : Place) (o : Ordering) (x y : List ℕ) → IsPlace p → IsPlace q → place_order p q ≡ Some o
    → text_order (place_bytes p ++ x) (place_bytes q ++ y) ≡ ordering_then o (text_order x y)

-- Key bytes of places that can be compared are equal only for equal places.
abbrev pub KeysTellPlaces : Type 0
KeysTellPlaces = (p q : Place) (o : Ordering) → IsPlace p → IsPlace q → place_order p q ≡ Some o
    → place_bytes p ≡ place_bytes q → p ≡ q

-- Places whose parts are of the same kinds have an order, which only equal places tie in, and their key bytes lie so.
pub record Lie (p q : Place) : Type 0 where
  pub order : Ordering
  pub is : place_order p q ≡ Some order
  pub bytes : text_order (place_bytes p) (place_bytes q) ≡ order
  pub ties : order ≡ Equal → p ≡ q

-- Places whose parts are of the same kinds lie so.
abbrev pub PlacesLie : Type 0
PlacesLie = (kinds : List KeyKind) (p q : Place) → IsPlaceOf kinds p → IsPlaceOf kinds q → Lie p q

-- Whatever follows them, the key bytes of a place are those of no other place whose parts are of the same kinds.
abbrev pub OnePlace : Type 0
OnePlace = (kinds : List KeyKind) (p q : Place) (x y : List ℕ) → IsPlaceOf kinds p
    → IsPlaceOf kinds q
    → place_bytes p ++ x ≡ place_bytes q ++ y → (p ≡ q) × (x ≡ y)

-- ---- laws of tables and indexes

-- 8 bytes tell the token of each value
abbrev pub TokensFit : Type 0
TokensFit = (t : Tree) → token_of t < 2 ^ 64

-- In a table equal key bytes are those of equal keys.
abbrev pub TableKeysTell : Type 0
TableKeysTell = (h : KeyKind) (r : Option KeyKind) (hash : Tree) (range : Option Tree)
    (other : Tree) (beside : Option Tree)
    → IsKeyFor h r hash range → IsKeyFor h r other beside
    → place_bytes (place_in_table hash range) ≡ place_bytes (place_in_table other beside)
    → (hash ≡ other) × (range ≡ beside)

-- In a table key bytes lie as places do: by the token, then by the HASH value, then by the RANGE value.
abbrev pub TableKeysLie : Type 0
TableKeysLie = (h : KeyKind) (r : Option KeyKind) (hash : Tree) (range : Option Tree) (other : Tree)
    (beside : Option Tree)
    → IsKeyFor h r hash range → IsKeyFor h r other beside
    → Lie (place_in_table hash range) (place_in_table other beside)

-- The keys with one HASH value are those that begin with the key bytes of a place with no RANGE value.
abbrev pub HashKeysBegin : Type 0
HashKeysBegin = (h : KeyKind) (hash other : Tree) (range : Option Tree) → IsOfKind h hash
    → IsOfKind h other
    → (hash ≡ other) ↔ IsPrefix (place_bytes (place_in_table hash None))
    (place_bytes (place_in_table other range))

-- In an index equal key bytes are those of equal keys of the index and of equal keys of the table.
abbrev pub IndexKeysTell : Type 0
IndexKeysTell = (ih : KeyKind) (ir : Option KeyKind) (h : KeyKind) (r : Option KeyKind)
    (a : Tree) (b : Option Tree) (c : Tree) (d : Option Tree) (e : Tree) (f : Option Tree)
    (g : Tree) (i : Option Tree)
    → IsKeyFor ih ir a b → IsKeyFor h r c d → IsKeyFor ih ir e f → IsKeyFor h r g i
    → place_bytes (place_in_index a b c d) ≡ place_bytes (place_in_index e f g i)
    → (a ≡ e) × (b ≡ f) × (c ≡ g) × (d ≡ i)

-- In an index key bytes lie as places do: by the index's keys as in a table, and then by the table's.
abbrev pub IndexKeysLie : Type 0
IndexKeysLie = (ih : KeyKind) (ir : Option KeyKind) (h : KeyKind) (r : Option KeyKind)
    (a : Tree) (b : Option Tree) (c : Tree) (d : Option Tree) (e : Tree) (f : Option Tree)
    (g : Tree) (i : Option Tree)
    → IsKeyFor ih ir a b → IsKeyFor h r c d → IsKeyFor ih ir e f → IsKeyFor h r g i
    → Lie (place_in_index a b c d) (place_in_index e f g i)
