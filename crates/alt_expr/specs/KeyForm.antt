-- The form of a key condition, and what it asks (AWS Developer Guide, "Key condition expressions for the Query operation"): the
-- HASH attribute equals a value, alone or, in either order, with one condition on the RANGE attribute. Each path is the key
-- attribute itself, and each other operand a given value of its kind. A comparison with the value at the left is turned round.
use Rattle.std.specs.Prelude.{ℕ, Bool, true, false, ◌&&◌, if◌then◌else◌, List, [], ◌∷◌, Option, Some, None}
use Rattle.std.specs.Str.{bytes_eq}
use Rattle.alt_value.specs.declared.attr.Attr.{Attr}
use Rattle.alt_value.specs.declared.attr.Attr.TheVariants as a
use Rattle.alt_value.specs.declared.kind.KeyKind.{KeyKind}
use Rattle.alt_value.specs.declared.kind.KeyKind.TheVariants as kind
use Rattle.alt_value.specs.Stands.{tree_of}
use Rattle.alt_value.specs.Tree.{Tree}
use Rattle.alt_expr.specs.declared.path.PathPart.{PathPart}
use Rattle.alt_expr.specs.declared.path.PathPart.TheVariants as p
use Rattle.alt_expr.specs.declared.cond.Comparison.{Comparison}
use Rattle.alt_expr.specs.declared.cond.Comparison.TheVariants as c
use Rattle.alt_expr.specs.declared.cond.Operand.{Operand}
use Rattle.alt_expr.specs.declared.cond.Operand.TheVariants as o
use Rattle.alt_expr.specs.declared.cond.Cond.{Cond, out-Cond}
use Rattle.alt_expr.specs.declared.cond.Cond.TheOpen.{Cond-F}
use Rattle.alt_expr.specs.Located.{View}
use Rattle.alt_expr.specs.Holds.{compares, begins}

-- a key attribute: its name and its kind
pub record Key : Type 0 where
  pub name : List ℕ
  pub kind : KeyKind

-- what is asked of a RANGE value: nothing, a comparison with a value, two bounds, or a front
pub data RangeTest : Type 0 where
  anything : RangeTest
  compared : Comparison → Attr → RangeTest
  between : Attr → Attr → RangeTest
  fronted : Attr → RangeTest

-- what a key condition asks: the HASH value, and a test of the RANGE value
pub record Ask : Type 0 where
  pub hash : Attr
  pub range : RangeTest

-- ---- operands

-- the operand is the key attribute itself
abbrev pub is_key_operand : Key → Operand → Bool
is_key_operand key (o.At (p.Name n ∷ [])) = bytes_eq n key.name
is_key_operand key _ = false

-- the value is of the kind
abbrev pub has_kind : KeyKind → Attr → Bool
has_kind kind.S (a.S s) = true
has_kind kind.N (a.N z) = true
has_kind kind.B (a.B b) = true
has_kind _ _ = false

-- a given value of the key's kind
abbrev pub value_for : Key → Operand → Option Attr
value_for key (o.Value v) = if has_kind key.kind v then Some v else None
value_for key _ = None

-- ---- comparisons

-- the comparison with its sides changed
abbrev pub mirrored : Comparison → Comparison
mirrored c.Equal = c.Equal
mirrored c.NotEqual = c.NotEqual
mirrored c.Less = c.Greater
mirrored c.LessEqual = c.GreaterEqual
mirrored c.Greater = c.Less
mirrored c.GreaterEqual = c.LessEqual

-- the comparison with a value that is there
abbrev pub comparison_with_value : Comparison → Option Attr → Option (Comparison × Attr)
comparison_with_value by (Some v) = Some (by, v)
comparison_with_value by None = None

-- how the key is compared with a value; turned round where the value stands at the left
abbrev pub key_test : Key → Comparison → Operand → Operand → Option (Comparison × Attr)
key_test key by x y =
    if is_key_operand key x then comparison_with_value by (value_for key y)
    else if is_key_operand key y then comparison_with_value (mirrored by) (value_for key x)
    else None

-- ---- the HASH attribute

-- the value of a comparison that is `=`
abbrev pub equal_value : Option (Comparison × Attr) → Option Attr
equal_value (Some (c.Equal, v)) = Some v
equal_value _ = None

-- the value that the HASH attribute is to equal, by the top of a tree
abbrev pub hash_at : Key → Cond-F Cond → Option Attr
hash_at key (Cond-F.Compare by x y) = equal_value (key_test key by x y)
hash_at key _ = None

-- the value that a condition wants the HASH attribute to equal
abbrev pub hash_value : Key → Cond → Option Attr
hash_value key x = hash_at key (out-Cond x)

-- ---- the RANGE attribute

-- each comparison but `<>` is a test of the RANGE value
abbrev pub range_comparison : Option (Comparison × Attr) → Option RangeTest
range_comparison None = None
range_comparison (Some (c.NotEqual, v)) = None
range_comparison (Some (by, v)) = Some (compared by v)

-- BETWEEN with both its bounds
abbrev pub range_between : Option Attr → Option Attr → Option RangeTest
range_between (Some low) (Some high) = Some (between low high)
range_between _ _ = None

-- a text or a binary may begin with a front; a number has none
abbrev pub range_front : KeyKind → Option Attr → Option RangeTest
range_front kind.N front = None
range_front _ (Some v) = Some (fronted v)
range_front _ None = None

-- what is asked of the RANGE attribute, by the top of a tree
abbrev pub range_at : Key → Cond-F Cond → Option RangeTest
range_at key (Cond-F.Compare by x y) = range_comparison (key_test key by x y)
range_at key (Cond-F.Between x low high) =
    if is_key_operand key x then range_between (value_for key low) (value_for key high) else None
range_at key (Cond-F.BeginsWith x y) =
    if is_key_operand key x then range_front key.kind (value_for key y) else None
range_at key _ = None

-- what a condition asks of the RANGE attribute
abbrev pub range_test : Key → Cond → Option RangeTest
range_test key x = range_at key (out-Cond x)

-- ---- the whole

-- both parts, where both are there
abbrev pub ask_of_parts : Option Attr → Option RangeTest → Option Ask
ask_of_parts (Some v) (Some test) = Some (record { hash = v; range = test })
ask_of_parts _ _ = None

-- the first on the HASH attribute and the second on the RANGE attribute, which has to be there
abbrev pub both_asked : Key → Option Key → Cond → Cond → Option Ask
both_asked hash (Some range) x y = ask_of_parts (hash_value hash x) (range_test range y)
both_asked hash None x y = None

-- the first, else the second
abbrev pub or_else : Option Ask → Option Ask → Option Ask
or_else (Some k) other = Some k
or_else None other = other

-- two conditions, in either order
abbrev pub joined_ask : Key → Option Key → List Cond → Option Ask
joined_ask hash range (x ∷ y ∷ []) = or_else (both_asked hash range x y) (both_asked hash range y x)
joined_ask hash range _ = None

-- what a condition of this form asks, by the top of its tree
abbrev pub ask_at : Key → Option Key → Cond-F Cond → Option Ask
ask_at hash range (Cond-F.All members) = joined_ask hash range members
ask_at hash range top = ask_of_parts (hash_at hash top) (Some anything)

-- what a condition asks; none where it isn't of the form
unfoldable pub ask_of : Key → Option Key → Cond → Option Ask
ask_of hash range x = ask_at hash range (out-Cond x)

-- ---- what meets it

-- a RANGE value meets the test
abbrev pub in_range : RangeTest → Option Tree → Bool
in_range anything t = true
in_range (compared by v) t = compares by t (Some (tree_of v))
in_range (between low high) t =
    compares c.GreaterEqual t (Some (tree_of low)) && compares c.LessEqual t (Some (tree_of high))
in_range (fronted v) t = begins t (Some (tree_of v))

-- the RANGE value of an item meets the test; where there is no RANGE key, nothing is asked
abbrev pub range_meets : Option Key → RangeTest → View → Bool
range_meets (Some range) test item = in_range test (item range.name)
range_meets None test item = true

-- an item has the HASH value, and its RANGE value meets the test
abbrev pub meets : Key → Option Key → Ask → View → Bool
meets hash range ask item =
    compares c.Equal (item hash.name) (Some (tree_of ask.hash)) && range_meets range ask.range item
