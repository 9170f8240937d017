-- Where an item stands among the items of a table or of an index, and its key bytes.
use Rattle.std.specs.Prelude.{ℕ, ◌<◌, ◌^◌, List, [], ◌∷◌, ◌++◌, Option, Some, None}
use Rattle.std.specs.Int.{w64, to_be_bytes}
use Rattle.std.specs.List.{AllByRecursion, flat_map}
use Rattle.std.specs.Ordering.{nat_cmp, ordering_then}
use Rattle.std.specs.declared.cmp.Ordering.{Ordering}
use Rattle.std.specs.declared.cmp.Ordering.TheVariants.{Equal}
use Rattle.alt_decimal.specs.Number.{FitsDecimal}
use Rattle.alt_value.specs.Order.{tree_order}
use Rattle.alt_value.specs.Tree.{Tree, S_tree, N_tree, B_tree}
use Rattle.alt_keyorder.specs.KeyBytes.{key_bytes}
use Rattle.alt_keyorder.specs.Token.{token_of}

-- a token, and then key values
pub record Place : Type 0 where
  pub token : ℕ
  pub parts : List Tree

-- a HASH value, and the RANGE value where the keys have one
abbrev pub key_values : Tree → Option Tree → List Tree
key_values hash None = hash ∷ []
key_values hash (Some range) = hash ∷ range ∷ []

-- in a table: the token of the HASH value, the HASH value and the RANGE value
abbrev pub place_in_table : Tree → Option Tree → Place
place_in_table hash range = record { token = token_of hash; parts = key_values hash range }

-- in an index: the token of the index's HASH value, the index's HASH and RANGE values, and then the table's
abbrev pub place_in_index : Tree → Option Tree → Tree → Option Tree → Place
place_in_index index_hash index_range hash range =
    record { token = token_of index_hash; parts = key_values index_hash index_range ++ key_values hash range }

-- one order after another, where there are both
abbrev pub then_order : Option Ordering → Option Ordering → Option Ordering
then_order (Some o) (Some p) = Some (ordering_then o p)
then_order (Some o) None = None
then_order None _ = None

-- part by part: the first parts that differ decide. There is no order of parts of other kinds or of another number.
abbrev pub parts_order : List Tree → List Tree → Option Ordering
parts_order [] [] = Some Equal
parts_order [] (u ∷ us) = None
parts_order (t ∷ ts) [] = None
parts_order (t ∷ ts) (u ∷ us) = then_order (tree_order t u) (parts_order ts us)

-- the token comes first
abbrev pub place_order : Place → Place → Option Ordering
place_order p q = then_order (Some (nat_cmp p.token q.token)) (parts_order p.parts q.parts)

-- the key bytes: the token in 8 bytes, high byte first, and then the key parts put together
abbrev pub place_bytes : Place → List ℕ
place_bytes p = to_be_bytes w64 p.token ++ flat_map key_bytes p.parts

-- a value that a key can have: a number that a `Decimal` holds, a text or a binary
abbrev pub IsKeyValue : Tree → Type 0
IsKeyValue (S_tree s) = Unit {0}
IsKeyValue (N_tree z) = FitsDecimal z
IsKeyValue (B_tree b) = Unit {0}
IsKeyValue _ = ⊥

-- 8 bytes tell the token, and each part is a key's
pub record IsPlace (p : Place) : Type 0 where
  pub token : p.token < 2 ^ 64
  pub parts : AllByRecursion IsKeyValue p.parts
