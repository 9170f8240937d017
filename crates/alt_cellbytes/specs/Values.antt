-- What the bytes ask of a value. It is less than what is true of each value that a program has, but for sets, of which none is
-- empty: so a value that is stored or sent has cell bytes.
use Rattle.std.specs.Prelude.{◌≡◌, ℕ, ◌<◌, List, ◌++◌, length}
use Rattle.std.specs.List.{AllByRecursion}
use Rattle.std.specs.Ordering.{int_cmp}
use Rattle.std.specs.declared.cmp.Ordering.{Ordering}
use Rattle.alt_decimal.specs.Number.{FitsDecimal}
use Rattle.alt_fields.specs.Bytes.{IsShort}
use Rattle.alt_value.specs.CellBytes.{cell_bytes}
use Rattle.alt_value.specs.Item.{IsItem}
use Rattle.alt_value.specs.Members.{IsSet, text_order}
use Rattle.alt_value.specs.Tree.{Tree, S_tree, N_tree, B_tree, BOOL_tree, NULL_tree, SS_tree, NS_tree, BS_tree, L_tree, M_tree, Trees, no_trees, tree_then, Fields, no_fields, field_then, elements, pairs}
use Rattle.alt_value.specs.Values.{IsText, IsWhole}

-- members of a set: each is one of these, and they rise without repeats
abbrev pub AreSetMembers : {K : Type 0} → (K → Type 0) → (K → K → Ordering) → List K → Type 0
AreSetMembers P R ks = AllByRecursion P ks × IsSet R ks

-- one member at least, and no more than 8 bytes can tell
abbrev pub IsWholeSet : {K : Type 0} → (K → Type 0) → (K → K → Ordering) → List K → Type 0
IsWholeSet P R ks = (0 < length ks) × IsShort ks × AreSetMembers P R ks

-- No set is empty; numbers are such as a `Decimal` holds; texts and names are UTF-8; names rise, and none is empty; 8 bytes tell
-- each length and each count.
abbrev mutual
  pub HasBytes : Tree → Type 0
  HasBytes (S_tree s) = IsText s
  HasBytes (N_tree z) = FitsDecimal z
  HasBytes (B_tree b) = IsShort b
  HasBytes (BOOL_tree b) = Unit {0}
  HasBytes NULL_tree = Unit {0}
  HasBytes (SS_tree ss) = IsWholeSet IsText text_order ss
  HasBytes (NS_tree zs) = IsWholeSet FitsDecimal int_cmp zs
  HasBytes (BS_tree bs) = IsWholeSet IsShort text_order bs
  HasBytes (L_tree ts) = IsShort (elements ts) × HaveBytes ts
  HasBytes (M_tree fs) = IsShort (pairs fs) × IsItem (pairs fs) × FieldsHaveBytes fs

  -- each element of a list does
  pub HaveBytes : Trees → Type 0
  HaveBytes no_trees = Unit {0}
  HaveBytes (tree_then t ts) = HasBytes t × HaveBytes ts

  -- names in UTF-8, each with a value that does
  pub FieldsHaveBytes : Fields → Type 0
  FieldsHaveBytes no_fields = Unit {0}
  FieldsHaveBytes (field_then name t fs) = IsText name × HasBytes t × FieldsHaveBytes fs

-- Whatever follows them, cell bytes are of one value, which ends at one place: so each value has one spelling, and none is a
-- prefix of another.
abbrev pub CellBytesArePrefixFree : Type 0
CellBytesArePrefixFree =
    (t u : Tree) (x y : List ℕ) → IsWhole t → IsWhole u → cell_bytes t ++ x ≡ cell_bytes u ++ y → (t ≡ u) × (x ≡ y)

-- these bytes are those of that value, which can be stored and sent, and of no other
abbrev pub AreBytesOf : List ℕ → Tree → Type 0
AreBytesOf bytes t = IsWhole t × (bytes ≡ cell_bytes t) × ((u : Tree) → IsWhole u → bytes ≡ cell_bytes u → u ≡ t)
