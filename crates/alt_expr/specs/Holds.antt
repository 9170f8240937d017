-- Whether a condition holds of an item, by cases on its tree (DynamoDB Developer Guide, "Comparison operator and function
-- reference"). Where that leaves a choice, docs/DECISIONS.md says what was chosen.
use Rattle.std.specs.Prelude.{ℕ, Bool, true, false, not, ◌&&◌, ◌||◌, nat_eq, List, [], ◌∷◌, length, codes, Option, Some, None, option_map, option_and_then, is_some}
use Rattle.std.specs.List.{list_any, list_all, starts_with}
use Rattle.std.specs.Str.{bytes_eq}
use Rattle.std.specs.declared.cmp.Ordering.{Ordering}
use Rattle.std.specs.Ordering.{int_cmp, int_eq, is_lt, is_le, is_gt, is_ge, is_some_and}
use Rattle.std.specs.Cmp.Lexicographic.{pointwise}
use Rattle.alt_decimal.specs.Number.{units_in}
use Rattle.alt_value.specs.Members.{text_order, has_member}
use Rattle.alt_value.specs.Order.{tree_order}
use Rattle.alt_value.specs.Stands.{tree_of}
use Rattle.alt_value.specs.Tree.{Tree, S_tree, N_tree, B_tree, BOOL_tree, NULL_tree, SS_tree, NS_tree, BS_tree, L_tree, M_tree, Trees, no_trees, tree_then, Fields, no_fields, field_then, elements, pairs}
use Rattle.alt_expr.specs.declared.cond.Comparison.{Comparison}
use Rattle.alt_expr.specs.declared.cond.Comparison.TheVariants.{Equal, NotEqual, Less, LessEqual, Greater, GreaterEqual}
use Rattle.alt_expr.specs.declared.cond.Operand.{Operand}
use Rattle.alt_expr.specs.declared.cond.Operand.TheVariants.{At, Value, Size}
use Rattle.alt_expr.specs.declared.cond.Cond.{Cond, fold-Cond}
use Rattle.alt_expr.specs.declared.cond.Cond.TheOpen.{Cond-F}
use Rattle.alt_expr.specs.Located.{View, located}

-- Two values are one value where they are of one kind and hold the same, through every level.
abbrev mutual
  -- whether two values are equal: of one kind, numbers by their value and sets by their members
  pub same : Tree → Tree → Bool
  same (S_tree s) (S_tree t) = bytes_eq s t
  same (N_tree y) (N_tree z) = int_eq y z
  same (B_tree a) (B_tree b) = bytes_eq a b
  same (BOOL_tree true) (BOOL_tree b) = b
  same (BOOL_tree false) (BOOL_tree b) = not b
  same NULL_tree NULL_tree = true
  same (SS_tree ss) (SS_tree ts) = pointwise bytes_eq ss ts
  same (NS_tree ys) (NS_tree zs) = pointwise int_eq ys zs
  same (BS_tree bs) (BS_tree cs) = pointwise bytes_eq bs cs
  same (L_tree ss) (L_tree ts) = same_elements ss ts
  same (M_tree es) (M_tree fs) = same_fields es fs
  same _ _ = false

  -- whether two lists have equal elements at equal places
  pub same_elements : Trees → Trees → Bool
  same_elements no_trees no_trees = true
  same_elements (tree_then s ss) (tree_then t ts) = same s t && same_elements ss ts
  same_elements _ _ = false

  -- whether two maps have equal values under equal names
  pub same_fields : Fields → Fields → Bool
  same_fields no_fields no_fields = true
  same_fields (field_then m s es) (field_then n t fs) =
      bytes_eq m n && same s t && same_fields es fs
  same_fields _ _ = false

-- The size of a text or a binary is its bytes, that of a set, a list or a map its elements; nothing else has one.
abbrev pub counted_size : Tree → Option ℕ
counted_size (S_tree s) = Some (length s)
counted_size (B_tree b) = Some (length b)
counted_size (SS_tree ss) = Some (length ss)
counted_size (NS_tree zs) = Some (length zs)
counted_size (BS_tree bs) = Some (length bs)
counted_size (L_tree ts) = Some (length (elements ts))
counted_size (M_tree fs) = Some (length (pairs fs))
counted_size _ = None

-- the size as a number
abbrev pub size_of : Tree → Option Tree
size_of t = option_map (λ n. N_tree (units_in n)) (counted_size t)

-- An operand denotes a part of the item, a given value or a size, or is missing.
abbrev pub denoted : View → Operand → Option Tree
denoted item (At path) = located item path
denoted item (Value a) = Some (tree_of a)
denoted item (Size path) = option_and_then size_of (located item path)

-- both are there, and are one value
abbrev pub equal : Option Tree → Option Tree → Bool
equal (Some s) (Some t) = same s t
equal _ _ = false

-- the order of two texts, two numbers or two binaries; none of others, or where one is missing
abbrev pub order : Option Tree → Option Tree → Option Ordering
order (Some s) (Some t) = tree_order s t
order _ _ = None

-- whether two operands compare so
abbrev pub compares : Comparison → Option Tree → Option Tree → Bool
compares Equal x y = equal x y
compares NotEqual x y = not (equal x y)
compares Less x y = is_some_and is_lt (order x y)
compares LessEqual x y = is_some_and is_le (order x y)
compares Greater x y = is_some_and is_gt (order x y)
compares GreaterEqual x y = is_some_and is_ge (order x y)

-- the kind of a value, by its name
abbrev pub kind_of : Tree → List ℕ
kind_of (S_tree s) = codes "S"
kind_of (N_tree z) = codes "N"
kind_of (B_tree b) = codes "B"
kind_of (BOOL_tree b) = codes "BOOL"
kind_of NULL_tree = codes "NULL"
kind_of (SS_tree ss) = codes "SS"
kind_of (NS_tree zs) = codes "NS"
kind_of (BS_tree bs) = codes "BS"
kind_of (L_tree ts) = codes "L"
kind_of (M_tree fs) = codes "M"

-- the value is there, and its kind is what the text names
abbrev pub has_kind : Option Tree → Option Tree → Bool
has_kind (Some t) (Some (S_tree name)) = bytes_eq (kind_of t) name
has_kind _ _ = false

-- a text begins with a text, or a binary with a binary
abbrev pub begins : Option Tree → Option Tree → Bool
begins (Some (S_tree s)) (Some (S_tree front)) = starts_with nat_eq s front
begins (Some (B_tree b)) (Some (B_tree front)) = starts_with nat_eq b front
begins _ _ = false

-- bytes stand somewhere within others, one after another
abbrev pub stands_in : List ℕ → List ℕ → Bool
stands_in needle [] = starts_with nat_eq [] needle
stands_in needle (c ∷ cs) = starts_with nat_eq (c ∷ cs) needle || stands_in needle cs

-- A text contains a text within it, a binary a binary, a set a member, and a list an equal element.
abbrev pub has : Tree → Tree → Bool
has (S_tree s) (S_tree t) = stands_in t s
has (B_tree b) (B_tree t) = stands_in t b
has (SS_tree ss) (S_tree m) = has_member text_order m ss
has (NS_tree zs) (N_tree m) = has_member int_cmp m zs
has (BS_tree bs) (B_tree m) = has_member text_order m bs
has (L_tree ts) t = list_any (λ s. same s t) (elements ts)
has _ _ = false

-- both are there, and the first contains the second
abbrev pub contains : Option Tree → Option Tree → Bool
contains (Some s) (Some t) = has s t
contains _ _ = false

-- Whether a condition holds, once it is known which of its parts do.
abbrev pub judged : View → Cond-F Bool → Bool
judged item (Cond-F.Any held) = list_any (λ b. b) held
judged item (Cond-F.All held) = list_all (λ b. b) held
judged item (Cond-F.Not held) = not held
judged item (Cond-F.Compare by x y) = compares by (denoted item x) (denoted item y)
judged item (Cond-F.Between x low high) =
    compares GreaterEqual (denoted item x) (denoted item low)
    && compares LessEqual (denoted item x) (denoted item high)
judged item (Cond-F.Among x ys) = list_any (λ y. equal (denoted item x) (denoted item y)) ys
judged item (Cond-F.Exists path) = is_some (located item path)
judged item (Cond-F.NotExists path) = not (is_some (located item path))
judged item (Cond-F.HasKind path x) = has_kind (located item path) (denoted item x)
judged item (Cond-F.BeginsWith x y) = begins (denoted item x) (denoted item y)
judged item (Cond-F.Contains x y) = contains (denoted item x) (denoted item y)

-- whether a condition holds of an item, from its parts up
unfoldable pub holds : View → Cond → Bool
holds item = fold-Cond Bool (judged item)
