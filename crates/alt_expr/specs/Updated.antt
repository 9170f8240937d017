-- What an update makes of an item (DynamoDB Developer Guide, "Using update expressions in DynamoDB"). Every operand is a part of
-- the item before the update. Where that leaves a choice, docs/DECISIONS.md says what was chosen.
use Rattle.std.specs.Prelude.{ℕ, suc, ◌-◌, nat_lt, nat_le, Bool, true, false, if◌then◌else◌, List, [], ◌∷◌, ◌++◌, length, map, take, slice_get, Option, Some, None, Result, Ok, Err, ℤ, ◌+ℤ◌, ◌-ℤ◌}
use Rattle.std.specs.Ordering.{nat_cmp, int_cmp}
use Rattle.std.specs.FinMap.Entries as entries
use Rattle.alt_decimal.specs.declared.fault.NumberFault.{NumberFault}
use Rattle.alt_decimal.specs.Number.{fitted_units}
use Rattle.alt_value.specs.Item.{with_pair}
use Rattle.alt_value.specs.Members.{text_order, with_members, without_members}
use Rattle.alt_value.specs.Stands.{tree_of}
use Rattle.alt_value.specs.Tree.{Tree, N_tree, SS_tree, NS_tree, BS_tree, L_tree, M_tree, Trees, no_trees, tree_then, Fields, no_fields, field_then, Pair, trees_of, fields_of, elements, pairs}
use Rattle.alt_expr.specs.declared.path.PathPart.{PathPart}
use Rattle.alt_expr.specs.declared.path.PathPart.TheVariants.{Name, Index}
use Rattle.alt_expr.specs.declared.update.Term.{Term, fold-Term}
use Rattle.alt_expr.specs.declared.update.Term.TheOpen.{Term-F}
use Rattle.alt_expr.specs.declared.update.Sum.{Sum}
use Rattle.alt_expr.specs.declared.update.Sum.TheVariants.{One, Plus, Minus}
use Rattle.alt_expr.specs.declared.update.Action.{Action}
use Rattle.alt_expr.specs.declared.update.Action.TheVariants.{Set, Remove, Add, Delete}
use Rattle.alt_expr.specs.Located.{View, located}
use Rattle.alt_expr.specs.Projected.{same_step, element_then, pair_then}

-- Why an action is refused: a path that has to be there isn't, a value isn't of the kind that is wanted, or a sum doesn't fit.
pub data ActionFault : Type 0 where
  no_path : ActionFault
  wrong_kind : ActionFault
  no_number : NumberFault → ActionFault

-- what comes next, unless there was a fault
infixl 10 ◌>>=◌
-- what comes next, of a result that is Ok; a fault stays
abbrev pub ◌>>=◌ : {A B : Type 0} → Result A ActionFault → (A → Result B ActionFault) → Result B ActionFault
Ok a >>= next = next a
Err f >>= next = Err f

-- ---- what the terms of an action stand for

-- a part of the item that has to be there
abbrev pub there : Option Tree → Result Tree ActionFault
there (Some t) = Ok t
there None = Err no_path

-- if_not_exists gives the part where it is there, and only else the other
abbrev pub or_else : Option Tree → Result Tree ActionFault → Result Tree ActionFault
or_else (Some t) other = Ok t
or_else None other = other

-- list_append puts the elements of the second list behind those of the first
abbrev pub appended_list : Tree → Tree → Result Tree ActionFault
appended_list (L_tree ss) (L_tree ts) = Ok (L_tree (trees_of (elements ss ++ elements ts)))
appended_list _ _ = Err wrong_kind

-- a sum of units as a value, where it fits
abbrev pub as_number : Result ℤ NumberFault → Result Tree ActionFault
as_number (Ok z) = Ok (N_tree z)
as_number (Err f) = Err (no_number f)

-- the sum of two numbers; a fault where one is none or the sum does not fit
abbrev pub plus : Tree → Tree → Result Tree ActionFault
plus (N_tree y) (N_tree z) = as_number (fitted_units (y +ℤ z))
plus _ _ = Err wrong_kind

-- the difference of two numbers; a fault where one is none or the difference does not fit
abbrev pub minus : Tree → Tree → Result Tree ActionFault
minus (N_tree y) (N_tree z) = as_number (fitted_units (y -ℤ z))
minus _ _ = Err wrong_kind

-- what a term stands for, once it is known what its parts do
abbrev pub made : View → Term-F (Result Tree ActionFault) → Result Tree ActionFault
made item (Term-F.At path) = there (located item path)
made item (Term-F.Value a) = Ok (tree_of a)
made item (Term-F.IfNotExists path other) = or_else (located item path) other
made item (Term-F.ListAppend x y) = do
  s ← x
  t ← y
  appended_list s t

-- what a term stands for
unfoldable pub term : View → Term → Result Tree ActionFault
term item = fold-Term (Result Tree ActionFault) (made item)

-- what is put at a path: the operands come first, from left to right, and then the sum
abbrev pub sum_of : View → Sum → Result Tree ActionFault
sum_of item (One x) = term item x
sum_of item (Plus x y) = do
  s ← term item x
  t ← term item y
  plus s t
sum_of item (Minus x y) = do
  s ← term item x
  t ← term item y
  minus s t

-- ---- the actions, each by itself

-- A place is changed: something is put there, or what is there is taken out.
abbrev pub Edit : Type 0
Edit = List PathPart × Option Tree

-- a map takes a name, and a list an index
abbrev pub takes : Tree → Option PathPart → Result (Unit {0}) ActionFault
takes (M_tree fs) (Some (Name name)) = Ok tt
takes (L_tree ts) (Some (Index i)) = Ok tt
takes _ _ = Err wrong_kind

-- A path of more than one part needs its parent there before, of the kind that takes its last part.
abbrev pub parent : View → List PathPart → Result (Unit {0}) ActionFault
parent item path =
    if nat_lt 1 (length path) then there (located item (take (length path - 1) path))
    >>= (λ t. takes t (slice_get path (length path - 1)))
    else Ok tt

-- ADD puts a number or a set where nothing was, and else adds to a number, or unites a set with a set of its kind.
abbrev pub added : Option Tree → Tree → Result Tree ActionFault
added None (N_tree z) = Ok (N_tree z)
added None (SS_tree ss) = Ok (SS_tree ss)
added None (NS_tree zs) = Ok (NS_tree zs)
added None (BS_tree bs) = Ok (BS_tree bs)
added (Some (N_tree y)) (N_tree z) = as_number (fitted_units (y +ℤ z))
added (Some (SS_tree ss)) (SS_tree more) = Ok (SS_tree (with_members text_order more ss))
added (Some (NS_tree zs)) (NS_tree more) = Ok (NS_tree (with_members int_cmp more zs))
added (Some (BS_tree bs)) (BS_tree more) = Ok (BS_tree (with_members text_order more bs))
added _ _ = Err wrong_kind

-- a set, or nothing where it is left empty
abbrev pub left : {K : Type 0} → (List K → Tree) → List K → Option Tree
left kind [] = None
left kind (x ∷ xs) = Some (kind (x ∷ xs))

-- DELETE takes a set's members out of a set of its kind, and does nothing where nothing is there.
abbrev pub taken_from_set : Option Tree → Tree → Result (Option Tree) ActionFault
taken_from_set None (SS_tree ss) = Ok None
taken_from_set None (NS_tree zs) = Ok None
taken_from_set None (BS_tree bs) = Ok None
taken_from_set (Some (SS_tree ss)) (SS_tree less) = Ok (left SS_tree (without_members text_order less ss))
taken_from_set (Some (NS_tree zs)) (NS_tree less) = Ok (left NS_tree (without_members int_cmp less zs))
taken_from_set (Some (BS_tree bs)) (BS_tree less) = Ok (left BS_tree (without_members text_order less bs))
taken_from_set _ _ = Err wrong_kind

-- what an action does, or why it is refused
abbrev pub edit : View → Action → Result Edit ActionFault
edit item (Set path sum) = do
  t ← sum_of item sum
  _ ← parent item path
  Ok (path, Some t)
edit item (Remove path) = do
  _ ← parent item path
  Ok (path, None)
edit item (Add name a) = added (item name) (tree_of a) >>= (λ t. Ok (Name name ∷ [], Some t))
edit item (Delete name a) = taken_from_set (item name) (tree_of a) >>= (λ o. Ok (Name name ∷ [], o))

-- what all actions do, or why the first that is refused in text order is
abbrev pub edits : View → List Action → Result (List Edit) ActionFault
edits item [] = Ok []
edits item (a ∷ more) = do
  e ← edit item a
  es ← edits item more
  Ok (e ∷ es)

-- ---- all edits together

-- what stands behind a step in an edit that begins with it
abbrev pub edits_behind : PathPart → Edit → List Edit
edits_behind s ([], v) = []
edits_behind s (p ∷ ps, v) = if same_step s p then (ps, v) ∷ [] else []

-- the edits that go on from a step
abbrev pub under : PathPart → List Edit → List Edit
under s [] = []
under s (e ∷ es) = edits_behind s e ++ under s es

-- what is put at this very place
abbrev pub put_here : List Edit → Option Tree
put_here [] = None
put_here (([], Some t) ∷ es) = Some t
put_here (_ ∷ es) = put_here es

-- whether this very place is taken out
abbrev pub is_taken : List Edit → Bool
is_taken [] = false
is_taken (([], None) ∷ es) = true
is_taken (_ ∷ es) = is_taken es

-- what is put at an index past the end, by rising index
abbrev pub elements_past_end : ℕ → List Edit → List (ℕ × Tree)
elements_past_end n [] = []
elements_past_end n ((Index i ∷ [], Some t) ∷ es) =
    if nat_le n i then entries.put nat_cmp i t (elements_past_end n es) else elements_past_end n es
elements_past_end n (_ ∷ es) = elements_past_end n es

-- the pairs with a value at a name; a map has no empty name, and no text has one either
abbrev pub put_name : List ℕ → Tree → List Pair → List Pair
put_name [] t ps = ps
put_name (c ∷ cs) t ps = with_pair (c ∷ cs) t ps

-- the pairs with what is put at a name
abbrev pub put_names : List Edit → List Pair → List Pair
put_names [] ps = ps
put_names ((Name name ∷ [], Some t) ∷ es) ps = put_name name t (put_names es ps)
put_names (_ ∷ es) ps = put_names es ps

-- what becomes of a place where something was: it is put anew, taken out, or changed within
abbrev pub outcome : Option Tree → Bool → Tree → Option Tree
outcome (Some t) out within = Some t
outcome None true within = None
outcome None false within = Some within

-- Elements that are put keep their old index; then the removed ones are out, and those past the end follow.
abbrev mutual
  -- a value after edits: put, taken away, or changed within
  pub changed : List Edit → Tree → Option Tree
  changed es (L_tree ts) = outcome (put_here es) (is_taken es)
      (L_tree (trees_of
      (elements (changed_elements es 0 ts) ++ map (λ p. p.1) (elements_past_end (length (elements ts)) es))))
  changed es (M_tree fs) = outcome (put_here es) (is_taken es)
      (M_tree (fields_of (put_names es (pairs (changed_fields es fs)))))
  changed es t = outcome (put_here es) (is_taken es) t

  -- the elements from an index on, after edits
  pub changed_elements : List Edit → ℕ → Trees → Trees
  changed_elements es i no_trees = no_trees
  changed_elements es i (tree_then t ts) =
      element_then (changed (under (Index i) es) t) (changed_elements es (suc i) ts)

  -- the fields of a map, after edits
  pub changed_fields : List Edit → Fields → Fields
  changed_fields es no_fields = no_fields
  changed_fields es (field_then name t fs) =
      pair_then name (changed (under (Name name) es) t) (changed_fields es fs)

-- what becomes of a place, where something may have been
abbrev pub place_after : List Edit → Option Tree → Option Tree
place_after es None = put_here es
place_after es (Some t) = changed es t

-- the item after an update, or why the first refused action is
abbrev pub updated : View → List Action → Result View ActionFault
updated item update =
    edits item update >>= (λ es. Ok (λ name. place_after (under (Name name) es) (item name)))
