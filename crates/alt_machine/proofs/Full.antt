-- Values in which no set is empty: what is found in them, and what is put together of them.
use Rattle.std.proofs.Common.{ℕ, zero, suc, true, false, cond, T, List, [], ◌∷◌, ◌++◌, Option, Some, None, IfSome, option_and_then}
use Rattle.std.specs.Prelude.{slice_get, unwrap_or}
use Rattle.std.specs.Ordering.{eq_by_cmp}
use Rattle.std.specs.declared.cmp.Ordering.{Ordering}
use Rattle.std.specs.declared.cmp.Ordering.TheVariants.{Less, Equal, Greater}
use Rattle.std.specs.FinMap.Entries.{by_order}
use Rattle.alt_base.proofs.Bools.{both_hold, first_holds, second_holds}
use Rattle.alt_expr.specs.Given.{attr_of, value_of}
use Rattle.alt_expr.specs.Located.{View, step_into, part, located}
use Rattle.alt_expr.specs.declared.path.PathPart.{PathPart}
use Rattle.alt_expr.specs.declared.path.PathPart.TheVariants.{Name, Index}
use Rattle.alt_value.specs.Item.{at_name, with_pair}
use Rattle.alt_value.specs.Members.{text_order, with_member, with_members}
use Rattle.alt_value.specs.Stands.{tree_of}
use Rattle.alt_value.specs.Tree.{Tree, NULL_tree, L_tree, M_tree, Trees, no_trees, tree_then, Fields, no_fields, field_then, Pair, trees_of, fields_of, elements, pairs}
use Rattle.alt_value.specs.Values.{is_nonempty_set, sets_full, elements_full, fields_full}

-- no set in the value is empty, if there is one
abbrev pub MayFull : Option Tree → Type 0
MayFull o = IfSome o (λ t. T (sets_full t))

-- nor in a value of an item
abbrev pub PairsFull : List Pair → Type 0
PairsFull ps = T (fields_full (fields_of ps))

-- nor in what an item has at its names
abbrev pub ViewFull : View → Type 0
ViewFull view = (name : List ℕ) → MayFull (view name)

-- ---- what is found

-- the value at a name
pub full-at_name : (name : List ℕ) (ps : List Pair) → PairsFull ps → MayFull (at_name name ps)
full-at_name name [] h = tt
full-at_name name (p ∷ ps) h =
    let rest : MayFull (at_name name ps) =
    full-at_name name ps (second_holds (sets_full p.1) _ h) in
    elim (eq_by_cmp text_order name p.0) as (λ b. MayFull (cond b (Some p.1) (at_name name ps))) [
      | true ↦ first_holds (sets_full p.1) _ h
      | false ↦ rest
    ]

-- the pairs of a map
pub full-pairs : (fs : Fields) → T (fields_full fs) → PairsFull (pairs fs)
full-pairs no_fields h = tt
full-pairs (field_then name t fs) h =
    both_hold (sets_full t) _ (first_holds (sets_full t) _ h)
    (full-pairs fs (second_holds (sets_full t) _ h))

-- the elements of a list
pub full-elements : (ts : Trees) → T (elements_full ts) → T (elements_full (trees_of (elements ts)))
full-elements no_trees h = tt
full-elements (tree_then t ts) h =
    both_hold (sets_full t) _ (first_holds (sets_full t) _ h)
    (full-elements ts (second_holds (sets_full t) _ h))

-- the element at an index
full-slice_get : (ts : Trees) (i : ℕ) → T (elements_full ts) → MayFull (slice_get (elements ts) i)
full-slice_get no_trees i h = tt
full-slice_get (tree_then t ts) zero h = first_holds (sets_full t) _ h
full-slice_get (tree_then t ts) (suc i) h = full-slice_get ts i (second_holds (sets_full t) _ h)

-- where a step leads
full-step : (s : PathPart) (t : Tree) → T (sets_full t) → MayFull (step_into s t)
full-step (Name name) (M_tree fs) h = full-at_name name (pairs fs) (full-pairs fs h)
full-step (Index i) (L_tree ts) h = full-slice_get ts i h
full-step _ _ h = tt

-- where steps lead, one after another
full-part : (ss : List PathPart) (t : Tree) → T (sets_full t) → MayFull (part ss t)
full-part [] t h = h
full-part (s ∷ ss) t h = (elim (step_into s t) as
    (λ o. MayFull o → MayFull (option_and_then (part ss) o)) [
      | None ↦ λ u. tt
      | Some u ↦ λ f. full-part ss u f
    ]) (full-step s t h)

-- where a path leads in an item
pub full-located : (view : View) (path : List PathPart) → ViewFull view
    → MayFull (located view path)
full-located view [] h = tt
full-located view (Index i ∷ ss) h = tt
full-located view (Name name ∷ ss) h = by (view name) (h name)
  where
    by : (o : Option Tree) → MayFull o → MayFull (option_and_then (part ss) o)
    by None f = tt
    by (Some t) f = full-part ss t f

-- ---- what is put together

-- one list behind another
pub full-append : (ss ts : List Tree) → T (elements_full (trees_of ss))
    → T (elements_full (trees_of ts)) → T (elements_full (trees_of (ss ++ ts)))
full-append [] ts h k = k
full-append (s ∷ ss) ts h k =
    both_hold (sets_full s) _ (first_holds (sets_full s) _ h)
    (full-append ss ts (second_holds (sets_full s) _ h) k)

-- a value put at a name
pub full-with_pair : (name : List ℕ) (t : Tree) (ps : List Pair) → T (sets_full t) → PairsFull ps
    → PairsFull (with_pair name t ps)
full-with_pair name t [] h f = both_hold (sets_full t) true h tt
full-with_pair name t (q ∷ qs) h f =
    let there : T (sets_full q.1) = first_holds (sets_full q.1) _ f in
    let others : PairsFull qs = second_holds (sets_full q.1) _ f in
    let more : PairsFull (with_pair name t qs) = full-with_pair name t qs h others in
    elim (text_order name q.0) as (λ o. PairsFull
    (by_order o ((name, t) ∷ q ∷ qs) ((q.0, t) ∷ qs) (q ∷ with_pair name t qs))) [
      | Less ↦ both_hold (sets_full t) _ h f
      | Equal ↦ both_hold (sets_full t) _ h others
      | Greater ↦ both_hold (sets_full q.1) _ there more
    ]

module _ {K : Type 0} (R : K → K → Ordering) where
  -- a member more
  full-with_member : (x : K) (ys : List K) → T (is_nonempty_set (with_member R x ys))
  full-with_member x [] = tt
  full-with_member x (y ∷ ys) = elim (R x y) as
      (λ o. T (is_nonempty_set (by_order o (x ∷ y ∷ ys) (y ∷ ys) (y ∷ with_member R x ys)))) [
        | Less ↦ tt
        | Equal ↦ tt
        | Greater ↦ tt
      ]

  -- many members more
  pub full-with_members : (xs ys : List K) → T (is_nonempty_set ys) → T (is_nonempty_set (with_members R xs ys))
  full-with_members [] ys h = h
  full-with_members (x ∷ xs) ys h = full-with_member x (with_members R xs ys)

-- ---- given values

-- the value that a tree is of
pub full-attr_of : (t : Tree) → T (sets_full t) → T (sets_full (tree_of (attr_of t)))
full-attr_of (L_tree ts) h = full-elements ts h
full-attr_of (M_tree fs) h = full-pairs fs h
full-attr_of t h = h

-- the value that a word stands for
pub full-value_of : (values : List Pair) (word : List ℕ) → PairsFull values
    → T (sets_full (tree_of (value_of values word)))
full-value_of values word h = by (at_name word values) (full-at_name word values h)
  where
    by : (o : Option Tree) → MayFull o → T (sets_full (tree_of (attr_of (unwrap_or o NULL_tree))))
    by None f = tt
    by (Some t) f = full-attr_of t f
