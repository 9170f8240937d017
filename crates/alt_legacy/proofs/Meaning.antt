-- The tree of an entry holds of the items that meet it, and of no others.
use Rattle.std.proofs.Common.{◌≡◌, refl, ap, ◌∙◌, ℕ, true, false, ◌||◌, ◌&&◌, not, List, [], ◌∷◌, map, Option, Some, None}
use Rattle.std.proofs.Math.Bool.{and-true}
use Rattle.std.specs.Prelude.{is_some, option_and_then}
use Rattle.std.specs.List.{list_any}
use Rattle.std.specs.Option.{option_map_or}
use Rattle.alt_value.specs.declared.attr.Attr.{Attr}
use Rattle.alt_value.specs.Stands.{tree_of}
use Rattle.alt_value.specs.Tree.{Tree}
use Rattle.alt_expr.specs.declared.cond.Comparison.{Comparison}
use Rattle.alt_expr.specs.declared.cond.Comparison.TheVariants as c
use Rattle.alt_expr.specs.declared.cond.Cond.TheVariants as cond
use Rattle.alt_expr.specs.Holds.{holds, denoted, compares, equal, begins, contains}
use Rattle.alt_expr.specs.Holds as h
use Rattle.alt_expr.specs.Located.{View, located, part}
use Rattle.alt_expr.proofs.HoldsLaws.{holds-All, holds-Not, holds-Compare, holds-Between, holds-Among, holds-Exists, holds-NotExists, holds-BeginsWith, holds-Contains}
use Rattle.alt_legacy.specs.declared.entry.Entry.{Entry}
use Rattle.alt_legacy.specs.declared.entry.Test.{Test}
use Rattle.alt_legacy.specs.declared.entry.Test.TheVariants as t
use Rattle.alt_legacy.specs.Meets.{is_equal, in_order, satisfies, holds_for}
use Rattle.alt_legacy.specs.Trees.{attribute_path, attribute_operand, given_operand, contains_value, tree_for}
use Rattle.alt_legacy.specs.Trees as tree

-- a path of one part leads to the attribute of its name
whole : (x : Option Tree) → option_and_then (part []) x ≡ x
whole None = refl
whole (Some u) = refl

-- a comparison with a given value
compared : (by : Comparison) (x : Option Tree) (v : Attr)
    → compares by x (Some (tree_of v)) ≡ in_order by x v
compared c.Equal None v = refl
compared c.Equal (Some s) v = refl
compared c.NotEqual None v = refl
compared c.NotEqual (Some s) v = refl
compared c.Less None v = refl
compared c.Less (Some s) v = refl
compared c.LessEqual None v = refl
compared c.LessEqual (Some s) v = refl
compared c.Greater None v = refl
compared c.Greater (Some s) v = refl
compared c.GreaterEqual None v = refl
compared c.GreaterEqual (Some s) v = refl

-- one of several values
among : (item : View) (x : Option Tree) (vs : List Attr)
    → list_any (λ y. equal x (denoted item y)) (map given_operand vs) ≡ list_any (λ v. is_equal x v) vs
among item x [] = refl
among item x (v ∷ vs) = λ i. compared c.Equal x v i || among item x vs i

-- a value within
contained : (x : Option Tree) (v : Attr)
    → contains x (Some (tree_of v)) ≡ option_map_or (λ s. h.has s (tree_of v)) x false
contained None v = refl
contained (Some s) v = refl

-- there, and a value isn't within
outside : (x : Option Tree) (v : Attr)
    → (is_some x && (not (option_map_or (λ s. h.has s (tree_of v)) x false) && true))
    ≡ option_map_or (λ s. not (h.has s (tree_of v))) x false
outside None v = refl
outside (Some s) v = and-true (not (h.has s (tree_of v)))

module _ (item : View) (name : List ℕ) where
  top : located item (attribute_path name) ≡ item name
  top = whole (item name)

  has_holds : (v : Attr) → holds item (contains_value name v)
      ≡ option_map_or (λ s. h.has s (tree_of v)) (item name) false
  has_holds v = holds-Contains item (attribute_operand name) (given_operand v)
      ∙ ap (λ (x : Option Tree). contains x (Some (tree_of v))) top ∙ contained (item name) v

  exists_holds : holds item (cond.Exists (attribute_path name)) ≡ is_some (item name)
  exists_holds = holds-Exists item (attribute_path name) ∙ ap (λ (x : Option Tree). is_some x) top

  not_holds : (v : Attr) → holds item (cond.Not (contains_value name v))
      ≡ not (option_map_or (λ s. h.has s (tree_of v)) (item name) false)
  not_holds v = holds-Not item (contains_value name v) ∙ ap not (has_holds v)

  -- the tree of a test holds where the attribute meets it
  pub tree_holds : (test : Test) → holds item (tree_for name test) ≡ satisfies test (item name)
  tree_holds (t.Compares by v) = holds-Compare item by (attribute_operand name) (given_operand v)
      ∙ ap (λ (x : Option Tree). compares by x (Some (tree_of v))) top ∙ compared by (item name) v
  tree_holds (t.Between low high) = holds-Between item (attribute_operand name) (given_operand low) (given_operand high)
      ∙ ap (λ (x : Option Tree). compares c.GreaterEqual x (Some (tree_of low))
      && compares c.LessEqual x (Some (tree_of high))) top
      ∙ (λ i. compared c.GreaterEqual (item name) low i && compared c.LessEqual (item name) high i)
  tree_holds (t.Among vs) = holds-Among item (attribute_operand name) (map given_operand vs)
      ∙ ap (λ (x : Option Tree). list_any (λ y. equal x (denoted item y)) (map given_operand vs)) top
      ∙ among item (item name) vs
  tree_holds t.There = exists_holds
  tree_holds t.Missing = holds-NotExists item (attribute_path name)
      ∙ ap (λ (x : Option Tree). not (is_some x)) top
  tree_holds (t.Has v) = has_holds v
  tree_holds (t.HasNot v) =
      holds-All item (cond.Exists (attribute_path name) ∷ cond.Not (contains_value name v) ∷ [])
      ∙ (λ i. exists_holds i && (not_holds v i && true)) ∙ outside (item name) v
  tree_holds (t.Begins v) = holds-BeginsWith item (attribute_operand name) (given_operand v)
      ∙ ap (λ (x : Option Tree). begins x (Some (tree_of v))) top

-- and so does that of an entry
pub entry_holds : (item : View) (e : Entry) → holds item (tree.condition_of_entry e) ≡ holds_for item e
entry_holds item e = tree_holds item e.name e.test
