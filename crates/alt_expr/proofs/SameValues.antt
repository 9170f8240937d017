-- `same` tells exactly whether two values are one tree.
use Rattle.std.proofs.Common.{◌≡◌, refl, sym, ap, ◌∙◌, Bool, true, false, ◌&&◌}
use Rattle.std.specs.Prelude.{◌↔◌, IsTrue}
use Rattle.std.specs.Bool.{Decides}
use Rattle.std.specs.Str.{bytes_eq}
use Rattle.std.specs.Ordering.{int_eq}
use Rattle.std.specs.Cmp.Lexicographic.{bytes_decides}
use Rattle.std.proofs.lemmas.Bool.Decides.{Decides-int_eq}
use Rattle.std.proofs.lemmas.Bool.{and_from}
use Rattle.std.specs.Cmp.{first_so, second_so}
use Rattle.alt_value.specs.Tree.{Tree, S_tree, N_tree, B_tree, BOOL_tree, NULL_tree, SS_tree, NS_tree, BS_tree, L_tree, M_tree, Trees, no_trees, tree_then, Fields, no_fields, field_then}
use Rattle.alt_value.proofs.Same.{texts_decide, numbers_decide}
use Rattle.alt_expr.specs.Holds.{same, same_elements, same_fields}

mutual
  is_one : (s t : Tree) → same s t ≡ true → s ≡ t
  is_one (S_tree s) (S_tree t) e = ap S_tree ((bytes_decides s t).0 e)
  is_one (N_tree y) (N_tree z) e = ap N_tree ((Decides-int_eq y z).0 e)
  is_one (B_tree a) (B_tree b) e = ap B_tree ((bytes_decides a b).0 e)
  is_one (BOOL_tree true) (BOOL_tree true) e = refl
  is_one (BOOL_tree false) (BOOL_tree false) e = refl
  is_one NULL_tree NULL_tree e = refl
  is_one (SS_tree ss) (SS_tree ts) e = ap SS_tree ((texts_decide ss ts).0 e)
  is_one (NS_tree ys) (NS_tree zs) e = ap NS_tree ((numbers_decide ys zs).0 e)
  is_one (BS_tree bs) (BS_tree cs) e = ap BS_tree ((texts_decide bs cs).0 e)
  is_one (L_tree ss) (L_tree ts) e = ap L_tree (are_one ss ts e)
  is_one (M_tree es) (M_tree fs) e = ap M_tree (fields_one es fs e)
  is_one _ _ e = cc

  are_one : (ss ts : Trees) → same_elements ss ts ≡ true → ss ≡ ts
  are_one no_trees no_trees e = refl
  are_one (tree_then s ss) (tree_then t ts) e =
      λ i. tree_then (is_one s t (first_so (same s t) _ e) i)
      (are_one ss ts (second_so (same s t) _ e) i)
  are_one _ _ e = cc

  fields_one : (es fs : Fields) → same_fields es fs ≡ true → es ≡ fs
  fields_one no_fields no_fields e = refl
  fields_one (field_then m s es) (field_then n t fs) e =
      let rest = second_so (bytes_eq m n && same s t) _ e in
      let here = first_so (bytes_eq m n && same s t) _ e in
      λ i. field_then ((bytes_decides m n).0 (first_so (bytes_eq m n) _ here) i)
      (is_one s t (second_so (bytes_eq m n) _ here) i) (fields_one es fs rest i)
  fields_one _ _ e = cc

mutual
  same_itself : (t : Tree) → same t t ≡ true
  same_itself (S_tree s) = (bytes_decides s s).1 refl
  same_itself (N_tree z) = (Decides-int_eq z z).1 refl
  same_itself (B_tree b) = (bytes_decides b b).1 refl
  same_itself (BOOL_tree true) = refl
  same_itself (BOOL_tree false) = refl
  same_itself NULL_tree = refl
  same_itself (SS_tree ss) = (texts_decide ss ss).1 refl
  same_itself (NS_tree zs) = (numbers_decide zs zs).1 refl
  same_itself (BS_tree bs) = (texts_decide bs bs).1 refl
  same_itself (L_tree ts) = elements_themselves ts
  same_itself (M_tree fs) = fields_themselves fs

  elements_themselves : (ts : Trees) → same_elements ts ts ≡ true
  elements_themselves no_trees = refl
  elements_themselves (tree_then t ts) =
      and_from (same t t) _ (same_itself t) (elements_themselves ts)

  fields_themselves : (fs : Fields) → same_fields fs fs ≡ true
  fields_themselves no_fields = refl
  fields_themselves (field_then n t fs) =
      and_from (bytes_eq n n && same t t) _
      (and_from (bytes_eq n n) _ ((bytes_decides n n).1 refl) (same_itself t))
      (fields_themselves fs)

-- the test decides whether two values are one
pub same_decides : (s t : Tree) → Decides (same s t) (s ≡ t)
same_decides s t = (is_one s t, λ e. ap (same s) (sym e) ∙ same_itself s)

-- a test that holds exactly where another does is the other
told : (b c : Bool) (P : Type 0) → Decides c P → (IsTrue b → P) → (P → IsTrue b) → b ≡ c
told true true P d f g = refl
told true false P d f g = sym (d.1 (f refl))
told false true P d f g = g (d.0 refl)
told false false P d f g = refl

-- an answer that tells it is `same`
pub same-told : (b : Bool) (s t : Tree) → (IsTrue b ↔ (s ≡ t)) → b ≡ same s t
same-told b s t h = told b (same s t) (s ≡ t) (same_decides s t) h.0 h.1
