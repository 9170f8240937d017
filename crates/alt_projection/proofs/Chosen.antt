-- What paths choose of a map, name by name.
use Rattle.std.proofs.Common.{◌≡◌, ◌≤◌, ◌+◌, length, refl, sym, ap, subst, ◌∙◌, ℕ, suc, true, false, cond, T, List, [], ◌∷◌, ◌++◌, take, Option, Some, None}
use Rattle.std.specs.Prelude.{option_and_then, slice_get}
use Rattle.std.specs.Ordering.{eq_by_cmp}
use Rattle.std.specs.FinMap.Entries.{find-put, find-append, below_all, is_sorted, same_entries}
use Rattle.std.proofs.lemmas.List.{take_all}
use Rattle.alt_base.proofs.Bools.{first_holds, second_holds}
use Rattle.alt_base.proofs.Orderings.{is_eq-true}
use Rattle.alt_value.specs.Item.{IsItem, at_name}
use Rattle.alt_value.specs.Members.{text_order}
use Rattle.alt_value.specs.Tree.{Tree, L_tree, M_tree, Trees, no_trees, tree_then, Fields, no_fields, field_then, Pair, fields_of, pairs}
use Rattle.alt_value.proofs.Texts.{text_total, text_apart}
use Rattle.alt_expr.specs.declared.path.PathPart.{PathPart}
use Rattle.alt_expr.specs.declared.path.PathPart.TheVariants.{Name}
use Rattle.alt_expr.specs.Projected.{under, chosen, chosen_elements, chosen_fields, pair_then, element_then, some_list, some_map, projected}
use Rattle.alt_expr.proofs.Picked.{below-picked, sorted-picked}
use Rattle.alt_projection.specs.Ways.{put_if}
use Rattle.alt_value.proofs.NamedPairs.{none_before as gone, none_below_all}

-- ---- no paths choose nothing

mutual
  -- no paths choose nothing of a value
  pub chosen-none : (t : Tree) → chosen [] t ≡ None
  chosen-none (L_tree ts) = ap some_list (elements-none 0 ts)
  chosen-none (M_tree fs) = ap some_map (fields-none fs)
  chosen-none _ = refl

  -- nor of a list's elements
  pub elements-none : (i : ℕ) (ts : Trees) → chosen_elements [] i ts ≡ no_trees
  elements-none i no_trees = refl
  elements-none i (tree_then t ts) =
      ap (λ o. element_then o (chosen_elements [] (suc i) ts)) (chosen-none t)
      ∙ elements-none (suc i) ts

  -- nor of a map's pairs
  fields-none : (fs : Fields) → chosen_fields [] fs ≡ no_fields
  fields-none no_fields = refl
  fields-none (field_then name t fs) =
      ap (λ o. pair_then name o (chosen_fields [] fs)) (chosen-none t) ∙ fields-none fs

-- ---- looking up a name

-- the first of two, if it is there, or else the second
abbrev pub or_else : Option Tree → Option Tree → Option Tree
or_else None o = o
or_else (Some t) o = Some t

-- what is found of a map with one pair more that may be there
picked : (q name : List ℕ) (o : Option Tree) (fs : Fields)
    → at_name q (pairs (pair_then name o fs))
    ≡ cond (eq_by_cmp text_order q name) (or_else o (at_name q (pairs fs)))
    (at_name q (pairs fs))
picked q name None fs =
    elim (eq_by_cmp text_order q name) as (λ b. at_name q (pairs fs)
    ≡ cond b (at_name q (pairs fs)) (at_name q (pairs fs))) [ true ↦ refl | false ↦ refl ]
picked q name (Some t) fs = refl

or_else-none : (o : Option Tree) → or_else o None ≡ o
or_else-none None = refl
or_else-none (Some t) = refl

below_tied : (q n : List ℕ) (ps : List Pair) → q ≡ n → T (below_all text_order n ps)
    → T (below_all text_order q ps)
below_tied q n ps e h = subst (λ (m : List ℕ). T (below_all text_order m ps)) (sym e) h

-- what is chosen of a map has at a name what the paths under that name choose there
pub at_name-projected : (paths : List (List PathPart)) (q : List ℕ) (ps : List Pair)
    → T (is_sorted text_order ps)
    → at_name q (projected paths ps)
    ≡ option_and_then (chosen (under (Name q) paths)) (at_name q ps)
at_name-projected paths q [] h = refl
at_name-projected paths q (p ∷ ps) h =
    let rest = at_name-projected paths q ps (second_holds _ _ h) in
    picked q p.0 (chosen (under (Name p.0) paths) p.1) (chosen_fields paths (fields_of ps)) ∙
    elim (eq_by_cmp text_order q p.0) as (λ b. eq_by_cmp text_order q p.0 ≡ b
    → cond b (or_else (chosen (under (Name p.0) paths) p.1) (at_name q (projected paths ps)))
    (at_name q (projected paths ps))
    ≡ option_and_then (chosen (under (Name q) paths)) (cond b (Some p.1) (at_name q ps))) [
      | true ↦ λ e.
          let same : q ≡ p.0 = text_apart q p.0 (is_eq-true (text_order q p.0) e) in
          let gone : at_name q ps ≡ None =
          none_below_all q ps (below_tied q p.0 ps same (first_holds _ _ h)) in
          ap (or_else (chosen (under (Name p.0) paths) p.1)) (rest
          ∙ ap (option_and_then (chosen (under (Name q) paths))) gone)
          ∙ or_else-none (chosen (under (Name p.0) paths) p.1)
          ∙ ap (λ (m : List ℕ). chosen (under (Name m) paths) p.1) (sym same)
      | false ↦ λ e. rest
    ] refl

-- ---- what is chosen rises too

below-projected : (x : List ℕ) (paths : List (List PathPart)) (ps : List Pair)
    → T (below_all text_order x ps) → T (below_all text_order x (projected paths ps))
below-projected x paths [] h = tt
below-projected x paths (p ∷ ps) h =
    below-picked x p.0 (chosen (under (Name p.0) paths) p.1) (chosen_fields paths (fields_of ps))
    (first_holds _ _ h) (below-projected x paths ps (second_holds _ _ h))

sorted-projected : (paths : List (List PathPart)) (ps : List Pair) → T (is_sorted text_order ps)
    → T (is_sorted text_order (projected paths ps))
sorted-projected paths [] h = tt
sorted-projected paths (p ∷ ps) h =
    sorted-picked p.0 (chosen (under (Name p.0) paths) p.1) (chosen_fields paths (fields_of ps))
    (below-projected p.0 paths ps (first_holds _ _ h))
    (sorted-projected paths ps (second_holds _ _ h))

-- an item in which each name has what is chosen of it is what is chosen of the item
pub projected-from : (paths : List (List PathPart)) (item out : List Pair) → IsItem item
    → IsItem out
    → ((q : List ℕ)
    → at_name q out ≡ option_and_then (chosen (under (Name q) paths)) (at_name q item))
    → out ≡ projected paths item
projected-from paths item out is_item is_out each =
    same_entries text_order text_total text_apart out (projected paths item) is_out.0
    (sorted-projected paths item is_item.0)
    (λ q. each q ∙ sym (at_name-projected paths q item is_item.0))

-- ---- one name more

-- what is put, or not, is found under its name and no other
pub at_name-put_if : (q name : List ℕ) (o : Option Tree) (ps : List Pair)
    → at_name q (put_if name o ps)
    ≡ cond (eq_by_cmp text_order q name) (or_else o (at_name q ps)) (at_name q ps)
at_name-put_if q name None ps =
    elim (eq_by_cmp text_order q name) as (λ b. at_name q ps ≡ cond b (at_name q ps) (at_name q ps))
    [ true ↦ refl | false ↦ refl ]
at_name-put_if q name (Some t) ps = find-put text_order text_total q name t ps

module _ (paths : List (List PathPart)) (ps : List Pair) where
  -- each name so far has what the paths choose of its value
  abbrev pub Upto : ℕ → List Pair → Type 0
  Upto i out = (q : List ℕ)
      → at_name q out ≡ option_and_then (chosen (under (Name q) paths)) (at_name q (take i ps))

  -- one pair more is looked at, with what the paths choose of it
  pub one_more : (i : ℕ) (name : List ℕ) (v : Tree) (before now : List Pair)
      → T (is_sorted text_order ps) → slice_get ps i ≡ Some (name, v)
      → take (i + 1) ps ≡ take i ps ++ (name, v) ∷ [] → Upto i before
      → now ≡ put_if name (chosen (under (Name name) paths) v) before → Upto (i + 1) now
  one_more i name v before now sorted stands more was put q =
      let before_q : at_name q (take (i + 1) ps)
      ≡ cond (eq_by_cmp text_order q name) (Some v) (at_name q (take i ps)) =
      ap (at_name q) more ∙ find-append text_order text_total (take i ps) name v q
      (gone ps i name v sorted stands) in
      ap (at_name q) put ∙ at_name-put_if q name (chosen (under (Name name) paths) v) before ∙
      elim (eq_by_cmp text_order q name) as (λ b. eq_by_cmp text_order q name ≡ b
      → cond b (or_else (chosen (under (Name name) paths) v) (at_name q before)) (at_name q before)
      ≡ option_and_then (chosen (under (Name q) paths))
      (cond b (Some v) (at_name q (take i ps)))) [
        | true ↦ λ e.
            let same : q ≡ name = text_apart q name (is_eq-true (text_order q name) e) in
            let none : at_name q (take i ps) ≡ None =
            ap (λ (m : List ℕ). at_name m (take i ps)) same ∙ gone ps i name v sorted stands in
            ap (or_else (chosen (under (Name name) paths) v))
            (was q ∙ ap (option_and_then (chosen (under (Name q) paths))) none)
            ∙ or_else-none (chosen (under (Name name) paths) v)
            ∙ ap (λ (m : List ℕ). chosen (under (Name m) paths) v) (sym same)
        | false ↦ λ e. was q
      ] refl
      ∙ sym (ap (option_and_then (chosen (under (Name q) paths))) before_q)

  -- behind the last pair it is what the paths choose of the item
  pub all_looked_at : (i : ℕ) (out : List Pair) → length ps ≤ i → IsItem ps → IsItem out
      → Upto i out → out ≡ projected paths ps
  all_looked_at i out le is_item is_out was =
      projected-from paths ps out is_item is_out (λ q. was q
      ∙ ap (λ l. option_and_then (chosen (under (Name q) paths)) (at_name q l)) (take_all i ps le))
