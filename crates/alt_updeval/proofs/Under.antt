-- Edits that go on from a name or an index, and a value without edits.
use Rattle.std.proofs.Common.{◌≡◌, refl, sym, ap, ◌∙◌, ℕ, suc, Bool, true, false, cond, List, [], ◌∷◌, ◌++◌, map, Option, Some, None}
use Rattle.std.specs.Prelude.{filter, ◌==◌}
use Rattle.std.specs.Option.{option_or}
use Rattle.std.specs.Str.{bytes_eq}
use Rattle.std.specs.Ordering.{eq_by_cmp, nat_cmp}
use Rattle.std.specs.FinMap.{IsAntisymmetric}
use Rattle.std.specs.declared.cmp.Ordering.{Ordering}
use Rattle.std.specs.Cmp.{unsigned_ties, nat_eq_equiv}
use Rattle.std.proofs.lemmas.List.{append-nil}
use Rattle.alt_base.proofs.Orderings.{is_eq-true}
use Rattle.alt_value.specs.Members.{text_order}
use Rattle.alt_value.specs.Tree.{Tree, L_tree, M_tree, Trees, no_trees, tree_then, Fields, no_fields, field_then, trees_of, fields_of, elements, pairs}
use Rattle.alt_expr.specs.declared.path.PathPart.TheVariants.{Name, Index}
use Rattle.alt_expr.specs.Projected.{element_then, pair_then}
use Rattle.alt_expr.specs.Updated.{Edit, under, changed, changed_elements, changed_fields, put_here, is_taken, outcome}
use Rattle.alt_updeval.specs.Shown.{named_edits, indexed_edits}
use Rattle.alt_value.proofs.TextTies.{text_ties_turned}
use Rattle.alt_value.proofs.Trees.{fields_of-pairs, trees_of-elements}

-- the edits that come with a name, and with an index
abbrev pub at_key : {K : Type 0} → (K → Bool) → List (K × Edit) → List Edit
at_key {K} test es = map (λ (p : K × Edit). p.1) (filter (λ (p : K × Edit). test p.0) es)

nothing : (b : Bool) → ◌≡◌ {A = List Edit} [] (cond b [] [])
nothing true = refl
nothing false = refl

module _ {K : Type 0} (R : K → K → Ordering) (apart : IsAntisymmetric R)
    (p : K → Bool) (k : K) where
  abbrev at_k : List (K × Edit) → List Edit
  at_k es = at_key (λ i. eq_by_cmp R i k) es

  -- the edits that come with a key, of those whose keys pass a test
  pub at_filter : (xs : List (K × Edit)) → at_key (λ i. eq_by_cmp R i k)
      (filter (λ (x : K × Edit). p x.0) xs) ≡ cond (p k) (at_key (λ i. eq_by_cmp R i k) xs) []
  at_filter [] = nothing (p k)
  at_filter (x ∷ xs) = elim (eq_by_cmp R x.0 k) as (λ b. eq_by_cmp R x.0 k ≡ b
      → at_k (cond (p x.0) (x ∷ filter (λ (y : K × Edit). p y.0) xs)
      (filter (λ (y : K × Edit). p y.0) xs))
      ≡ cond (p k)
      (map (λ (y : K × Edit). y.1)
      (cond b (x ∷ filter (λ (y : K × Edit). eq_by_cmp R y.0 k) xs)
      (filter (λ (y : K × Edit). eq_by_cmp R y.0 k) xs))) []) [
        | true ↦ λ e.
            let same = apart x.0 k (is_eq-true (R x.0 k) e) in
            ap (λ b. at_k
            (cond b (x ∷ filter (λ (y : K × Edit). p y.0) xs)
            (filter (λ (y : K × Edit). p y.0) xs))) (ap p same)
            ∙ elim (p k) as (λ b. p k ≡ b
            → at_k (cond b (x ∷ filter (λ (y : K × Edit). p y.0) xs)
            (filter (λ (y : K × Edit). p y.0) xs)) ≡ cond b (x.1 ∷ at_k xs) []) [
              | true ↦ λ t.
                  ap (λ b. map (λ (y : K × Edit). y.1)
                  (cond b (x ∷ filter (λ (y : K × Edit). eq_by_cmp R y.0 k)
                  (filter (λ (y : K × Edit). p y.0) xs))
                  (filter (λ (y : K × Edit). eq_by_cmp R y.0 k)
                  (filter (λ (y : K × Edit). p y.0) xs)))) e
                  ∙ ap (λ l. x.1 ∷ l) (at_filter xs ∙ ap (λ b. cond b (at_k xs) []) t)
              | false ↦ λ t. at_filter xs ∙ ap (λ b. cond b (at_k xs) []) t
            ] refl
        | false ↦ λ e.
            elim (p x.0) as (λ b. at_k
            (cond b (x ∷ filter (λ (y : K × Edit). p y.0) xs) (filter (λ (y : K × Edit). p y.0) xs))
            ≡ cond (p k) (at_k xs) []) [
              | true ↦
                  ap (λ b. map (λ (y : K × Edit). y.1)
                  (cond b (x ∷ filter (λ (y : K × Edit). eq_by_cmp R y.0 k)
                  (filter (λ (y : K × Edit). p y.0) xs))
                  (filter (λ (y : K × Edit). eq_by_cmp R y.0 k)
                  (filter (λ (y : K × Edit). p y.0) xs)))) e
                  ∙ at_filter xs
              | false ↦ at_filter xs
            ]
      ] refl

-- the edits grouped at a name are those that go on from it
pub named-under : (name : List ℕ) (es : List Edit)
    → at_key (λ n. eq_by_cmp text_order n name) (named_edits es) ≡ under (Name name) es
named-under name [] = refl
named-under name (([], v) ∷ es) = named-under name es
named-under name ((Index i ∷ ps, v) ∷ es) = named-under name es
named-under name ((Name n ∷ ps, v) ∷ es) =
    let rest = filter (λ (p : List ℕ × Edit). eq_by_cmp text_order p.0 name) (named_edits es) in
    elim (bytes_eq name n) as (λ b. eq_by_cmp text_order n name ≡ b
    → map (λ (p : List ℕ × Edit). p.1)
    (cond (eq_by_cmp text_order n name) ((n, (ps, v)) ∷ rest) rest)
    ≡ cond b ((ps, v) ∷ []) [] ++ under (Name name) es) [
      | true ↦ λ e. rw e (ap (λ (l : List Edit). (ps, v) ∷ l) (named-under name es))
      | false ↦ λ e. rw e (named-under name es)
    ] (text_ties_turned name n)

-- the edits grouped at an index are those that go on from it
pub indexed-under : (k : ℕ) (es : List Edit)
    → at_key (λ i. eq_by_cmp nat_cmp i k) (indexed_edits es) ≡ under (Index k) es
indexed-under k [] = refl
indexed-under k (([], v) ∷ es) = indexed-under k es
indexed-under k ((Name n ∷ ps, v) ∷ es) = indexed-under k es
indexed-under k ((Index j ∷ ps, v) ∷ es) =
    let rest = filter (λ (p : ℕ × Edit). eq_by_cmp nat_cmp p.0 k) (indexed_edits es) in
    elim (k == j) as (λ b. eq_by_cmp nat_cmp j k ≡ b
    → map (λ (p : ℕ × Edit). p.1) (cond (eq_by_cmp nat_cmp j k) ((j, (ps, v)) ∷ rest) rest)
    ≡ cond b ((ps, v) ∷ []) [] ++ under (Index k) es) [
      | true ↦ λ e. rw e (ap (λ (l : List Edit). (ps, v) ∷ l) (indexed-under k es))
      | false ↦ λ e. rw e (indexed-under k es)
    ] (sym (unsigned_ties j k) ∙ nat_eq_equiv.symm j k)

-- ---- without edits a value stays

mutual
  -- a value without edits stays
  pub changed-none : (t : Tree) → changed [] t ≡ Some t
  changed-none (L_tree ts) =
      ap (λ (us : Trees). Some (L_tree (trees_of (elements us ++ [])))) (elements-none 0 ts)
      ∙ ap (λ (l : List Tree). Some (L_tree (trees_of l))) (append-nil (elements ts))
      ∙ ap (λ (us : Trees). Some (L_tree us)) (trees_of-elements ts)
  changed-none (M_tree fs) =
      ap (λ (gs : Fields). Some (M_tree (fields_of (pairs gs)))) (fields-none fs)
      ∙ ap (λ (gs : Fields). Some (M_tree gs)) (fields_of-pairs fs)
  changed-none _ = refl

  -- so do the elements of a list
  elements-none : (i : ℕ) (ts : Trees) → changed_elements [] i ts ≡ ts
  elements-none i no_trees = refl
  elements-none i (tree_then t ts) =
      ap (λ o. element_then o (changed_elements [] (suc i) ts)) (changed-none t)
      ∙ ap (tree_then t) (elements-none (suc i) ts)

  fields-none : (fs : Fields) → changed_fields [] fs ≡ fs
  fields-none no_fields = refl
  fields-none (field_then name t fs) = ap (λ o. pair_then name o (changed_fields [] fs))
      (changed-none t) ∙ ap (field_then name t) (fields-none fs)

pub ruleset unchanged = (changed-none)

-- ---- what is put at a place stands there

put_first : (o : Option Tree) (out : Bool) (w : Tree)
    → option_or o (outcome o out w) ≡ outcome o out w
put_first None out w = refl
put_first (Some t) out w = refl

-- what edits put at a place stands there, whatever else they do
pub put-changed : (es : List Edit) (t : Tree)
    → option_or (put_here es) (changed es t) ≡ changed es t
put-changed es (L_tree ts) = put_first (put_here es) (is_taken es) _
put-changed es (M_tree fs) = put_first (put_here es) (is_taken es) _
put-changed es t = put_first (put_here es) (is_taken es) t
