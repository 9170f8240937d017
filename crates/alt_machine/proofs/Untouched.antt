-- An update that changes no part of a key leaves the key's attributes as they were.
use Rattle.std.proofs.Common.{◌≡◌, refl, sym, ap, ◌∙◌, ℕ, suc, true, false, cond, List, [], ◌∷◌, ◌++◌, append-nil, Option, Some, None, Ok, IfOk, bytes_eq}
use Rattle.std.specs.List.{list_any}
use Rattle.std.proofs.lemmas.Slice.Eq.{bytes_eq-Decides}
use Rattle.std.proofs.lemmas.Bool.{or_parts}
use Rattle.alt_expr.specs.Located.{View}
use Rattle.alt_expr.specs.Projected.{element_then, pair_then}
use Rattle.alt_expr.specs.UpdateLanguage.{target}
use Rattle.alt_expr.specs.Updated.{Edit, ◌>>=◌, sum_of, parent, added, taken_from_set, edit, edits, edits_behind, under, changed, changed_elements, changed_fields, place_after, updated}
use Rattle.alt_expr.specs.declared.path.PathPart.{PathPart}
use Rattle.alt_expr.specs.declared.path.PathPart.TheVariants.{Name, Index}
use Rattle.alt_expr.specs.declared.update.Action.{Action}
use Rattle.alt_expr.specs.declared.update.Action.TheVariants.{Set, Remove, Add, Delete}
use Rattle.alt_legacy.proofs.Updating.{after-none}
use Rattle.alt_machine.specs.Expressions.{begins_with_key}
use Rattle.alt_machine.proofs.FullTerms as term
use Rattle.alt_schema.specs.Indexes.{is_key}
use Rattle.alt_schema.specs.declared.schema.TableSchema.{TableSchema}
use Rattle.alt_value.specs.Stands.{tree_of}
use Rattle.alt_value.specs.Tree.{Tree, L_tree, M_tree, Trees, no_trees, tree_then, Fields, no_fields, field_then, trees_of, fields_of, elements, pairs}
use Rattle.alt_value.proofs.Trees.{trees_of-elements, fields_of-pairs}

-- ---- without edits a value stays

mutual
  unchanged : (t : Tree) → changed [] t ≡ Some t
  unchanged (L_tree ts) =
      ap (λ (us : Trees). Some (L_tree (trees_of (elements us ++ [])))) (unchanged_elements 0 ts)
      ∙ ap (λ (us : List Tree). Some (L_tree (trees_of us))) (append-nil (elements ts))
      ∙ ap (λ (us : Trees). Some (L_tree us)) (trees_of-elements ts)
  unchanged (M_tree fs) =
      ap (λ (gs : Fields). Some (M_tree (fields_of (pairs gs)))) (unchanged_fields fs)
      ∙ ap (λ (gs : Fields). Some (M_tree gs)) (fields_of-pairs fs)
  unchanged t = refl

  unchanged_elements : (i : ℕ) (ts : Trees) → changed_elements [] i ts ≡ ts
  unchanged_elements i no_trees = refl
  unchanged_elements i (tree_then t ts) =
      ap (λ o. element_then o (changed_elements [] (suc i) ts)) (unchanged t)
      ∙ ap (tree_then t) (unchanged_elements (suc i) ts)

  unchanged_fields : (fs : Fields) → changed_fields [] fs ≡ fs
  unchanged_fields no_fields = refl
  unchanged_fields (field_then name t fs) =
      ap (λ o. pair_then name o (changed_fields [] fs)) (unchanged t)
      ∙ ap (field_then name t) (unchanged_fields fs)

-- ---- where an action edits

-- its edit is at its path
edit_at : (view : View) (a : Action) → IfOk (edit view a) (λ e. e.0 ≡ target a)
edit_at view (Set path sum) = term.behind (λ _. Unit {0}) (λ (e : Edit). e.0 ≡ path)
    (sum_of view sum) (λ t. parent view path >>= (λ _. Ok (path, Some t)))
    (term.anything (sum_of view sum)) (λ t _. term.behind (λ _. Unit {0})
    (λ (e : Edit). e.0 ≡ path) (parent view path) (λ _. Ok (path, Some t))
    (term.anything (parent view path)) (λ _ _. refl))
edit_at view (Remove path) = term.behind (λ _. Unit {0}) (λ (e : Edit). e.0 ≡ path)
    (parent view path) (λ _. Ok (path, None)) (term.anything (parent view path)) (λ _ _. refl)
edit_at view (Add name a) = term.behind (λ _. Unit {0}) (λ (e : Edit). e.0 ≡ Name name ∷ [])
    (added (view name) (tree_of a)) (λ t. Ok (Name name ∷ [], Some t))
    (term.anything (added (view name) (tree_of a))) (λ _ _. refl)
edit_at view (Delete name a) = term.behind (λ _. Unit {0}) (λ (e : Edit). e.0 ≡ Name name ∷ [])
    (taken_from_set (view name) (tree_of a)) (λ o. Ok (Name name ∷ [], o))
    (term.anything (taken_from_set (view name) (tree_of a))) (λ _ _. refl)

module _ (d : TableSchema) (n : List ℕ) (is : is_key d.hash d.range n ≡ true) where
  -- an edit whose path doesn't begin with a key's name doesn't go on from one
  none_behind : (path : List PathPart) (v : Option Tree) → begins_with_key d path ≡ false
      → edits_behind (Name n) (path, v) ≡ []
  none_behind [] v e = refl
  none_behind (Index i ∷ ps) v e = refl
  none_behind (Name m ∷ ps) v e = (elim (bytes_eq n m) as
      (λ b. bytes_eq n m ≡ b → ◌≡◌ {A = List Edit} (cond b ((ps, v) ∷ []) []) []) [
        | true ↦ λ same.
            let f : is_key d.hash d.range m ≡ true =
            ap (is_key d.hash d.range) (sym ((bytes_eq-Decides n m).0 same)) ∙ is in
            absurd (let g : ⊥ = cc (e, f) in g)
        | false ↦ λ _. refl
      ]) refl

  -- nor do all of them
  none_under : (view : View) (actions : List Action)
      → list_any (λ a. begins_with_key d (target a)) actions ≡ false
      → IfOk (edits view actions) (λ es. under (Name n) es ≡ [])
  none_under view [] h = refl
  none_under view (a ∷ more) h =
      let other = or_parts (begins_with_key d (target a)) _ h in
      term.behind (λ (e : Edit). e.0 ≡ target a) (λ (es : List Edit). under (Name n) es ≡ [])
      (edit view a) (λ e. edits view more >>= (λ es. Ok (e ∷ es))) (edit_at view a) (λ e at.
      term.behind (λ (es : List Edit). under (Name n) es ≡ [])
      (λ (es : List Edit). under (Name n) es ≡ [])
      (edits view more) (λ es. Ok (e ∷ es)) (none_under view more other.1) (λ es none.
      ap (λ (l : List Edit). l ++ under (Name n) es)
      (ap (λ path. edits_behind (Name n) (path, e.1)) at ∙ none_behind (target a) e.1 other.0) ∙ none))

  -- so what stands at the name stays
  pub key_stays : (view : View) (actions : List Action)
      → list_any (λ a. begins_with_key d (target a)) actions ≡ false
      → IfOk (updated view actions) (λ new. new n ≡ view n)
  key_stays view actions h = term.behind (λ (es : List Edit). under (Name n) es ≡ [])
      (λ (new : View). new n ≡ view n) (edits view actions)
      (λ es. Ok (λ name. place_after (under (Name name) es) (view name)))
      (none_under view actions h) (λ es none.
      ap (λ us. place_after us (view n)) none ∙ after-none (view n))
