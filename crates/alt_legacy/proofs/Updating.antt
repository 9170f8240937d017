-- The actions of entries make of an item what the entries do.
use Rattle.std.proofs.Common.{◌≡◌, refl, sym, ap, subst, ◌∙◌, ℕ, suc, Bool, true, false, List, [], ◌∷◌, ◌++◌, append-nil, map, Option, Some, None, Ok, Err, IfOk, rules}
use Rattle.std.specs.Prelude.{Result, if◌then◌else◌}
use Rattle.std.specs.List.{AllByRecursion}
use Rattle.std.specs.Str.{bytes_eq}
use Rattle.std.proofs.lemmas.Slice.Eq.{bytes_eq-Decides}
use Rattle.alt_value.specs.declared.attr.Attr.{Attr}
use Rattle.alt_value.specs.Stands.{tree_of}
use Rattle.alt_value.specs.Tree.{Tree, L_tree, M_tree, Trees, no_trees, tree_then, Fields, no_fields, field_then, trees_of, fields_of, elements, pairs}
use Rattle.alt_expr.specs.Located.{View}
use Rattle.alt_expr.specs.Projected.{element_then, pair_then}
use Rattle.alt_expr.specs.UpdateLanguage.{target}
use Rattle.alt_expr.specs.Updated.{ActionFault, Edit, ◌>>=◌, parent, added, edit, edits, under, changed, changed_elements, changed_fields, place_after, updated, term}
use Rattle.alt_expr.specs.declared.path.PathPart.TheVariants.{Name}
use Rattle.alt_expr.specs.declared.update.Term.{the_lemmas}
use Rattle.alt_expr.specs.declared.update.Term.TheVariants as term_of
use Rattle.alt_legacy.specs.Changes.{AttributeChange, put, add, remove, take, NamedChange, changed_attribute, view_with_attribute, legacy_updated, change_takes_away, is_taking, UpdateMakes, Differ}
use Rattle.alt_legacy.specs.Trees.{attribute_path, action_for, action_of}
use Rattle.alt_value.proofs.Trees.{trees_of-elements, fields_of-pairs}

-- ---- without edits a value stays

mutual
  unchanged : (t : Tree) → changed [] t ≡ Some t
  unchanged (L_tree ts) =
      ap (λ (us : Trees). Some (L_tree (trees_of (elements us ++ [])))) (unchanged_elements 0 ts)
      ∙ ap (λ (us : List Tree). Some (L_tree (trees_of us))) (append-nil (elements ts))
      ∙ ap (λ (us : Trees). Some (L_tree us)) (trees_of-elements ts)
  unchanged (M_tree fs) =
      ap (λ (gs : Fields). Some (M_tree (fields_of (pairs gs)))) (unchanged_fields fs)
      ∙ ap (λ (gs : Fields). Some (M_tree gs)) (fields_of-pairs fs)
  unchanged t = refl

  unchanged_elements : (i : ℕ) (ts : Trees) → changed_elements [] i ts ≡ ts
  unchanged_elements i no_trees = refl
  unchanged_elements i (tree_then t ts) =
      ap (λ o. element_then o (changed_elements [] (suc i) ts)) (unchanged t)
      ∙ ap (tree_then t) (unchanged_elements (suc i) ts)

  unchanged_fields : (fs : Fields) → changed_fields [] fs ≡ fs
  unchanged_fields no_fields = refl
  unchanged_fields (field_then name t fs) =
      ap (λ o. pair_then name o (changed_fields [] fs)) (unchanged t)
      ∙ ap (field_then name t) (unchanged_fields fs)

-- what was there is as it was, and what wasn't stays away
pub after-none : (o : Option Tree) → place_after [] o ≡ o
after-none None = refl
after-none (Some t) = unchanged t

-- ---- one edit of a whole attribute

-- a value that is put at a place is there
put_there : (t u : Tree) → changed (([], Some t) ∷ []) u ≡ Some t
put_there t (L_tree ts) = refl
put_there t (M_tree fs) = refl
put_there t u = refl

-- a place that is taken out is empty
taken_there : (u : Tree) → changed (([], None) ∷ []) u ≡ None
taken_there (L_tree ts) = refl
taken_there (M_tree fs) = refl
taken_there u = refl

after-one : (x o : Option Tree) → place_after (([], x) ∷ []) o ≡ x
after-one None None = refl
after-one (Some t) None = refl
after-one None (Some u) = taken_there u
after-one (Some t) (Some u) = put_there t u

-- ---- one action

-- a given value stands for itself
pub given_term : (item : View) (v : Attr) → term item (term_of.Value v) ≡ Ok (tree_of v)
unfolding term
given_term item v = search (rules, the_lemmas)

-- what is made of the attribute of a name
abbrev edit_at : List ℕ → Option Tree → Result Edit ActionFault
edit_at name x = Ok (Name name ∷ [], x)

-- what an action edits is what its change makes
added_edit : (name : List ℕ) (r : Result Tree ActionFault)
    → (r >>= (λ t. edit_at name (Some t))) ≡ ((r >>= (λ t. Ok (Some t))) >>= edit_at name)
added_edit name (Ok t) = refl
added_edit name (Err f) = refl

edited : (item : View) (name : List ℕ) (c : AttributeChange) → edit item (action_for name c)
    ≡ (changed_attribute c (item name) >>= edit_at name)
edited item name (put v) = ap (λ (r : Result Tree ActionFault). r >>= (λ t. parent item (attribute_path name)
    >>= (λ _. edit_at name (Some t)))) (given_term item v)
edited item name (add v) = added_edit name (added (item name) (tree_of v))
edited item name remove = refl
edited item name (take v) = refl

-- ---- all actions

-- what follows, where the first change was made
abbrev first_edit : List ℕ → Result (Option Tree) ActionFault → Result (List Edit) ActionFault
    → Result (List Edit) ActionFault
first_edit name r more = (r >>= (λ (x : Option Tree). Ok (Name name ∷ [], x)))
    >>= (λ (e : Edit). more >>= (λ es. Ok (e ∷ es)))

-- no edit lies under a name
abbrev IsFree : List (List ℕ) → List Edit → Type 0
IsFree names es = (q : List ℕ) → AllByRecursion (λ n. bytes_eq q n ≡ false) names
    → under (Name q) es ≡ []

free_more : (name : List ℕ) (names : List (List ℕ)) (r : Result (Option Tree) ActionFault)
    (more : Result (List Edit) ActionFault) → IfOk more (IsFree names)
    → IfOk (first_edit name r more) (IsFree (name ∷ names))
free_more name names (Err f) more h = tt
free_more name names (Ok x) (Err f) h = tt
free_more name names (Ok x) (Ok es) h = λ q apart.
    ap (λ (b : Bool). (if b then ([], x) ∷ [] else []) ++ under (Name q) es) apart.0 ∙ h q apart.1

-- the edits of entries are under their names alone
free : (item : View) (cs : List NamedChange)
    → IfOk (edits item (map action_of cs)) (IsFree (map (λ c. c.name) cs))
free item [] = λ q apart. refl
free item (c ∷ cs) =
    subst (λ (r : Result Edit ActionFault). IfOk (r >>= (λ e. edits item (map action_of cs)
    >>= (λ es. Ok (e ∷ es)))) (IsFree (c.name ∷ map (λ d. d.name) cs)))
    (sym (edited item c.name c.change))
    (free_more c.name (map (λ d. d.name) cs) (changed_attribute c.change (item c.name))
    (edits item (map action_of cs)) (free item cs))

-- the item after edits
abbrev view_after : View → List Edit → View
view_after item es = λ name. place_after (under (Name name) es) (item name)

-- the first edit alone changes its attribute
at_name : (item : View) (name q : List ℕ) (x : Option Tree) (es : List Edit)
    → under (Name name) es ≡ [] → (b : Bool) → bytes_eq q name ≡ b
    → place_after ((if b then ([], x) ∷ [] else []) ++ under (Name q) es) (item q)
    ≡ (if b then x else place_after (under (Name q) es) (item q))
at_name item name q x es none true is =
    ap (λ (us : List Edit). place_after (([], x) ∷ us) (item q))
    (ap (λ (n : List ℕ). under (Name n) es) ((bytes_eq-Decides q name).0 is) ∙ none)
    ∙ after-one x (item q)
at_name item name q x es none false is = refl

step : (item : View) (name : List ℕ) (names : List (List ℕ)) (r : Result (Option Tree) ActionFault)
    (more : Result (List Edit) ActionFault) → IfOk more (IsFree names)
    → AllByRecursion (λ n. bytes_eq name n ≡ false) names
    → (first_edit name r more >>= (λ es. Ok (view_after item es)))
    ≡ (r >>= (λ x. (more >>= (λ es. Ok (view_after item es)))
    >>= (λ new. Ok (view_with_attribute name x new))))
step item name names (Err f) more h apart = refl
step item name names (Ok x) (Err f) h apart = refl
step item name names (Ok x) (Ok es) h apart = λ i. Ok (λ q.
    at_name item name q x es (h name apart) (bytes_eq q name) refl i)

-- the update of entries with names that differ
pub updated_so : (item : View) (cs : List NamedChange) → Differ (map (λ c. c.name) cs)
    → updated item (map action_of cs) ≡ legacy_updated item cs
updated_so item [] d = λ i. Ok (λ q. after-none (item q) i)
updated_so item (c ∷ cs) d =
    ap (λ (r : Result Edit ActionFault). (r >>= (λ e. edits item (map action_of cs)
    >>= (λ es. Ok (e ∷ es)))) >>= (λ es. Ok (view_after item es)))
    (edited item c.name c.change)
    ∙ step item c.name (map (λ e. e.name) cs) (changed_attribute c.change (item c.name))
    (edits item (map action_of cs)) (free item cs) d.0
    ∙ ap (λ (m : Result View ActionFault). changed_attribute c.change (item c.name)
    >>= (λ x. m >>= (λ new. Ok (view_with_attribute c.name x new)))) (updated_so item cs d.1)

-- ---- their targets

target_of : (name : List ℕ) (c : AttributeChange) → target (action_for name c) ≡ attribute_path name
target_of name (put v) = refl
target_of name (add v) = refl
target_of name remove = refl
target_of name (take v) = refl

pub targets : (cs : List NamedChange) → map target (map action_of cs) ≡ map (λ c. attribute_path c.name) cs
targets [] = refl
targets (c ∷ cs) = λ i. target_of c.name c.change i ∷ targets cs i

taking_of : (name : List ℕ) (c : AttributeChange) → is_taking (action_for name c) ≡ change_takes_away c
taking_of name (put v) = refl
taking_of name (add v) = refl
taking_of name remove = refl
taking_of name (take v) = refl

takings : (cs : List NamedChange)
    → map is_taking (map action_of cs) ≡ map (λ c. change_takes_away c.change) cs
takings [] = refl
takings (c ∷ cs) = λ i. taking_of c.name c.change i ∷ takings cs i

-- what entries make, as their update does
pub makes : (cs : List NamedChange) → Differ (map (λ c. c.name) cs)
    → UpdateMakes cs (map action_of cs)
makes cs d = record {
  same_items = λ item. updated_so item cs d;
  targets = targets cs;
  takings = takings cs;
}
