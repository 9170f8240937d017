-- The attributes of an item after an update: their names rise, none of them is empty, and each stands at its name.
use Rattle.std.proofs.Common.{◌≡◌, refl, sym, ap, ◌∙◌, ℕ, ◌<◌, true, false, cond, ◌||◌, T, List, [], ◌∷◌, map, length, is_some, Some, None, arith}
use Rattle.std.specs.List.{list_any}
use Rattle.std.specs.Option.{option_map_or}
use Rattle.std.specs.Ordering.{eq_by_cmp}
use Rattle.std.specs.FinMap.Entries.{below_all, find-put, is_some-find}
use Rattle.std.proofs.lemmas.List.Folds.{list_any-append}
use Rattle.alt_base.proofs.Bools.{first_holds, second_holds}
use Rattle.alt_base.proofs.Orderings.{is_eq-true}
use Rattle.alt_expr.specs.Located.{View}
use Rattle.alt_expr.specs.Updated.{put_name}
use Rattle.alt_expr.specs.declared.update.Action.{Action}
use Rattle.alt_machine.specs.Ops.UpdateItem.{pairs_of, names_of, attribute_of_path, with_key_attributes}
use Rattle.alt_expr.specs.UpdateLanguage.{target}
use Rattle.alt_value.specs.Item.{IsItem, at_name}
use Rattle.alt_value.specs.Members.{text_order}
use Rattle.alt_value.specs.Tree.{Tree, Pair}
use Rattle.alt_value.proofs.Entries.{IsItem-with_pair}
use Rattle.alt_value.proofs.TextTies.{above_empty_holds}
use Rattle.alt_value.proofs.Texts.{text_total, text_apart}

-- ---- names rise

-- no attribute has the empty name
none_empty : (ps : List Pair) → T (below_all text_order [] ps) → at_name [] ps ≡ None
none_empty [] h = refl
none_empty (([], t) ∷ ps) h = absurd h
none_empty ((c ∷ cs, t) ∷ ps) h = none_empty ps h

-- the name of an attribute has bytes
pub at_name-has_bytes : (name : List ℕ) (t : Tree) (ps : List Pair) → IsItem ps
    → at_name name ps ≡ Some t → 0 < length name
at_name-has_bytes [] t ps item e =
    let f : None ≡ Some t = sym (none_empty ps item.1) ∙ e in
    absurd (let g : ⊥ = cc in g)
at_name-has_bytes (c ∷ cs) t ps item e = omega arith

-- an item stays one when an attribute is put in; under the empty name none is
pub IsItem-put_name : (name : List ℕ) (t : Tree) (ps : List Pair) → IsItem ps
    → IsItem (put_name name t ps)
IsItem-put_name [] t ps h = h
IsItem-put_name (c ∷ cs) t ps h = IsItem-with_pair (c ∷ cs) t ps (omega arith) h

-- the attributes of any names
pub IsItem-pairs_of : (view : View) (names : List (List ℕ)) → IsItem (pairs_of view names)
IsItem-pairs_of view [] = (tt, tt)
IsItem-pairs_of view (name ∷ names) =
    let rest : List Pair = pairs_of view names in
    let others : IsItem rest = IsItem-pairs_of view names in
    elim (view name) as (λ o. IsItem (option_map_or (λ t. put_name name t rest) o rest)) [
      | None ↦ others
      | Some t ↦ IsItem-put_name name t rest others
    ]

-- an item with the attributes of its key
pub IsItem-with_key : (key item : List Pair) → T (below_all text_order [] key) → IsItem item
    → IsItem (with_key_attributes key item)
IsItem-with_key [] item h f = f
IsItem-with_key ((name, t) ∷ key) item h f =
    IsItem-with_pair name t (with_key_attributes key item) (above_empty_holds name (first_holds _ _ h))
    (IsItem-with_key key item (second_holds _ _ h) f)

-- ---- what stands at a name

-- what stands at a name once an attribute was put in: its value where it has that name, and else what stood there
at_name-put_name : (n name : List ℕ) (t : Tree) (ps : List Pair) → 0 < length n
    → at_name n (put_name name t ps) ≡ cond (eq_by_cmp text_order n name) (Some t) (at_name n ps)
at_name-put_name [] [] t ps some = absurd (omega arith)
at_name-put_name (c ∷ cs) [] t ps some = refl
at_name-put_name n (d ∷ ds) t ps some = find-put text_order text_total n (d ∷ ds) t ps

module _ (view : View) (n : List ℕ) (t : Tree) (some : 0 < length n) (is : view n ≡ Some t) where
  -- a name that comes first
  here : (name : List ℕ) (names : List (List ℕ)) → eq_by_cmp text_order n name ≡ true
      → at_name n (pairs_of view (name ∷ names)) ≡ Some t
  here name names e =
      let rest : List Pair = pairs_of view names in
      let same : n ≡ name = text_apart n name (is_eq-true (text_order n name) e) in
      ap (λ o. at_name n (option_map_or (λ u. put_name name u rest) o rest))
      (sym (ap view same) ∙ is)
      ∙ at_name-put_name n name t rest some
      ∙ ap (λ b. cond b (Some t) (at_name n rest)) e

  -- a name that comes later
  later : (name : List ℕ) (names : List (List ℕ)) → eq_by_cmp text_order n name ≡ false
      → at_name n (pairs_of view names) ≡ Some t
      → at_name n (pairs_of view (name ∷ names)) ≡ Some t
  later name names e found =
      let rest : List Pair = pairs_of view names in
      elim (view name) as
      (λ o. at_name n (option_map_or (λ u. put_name name u rest) o rest) ≡ Some t) [
        | None ↦ found
        | Some u ↦ at_name-put_name n name u rest some
            ∙ ap (λ b. cond b (Some u) (at_name n rest)) e ∙ found
      ]

  -- one of the names
  pub at_name-pairs_of : (names : List (List ℕ)) → list_any (eq_by_cmp text_order n) names ≡ true
      → at_name n (pairs_of view names) ≡ Some t
  at_name-pairs_of [] h = absurd (let f : ⊥ = cc in f)
  at_name-pairs_of (name ∷ names) h =
      (elim (eq_by_cmp text_order n name) as (λ b. eq_by_cmp text_order n name ≡ b
      → (b || list_any (eq_by_cmp text_order n) names) ≡ true
      → at_name n (pairs_of view (name ∷ names)) ≡ Some t) [
        | true ↦ λ e _. here name names e
        | false ↦ λ e among. later name names e (at_name-pairs_of names among)
      ]) refl h

-- the name of an attribute that was there is among the names
pub was_among : (update : List Action) (old : List Pair) (n : List ℕ) (t : Tree)
    → at_name n old ≡ Some t
    → list_any (eq_by_cmp text_order n) (names_of update (Some old)) ≡ true
was_among update old n t e =
    let changed : List (List ℕ) = map (λ (a : Action). attribute_of_path (target a)) update in
    list_any-append (eq_by_cmp text_order n) (map (λ (p : Pair). p.0) old) changed
    ∙ ap (λ b. b || list_any (eq_by_cmp text_order n) changed)
    (sym (is_some-find text_order n old) ∙ ap is_some e)

-- an attribute of the key is there
pub at_name-with_key : (n : List ℕ) (t : Tree) (key item : List Pair) → at_name n key ≡ Some t
    → at_name n (with_key_attributes key item) ≡ Some t
at_name-with_key n t [] item e = absurd (let f : ⊥ = cc in f)
at_name-with_key n t ((name, u) ∷ key) item e =
    find-put text_order text_total n name u (with_key_attributes key item)
    ∙ (elim (eq_by_cmp text_order n name) as (λ b. cond b (Some u) (at_name n key) ≡ Some t
    → cond b (Some u) (at_name n (with_key_attributes key item)) ≡ Some t) [
      | true ↦ λ f. f
      | false ↦ λ f. at_name-with_key n t key item f
    ]) e
