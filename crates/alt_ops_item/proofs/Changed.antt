-- Changes that are made one after another leave what the machine has at the names that may be there.
use Rattle.std.proofs.Common.{◌≡◌, refl, sym, ap, ◌∙◌, ℕ, ◌<◌, Bool, true, false, cond, not, List, [], ◌∷◌, ◌++◌, map, length, is_some, Option, Some, None, Result, Ok, Err, bytes_eq, arith}
use Rattle.std.specs.Prelude.{unwrap_or, option_map, if◌then◌else◌}
use Rattle.std.specs.List.{list_any}
use Rattle.std.specs.Option.{option_map_or}
use Rattle.std.specs.Ordering.{eq_by_cmp}
use Rattle.std.specs.Cmp.Lexicographic.{nat_list_eq_equiv}
use Rattle.std.specs.FinMap.Entries.{find-put, find-where_key, is_some-find, same_entries}
use Rattle.std.proofs.lemmas.List.Folds.{list_any-append}
use Rattle.std.proofs.lemmas.Slice.Eq.{bytes_eq-Decides}
use Rattle.std.proofs.lemmas.Bool.{or_parts}
use Rattle.alt_expr.specs.Located.{View}
use Rattle.alt_expr.specs.UpdateLanguage.{target}
use Rattle.alt_expr.specs.Updated.{Edit, ActionFault, edit, edits, sum_of, parent, added, taken_from_set, edits_behind, under, place_after, put_name, updated, ◌>>=◌}
use Rattle.alt_expr.specs.declared.path.PathPart.TheVariants.{Name, Index}
use Rattle.alt_expr.specs.declared.update.Action.{Action}
use Rattle.alt_expr.specs.declared.update.Action.TheVariants.{Set, Remove, Add, Delete}
use Rattle.alt_machine.specs.Conditional.{seen}
use Rattle.alt_machine.specs.Ops.UpdateItem.{attribute_of_path, names_of, pairs_of}
use Rattle.alt_machine.proofs.Names.{IsItem-pairs_of, at_name-pairs_of, at_name-has_bytes, IsItem-put_name}
use Rattle.alt_ops_item.specs.private.Updates.{with_attribute_change, with_changes}
use Rattle.alt_updeval.specs.Changes.{changed_by}
use Rattle.alt_updeval.specs.declared.update.AttrChange.{AttrChange}
use Rattle.alt_value.specs.Item.{IsItem, at_name, without}
use Rattle.alt_value.specs.Members.{text_order}
use Rattle.alt_value.specs.Stands.{tree_of}
use Rattle.alt_value.specs.Tree.{Tree, Pair}
use Rattle.alt_value.proofs.Entries.{IsItem-without}
use Rattle.alt_value.proofs.TextTies.{text_ties}
use Rattle.alt_value.proofs.Texts.{text_total, text_apart}

-- ---- what stands at a name

at_name-put_name : (q n : List ℕ) (t : Tree) (ps : List Pair) → 0 < length q
    → at_name q (put_name n t ps) ≡ cond (bytes_eq q n) (Some t) (at_name q ps)
at_name-put_name [] n t ps some = absurd (omega arith)
at_name-put_name (c ∷ cs) [] t ps some = refl
at_name-put_name (c ∷ cs) (d ∷ ds) t ps some =
    find-put text_order text_total (c ∷ cs) (d ∷ ds) t ps
    ∙ ap (λ b. cond b (Some t) (at_name (c ∷ cs) ps)) (text_ties (c ∷ cs) (d ∷ ds))

turned : (b : Bool) (o : Option Tree) → cond (not b) o None ≡ cond b None o
turned true o = refl
turned false o = refl

at_name-without : (q n : List ℕ) (ps : List Pair)
    → at_name q (without n ps) ≡ cond (bytes_eq q n) None (at_name q ps)
at_name-without q n ps =
    find-where_key text_order (λ other. not (eq_by_cmp text_order n other)) q
    (λ x e. ap (λ other. not (eq_by_cmp text_order n other)) (sym (text_apart q x e))) ps
    ∙ turned (eq_by_cmp text_order n q) (at_name q ps)
    ∙ ap (λ b. cond b None (at_name q ps)) (text_ties n q ∙ nat_list_eq_equiv.symm n q)

-- one change sets what stands at its name alone
at_name-change : (q : List ℕ) (c : AttrChange) (item : List Pair) → 0 < length q
    → at_name q (with_attribute_change c item)
    ≡ cond (bytes_eq q c.name) (option_map tree_of c.value) (at_name q item)
at_name-change q c item some = elim c.value as (λ o. at_name q
    (option_map_or (λ a. put_name c.name (tree_of a) item) o (without c.name item))
    ≡ cond (bytes_eq q c.name) (option_map tree_of o) (at_name q item)) [
      | None ↦ at_name-without q c.name item
      | Some a ↦ at_name-put_name q c.name (tree_of a) item some
    ]

-- so do all of them
at_name-changes : (cs : List AttrChange) (item : List Pair) (view : View)
    → ((n : List ℕ) → 0 < length n → at_name n item ≡ view n) → (q : List ℕ) → 0 < length q
    → at_name q (with_changes cs item) ≡ changed_by cs view q
at_name-changes [] item view h q some = h q some
at_name-changes (c ∷ cs) item view h q some =
    at_name-changes cs (with_attribute_change c item)
    (λ n. if bytes_eq n c.name then option_map tree_of c.value else view n)
    (λ n more. at_name-change n c item more
    ∙ ap (cond (bytes_eq n c.name) (option_map tree_of c.value)) (h n more)) q some

IsItem-change : (c : AttrChange) (item : List Pair) → IsItem item → IsItem (with_attribute_change c item)
IsItem-change c item h = elim c.value as (λ o. IsItem
    (option_map_or (λ a. put_name c.name (tree_of a) item) o (without c.name item))) [
      | None ↦ IsItem-without c.name item h
      | Some a ↦ IsItem-put_name c.name (tree_of a) item h
    ]

IsItem-changes : (cs : List AttrChange) (item : List Pair) → IsItem item
    → IsItem (with_changes cs item)
IsItem-changes [] item h = h
IsItem-changes (c ∷ cs) item h = IsItem-changes cs (with_attribute_change c item) (IsItem-change c item h)

-- a name without a value has none among those of any names
no_pair : (view : View) (q : List ℕ) → view q ≡ None → 0 < length q → (names : List (List ℕ))
    → at_name q (pairs_of view names) ≡ None
no_pair view q none some [] = refl
no_pair view q none some (n ∷ names) =
    let rest : List Pair = pairs_of view names in
    let missing : at_name q rest ≡ None = no_pair view q none some names in
    (elim (view n) as (λ o. view n ≡ o
    → at_name q (option_map_or (λ t. put_name n t rest) o rest) ≡ None) [
      | None ↦ λ is. missing
      | Some t ↦ λ is. at_name-put_name q n t rest some
          ∙ (elim (bytes_eq q n) as (λ b. bytes_eq q n ≡ b
          → cond b (Some t) (at_name q rest) ≡ None) [
            | true ↦ λ e. sym is ∙ ap view (sym ((bytes_eq-Decides q n).0 e)) ∙ none
            | false ↦ λ e. missing
          ]) refl
    ]) refl

-- ---- which names an update changes

-- what was found first, and what was made of it
found_first : {A B : Type 0} (r : Result A ActionFault) (next : A → Result B ActionFault) (b : B)
    → r >>= next ≡ Ok b → (a : A) × (r ≡ Ok a) × (next a ≡ Ok b)
found_first (Ok a) next b e = (a, refl, e)
found_first (Err f) next b e = absurd (let g : ⊥ = cc in g)

abbrev fine : {A : Type 0} → A → Result A ActionFault
fine x = Ok x

same_Ok : {A : Type 0} (x y : A) → fine x ≡ fine y → x ≡ y
same_Ok x y e = cc

-- an action changes its target
edit-target : (view : View) (a : Action) (e : Edit) → edit view a ≡ Ok e → e.0 ≡ target a
edit-target view (Set path sum) e h =
    let one = found_first (sum_of view sum) (λ t. parent view path
    >>= (λ _. Ok (path, Some t))) e h in
    let two = found_first (parent view path) (λ _. Ok (path, Some one.0)) e one.2 in
    ap (λ (x : Edit). x.0) (sym (same_Ok (path, Some one.0) e two.2))
edit-target view (Remove path) e h =
    let one = found_first (parent view path) (λ _. Ok (path, None)) e h in
    ap (λ (x : Edit). x.0) (sym (same_Ok (path, None) e one.2))
edit-target view (Add name v) e h =
    let one = found_first (added (view name) (tree_of v)) (λ t. Ok (Name name ∷ [], Some t)) e h in
    ap (λ (x : Edit). x.0) (sym (same_Ok (Name name ∷ [], Some one.0) e one.2))
edit-target view (Delete name v) e h =
    let one = found_first (taken_from_set (view name) (tree_of v)) (λ o. Ok (Name name ∷ [], o)) e h in
    ap (λ (x : Edit). x.0) (sym (same_Ok (Name name ∷ [], one.0) e one.2))

-- nothing stands behind a name that an edit doesn't begin with
behind_none : (q : List ℕ) (e : Edit) → eq_by_cmp text_order q (attribute_of_path e.0) ≡ false
    → edits_behind (Name q) e ≡ []
behind_none q ([], v) h = refl
behind_none q (Name m ∷ ps, v) h =
    ap (λ b. if b then (ps, v) ∷ [] else []) (sym (text_ties q m) ∙ h)
behind_none q (Index i ∷ ps, v) h = refl

-- the names of the attributes that actions change
abbrev changed_names : List Action → List (List ℕ)
changed_names actions = map (λ (a : Action). attribute_of_path (target a)) actions

under_none : (view : View) (actions : List Action) (es : List Edit) → edits view actions ≡ Ok es
    → (q : List ℕ) → list_any (eq_by_cmp text_order q) (changed_names actions) ≡ false
    → under (Name q) es ≡ []
under_none view [] es h q none = ap (under (Name q)) (sym (same_Ok [] es h))
under_none view (a ∷ more) es h q none =
    let one = found_first (edit view a) (λ e. edits view more >>= (λ rest. Ok (e ∷ rest))) es h in
    let two = found_first (edits view more) (λ rest. Ok (one.0 ∷ rest)) es one.2 in
    let apart = or_parts (eq_by_cmp text_order q (attribute_of_path (target a)))
    (list_any (eq_by_cmp text_order q) (changed_names more)) none in
    ap (under (Name q)) (sym (same_Ok (one.0 ∷ two.0) es two.2))
    ∙ (λ i. behind_none q one.0
    (ap (λ path. eq_by_cmp text_order q (attribute_of_path path)) (edit-target view a one.0 one.1)
    ∙ apart.0) i ++ under_none view more two.0 two.1 q apart.1 i)

-- the attributes of the item that is there, or of the empty one
pub seen_is : (old : Option (List Pair)) → seen old ≡ (λ name. at_name name (unwrap_or old []))
seen_is None = refl
seen_is (Some item) = refl

-- an option that has no value is None
no_value : (o : Option Tree) → is_some o ≡ false → o ≡ None
no_value None e = refl
no_value (Some t) e = absurd (let f : ⊥ = cc in f)

not_some : (t : Tree) → None ≡ Some t → ⊥
not_some t e = let f : ⊥ = cc in f

module _ (old : Option (List Pair)) (update : List Action) (view : View)
    (is : updated (seen old) update ≡ Ok view) where
  -- a name that isn't among the names has no value
  pub valueless : (q : List ℕ)
      → list_any (eq_by_cmp text_order q) (names_of update old) ≡ false → view q ≡ None
  valueless q none =
      let before : List Pair = unwrap_or old [] in
      let one = found_first (edits (seen old) update)
      (λ es. Ok (λ name. place_after (under (Name name) es) (seen old name))) view is in
      let apart = or_parts (list_any (eq_by_cmp text_order q) (map (λ p. p.0) before))
      (list_any (eq_by_cmp text_order q) (changed_names update))
      (sym (list_any-append (eq_by_cmp text_order q) (map (λ p. p.0) before)
      (changed_names update)) ∙ none) in
      let absent : at_name q before ≡ None = no_value (at_name q before)
      (is_some-find text_order q before ∙ apart.0) in
      ap (λ (v : View). v q)
      (sym (same_Ok (λ name. place_after (under (Name name) one.0) (seen old name)) view one.2))
      ∙ (λ i. place_after (under_none (seen old) update one.0 one.1 q apart.1 i)
      ((ap (λ (v : View). v q) (seen_is old) ∙ absent) i))

-- no name but those among the names has a value
abbrev HasOnly : List (List ℕ) → View → Type 0
HasOnly names view = (q : List ℕ) → list_any (eq_by_cmp text_order q) names ≡ false → view q ≡ None

module _ (old : Option (List Pair)) (update : List Action) (view : View)
    (only : HasOnly (names_of update old) view) where
  among : (q : List ℕ) (t : Tree) → view q ≡ Some t
      → list_any (eq_by_cmp text_order q) (names_of update old) ≡ true
  among q t there = (elim (list_any (eq_by_cmp text_order q) (names_of update old)) as
      (λ b. list_any (eq_by_cmp text_order q) (names_of update old) ≡ b → b ≡ true) [
        | true ↦ λ e. refl
        | false ↦ λ e. absurd (not_some t (sym (only q e) ∙ there))
      ]) refl

-- ---- the item

-- no attribute of an item has the empty name
no_empty : (ps : List Pair) → IsItem ps → at_name [] ps ≡ None
no_empty ps item = by (at_name [] ps) refl
  where
    by : (o : Option Tree) → at_name [] ps ≡ o → at_name [] ps ≡ None
    by None e = e
    by (Some t) e =
        let some : 0 < length {A = ℕ} [] = at_name-has_bytes [] t ps item e in
        absurd (omega (arith, some))

module _ (old : Option (List Pair)) (update : List Action) (cs : List AttrChange)
    (item : IsItem (unwrap_or old []))
    (only : HasOnly (names_of update old) (changed_by cs (seen old))) where
  abbrev now : View
  now = changed_by cs (seen old)

  abbrev made : List Pair
  made = with_changes cs (unwrap_or old [])

  at_made : (q : List ℕ) → 0 < length q → at_name q made ≡ now q
  at_made = at_name-changes cs (unwrap_or old []) (seen old)
      (λ n some. sym (ap (λ (v : View). v n) (seen_is old)))

  at_each : (q : List ℕ) → at_name q (pairs_of now (names_of update old)) ≡ at_name q made
  at_each [] =
      no_empty (pairs_of now (names_of update old)) (IsItem-pairs_of now (names_of update old))
      ∙ sym (no_empty made (IsItem-changes cs (unwrap_or old []) item))
  at_each (c ∷ rest) =
      let some : 0 < length (c ∷ rest) = omega arith in
      (elim (now (c ∷ rest)) as (λ o. now (c ∷ rest) ≡ o
      → at_name (c ∷ rest) (pairs_of now (names_of update old)) ≡ o) [
        | None ↦ λ e. no_pair now (c ∷ rest) e some (names_of update old)
        | Some t ↦ λ e. at_name-pairs_of now (c ∷ rest) t some e (names_of update old)
            (among old update now only (c ∷ rest) t e)
      ]) refl
      ∙ sym (at_made (c ∷ rest) some)

  -- an item's pairs at the names that an update may touch are those that were made
  pub pairs_made : pairs_of now (names_of update old) ≡ made
  pairs_made = same_entries text_order text_total text_apart
      (pairs_of now (names_of update old)) made
      (IsItem-pairs_of now (names_of update old)).0
      (IsItem-changes cs (unwrap_or old []) item).0 at_each

-- so for what an update makes
pub pairs_are : (old : Option (List Pair)) (update : List Action) (cs : List AttrChange)
    → IsItem (unwrap_or old []) → updated (seen old) update ≡ Ok (changed_by cs (seen old))
    → pairs_of (changed_by cs (seen old)) (names_of update old)
    ≡ with_changes cs (unwrap_or old [])
pairs_are old update cs item is = pairs_made old update cs item
    (valueless old update (changed_by cs (seen old)) is)
