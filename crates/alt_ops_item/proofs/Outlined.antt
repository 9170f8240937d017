-- An outline of an item has its depth, is no larger, and has the same keys, so what refuses it refuses the item.
use Rattle.std.proofs.Common.{◌≡◌, refl, sym, ap, subst, ◌∙◌, ℕ, ◌<◌, ◌≤◌, nat_le, Bool, true, false, ◌&&◌, List, [], ◌∷◌, length, Option, Some, None, Ok, Err, arith}
use Rattle.std.specs.Prelude.{unwrap_or, nat_lt, if◌then◌else◌}
use Rattle.std.specs.List.{list_all, list_any}
use Rattle.std.specs.Option.{option_map_or}
use Rattle.std.specs.Ordering.{eq_by_cmp}
use Rattle.std.proofs.lemmas.Bool.{leb-false, lt-leb}
use Rattle.std.proofs.Math.Bool.{and-false}
use Rattle.alt_expr.specs.Located.{View}
use Rattle.alt_expr.specs.Updated.{put_name, updated}
use Rattle.alt_expr.specs.declared.update.Action.{Action}
use Rattle.alt_machine.specs.Conditional.{seen}
use Rattle.alt_machine.specs.declared.Expressions.{Expressions}
use Rattle.alt_machine.specs.declared.TheConstants.{LARGEST_ITEM}
use Rattle.alt_machine.specs.Ops.UpdateItem.{item_after, left_by_update, makes_none, names_of, of_left, pairs_of, with_key_attributes}
use Rattle.alt_machine.specs.Refusals.{first_answer, refuse_unless}
use Rattle.alt_machine.specs.Valid.{deepest}
use Rattle.alt_ops_item.specs.private.Outlines.{IsOutline}
use Rattle.alt_ops_item.specs.private.Updates.{left_or_refusal, with_changes}
use Rattle.alt_ops_item.proofs.Changed.{pairs_made, valueless}
use Rattle.alt_ops_item.proofs.Evaluated.{behind_view, view_same}
use Rattle.alt_ops_item.proofs.Left.{left-made, left-refused}
use Rattle.alt_request.specs.Steps.{Comes, Tested}
use Rattle.alt_request.specs.declared.stop.Stop.{Stop}
use Rattle.alt_request.specs.declared.stop.Stop.TheVariants.{Refused, Fault}
use Rattle.alt_schema.specs.Indexes.{index_fits, indexes, is_key_length, is_key_or_none, is_key_value, keys_fit, longest_hash, longest_range, of_range, part_fits}
use Rattle.alt_schema.specs.declared.schema.IndexSchema.{IndexSchema}
use Rattle.alt_schema.specs.declared.schema.KeyAttr.{KeyAttr}
use Rattle.alt_schema.specs.declared.schema.TableSchema.{TableSchema}
use Rattle.alt_shape.specs.Refusals.{Answer, refused, bad_index_key, item_too_large, nested_too_deep}
use Rattle.alt_updeval.specs.Changes.{changed_by}
use Rattle.alt_updeval.specs.Sketched.{IsSketch}
use Rattle.alt_updeval.specs.StandsIn.{EachOfTwo, StandsInAt, StandsInIf, as_key, longest_key}
use Rattle.alt_updeval.specs.declared.sketch.Sketch.{Sketch}
use Rattle.alt_updeval.proofs.StandIns.{itself, pairs_alike, put_in, put_name_in}
use Rattle.alt_value.specs.Item.{IsItem, at_name}
use Rattle.alt_value.specs.Members.{text_order}
use Rattle.alt_value.specs.Size.{fields_depth, item_size}
use Rattle.alt_value.specs.Tree.{Tree, S_tree, N_tree, B_tree, BOOL_tree, NULL_tree, SS_tree, NS_tree, BS_tree, L_tree, M_tree, Pair, fields_of}
use Rattle.alt_value.specs.declared.kind.KeyKind.{KeyKind}
use Rattle.alt_value.specs.declared.kind.KeyKind.TheVariants.{S, N, B}

-- ---- the outline of an item

-- one attribute more, where one stands in for the other
pair_in : (n : List ℕ) (ps qs : List Pair) → EachOfTwo StandsInAt ps qs → (o p : Option Tree)
    → StandsInIf o p → EachOfTwo StandsInAt (option_map_or (λ t. put_name n t ps) o ps)
    (option_map_or (λ t. put_name n t qs) p qs)
pair_in n ps qs h None None s = h
pair_in n ps qs h (Some t) (Some u) s = put_name_in n t u s ps qs h
pair_in n ps qs h None (Some u) s = absurd s
pair_in n ps qs h (Some t) None s = absurd s

-- the attributes of any names
pairs_in : (now new : View) → ((q : List ℕ) → StandsInIf (now q) (new q))
    → (names : List (List ℕ)) → EachOfTwo StandsInAt (pairs_of now names) (pairs_of new names)
pairs_in now new h [] = tt
pairs_in now new h (n ∷ names) = pair_in n (pairs_of now names) (pairs_of new names)
    (pairs_in now new h names) (now n) (new n) (h n)

-- where no value is, none stands in for it
none_too : (o p : Option Tree) → StandsInIf o p → p ≡ None → o ≡ None
none_too None p s e = refl
none_too (Some t) None s e = absurd s
none_too (Some t) (Some u) s e = absurd (let f : ⊥ = cc in f)

module _ (old : Option (List Pair)) (update : List Action) (before : List Pair)
    (same : before ≡ unwrap_or old []) (item : IsItem before) where
  -- a sketch of the update makes an outline
  pub outline_is : (s : Sketch) → IsSketch (λ name. at_name name before)
      (updated (λ name. at_name name before) update) s
      → IsOutline (item_after update old) (with_changes s.changes.items before) s.whole
  outline_is s h =
      let sketch : IsSketch (seen old) (updated (seen old) update) s =
      subst (λ (v : View). IsSketch v (updated v update) s)
      (sym (view_same old update before same)) h in
      let new : View = sketch.new in
      let now : View = changed_by s.changes.items (seen old) in
      let names : List (List ℕ) = names_of update old in
      let only : (q : List ℕ) → list_any (eq_by_cmp text_order q) names ≡ false → now q ≡ None =
      λ q e. none_too (now q) (new q) (sketch.stands_in q)
      (valueless old update new sketch.updated q e) in
      let made : pairs_of now names ≡ with_changes s.changes.items before =
      pairs_made old update s.changes.items (subst IsItem same item) only
      ∙ ap (with_changes s.changes.items) (sym same) in
      record {
        item = pairs_of new names;
        is = ap (behind_view update old) sketch.updated;
        stands_in = subst (λ (ps : List Pair). EachOfTwo StandsInAt ps (pairs_of new names)) made
            (pairs_in now new sketch.stands_in names);
        same = λ whole. sym made ∙ ap (λ (v : View). pairs_of v names) (sketch.whole whole);
      }

-- ---- what is left of one and of the other

-- of two items that may be missing one stands in for the other
abbrev AreAlike : Option (List Pair) → Option (List Pair) → Type 0
AreAlike None None = Unit {0}
AreAlike (Some ps) (Some qs) = EachOfTwo StandsInAt ps qs
AreAlike o p = ⊥

-- with the attributes of a key
key_in : (key ps qs : List Pair) → EachOfTwo StandsInAt ps qs
    → EachOfTwo StandsInAt (with_key_attributes key ps) (with_key_attributes key qs)
key_in [] ps qs h = h
key_in ((name, t) ∷ key) ps qs h = put_in text_order name t t (itself t) (with_key_attributes key ps)
    (with_key_attributes key qs) (key_in key ps qs h)

left_alike : (said : Expressions) (key : List Pair) (old : Option (List Pair)) (ps qs : List Pair)
    → EachOfTwo StandsInAt ps qs → AreAlike (left_by_update said key old ps) (left_by_update said key old qs)
left_alike said key (Some item) ps qs h = h
left_alike said key None ps qs h = elim (makes_none said.update) as (λ (b : Bool). AreAlike
    (if b then None else Some (with_key_attributes key ps)) (if b then None else Some (with_key_attributes key qs))) [
      | true ↦ tt
      | false ↦ key_in key ps qs h
    ]

-- ---- keys

-- what is longer than the longest key is no key
too_long : (most n : ℕ) → most ≤ longest_key → nat_le n longest_key ≡ false
    → is_key_length most n ≡ false
too_long most n h e =
    let long : longest_key < n = leb-false n longest_key e in
    ap (λ b. nat_lt 0 n && b) (lt-leb n most (omega (arith, long, h))) ∙ and-false (nat_lt 0 n)

-- whether a value that may be a key is one of that kind
abbrev key_by : ℕ → KeyKind → Option Tree → Bool
key_by most kind None = false
key_by most kind (Some t) = is_key_value most kind t

module _ (most : ℕ) (h : most ≤ longest_key) where
  text_by : (kind : KeyKind) (s : List ℕ) → is_key_value most kind (S_tree s)
      ≡ key_by most kind (as_key (S_tree s))
  text_by kind s = (elim (nat_le (length s) longest_key) as (λ (b : Bool).
      nat_le (length s) longest_key ≡ b → is_key_value most kind (S_tree s)
      ≡ key_by most kind (if b then Some (S_tree s) else None)) [
        | true ↦ λ e. refl
        | false ↦ λ e. elim kind as (λ k. is_key_value most k (S_tree s) ≡ false) [
          | S ↦ too_long most (length s) h e
          | N ↦ refl
          | B ↦ refl
        ]
      ]) refl

  binary_by : (kind : KeyKind) (s : List ℕ) → is_key_value most kind (B_tree s)
      ≡ key_by most kind (as_key (B_tree s))
  binary_by kind s = (elim (nat_le (length s) longest_key) as (λ (b : Bool).
      nat_le (length s) longest_key ≡ b → is_key_value most kind (B_tree s)
      ≡ key_by most kind (if b then Some (B_tree s) else None)) [
        | true ↦ λ e. refl
        | false ↦ λ e. elim kind as (λ k. is_key_value most k (B_tree s) ≡ false) [
          | S ↦ refl
          | N ↦ refl
          | B ↦ too_long most (length s) h e
        ]
      ]) refl

  -- whether a value is a key shows in whether it may be one
  by_key : (kind : KeyKind) (t : Tree) → is_key_value most kind t ≡ key_by most kind (as_key t)
  by_key kind (S_tree s) = text_by kind s
  by_key kind (N_tree z) = refl
  by_key kind (B_tree b) = binary_by kind b
  by_key kind (BOOL_tree b) = elim kind as (λ k. is_key_value most k (BOOL_tree b) ≡ false) [
    | S ↦ refl
    | N ↦ refl
    | B ↦ refl
  ]
  by_key kind NULL_tree = elim kind as (λ k. is_key_value most k NULL_tree ≡ false) [
    | S ↦ refl
    | N ↦ refl
    | B ↦ refl
  ]
  by_key kind (SS_tree ss) = elim kind as (λ k. is_key_value most k (SS_tree ss) ≡ false) [
    | S ↦ refl
    | N ↦ refl
    | B ↦ refl
  ]
  by_key kind (NS_tree zs) = elim kind as (λ k. is_key_value most k (NS_tree zs) ≡ false) [
    | S ↦ refl
    | N ↦ refl
    | B ↦ refl
  ]
  by_key kind (BS_tree bs) = elim kind as (λ k. is_key_value most k (BS_tree bs) ≡ false) [
    | S ↦ refl
    | N ↦ refl
    | B ↦ refl
  ]
  by_key kind (L_tree ts) = elim kind as (λ k. is_key_value most k (L_tree ts) ≡ false) [
    | S ↦ refl
    | N ↦ refl
    | B ↦ refl
  ]
  by_key kind (M_tree fs) = elim kind as (λ k. is_key_value most k (M_tree fs) ≡ false) [
    | S ↦ refl
    | N ↦ refl
    | B ↦ refl
  ]

  -- so one that stands in for another is a key where that is one
  same_key : (kind : KeyKind) (o p : Option Tree) → StandsInIf o p
      → is_key_or_none most kind o ≡ is_key_or_none most kind p
  same_key kind None None s = refl
  same_key kind (Some t) (Some u) s =
      by_key kind t ∙ ap (key_by most kind) s.same_key ∙ sym (by_key kind u)
  same_key kind None (Some u) s = absurd s
  same_key kind (Some t) None s = absurd s

-- what stands at a name of one and of the other
at_in : (q : List ℕ) (ps qs : List Pair) → EachOfTwo StandsInAt ps qs
    → StandsInIf (at_name q ps) (at_name q qs)
at_in q [] [] h = tt
at_in q (p ∷ ps) (r ∷ qs) h =
    subst (λ (n : List ℕ). StandsInIf (at_name q (p ∷ ps)) (at_name q ((n, r.1) ∷ qs))) h.0.0
    (elim (eq_by_cmp text_order q p.0) as (λ (b : Bool). StandsInIf
    (if b then Some p.1 else at_name q ps) (if b then Some r.1 else at_name q qs)) [
      | true ↦ h.0.1
      | false ↦ at_in q ps qs h.1
    ])
at_in q [] (r ∷ qs) h = absurd h
at_in q (p ∷ ps) [] h = absurd h

module _ (ps qs : List Pair) (h : EachOfTwo StandsInAt ps qs) where
  same_part : (most : ℕ) → most ≤ longest_key → (key : KeyAttr)
      → part_fits most ps key ≡ part_fits most qs key
  same_part most short key =
      same_key most short key.kind (at_name key.name ps) (at_name key.name qs)
      (at_in key.name ps qs h)

  same_index : (index : IndexSchema) → index_fits ps index ≡ index_fits qs index
  same_index index = λ i. same_part longest_hash (omega arith) index.hash i
      && of_range (λ key. same_part longest_range (omega arith) key i) true index.range

  -- their keys fit the indexes of a table alike
  same_fit : (d : TableSchema) → keys_fit d ps ≡ keys_fit d qs
  same_fit d = λ i. list_all (λ index. same_index index i) (indexes d)

-- ---- refusals

-- the first of three tests that fails
abbrev first_of : Bool → Bool → Bool → Option Answer
first_of flat keys small = first_answer (refuse_unless flat nested_too_deep
    ∷ refuse_unless keys bad_index_key ∷ refuse_unless small item_too_large ∷ [])

later : (flat keys small too : Bool) → (small ≡ false → too ≡ false) → (a : Answer)
    → first_of flat keys small ≡ Some a → first_of flat keys too ≡ Some a
later true true true too h a e = absurd (let f : ⊥ = cc in f)
later true true false too h a e = ap (first_of true true) (h refl) ∙ e
later true false small too h a e = e
later false keys small too h a e = e

refused_alike : (d : TableSchema) (ps qs : List Pair) → EachOfTwo StandsInAt ps qs → (a : Answer)
    → first_answer (of_left d (Some ps)) ≡ Some a → first_answer (of_left d (Some qs)) ≡ Some a
refused_alike d ps qs h a e =
    let both = pairs_alike ps qs h in
    let large : item_size ps ≤ item_size qs = both.large in
    let flat : nat_le (fields_depth (fields_of qs)) deepest
    ≡ nat_le (fields_depth (fields_of ps)) deepest =
    ap (λ n. nat_le n deepest) (sym both.deep) in
    later (nat_le (fields_depth (fields_of qs)) deepest) (keys_fit d qs)
    (nat_le (item_size ps) LARGEST_ITEM) (nat_le (item_size qs) LARGEST_ITEM)
    (λ e. let long : LARGEST_ITEM < item_size ps = leb-false (item_size ps) LARGEST_ITEM e in
    lt-leb (item_size qs) LARGEST_ITEM (omega (arith, long, large))) a
    ((λ i. first_of (flat i) (sym (same_fit ps qs h d) i) (nat_le (item_size ps) LARGEST_ITEM)) ∙ e)

-- what refuses the one refuses the other
refused_if : (d : TableSchema) (o p : Option (List Pair)) → AreAlike o p → (a : Answer)
    → first_answer (of_left d o) ≡ Some a → first_answer (of_left d p) ≡ Some a
refused_if d None None h a e = e
refused_if d (Some ps) (Some qs) h a e = refused_alike d ps qs h a e
refused_if d None (Some qs) h a e = absurd h
refused_if d (Some ps) None h a e = absurd h

module _ (d : TableSchema) (said : Expressions) (key : List Pair) (old : Option (List Pair))
    (outline : List Pair) (whole : Bool)
    (h : IsOutline (item_after (unwrap_or said.update []) old) outline whole)
    (new : Option (List Pair)) (is : new ≡ left_by_update said key old outline) where
  -- the table refuses what is left of the outline, and so what is left of the item
  pub outline-refused : (stop : Stop) → Tested {X = Unit {0}} (of_left d new) (Err stop)
      → Comes {X = Option (List Pair)} (λ o. o) (left_or_refusal d said key old) (Err stop)
  outline-refused (Refused r) t =
      let item : List Pair = h.item in
      let alike : AreAlike new (left_by_update said key old item) =
      subst (λ (o : Option (List Pair)). AreAlike o (left_by_update said key old item)) (sym is)
      (left_alike said key old outline item h.stands_in) in
      left-refused d said key old item h.is (left_by_update said key old item) refl (Refused r)
      (refused_if d new (left_by_update said key old item) alike (refused r) t.0, t.1)
  outline-refused (Fault f) t = t

  -- it doesn't, and the outline is the item
  pub outline-whole : whole ≡ true → first_answer (of_left d new) ≡ None
      → left_or_refusal d said key old ≡ Ok new
  outline-whole w free =
      left-made d said key old h.item h.is new (is ∙ ap (left_by_update said key old) (h.same w)) free
