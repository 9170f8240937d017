-- The key of an item that is stored is a key of the table, of the item's place.
use Rattle.std.proofs.Common.{◌≡◌, refl, sym, ap, ◌∙◌, ℕ, Bool, true, false, cond, ◌||◌, List, [], ◌∷◌, Option, Some, None, option_map, arith}
use Rattle.std.specs.Prelude.{if◌then◌else◌, option_and_then}
use Rattle.std.specs.FinMap.Entries.{find-where_key, where_key}
use Rattle.std.specs.List.{list_all}
use Rattle.std.specs.Str.{bytes_eq}
use Rattle.std.proofs.lemmas.Slice.Eq.{bytes_eq-Decides}
use Rattle.std.proofs.lemmas.Bool.{and_from}
use Rattle.alt_keyorder.specs.Place.{place_in_table, place_bytes}
use Rattle.alt_schema.specs.Indexes.{is_key}
use Rattle.alt_schema.specs.declared.schema.KeyAttr.{KeyAttr}
use Rattle.alt_schema.specs.declared.schema.TableSchema.{TableSchema}
use Rattle.alt_value.specs.Item.{at_name}
use Rattle.alt_value.specs.Members.{text_order}
use Rattle.alt_value.specs.Tree.{Tree, Pair, S_tree, N_tree, B_tree}
use Rattle.alt_value.specs.declared.kind.KeyKind.{KeyKind}
use Rattle.alt_value.specs.declared.kind.KeyKind.TheVariants.{S, N, B}
use Rattle.alt_value.proofs.Texts.{text_apart}
use Rattle.alt_machine.specs.Building.{built_place}
use Rattle.alt_machine.specs.Keys.{can_be_key, if_key, key_value, place_beside, place_of}
use Rattle.alt_machine.specs.Lists.{is_of_kind, key_attributes, place_there, start_beside, start_value}
use Rattle.alt_machine.specs.Sources.{is_key_there}

-- what can be a key of a kind is of that kind
of_kind : (kind : KeyKind) (t : Tree) → can_be_key kind t ≡ true → is_of_kind kind t ≡ true
of_kind S (S_tree s) h = refl
of_kind N (N_tree z) h = refl
of_kind B (B_tree b) h = refl
of_kind kind t h = absurd (let f : ⊥ = cc in f)

-- the attributes whose names pass pass
all_pass : (test : List ℕ → Bool) (ps : List Pair)
    → list_all (λ p. test p.0) (where_key text_order test ps) ≡ true
all_pass test [] = refl
all_pass test (p ∷ ps) =
    elim (test p.0) as (λ b. test p.0 ≡ b → list_all (λ q. test q.0)
    (cond b (p ∷ where_key text_order test ps) (where_key text_order test ps)) ≡ true) [
      | true ↦ λ e. and_from (test p.0) _ e (all_pass test ps)
      | false ↦ λ e. all_pass test ps
    ] refl

-- one of them is what it was
kept : (test : List ℕ → Bool) (item : List Pair) (name : List ℕ) → test name ≡ true
    → at_name name (where_key text_order test item) ≡ at_name name item
kept test item name e =
    find-where_key text_order test name (λ x same. ap test (sym (text_apart name x same))) item
    ∙ ap (λ b. cond b (at_name name item) None) e

module _ (key item : List Pair) where
  -- a key attribute that is the same in both has a value that tells a place, where it can be a key
  start_is : (a : KeyAttr) → at_name a.name key ≡ at_name a.name item → (t : Tree)
      → key_value item a ≡ Some t → start_value key a ≡ Some t
  start_is a same t e =
      ap (option_and_then (λ u. if is_of_kind a.kind u then Some u else None)) same
      ∙ by (at_name a.name item) e
    where
      by : (o : Option Tree) → option_and_then (if_key a.kind) o ≡ Some t
          → option_and_then (λ u. if is_of_kind a.kind u then Some u else None) o ≡ Some t
      by None e = absurd (let f : ⊥ = cc in f)
      by (Some u) e = by_test (can_be_key a.kind u) refl e
        where
          by_test : (b : Bool) → can_be_key a.kind u ≡ b → (if b then Some u else None) ≡ Some t
              → (if is_of_kind a.kind u then Some u else None) ≡ Some t
          by_test true c f = ap (λ b. if b then Some u else None) (of_kind a.kind u c) ∙ f
          by_test false c f = absurd (let g : ⊥ = cc in g)

  -- so it tells the place that the item has
  beside : (range : Option KeyAttr) (h : Tree) (place : List ℕ)
      → ((r : KeyAttr) → range ≡ Some r → at_name r.name key ≡ at_name r.name item)
      → option_map place_bytes (place_beside item range h) ≡ Some place
      → option_map place_bytes (start_beside key range h) ≡ Some place
  beside None h place same e = e
  beside (Some r) h place same e = by (key_value item r) refl e
    where
      by : (o : Option Tree) → key_value item r ≡ o
          → option_map place_bytes (option_map (λ x. place_in_table h (Some x)) o) ≡ Some place
          → option_map place_bytes (option_map (λ x. place_in_table h (Some x)) (start_value key r))
          ≡ Some place
      by None at f = absurd (let g : ⊥ = cc in g)
      by (Some v) at f =
          ap (λ o. option_map place_bytes (option_map (λ x. place_in_table h (Some x)) o))
          (start_is r (same r refl) v at) ∙ f

  there : (hash : KeyAttr) (range : Option KeyAttr) (place : List ℕ)
      → at_name hash.name key ≡ at_name hash.name item
      → ((r : KeyAttr) → range ≡ Some r → at_name r.name key ≡ at_name r.name item)
      → option_map place_bytes (option_and_then (place_beside item range) (key_value item hash))
      ≡ Some place
      → option_map place_bytes (option_and_then (start_beside key range) (start_value key hash))
      ≡ Some place
  there hash range place same also e = by (key_value item hash) refl e
    where
      by : (o : Option Tree) → key_value item hash ≡ o
          → option_map place_bytes (option_and_then (place_beside item range) o) ≡ Some place
          → option_map place_bytes (option_and_then (start_beside key range) (start_value key hash))
          ≡ Some place
      by None at f = absurd (let g : ⊥ = cc in g)
      by (Some h) at f =
          ap (λ o. option_map place_bytes (option_and_then (start_beside key range) o))
          (start_is hash same h at) ∙ beside range h place also f

-- the key of an item is one of its table, of the same place
pub key_there : (d : TableSchema) (place : List ℕ) (item : List Pair) → place_of d item ≡ Some place
    → built_place d (key_attributes d None item) ≡ Some place
key_there d place item e =
    ap (λ b. if b then option_map place_bytes (place_there d None key) else None)
    (all_pass (is_key_there d None) item)
    ∙ there key item d.hash d.range place
    (kept (is_key_there d None) item d.hash.name hash_key)
    (λ r is. kept (is_key_there d None) item r.name (range_key d.range r is)) e
  where
    key : List Pair
    key = key_attributes d None item

    same_name : (n : List ℕ) → bytes_eq n n ≡ true
    same_name n = grind (arith, bytes_eq-Decides)

    hash_key : is_key d.hash d.range d.hash.name ≡ true
    hash_key = or_left (bytes_eq d.hash.name d.hash.name) _ (same_name d.hash.name)
      where
        or_left : (a b : Bool) → a ≡ true → (a || b) ≡ true
        or_left true b h = refl
        or_left false b h = absurd (let f : ⊥ = cc in f)

    range_key : (range : Option KeyAttr) (r : KeyAttr) → range ≡ Some r
        → is_key d.hash range r.name ≡ true
    range_key None r is = absurd (let f : ⊥ = cc in f)
    range_key (Some q) r is =
        let same : q ≡ r = cc in
        or_right (bytes_eq d.hash.name r.name) _
        (ap (λ (k : KeyAttr). bytes_eq k.name r.name) same ∙ same_name r.name)
      where
        or_right : (a b : Bool) → b ≡ true → (a || b) ≡ true
        or_right true b h = refl
        or_right false b h = h
