-- The place of a key of a table tells the key.
use Rattle.std.proofs.Common.{◌≡◌, refl, sym, ap, subst, ◌∙◌, ℕ, Bool, true, false, cond, List, [], ◌∷◌, Option, Some, None, option_map, arith}
use Rattle.std.specs.Prelude.{◌&&◌, if◌then◌else◌, option_and_then}
use Rattle.std.specs.FinMap.Entries.{same_entries}
use Rattle.std.specs.List.{list_all}
use Rattle.std.specs.Ordering.{eq_by_cmp}
use Rattle.std.specs.Str.{bytes_eq}
use Rattle.std.proofs.lemmas.Slice.Eq.{bytes_eq-Decides}
use Rattle.std.proofs.lemmas.Option.{same_Some}
use Rattle.alt_cells.proofs.SameKeys.{one_key as tied}
use Rattle.alt_keyorder.specs.Kinds.{IsKeyFor, IsOfKind}
use Rattle.alt_keyorder.specs.Place.{place_bytes, place_in_table}
use Rattle.alt_keyorder.proofs.PlaceLaws.{table_tell}
use Rattle.alt_machine.specs.Building.{built_place}
use Rattle.alt_machine.specs.Lists.{is_of_kind, place_there, start_beside, start_value}
use Rattle.alt_schema.specs.Indexes.{is_key}
use Rattle.alt_schema.specs.declared.schema.KeyAttr.{KeyAttr}
use Rattle.alt_schema.specs.declared.schema.TableSchema.{TableSchema}
use Rattle.alt_value.specs.Item.{at_name}
use Rattle.alt_value.specs.Members.{text_order}
use Rattle.alt_value.specs.Tree.{Tree, Pair, S_tree, N_tree, B_tree, fields_of}
use Rattle.alt_value.specs.Values.{AreFields, IsItemOfValues, IsValue}
use Rattle.alt_value.specs.declared.kind.KeyKind.{KeyKind}
use Rattle.alt_value.specs.declared.kind.KeyKind.TheVariants.{S, N, B}
use Rattle.alt_value.proofs.NamedPairs.{value_at}
use Rattle.alt_value.proofs.Texts.{text_apart, text_total}

-- a value of a kind is one that a key can have
of_kind : (kind : KeyKind) (t : Tree) → IsValue t → is_of_kind kind t ≡ true → IsOfKind kind t
of_kind S (S_tree s) v h = tt
of_kind N (N_tree z) v h = v
of_kind B (B_tree b) v h = tt
of_kind kind t v h = absurd (let no : ⊥ = cc in no)

-- what a key has at an attribute is a value there, of its kind
record HasPart (key : List Pair) (a : KeyAttr) (t : Tree) : Type 0 where
  at : at_name a.name key ≡ Some t
  kind : IsOfKind a.kind t

has_part : (key : List Pair) (a : KeyAttr) (t : Tree) → AreFields (fields_of key)
    → start_value key a ≡ Some t → HasPart key a t
has_part key a t fields e = by (at_name a.name key) refl e
  where
    by : (o : Option Tree) → at_name a.name key ≡ o
        → option_and_then (λ u. if is_of_kind a.kind u then Some u else None) o ≡ Some t
        → HasPart key a t
    by None at f = absurd (let no : ⊥ = cc in no)
    by (Some u) at f = test (is_of_kind a.kind u) refl f
      where
        test : (b : Bool) → is_of_kind a.kind u ≡ b → (if b then Some u else None) ≡ Some t
            → HasPart key a t
        test true is g = record {
          at = at ∙ g;
          kind = of_kind a.kind t (value_at a.name key t fields (at ∙ g))
              (ap (is_of_kind a.kind) (sym (same_Some u t g)) ∙ is);
        }
        test false is g = absurd (let no : ⊥ = cc in no)

-- what is beside the HASH value, where the table has a RANGE key
abbrev HasBeside : List Pair → Option KeyAttr → Option Tree → Type 0
HasBeside key None r = r ≡ None
HasBeside key (Some a) r = (t : Tree) × (r ≡ Some t) × HasPart key a t

-- A key of a table has its attributes alone, a HASH value and what is beside it, and these give its place.
record IsKeyAt (d : TableSchema) (key : List Pair) (place : List ℕ) : Type 0 where
  alone : list_all (λ (p : Pair). is_key d.hash d.range p.0) key ≡ true
  hash : Tree
  range : Option Tree
  part : HasPart key d.hash hash
  beside : HasBeside key d.range range
  bytes : place_bytes (place_in_table hash range) ≡ place

module _ (d : TableSchema) (key : List Pair) (place : List ℕ) (fields : AreFields (fields_of key)) where
  by_range : list_all (λ (p : Pair). is_key d.hash d.range p.0) key ≡ true → (h : Tree)
      → HasPart key d.hash h → (o : Option KeyAttr) → d.range ≡ o
      → option_map place_bytes (start_beside key o h) ≡ Some place → IsKeyAt d key place
  by_range alone h part None is e = record {
    alone = alone;
    hash = h;
    range = None;
    part = part;
    beside = subst (λ o. HasBeside key o None) (sym is) refl;
    bytes = same_Some (place_bytes (place_in_table h None)) place e;
  }
  by_range alone h part (Some a) is e = by (start_value key a) refl e
    where
      by : (o : Option Tree) → start_value key a ≡ o
          → option_map place_bytes (option_map (λ r. place_in_table h (Some r)) o) ≡ Some place
          → IsKeyAt d key place
      by None at f = absurd (let no : ⊥ = cc in no)
      by (Some t) at f = record {
        alone = alone;
        hash = h;
        range = Some t;
        part = part;
        beside = subst (λ o. HasBeside key o (Some t)) (sym is)
            (t, refl, has_part key a t fields at);
        bytes = same_Some (place_bytes (place_in_table h (Some t))) place f;
      }

  by_hash : list_all (λ (p : Pair). is_key d.hash d.range p.0) key ≡ true → (o : Option Tree)
      → start_value key d.hash ≡ o
      → option_map place_bytes (option_and_then (start_beside key d.range) o) ≡ Some place
      → IsKeyAt d key place
  by_hash alone None at e = absurd (let no : ⊥ = cc in no)
  by_hash alone (Some h) at e = by_range alone h (has_part key d.hash h fields at) d.range refl e

  is_key_at : built_place d key ≡ Some place → IsKeyAt d key place
  is_key_at e = by (list_all (λ (p : Pair). is_key d.hash d.range p.0) key) refl e
    where
      by : (b : Bool) → list_all (λ (p : Pair). is_key d.hash d.range p.0) key ≡ b
          → (if b then option_map place_bytes (place_there d None key) else None) ≡ Some place
          → IsKeyAt d key place
      by true alone f = by_hash alone (start_value key d.hash) refl f
      by false alone f = absurd (let no : ⊥ = cc in no)

-- the values of a key are of its kinds
key_for : (key : List Pair) (h : KeyAttr) (r : Option KeyAttr) (hash : Tree) (range : Option Tree)
    → HasPart key h hash → HasBeside key r range
    → IsKeyFor h.kind (option_map (λ (a : KeyAttr). a.kind) r) hash range
key_for key h None hash range part beside =
    subst (IsKeyFor h.kind None hash) (sym beside) part.kind
key_for key h (Some a) hash range part beside =
    subst (IsKeyFor h.kind (Some a.kind) hash) (sym beside.1) (part.kind, beside.2.kind)

-- a name that is none of a key has no value there
absent : (test : List ℕ → Bool) (key : List Pair) (name : List ℕ)
    → list_all (λ (p : Pair). test p.0) key ≡ true → test name ≡ false → at_name name key ≡ None
absent test [] name all fails = refl
absent test (p ∷ ps) name all fails = by (eq_by_cmp text_order name p.0) refl
    (absent test ps name (right (test p.0) _ all) fails)
  where
    left : (a b : Bool) → (a && b) ≡ true → a ≡ true
    left true b h = refl
    left false b h = absurd (let f : ⊥ = cc in f)

    right : (a b : Bool) → (a && b) ≡ true → b ≡ true
    right true b h = h
    right false b h = absurd (let f : ⊥ = cc in f)

    apart : true ≡ false → ⊥
    apart e = let f : ⊥ = cc in f

    by : (b : Bool) → eq_by_cmp text_order name p.0 ≡ b → at_name name ps ≡ None
        → cond b (Some p.1) (at_name name ps) ≡ None
    by true same rest = absurd (apart (sym (left (test p.0) _ all)
        ∙ ap test (sym (tied name p.0 same)) ∙ fails))
    by false other rest = rest

-- Two keys of a table that have one place are one.
pub one_key : (d : TableSchema) (k l : List Pair) (place : List ℕ) → IsItemOfValues k
    → IsItemOfValues l → built_place d k ≡ Some place → built_place d l ≡ Some place → k ≡ l
one_key d k l place held_k held_l at_k at_l = same_entries text_order text_total text_apart k l
    held_k.names.0 held_l.names.0 (λ q. by q (is_key d.hash d.range q) refl)
  where
    is_k : IsKeyAt d k place
    is_k = is_key_at d k place held_k.fields at_k

    is_l : IsKeyAt d l place
    is_l = is_key_at d l place held_l.fields at_l

    values : (is_k.hash ≡ is_l.hash) × (is_k.range ≡ is_l.range)
    values = table_tell d.hash.kind (option_map (λ (a : KeyAttr). a.kind) d.range) is_k.hash
        is_k.range is_l.hash is_l.range
        (key_for k d.hash d.range is_k.hash is_k.range is_k.part is_k.beside)
        (key_for l d.hash d.range is_l.hash is_l.range is_l.part is_l.beside)
        (is_k.bytes ∙ sym is_l.bytes)

    -- both have the same at the HASH attribute
    at_hash : (q : List ℕ) → d.hash.name ≡ q → at_name q k ≡ at_name q l
    at_hash q is = subst (λ n. at_name n k ≡ at_name n l) is
        (is_k.part.at ∙ ap Some values.0 ∙ sym is_l.part.at)

    -- and at the RANGE attribute
    at_range : (o : Option KeyAttr) (x y : Option Tree) → x ≡ y → HasBeside k o x
        → HasBeside l o y → (a : KeyAttr) → o ≡ Some a → at_name a.name k ≡ at_name a.name l
    at_range None x y same in_k in_l a is = absurd (let no : None ≡ Some a = is in cc no)
    at_range (Some r) x y same in_k in_l a is =
        let own : r ≡ a = same_Some r a is in
        subst (λ (c : KeyAttr). at_name c.name k ≡ at_name c.name l) own
        (in_k.2.at ∙ (sym in_k.1 ∙ same ∙ in_l.1) ∙ sym in_l.2.at)

    -- at each name of a key, and at no other is anything
    named : (q : List ℕ) (o : Option KeyAttr) → d.range ≡ o → (b : Bool)
        → bytes_eq d.hash.name q ≡ b → is_key d.hash o q ≡ true → at_name q k ≡ at_name q l
    named q o is true same key = at_hash q (grind (arith, bytes_eq-Decides))
    named q None is false other key = absurd (let no : ⊥ = cc in no)
    named q (Some r) is false other key =
        subst (λ n. at_name n k ≡ at_name n l) (grind (arith, bytes_eq-Decides))
        (at_range d.range is_k.range is_l.range values.1 is_k.beside is_l.beside r is)

    by : (q : List ℕ) (b : Bool) → is_key d.hash d.range q ≡ b → at_name q k ≡ at_name q l
    by q true key = named q d.range refl (bytes_eq d.hash.name q) refl key
    by q false none = absent (is_key d.hash d.range) k q is_k.alone none
        ∙ sym (absent (is_key d.hash d.range) l q is_l.alone none)
