-- The key of an item that stands in a table or in an index: its values, their kinds, and its place.
use Rattle.std.proofs.Common.{◌≡◌, refl, sym, ap, subst, ◌∙◌, ℕ, List, [], ◌++◌, append-nil, append_assoc, Option, Some, None, option_map}
use Rattle.std.proofs.lemmas.Grind.{flat_map-append}
use Rattle.std.proofs.lemmas.Option.{same_Some}
use Rattle.std.specs.Prelude.{option_and_then}
use Rattle.alt_keyorder.specs.Kinds.{IsOfKind}
use Rattle.alt_keyorder.specs.Place.{Place, place_in_table, place_bytes, key_values}
use Rattle.alt_machine.specs.Keys.{can_be_key, if_key, key_value, place_beside, place_of}
use Rattle.std.specs.Int.{w64, to_be_bytes}
use Rattle.std.specs.List.{flat_map}
use Rattle.alt_base.proofs.Options.{some_if}
use Rattle.alt_keyorder.specs.KeyBytes.{key_bytes}
use Rattle.alt_keyorder.specs.Token.{token_of}
use Rattle.alt_machine.specs.Indexed.{KeyValues, values_beside, values_of, place_of_both, index_place, index_entry}
use Rattle.alt_machine.specs.Sources.{hash_of, range_of}
use Rattle.alt_machine.proofs.Indexing.{has_keys}
use Rattle.alt_ops_query.specs.Places.{MayStand}
use Rattle.alt_schema.specs.declared.schema.IndexSchema.{IndexSchema}
use Rattle.alt_schema.specs.declared.schema.KeyAttr.{KeyAttr}
use Rattle.alt_schema.specs.declared.schema.TableSchema.{TableSchema}
use Rattle.alt_value.specs.Item.{at_name}
use Rattle.alt_value.specs.Tree.{Tree, Pair, S_tree, N_tree, B_tree, fields_of}
use Rattle.alt_value.specs.Values.{IsValue, AreFields, IsItemOfValues}
use Rattle.alt_views.proofs.Keeping.{entry_place, kept_values}
use Rattle.alt_value.specs.declared.kind.KeyKind.{KeyKind}
use Rattle.alt_value.specs.declared.kind.KeyKind.TheVariants.{S, N, B}
use Rattle.alt_value.proofs.NamedPairs.{value_at}

-- the value of a key attribute is what the item has there, of the attribute's kind
pub record IsPart (item : List Pair) (key : KeyAttr) (t : Tree) : Type 0 where
  pub at : at_name key.name item ≡ Some t
  pub kind : IsOfKind key.kind t

-- what is taken of a value as a key is the value itself, of the key's kind
kept : (kind : KeyKind) (u t : Tree) → IsValue u → if_key kind u ≡ Some t
    → (u ≡ t) × IsOfKind kind t
kept S (S_tree s) t v e =
    let same = some_if (can_be_key S (S_tree s)) (S_tree s) t e in
    (same, subst (IsOfKind S) same tt)
kept N (N_tree z) t v e =
    let same = same_Some (N_tree z) t e in (same, subst (IsOfKind N) same v)
kept B (B_tree b) t v e =
    let same = some_if (can_be_key B (B_tree b)) (B_tree b) t e in
    (same, subst (IsOfKind B) same tt)
kept kind u t v e = absurd (let f : ⊥ = cc in f)

-- the value of a key attribute is what the item has there, and of the attribute's kind
part_is : (item : List Pair) (key : KeyAttr) (t : Tree) → AreFields (fields_of item)
    → key_value item key ≡ Some t → IsPart item key t
part_is item key t h e = by (at_name key.name item) refl e
  where
    by : (o : Option Tree) → at_name key.name item ≡ o
        → option_and_then (if_key key.kind) o ≡ Some t → IsPart item key t
    by None at f = absurd (let g : ⊥ = cc in g)
    by (Some u) at f =
        let both = kept key.kind u t (value_at key.name item u h at) f in
        record { at = at ∙ ap (λ x. Some x) both.0; kind = both.1 }

-- the RANGE value, where the table has a RANGE key
abbrev pub IsBeside : List Pair → Option KeyAttr → Option Tree → Type 0
IsBeside item None None = Unit {0}
IsBeside item None (Some t) = ⊥
IsBeside item (Some key) None = ⊥
IsBeside item (Some key) (Some t) = IsPart item key t

-- the values of a key, and that the place begins with theirs
pub record IsKeyed (h : KeyAttr) (k : Option KeyAttr) (item : List Pair)
    (place : List ℕ) : Type 0 where
  pub hash : Tree
  pub range : Option Tree
  pub has_hash : IsPart item h hash
  pub has_range : IsBeside item k range
  pub behind : List ℕ
  pub is : place ≡ place_bytes (place_in_table hash range) ++ behind

-- a place that is made of a HASH value has the RANGE value of the item beside it, where the key has one
beside : (item : List Pair) (p : Place) (hash : Tree) (range : Option KeyAttr)
    → AreFields (fields_of item) → place_beside item range hash ≡ Some p
    → (r : Option Tree) × IsBeside item range r × (p ≡ place_in_table hash r)
beside item p hash None h e = (None, tt, sym (same_Some (place_in_table hash None) p e))
beside item p hash (Some key) h e = by (key_value item key) refl e
  where
    by : (o : Option Tree) → key_value item key ≡ o
        → option_map (λ r. place_in_table hash (Some r)) o ≡ Some p
        → (r : Option Tree) × IsBeside item (Some key) r × (p ≡ place_in_table hash r)
    by None at f = absurd (let g : ⊥ = cc in g)
    by (Some r) at f =
        (Some r, part_is item key r h at, sym (same_Some (place_in_table hash (Some r)) p f))

-- an item has the key whose place it has, and nothing is behind its values there
pub keyed : (d : TableSchema) (item : List Pair) (place : List ℕ) → AreFields (fields_of item)
    → place_of d item ≡ Some place
    → (k : IsKeyed d.hash d.range item place) × (k.behind ≡ [])
keyed d item place h e = by (key_value item d.hash) refl e
  where
    with_hash : (hash : Tree) → key_value item d.hash ≡ Some hash → (o : Option Place)
        → place_beside item d.range hash ≡ o → option_map place_bytes o ≡ Some place
        → (k : IsKeyed d.hash d.range item place) × (k.behind ≡ [])
    with_hash hash at None stands f = absurd (let g : ⊥ = cc in g)
    with_hash hash at (Some p) stands f =
        let rest = beside item p hash d.range h stands in (
          record {
            hash = hash;
            range = rest.0;
            has_hash = part_is item d.hash hash h at;
            has_range = rest.1;
            behind = [];
            is = sym (same_Some (place_bytes p) place f) ∙ ap place_bytes rest.2
                ∙ sym (append-nil (place_bytes (place_in_table hash rest.0)));
          },
          refl,
        )

    by : (o : Option Tree) → key_value item d.hash ≡ o
        → option_map place_bytes (option_and_then (place_beside item d.range) o) ≡ Some place
        → (k : IsKeyed d.hash d.range item place) × (k.behind ≡ [])
    by None at f = absurd (let g : ⊥ = cc in g)
    by (Some hash) at f = with_hash hash at (place_beside item d.range hash) refl f

-- ---- in an index

-- the values of a key are those that the item has
pub parts_are : (item : List Pair) (h : KeyAttr) (k : Option KeyAttr) (values : KeyValues)
    → AreFields (fields_of item) → values_of (key_value item) h k ≡ Some values
    → IsPart item h values.hash × IsBeside item k values.range
parts_are item h k values fields e = by (key_value item h) refl e
  where
    with_hash : (hash : Tree) → key_value item h ≡ Some hash → (k : Option KeyAttr)
        → values_beside (key_value item) k hash ≡ Some values
        → IsPart item h values.hash × IsBeside item k values.range
    with_hash hash at None f =
        subst (λ (v : KeyValues). IsPart item h v.hash × IsBeside item None v.range)
        (same_Some (record { hash = hash; range = None }) values f)
        (part_is item h hash fields at, tt)
    with_hash hash at (Some key) f = ranged (key_value item key) refl f
      where
        ranged : (o : Option Tree) → key_value item key ≡ o
            → option_map (λ r. record { hash = hash; range = Some r }) o ≡ Some values
            → IsPart item h values.hash × IsBeside item (Some key) values.range
        ranged None there g = absurd (let no : ⊥ = cc in no)
        ranged (Some r) there g =
            subst (λ (v : KeyValues). IsPart item h v.hash × IsBeside item (Some key) v.range)
            (same_Some (record { hash = hash; range = Some r }) values g)
            (part_is item h hash fields at, part_is item key r fields there)

    by : (o : Option Tree) → key_value item h ≡ o
        → option_and_then (values_beside (key_value item) k) o ≡ Some values
        → IsPart item h values.hash × IsBeside item k values.range
    by None at f = absurd (let no : ⊥ = cc in no)
    by (Some hash) at f = with_hash hash at k f

-- a place in an index begins with that of the index's key
place-both : (own key : KeyValues) → place_bytes (place_of_both own key)
    ≡ place_bytes (place_in_table own.hash own.range)
    ++ flat_map key_bytes (key_values key.hash key.range)
place-both own key =
    ap (λ bytes. to_be_bytes w64 (token_of own.hash) ++ bytes)
    (flat_map-append key_bytes (key_values own.hash own.range) (key_values key.hash key.range))
    ∙ sym (append_assoc (to_be_bytes w64 (token_of own.hash))
    (flat_map key_bytes (key_values own.hash own.range))
    (flat_map key_bytes (key_values key.hash key.range)))

-- the bytes of a place are those of the place that is there
of_place : (o : Option Place) (key : List ℕ) → option_map place_bytes o ≡ Some key
    → (p : Place) × (o ≡ Some p) × (place_bytes p ≡ key)
of_place None key e = absurd (let no : ⊥ = cc in no)
of_place (Some p) key e = (p, refl, same_Some (place_bytes p) key e)

-- the attributes of a row are values
row_fields : (d : TableSchema) (i : IndexSchema) (item : List Pair) (key : List ℕ)
    (row : List Pair) → IsItemOfValues item → index_entry d i item ≡ Some (key, row)
    → AreFields (fields_of row)
row_fields d i item key row held entry = (kept_values d i item key row held entry).fields

-- the values of both keys of what stands in an index
pub record HasBoth (d : TableSchema) (i : IndexSchema) (row : List Pair)
    (key : List ℕ) : Type 0 where
  pub fields : AreFields (fields_of row)
  pub own : KeyValues
  pub of_table : KeyValues
  pub owns : IsPart row i.hash own.hash × IsBeside row i.range own.range
  pub keys : IsPart row d.hash of_table.hash × IsBeside row d.range of_table.range
  pub is : key ≡ place_bytes (place_in_table own.hash own.range)
      ++ flat_map key_bytes (key_values of_table.hash of_table.range)

-- what an index keeps of an item has the values of both keys, and lies under them
pub has_both : (d : TableSchema) (i : IndexSchema) (item : List Pair) (key : List ℕ)
    (row : List Pair) → IsItemOfValues item → index_entry d i item ≡ Some (key, row)
    → HasBoth d i row key
has_both d i item key row held entry =
    let (p, there, bytes) =
    of_place (index_place d i row) key (entry_place d i item key row entry) in
    let keys = has_keys d i row p there in
    let fields = row_fields d i item key row held entry in
    record {
      fields = fields;
      own = keys.own;
      of_table = keys.key;
      owns = parts_are row i.hash i.range keys.own fields keys.owns;
      keys = parts_are row d.hash d.range keys.key fields keys.keys;
      is = sym bytes ∙ sym (ap place_bytes keys.is) ∙ place-both keys.own keys.key;
    }

-- What may stand in a table or in an index has the values of the key by which it lies there.
pub keyed_there : (d : TableSchema) (i : Option IndexSchema) (key : List ℕ) (item : List Pair)
    → MayStand d i key item → IsKeyed (hash_of d i) (range_of d i) item key
keyed_there d None key item may = (keyed d item key may.1.fields may.0.stands).0
keyed_there d (Some i) key row may =
    let both = has_both d i may.1 key row may.3 may.4 in
    record {
      hash = both.own.hash;
      range = both.own.range;
      has_hash = both.owns.0;
      has_range = both.owns.1;
      behind = flat_map key_bytes (key_values both.of_table.hash both.of_table.range);
      is = both.is;
    }
