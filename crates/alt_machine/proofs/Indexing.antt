-- The items of a table have keys of their own in an index, and those of an index lie by these.
use Rattle.std.proofs.Common.{◌≡◌, refl, sym, ap, subst, ◌∙◌, ℕ, Bool, true, false, List, Option, Some, None, option_map}
use Rattle.std.proofs.lemmas.Bool.{false≢true}
use Rattle.std.proofs.lemmas.Option.{none-some, same_Some}
use Rattle.std.specs.Cmp.{first_so, second_so}
use Rattle.std.specs.Prelude.{if◌then◌else◌, option_and_then}
use Rattle.std.specs.Option.{option_map_or}
use Rattle.std.specs.FinMap as map
use Rattle.alt_base.proofs.Options.{mapped_some}
use Rattle.alt_keyorder.specs.Kinds.{IsKeyFor}
use Rattle.alt_keyorder.specs.Laws.{Lie}
use Rattle.alt_keyorder.specs.Place.{Place, place_in_table, place_bytes}
use Rattle.alt_keyorder.proofs.PlaceLaws.{index_tell, index_lie}
use Rattle.alt_machine.specs.Indexed.{KeyValues, values_beside, values_of, place_of_both, index_place, index_entry}
use Rattle.alt_machine.specs.Keys.{can_be_key, if_key, key_value, place_beside, place_of}
use Rattle.alt_machine.specs.Laws.{IndexPlacesLie, AllIndex}
use Rattle.alt_machine.specs.State.{Texts}
use Rattle.alt_machine.specs.Valid.{IsStored}
use Rattle.alt_machine.proofs.Placed.{part_kind}
use Rattle.alt_machine.proofs.Rekeying.{AreApart, given_by, gives}
use Rattle.alt_schema.specs.Indexes.{index_row, is_in_index, cut, has_part, of_range, is_key_value, longest_hash, longest_range}
use Rattle.alt_schema.specs.declared.schema.IndexSchema.{IndexSchema}
use Rattle.alt_schema.specs.declared.schema.KeyAttr.{KeyAttr}
use Rattle.alt_schema.specs.declared.schema.TableSchema.{TableSchema}
use Rattle.alt_value.specs.Item.{at_name}
use Rattle.alt_value.specs.Tree.{Tree, Pair, S_tree, N_tree, B_tree, fields_of}
use Rattle.alt_value.specs.Values.{AreFields, IsItemOfValues}
use Rattle.alt_value.specs.declared.kind.KeyKind.{KeyKind}
use Rattle.alt_value.specs.declared.kind.KeyKind.TheVariants.{S, N, B}

-- ---- the values of a key

-- what a HASH value goes on to, where a result is there
and_then : {A B : Type 0} (f : A → Option B) (o : Option A) (y : B) → option_and_then f o ≡ Some y
    → (x : A) × (o ≡ Some x) × (f x ≡ Some y)
and_then f None y e = absurd (none-some y e)
and_then f (Some x) y e = (x, refl, e)

-- they are of the kinds of its attributes
keys_of_kinds : (item : List Pair) → AreFields (fields_of item) → (hash : KeyAttr)
    (range : Option KeyAttr) (kv : KeyValues) → values_of (key_value item) hash range ≡ Some kv
    → IsKeyFor hash.kind (option_map (λ r. r.kind) range) kv.hash kv.range
keys_of_kinds item fields hash range kv e =
    let h = and_then (values_beside (key_value item) range) (key_value item hash) kv e in
    beside range h.0 (part_kind item hash h.0 fields h.1) h.2
  where
    beside : (r : Option KeyAttr) (h : Tree) → IsKeyFor hash.kind None h None
        → values_beside (key_value item) r h ≡ Some kv
        → IsKeyFor hash.kind (option_map (λ r. r.kind) r) kv.hash kv.range
    beside None h k f = subst (λ (v : KeyValues). IsKeyFor hash.kind None v.hash v.range)
        (same_Some _ kv f) k
    beside (Some r) h k f =
        let v = mapped_some (λ (t : Tree). record { hash = h; range = Some t })
        (key_value item r) kv f in
        subst (λ (v : KeyValues). IsKeyFor hash.kind (Some r.kind) v.hash v.range) v.2
        (k, part_kind item r v.0 fields v.1)

-- the place in the table is that of the values of the table's key
place-of_values : (d : TableSchema) (item : List Pair) → place_of d item ≡ option_map
    (λ (kv : KeyValues). place_bytes (place_in_table kv.hash kv.range))
    (values_of (key_value item) d.hash d.range)
place-of_values d item = by_hash (key_value item d.hash)
  where
    by_range : (r : Option KeyAttr) (h : Tree) → option_map place_bytes (place_beside item r h)
        ≡ option_map (λ (kv : KeyValues). place_bytes (place_in_table kv.hash kv.range))
        (values_beside (key_value item) r h)
    by_range None h = refl
    by_range (Some r) h = by_value (key_value item r)
      where
        by_value : (o : Option Tree)
            → option_map place_bytes (option_map (λ r. place_in_table h (Some r)) o)
            ≡ option_map (λ (kv : KeyValues). place_bytes (place_in_table kv.hash kv.range))
            (option_map (λ r. record { hash = h; range = Some r }) o)
        by_value None = refl
        by_value (Some t) = refl

    by_hash : (o : Option Tree)
        → option_map place_bytes (option_and_then (place_beside item d.range) o)
        ≡ option_map (λ (kv : KeyValues). place_bytes (place_in_table kv.hash kv.range))
        (option_and_then (values_beside (key_value item) d.range) o)
    by_hash None = refl
    by_hash (Some h) = by_range d.range h

-- ---- a place in an index

-- the values of both keys of an item
pub record HasKeys (d : TableSchema) (i : IndexSchema) (item : List Pair) (p : Place) : Type 0 where
  pub own : KeyValues
  pub key : KeyValues
  pub owns : values_of (key_value item) i.hash i.range ≡ Some own
  pub keys : values_of (key_value item) d.hash d.range ≡ Some key
  pub is : place_of_both own key ≡ p

-- an item that has a place in an index has them
pub has_keys : (d : TableSchema) (i : IndexSchema) (item : List Pair) (p : Place)
    → index_place d i item ≡ Some p → HasKeys d i item p
has_keys d i item p e =
    let a = and_then
    (λ own. option_map (place_of_both own) (values_of (key_value item) d.hash d.range))
    (values_of (key_value item) i.hash i.range) p e in
    let b = mapped_some (place_of_both a.0) (values_of (key_value item) d.hash d.range) p a.2 in
    record { own = a.0; key = b.0; owns = a.1; keys = b.1; is = b.2 }

-- the items of an index lie by its keys and then by the table's
pub index_places_lie : IndexPlacesLie
index_places_lie d i x y p q hx hy ex ey =
    let a = has_keys d i x p ex in
    let b = has_keys d i y q ey in
    subst (λ (u : Place). Lie u q) a.is
    (subst (λ (v : Place). Lie (place_of_both a.own a.key) v) b.is
    (index_lie i.hash.kind (option_map (λ (r : KeyAttr). r.kind) i.range) d.hash.kind
    (option_map (λ (r : KeyAttr). r.kind) d.range)
    a.own.hash a.own.range a.key.hash a.key.range b.own.hash b.own.range b.key.hash b.key.range
    (keys_of_kinds x hx.fields i.hash i.range a.own a.owns)
    (keys_of_kinds x hx.fields d.hash d.range a.key a.keys)
    (keys_of_kinds y hy.fields i.hash i.range b.own b.owns)
    (keys_of_kinds y hy.fields d.hash d.range b.key b.keys)))

-- items with the same bytes in an index have one place in the table
one_place : (d : TableSchema) (i : IndexSchema) (x y : List Pair) (p q : Place)
    → IsItemOfValues x → IsItemOfValues y → index_place d i x ≡ Some p → index_place d i y ≡ Some q
    → place_bytes p ≡ place_bytes q → place_of d x ≡ place_of d y
one_place d i x y p q hx hy ex ey same =
    let a = has_keys d i x p ex in
    let b = has_keys d i y q ey in
    let told = index_tell i.hash.kind (option_map (λ (r : KeyAttr). r.kind) i.range) d.hash.kind
    (option_map (λ (r : KeyAttr). r.kind) d.range)
    a.own.hash a.own.range a.key.hash a.key.range b.own.hash b.own.range b.key.hash b.key.range
    (keys_of_kinds x hx.fields i.hash i.range a.own a.owns)
    (keys_of_kinds x hx.fields d.hash d.range a.key a.keys)
    (keys_of_kinds y hy.fields i.hash i.range b.own b.owns)
    (keys_of_kinds y hy.fields d.hash d.range b.key b.keys)
    (ap place_bytes a.is ∙ same ∙ sym (ap place_bytes b.is)) in
    place-of_values d x
    ∙ ap (option_map (λ (kv : KeyValues). place_bytes (place_in_table kv.hash kv.range))) a.keys
    ∙ (λ j. Some (place_bytes (place_in_table (told.2 j) (told.3 j))))
    ∙ ap (option_map (λ (kv : KeyValues). place_bytes (place_in_table kv.hash kv.range)))
    (sym b.keys)
    ∙ sym (place-of_values d y)

-- what an entry is made of
pub record IsEntry (d : TableSchema) (i : IndexSchema) (item : List Pair) (key : List ℕ)
    (row : List Pair) : Type 0 where
  pub kept : index_row d item i ≡ Some row
  pub place : Place
  pub at : index_place d i item ≡ Some place
  pub bytes : place_bytes place ≡ key

-- the entry of an item has its row, under the bytes of its place in the index
pub is_entry : (d : TableSchema) (i : IndexSchema) (item : List Pair) (key : List ℕ)
    (row : List Pair) → index_entry d i item ≡ Some (key, row) → IsEntry d i item key row
is_entry d i item key row e =
    let a = and_then
    (λ kept. option_map (λ place. (place_bytes place, kept)) (index_place d i item))
    (index_row d item i) (key, row) e in
    let b =
    mapped_some (λ (place : Place). (place_bytes place, a.0)) (index_place d i item) (key, row)
    a.2 in
    record {
      kept = a.1 ∙ ap (λ (f : List ℕ × List Pair). Some f.1) b.2;
      place = b.0;
      at = b.1;
      bytes = ap (λ (f : List ℕ × List Pair). f.0) b.2;
    }

-- No two items of a table have one key in an index.
pub index_apart : (d : TableSchema) (i : IndexSchema) (items : Texts (List Pair))
    → ((place : List ℕ) (item : List Pair) → map.get items place ≡ Some item
    → IsStored d place item × IsItemOfValues item)
    → AreApart (index_entry d i) items
index_apart d i items stored p q x y key v w at_p at_q is_x is_y =
    let a = stored p x at_p in
    let b = stored q y at_q in
    let e = is_entry d i x key v is_x in
    let f = is_entry d i y key w is_y in
    same_Some p q (sym a.0.stands ∙ one_place d i x y e.place f.place a.1 b.1 e.at f.at
    (e.bytes ∙ sym f.bytes)
    ∙ b.0.stands)

-- ---- the items that are in an index

-- a value that fits in an index can be a key
can_be : (most : ℕ) (kind : KeyKind) (t : Tree) → is_key_value most kind t ≡ true
    → can_be_key kind t ≡ true
can_be most S (S_tree s) h = first_so _ _ h
can_be most N (N_tree z) h = refl
can_be most B (B_tree b) h = first_so _ _ h
can_be most kind t h = absurd (false≢true h)

-- so an attribute that is there with such a value has it
value_there : (most : ℕ) (item : List Pair) (key : KeyAttr) → has_part most item key ≡ true
    → (t : Tree) × (key_value item key ≡ Some t)
value_there most item key has = by_value (at_name key.name item) refl has
  where
    by_value : (o : Option Tree) → at_name key.name item ≡ o
        → option_map_or (is_key_value most key.kind) o false ≡ true
        → (t : Tree) × (key_value item key ≡ Some t)
    by_value None at has = absurd (false≢true has)
    by_value (Some t) at has = (
      t,
      ap (option_and_then (if_key key.kind)) at
          ∙ ap (λ b. if b then Some t else None) (can_be most key.kind t has),
    )

-- and with all of them, the index's key has its values
own_values : (i : IndexSchema) (item : List Pair) → is_in_index i item ≡ true
    → (kv : KeyValues) × (values_of (key_value item) i.hash i.range ≡ Some kv)
own_values i item inside =
    let h = value_there longest_hash item i.hash (first_so _ _ inside) in
    let v = beside i.range h.0 (second_so _ _ inside) in
    (v.0, ap (option_and_then (values_beside (key_value item) i.range)) h.1 ∙ v.1)
  where
    beside : (r : Option KeyAttr) (h : Tree)
        → of_range (has_part longest_range item) true r ≡ true
        → (kv : KeyValues) × (values_beside (key_value item) r h ≡ Some kv)
    beside None h has = (record { hash = h; range = None }, refl)
    beside (Some r) h has =
        let t = value_there longest_range item r has in (
          record { hash = h; range = Some t.0 },
          ap
              (option_map (λ (v : Tree). record { hash = h; range = Some v })) t.1,
        )

-- an item at a place has the values of the table's key
table_values : (d : TableSchema) (item : List Pair) (place : List ℕ) → place_of d item ≡ Some place
    → (kv : KeyValues) × (values_of (key_value item) d.hash d.range ≡ Some kv)
table_values d item place e =
    let a = mapped_some (λ (kv : KeyValues). place_bytes (place_in_table kv.hash kv.range))
    (values_of (key_value item) d.hash d.range) place (sym (place-of_values d item) ∙ e) in
    (a.0, a.1)

-- the row of an item that is in an index is there where the item is
is_inside : (d : TableSchema) (i : IndexSchema) (item row : List Pair)
    → index_row d item i ≡ Some row → is_in_index i item ≡ true
is_inside d i item row e = by_test (is_in_index i item) refl e
  where
    by_test : (b : Bool) → is_in_index i item ≡ b
        → (if b then Some (cut d i item) else None) ≡ Some row
        → is_in_index i item ≡ true
    by_test true inside e = inside
    by_test false inside e = absurd (none-some row e)

-- An item that is in an index has an entry there.
pub entry_there : (d : TableSchema) (i : IndexSchema) (place : List ℕ)
    (item row : List Pair) → IsStored d place item → index_row d item i ≡ Some row
    → (key : List ℕ) × (index_entry d i item ≡ Some (key, row))
entry_there d i place item row stored e =
    let own = own_values i item (is_inside d i item row e) in
    let key = table_values d item place stored.stands in
    let is : index_place d i item ≡ Some (place_of_both own.0 key.0) =
    ap (option_and_then
    (λ own. option_map (place_of_both own) (values_of (key_value item) d.hash d.range))) own.1
    ∙ ap (option_map (place_of_both own.0)) key.1 in (
      place_bytes (place_of_both own.0 key.0),
      ap (option_and_then
          (λ kept. option_map (λ place. (place_bytes place, kept)) (index_place d i item))) e
          ∙ ap (option_map (λ place. (place_bytes place, row))) is,
    )

-- each index of a valid state has the items of its table that it takes, and no others
pub all_index : AllIndex
all_index s name t number i valid held there at = record {
  each = λ place item row here is.
      let e = entry_there t.description i place item row (stored place item here).0 is in (
        e.0,
        e.1,
        gives (index_entry t.description i) t.items
            (index_apart t.description i t.items stored) e.0 row (place, (item, (here, e.1))),
      );
  alone = λ key row found.
      let g = given_by (index_entry t.description i) t.items key row found in
      (g.0, g.1.0, g.1.1.0, g.1.1.1);
}
  where
    stored : (place : List ℕ) (item : List Pair) → map.get t.items place ≡ Some item
        → IsStored t.description place item × IsItemOfValues item
    stored place item here = (
      (valid.tables name t there).items place item here,
      held.items name place t item there here,
    )
