-- What an index keeps of an item stands at its row's key.
use Rattle.std.proofs.Common.{◌≡◌, ◌<◌, refl, sym, ap, subst, ◌∙◌, ℕ, true, cond, List, length, Option, Some, None, option_map, nat_lt, arith}
use Rattle.std.proofs.lemmas.Bool.{or_right, or_left}
use Rattle.std.proofs.lemmas.Option.{none-some, same_Some}
use Rattle.std.specs.Cmp.{first_so, second_so}
use Rattle.std.specs.Prelude.{◌&&◌, not, option_and_then}
use Rattle.std.specs.Str.{bytes_eq}
use Rattle.alt_base.proofs.Lists.{all_at, bytes_eq-itself}
use Rattle.alt_keyorder.specs.Place.{place_bytes, place_in_table}
use Rattle.alt_machine.specs.Indexed.{values_beside, values_of, place_of_both, index_place, index_entry}
use Rattle.alt_machine.specs.Keys.{if_key, key_value, place_beside, place_of}
use Rattle.alt_machine.specs.Sources.{index_at}
use Rattle.alt_machine.specs.Valid.{IsMade, is_pair}
use Rattle.alt_machine.proofs.Indexing.{is_entry}
use Rattle.alt_schema.specs.Indexes.{indexes, is_key, is_included, is_projected, cut, of_range}
use Rattle.alt_schema.specs.declared.schema.IndexSchema.{IndexSchema}
use Rattle.alt_schema.specs.declared.schema.KeyAttr.{KeyAttr}
use Rattle.alt_schema.specs.declared.schema.TableSchema.{TableSchema}
use Rattle.alt_schema.proofs.CutRows.{is_cut}
use Rattle.alt_value.specs.Item.{at_name}
use Rattle.alt_value.specs.Tree.{Tree, Pair}
use Rattle.alt_value.specs.Values.{IsItemOfValues}
use Rattle.alt_views.specs.IndexRows.{index_columns}
use Rattle.alt_views.specs.ItemRows.{IsReadItem}
use Rattle.alt_views.specs.Read.{AreNamed, IsKeptAt}
use Rattle.alt_views.proofs.Parts.{at_name-where, read-where, values-where}

-- ---- keys are kept

-- the HASH and the RANGE attribute are keys
pub hash_is_key : (hash : KeyAttr) (range : Option KeyAttr) → is_key hash range hash.name ≡ true
hash_is_key hash range = or_left (bytes_eq hash.name hash.name) _ (bytes_eq-itself hash.name)

-- the RANGE attribute is one beside any HASH attribute
pub range_is_key : (hash range : KeyAttr) → is_key hash (Some range) range.name ≡ true
range_is_key hash range = or_right (bytes_eq hash.name range.name) _ (bytes_eq-itself range.name)

-- keys of the index and of its table are projected
pub own_kept : (d : TableSchema) (i : IndexSchema) (name : List ℕ)
    → is_key i.hash i.range name ≡ true → is_projected d i name ≡ true
own_kept d i name h = or_right (is_included i.projection name) _
    (or_right (is_key d.hash d.range name) _ h)

-- those of the table, whatever keys the index has
pub table_kept : (d : TableSchema) (i : IndexSchema) (name : List ℕ)
    → is_key d.hash d.range name ≡ true → is_projected d i name ≡ true
table_kept d i name h = or_right (is_included i.projection name) _
    (or_left (is_key d.hash d.range name) _ h)

-- so the value of a key attribute is that of the item
pub value-cut : (d : TableSchema) (i : IndexSchema) (item : List Pair) (key : KeyAttr)
    → is_projected d i key.name ≡ true
    → key_value (cut d i item) key ≡ key_value item key
value-cut d i item key kept = ap (option_and_then (if_key key.kind))
    (at_name-where (is_projected d i) key.name item
    ∙ ap (λ b. cond b (at_name key.name item) None) kept)

-- so are the values of a key whose attributes are projected
values-cut : (d : TableSchema) (i : IndexSchema) (item : List Pair) (hash : KeyAttr)
    (range : Option KeyAttr)
    → ((name : List ℕ) → is_key hash range name ≡ true → is_projected d i name ≡ true)
    → values_of (key_value (cut d i item)) hash range ≡ values_of (key_value item) hash range
values-cut d i item hash range kept =
    ap (option_and_then (values_beside (key_value (cut d i item)) range))
    (value-cut d i item hash (kept hash.name (hash_is_key hash range)))
    ∙ by_hash (key_value item hash)
  where
    beside : (r : Option KeyAttr)
        → ((name : List ℕ) → is_key hash r name ≡ true → is_projected d i name ≡ true) → (h : Tree)
        → values_beside (key_value (cut d i item)) r h ≡ values_beside (key_value item) r h
    beside None kept h = refl
    beside (Some r) kept h = ap (option_map (λ v. record { hash = h; range = Some v }))
        (value-cut d i item r (kept r.name (range_is_key hash r)))

    by_hash : (o : Option Tree)
        → option_and_then (values_beside (key_value (cut d i item)) range) o
        ≡ option_and_then (values_beside (key_value item) range) o
    by_hash None = refl
    by_hash (Some h) = beside range kept h

-- and so is the place in the index
pub place-cut : (d : TableSchema) (i : IndexSchema) (item : List Pair)
    → index_place d i (cut d i item) ≡ index_place d i item
place-cut d i item =
    λ j. option_and_then (λ own. option_map (place_of_both own)
    (values-cut d i item d.hash d.range (table_kept d i) j))
    (values-cut d i item i.hash i.range (own_kept d i) j)

-- and the place in the table
pub own_place-cut : (d : TableSchema) (i : IndexSchema) (item : List Pair)
    → place_of d (cut d i item) ≡ place_of d item
own_place-cut d i item = ap (option_map place_bytes)
    (ap (option_and_then (place_beside (cut d i item) d.range))
    (value-cut d i item d.hash (table_kept d i d.hash.name (hash_is_key d.hash d.range)))
    ∙ by_hash (key_value item d.hash))
  where
    beside : (r : Option KeyAttr) → d.range ≡ r → (h : Tree)
        → place_beside (cut d i item) r h ≡ place_beside item r h
    beside None e h = refl
    beside (Some r) e h = ap (option_map (λ r. place_in_table h (Some r)))
        (value-cut d i item r (table_kept d i r.name
        (ap (λ o. is_key d.hash o r.name) e ∙ range_is_key d.hash r)))

    by_hash : (o : Option Tree) → option_and_then (place_beside (cut d i item) d.range) o
        ≡ option_and_then (place_beside item d.range) o
    by_hash None = refl
    by_hash (Some h) = beside d.range refl h

-- ---- names of keys

-- a number that is told to be above 0 is
has_bytes : (n : ℕ) → nat_lt 0 n ≡ true → 0 < n
has_bytes n h = grind arith

-- keys of a pair have names
pair_named : (hash : KeyAttr) (range : Option KeyAttr) → is_pair hash range ≡ true
    → (0 < length hash.name) × ((r : KeyAttr) → range ≡ Some r → 0 < length r.name)
pair_named hash range h = (has_bytes _ (first_so _ _ h), beside range (second_so _ _ h))
  where
    beside : (o : Option KeyAttr)
        → of_range (λ r. nat_lt 0 (length r.name) && not (bytes_eq hash.name r.name)) true o ≡ true
        → (r : KeyAttr) → o ≡ Some r → 0 < length r.name
    beside None h r e = absurd (none-some r e)
    beside (Some q) h r e = subst (λ (k : KeyAttr). 0 < length k.name) (same_Some q r e)
        (has_bytes _ (first_so _ _ h))

-- the keys of a table that is made have names, and so have those of its indexes
pub are_named : (d : TableSchema) (number : ℕ) (i : IndexSchema) → IsMade d
    → index_at d (Some number) ≡ Some i → AreNamed d i
are_named d number i made at =
    let own = pair_named i.hash i.range (all_at (λ (i : IndexSchema). is_pair i.hash i.range)
    (indexes d) number i made.index_keys at) in
    let of_table = pair_named d.hash d.range made.keys in
    record { hash = of_table.0; range = of_table.1; own_hash = own.0; own_range = own.1 }

-- ---- what is kept

-- What an index has at a key is what it keeps of an item there.
pub kept_at : (d : TableSchema) (number : ℕ) (i : IndexSchema) (item : List Pair) (key : List ℕ)
    (row : List Pair) → IsMade d → index_at d (Some number) ≡ Some i → IsReadItem item
    → index_entry d i item ≡ Some (key, row) → IsKeptAt d i row key (index_columns d i row)
kept_at d number i item key row made at read is =
    let e = is_entry d i item key row is in
    let row_is = is_cut d i item row e.kept in
    subst (λ x. IsKeptAt d i x key (index_columns d i x)) row_is (record {
      named = are_named d number i made at;
      read = read-where (is_projected d i) item read;
      place = ap (option_map place_bytes) (place-cut d i item ∙ e.at) ∙ ap (λ b. Some b) e.bytes;
      shows = refl;
    })

-- It has that place there.
pub entry_place : (d : TableSchema) (i : IndexSchema) (item : List Pair) (key : List ℕ)
    (row : List Pair) → index_entry d i item ≡ Some (key, row)
    → option_map place_bytes (index_place d i row) ≡ Some key
entry_place d i item key row is =
    let e = is_entry d i item key row is in
    ap (λ x. option_map place_bytes (index_place d i x)) (sym (is_cut d i item row e.kept))
    ∙ ap (option_map place_bytes) (place-cut d i item ∙ e.at) ∙ ap (λ b. Some b) e.bytes

-- What an index keeps of an item of values is one.
pub kept_values : (d : TableSchema) (i : IndexSchema) (item : List Pair) (key : List ℕ)
    (row : List Pair) → IsItemOfValues item → index_entry d i item ≡ Some (key, row)
    → IsItemOfValues row
kept_values d i item key row values is = subst IsItemOfValues
    (is_cut d i item row (is_entry d i item key row is).kept)
    (values-where (is_projected d i) item values)
