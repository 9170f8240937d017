-- Items of one table lie by their keys.
use Rattle.std.proofs.Common.{◌≡◌, refl, sym, subst, List, Option, Some, None, option_map}
use Rattle.std.proofs.lemmas.Option.{same_Some}
use Rattle.std.specs.Prelude.{option_and_then}
use Rattle.alt_base.proofs.Options.{some_if}
use Rattle.alt_keyorder.specs.Kinds.{IsOfKind, IsKeyFor}
use Rattle.alt_keyorder.specs.Laws.{Lie}
use Rattle.alt_keyorder.specs.Place.{Place, place_in_table}
use Rattle.alt_keyorder.proofs.PlaceLaws.{table_lie}
use Rattle.alt_machine.specs.Keys.{can_be_key, if_key, key_value, place_beside, key_place}
use Rattle.alt_machine.specs.Laws.{ItemsLieByKeys}
use Rattle.alt_schema.specs.declared.schema.KeyAttr.{KeyAttr}
use Rattle.alt_schema.specs.declared.schema.TableSchema.{TableSchema}
use Rattle.alt_value.specs.Item.{at_name}
use Rattle.alt_value.specs.Tree.{Tree, Pair, S_tree, N_tree, B_tree, fields_of}
use Rattle.alt_value.specs.Values.{IsValue, AreFields}
use Rattle.alt_value.specs.declared.kind.KeyKind.{KeyKind}
use Rattle.alt_value.specs.declared.kind.KeyKind.TheVariants.{S, N, B}
use Rattle.alt_value.proofs.NamedPairs.{value_at}

-- a value that can be a key is of the key's kind
key_kind : (kind : KeyKind) (u t : Tree) → IsValue u → if_key kind u ≡ Some t → IsOfKind kind t
key_kind S (S_tree s) t v e = subst (IsOfKind S)
    (some_if (can_be_key S (S_tree s)) (S_tree s) t e) tt
key_kind N (N_tree z) t v e = subst (IsOfKind N) (same_Some (N_tree z) t e) v
key_kind B (B_tree b) t v e = subst (IsOfKind B)
    (some_if (can_be_key B (B_tree b)) (B_tree b) t e) tt
key_kind kind u t v e = absurd (let f : ⊥ = cc in f)

-- the value of a key attribute is of the attribute's kind
pub part_kind : (item : List Pair) (key : KeyAttr) (t : Tree) → AreFields (fields_of item)
    → key_value item key ≡ Some t → IsOfKind key.kind t
part_kind item key t h e = by (at_name key.name item) refl e
  where
    by : (o : Option Tree) → at_name key.name item ≡ o
        → option_and_then (if_key key.kind) o ≡ Some t → IsOfKind key.kind t
    by None at f = absurd (let g : ⊥ = cc in g)
    by (Some u) at f = key_kind key.kind u t (value_at key.name item u h at) f

-- the key that a place is of
record IsPlaceOfKey (d : TableSchema) (p : Place) : Type 0 where
  hash : Tree
  range : Option Tree
  key : IsKeyFor d.hash.kind (option_map (λ r. r.kind) d.range) hash range
  is : p ≡ place_in_table hash range

-- a place of a HASH value of its kind, and of the RANGE value of an item, is of a key of the table
beside : (d : TableSchema) (item : List Pair) (p : Place) (hash : Tree) (range : Option KeyAttr)
    → range ≡ d.range → AreFields (fields_of item)
    → IsOfKind d.hash.kind hash → place_beside item range hash ≡ Some p → IsPlaceOfKey d p
beside d item p hash None same h k e = record {
  hash = hash;
  range = None;
  key = subst (λ (r : Option KeyAttr). IsKeyFor d.hash.kind (option_map (λ x. x.kind) r) hash None)
      same k;
  is = sym (same_Some (place_in_table hash None) p e);
}
beside d item p hash (Some range) same h k e = by (key_value item range) refl e
  where
    by : (o : Option Tree) → key_value item range ≡ o
        → option_map (λ r. place_in_table hash (Some r)) o ≡ Some p → IsPlaceOfKey d p
    by None at f = absurd (let g : ⊥ = cc in g)
    by (Some r) at f = record {
      hash = hash;
      range = Some r;
      key = subst (λ (q : Option KeyAttr). IsKeyFor d.hash.kind (option_map (λ x. x.kind) q) hash
          (Some r)) same (k, part_kind item range r h at);
      is = sym (same_Some (place_in_table hash (Some r)) p f);
    }

-- the place of an item is of a key of its table
key_of_place : (d : TableSchema) (item : List Pair) (p : Place) → AreFields (fields_of item)
    → key_place d item ≡ Some p → IsPlaceOfKey d p
key_of_place d item p h e = by (key_value item d.hash) refl e
  where
    by : (o : Option Tree) → key_value item d.hash ≡ o
        → option_and_then (place_beside item d.range) o ≡ Some p → IsPlaceOfKey d p
    by None at f = absurd (let g : ⊥ = cc in g)
    by (Some hash) at f = beside d item p hash d.range refl h (part_kind item d.hash hash h at) f

-- the items of a table lie by their keys
pub places_lie : ItemsLieByKeys
places_lie d i j p q hi hj ei ej =
    let a = key_of_place d i p hi.fields ei in
    let b = key_of_place d j q hj.fields ej in
    subst (λ (x : Place). Lie x q) (sym a.is)
    (subst (λ (y : Place). Lie (place_in_table a.hash a.range) y) (sym b.is)
    (table_lie d.hash.kind (option_map (λ (r : KeyAttr). r.kind) d.range) a.hash a.range b.hash
    b.range a.key b.key))
