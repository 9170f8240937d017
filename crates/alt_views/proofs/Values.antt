-- The values of a key as an item has them.
use Rattle.std.proofs.Common.{◌≡◌, ◌<◌, refl, ap, subst, ◌∙◌, List, length, Option, Some, None, option_map}
use Rattle.std.proofs.lemmas.Option.{none-some, same_Some}
use Rattle.std.specs.Prelude.{option_and_then}
use Rattle.alt_base.proofs.Options.{some_if}
use Rattle.alt_keyorder.specs.KeyBytes.{IsKeyOf}
use Rattle.alt_machine.specs.Indexed.{KeyValues, values_beside, values_of}
use Rattle.alt_machine.specs.Keys.{can_be_key, if_key, key_value}
use Rattle.alt_schema.specs.declared.schema.KeyAttr.{KeyAttr}
use Rattle.alt_value.specs.Item.{at_name}
use Rattle.alt_value.specs.Tree.{Tree, Pair, S_tree, N_tree, B_tree, fields_of}
use Rattle.alt_value.specs.Values.{IsValue, AreFields}
use Rattle.alt_value.specs.declared.kind.KeyKind.{KeyKind}
use Rattle.alt_value.specs.declared.kind.KeyKind.TheVariants.{S, N, B}
use Rattle.alt_value.proofs.NamedPairs.{value_at}
use Rattle.alt_views.specs.Read.{AreValuesOf}

-- a value that can be a key is one of its kind
key_of_kind : (kind : KeyKind) (u t : Tree) → IsValue u → if_key kind u ≡ Some t → IsKeyOf kind t
key_of_kind S (S_tree s) t v e = subst (IsKeyOf S)
    (some_if (can_be_key S (S_tree s)) (S_tree s) t e) v.0
key_of_kind N (N_tree z) t v e = subst (IsKeyOf N) (same_Some (N_tree z) t e) v
key_of_kind B (B_tree b) t v e = subst (IsKeyOf B)
    (some_if (can_be_key B (B_tree b)) (B_tree b) t e) tt
key_of_kind kind u t v e = absurd (none-some t e)

-- what is taken of a value as a key is the value itself
same_value : (kind : KeyKind) (u t : Tree) → if_key kind u ≡ Some t → u ≡ t
same_value kind u t e = some_if (can_be_key kind u) u t e

-- the value of a key attribute stands at its name, and is of its kind
pub at_key : (item : List Pair) (key : KeyAttr) (t : Tree) → AreFields (fields_of item)
    → key_value item key ≡ Some t → (at_name key.name item ≡ Some t) × IsKeyOf key.kind t
at_key item key t fields e = by_value (at_name key.name item) refl e
  where
    by_value : (o : Option Tree) → at_name key.name item ≡ o
        → option_and_then (if_key key.kind) o ≡ Some t
        → (at_name key.name item ≡ Some t) × IsKeyOf key.kind t
    by_value None at e = absurd (none-some t e)
    by_value (Some u) at e = (
      at ∙ ap (λ x. Some x) (same_value key.kind u t e),
      key_of_kind key.kind u t (value_at key.name item u fields at) e,
    )

-- the values of a key stand at its names
abbrev pub StandsAt : List Pair → Option KeyAttr → Option Tree → Type 0
StandsAt item (Some r) (Some t) = at_name r.name item ≡ Some t
StandsAt item range o = Unit {0}

-- They stand there, and are of the kinds of the key.
pub record HasValues (item : List Pair) (hash : KeyAttr) (range : Option KeyAttr)
    (values : KeyValues) : Type 0 where
  pub hash_at : at_name hash.name item ≡ Some values.hash
  pub range_at : StandsAt item range values.range
  pub are : AreValuesOf hash range values

-- so do the values of an item, where the attributes of the key have names
pub has_values : (item : List Pair) (hash : KeyAttr) (range : Option KeyAttr) (values : KeyValues)
    → AreFields (fields_of item) → 0 < length hash.name
    → ((r : KeyAttr) → range ≡ Some r → 0 < length r.name)
    → values_of (key_value item) hash range ≡ Some values → HasValues item hash range values
has_values item hash range values fields named range_named e = by_hash (key_value item hash) refl e
  where
    beside : (r : Option KeyAttr) (h : Tree)
        → ((q : KeyAttr) → r ≡ Some q → 0 < length q.name)
        → (at_name hash.name item ≡ Some h) × IsKeyOf hash.kind h
        → values_beside (key_value item) r h ≡ Some values → HasValues item hash r values
    beside None h named_r at e =
        subst (HasValues item hash None) (same_Some (record { hash = h; range = None }) values e)
        (record { hash_at = at.0; range_at = tt; are = ((at.1, named), tt) })
    beside (Some r) h named_r at e = by_range (key_value item r) refl e
      where
        by_range : (o : Option Tree) → key_value item r ≡ o
            → option_map (λ t. record { hash = h; range = Some t }) o ≡ Some values
            → HasValues item hash (Some r) values
        by_range None there e = absurd (none-some values e)
        by_range (Some t) there e =
            let stands = at_key item r t fields there in
            subst (HasValues item hash (Some r))
            (same_Some (record { hash = h; range = Some t }) values e)
            (record {
              hash_at = at.0;
              range_at = stands.0;
              are = ((at.1, named), (stands.1, named_r r refl));
            })

    by_hash : (o : Option Tree) → key_value item hash ≡ o
        → option_and_then (values_beside (key_value item) range) o ≡ Some values
        → HasValues item hash range values
    by_hash None at e = absurd (none-some values e)
    by_hash (Some h) at e = beside range h range_named (at_key item hash h fields at) e
