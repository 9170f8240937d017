-- An item with the key attributes of another stands where that one does.
use Rattle.std.proofs.Common.{◌≡◌, refl, sym, ap, ◌∙◌, ℕ, Bool, true, false, ◌&&◌, ◌||◌, nat_le, List, Option, Some, None, option_map, option_and_then}
use Rattle.std.specs.Option.{option_map_or}
use Rattle.std.proofs.Math.Bool.{or-true}
use Rattle.alt_base.proofs.Lists.{bytes_eq-itself}
use Rattle.alt_keyorder.specs.Place.{place_in_table, place_bytes}
use Rattle.alt_machine.specs.Keys.{if_key, key_value, place_beside, key_place, place_of, byte_count, is_key_value_within, key_fits}
use Rattle.alt_schema.specs.Indexes.{is_key, has_key_name, of_range, longest_hash, longest_range}
use Rattle.alt_schema.specs.declared.schema.KeyAttr.{KeyAttr}
use Rattle.alt_schema.specs.declared.schema.TableSchema.{TableSchema}
use Rattle.alt_value.specs.Item.{at_name}
use Rattle.alt_value.specs.Tree.{Tree, Pair}

-- a value where there is one
Has : Option Tree → Type 0
Has o = (t : Tree) × (o ≡ Some t)

-- the key attributes that an item has are those of another one
abbrev pub KeepsKey : TableSchema → List Pair → List Pair → Type 0
KeepsKey d old new = (n : List ℕ) (t : Tree) → is_key d.hash d.range n ≡ true
    → at_name n old ≡ Some t → at_name n new ≡ Some t

module _ (d : TableSchema) (old new : List Pair) (keeps : KeepsKey d old new) (place : List ℕ)
    (stands : place_of d old ≡ Some place) where
  -- the HASH value
  hash_there : Has (key_value old d.hash)
  unfolding Has
  hash_there = by (key_value old d.hash) refl stands
    where
      by : (o : Option Tree) → key_value old d.hash ≡ o
          → option_map place_bytes (option_and_then (place_beside old d.range) o) ≡ Some place
          → Has (key_value old d.hash)
      by None e f = absurd (let g : ⊥ = cc in g)
      by (Some t) e f = (t, e)

  -- the RANGE value, where the table has a RANGE key
  range_there : (r : KeyAttr) → d.range ≡ Some r → Has (key_value old r)
  unfolding Has
  range_there r e = by (key_value old r) refl (sym beside ∙ stands)
    where
      beside : place_of d old ≡ option_map place_bytes (option_map
          (λ v. place_in_table hash_there.0 (Some v)) (key_value old r))
      beside = ap (λ o. option_map place_bytes (option_and_then (place_beside old d.range) o))
          hash_there.1 ∙ ap (λ o. option_map place_bytes (place_beside old o hash_there.0)) e

      by : (o : Option Tree) → key_value old r ≡ o → option_map place_bytes (option_map
          (λ v. place_in_table hash_there.0 (Some v)) o) ≡ Some place
          → Has (key_value old r)
      by None f g = absurd (let h : ⊥ = cc in h)
      by (Some t) f g = (t, f)

  -- a key attribute has the value that it had
  part_same : (key : KeyAttr) → is_key d.hash d.range key.name ≡ true → Has (key_value old key)
      → at_name key.name new ≡ at_name key.name old
  unfolding Has
  part_same key is there = by (at_name key.name old) refl there.1
    where
      by : (o : Option Tree) → at_name key.name old ≡ o
          → option_and_then (if_key key.kind) o ≡ Some there.0
          → at_name key.name new ≡ at_name key.name old
      by None e f = absurd (let g : ⊥ = cc in g)
      by (Some u) e f = keeps key.name u is e ∙ sym e

  hash_same : at_name d.hash.name new ≡ at_name d.hash.name old
  hash_same = part_same d.hash
      (ap (λ b. b || of_range (has_key_name d.hash.name) false d.range)
      (bytes_eq-itself d.hash.name))
      hash_there

  range_same : (r : KeyAttr) → d.range ≡ Some r → at_name r.name new ≡ at_name r.name old
  range_same r e = part_same r
      (ap (is_key_of r.name) e ∙ ap (λ b. has_key_name r.name d.hash || b) (bytes_eq-itself r.name)
      ∙ or-true (has_key_name r.name d.hash)) (range_there r e)
    where
      is_key_of : List ℕ → Option KeyAttr → Bool
      is_key_of n range = is_key d.hash range n

  beside_same : (range : Option KeyAttr) → d.range ≡ range → (t : Tree)
      → place_beside new range t ≡ place_beside old range t
  beside_same None e t = refl
  beside_same (Some r) e t = ap (λ o. option_map (λ v. place_in_table t (Some v))
      (option_and_then (if_key r.kind) o)) (range_same r e)

  place_same : key_place d new ≡ key_place d old
  unfolding Has
  place_same =
      ap (λ o. option_and_then (place_beside new d.range) (option_and_then (if_key d.hash.kind) o))
      hash_same
      ∙ ap (λ o. option_and_then (place_beside new d.range) o) hash_there.1
      ∙ beside_same d.range refl hash_there.0
      ∙ sym (ap (λ o. option_and_then (place_beside old d.range) o) hash_there.1)

  -- it stands at the same place
  pub still_stands : place_of d new ≡ Some place
  still_stands = ap (λ o. option_map place_bytes o) place_same ∙ stands

  -- the test of a RANGE value's length answers the same of both items
  within_same : (range : Option KeyAttr) → d.range ≡ range
      → of_range (is_key_value_within longest_range new) true range
      ≡ of_range (is_key_value_within longest_range old) true range
  within_same None e = refl
  within_same (Some r) e =
      ap (λ o. option_map_or (λ t. nat_le (byte_count t) longest_range) o true) (range_same r e)

  -- and its key is no longer
  pub still_fits : key_fits d old ≡ true → key_fits d new ≡ true
  still_fits fits =
      ap (λ o. option_map_or (λ t. nat_le (byte_count t) longest_hash) o true
      && of_range (is_key_value_within longest_range new) true d.range) hash_same
      ∙ ap (λ b. is_key_value_within longest_hash old d.hash && b) (within_same d.range refl) ∙ fits
