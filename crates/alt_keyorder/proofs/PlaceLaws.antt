-- The laws of places, in tables and in indexes.
use Rattle.std.proofs.Common.{◌≡◌, refl, sym, ap, ◌∙◌, ℕ, List, [], ◌∷◌, ◌++◌, append_assoc, Option, Some, None}
use Rattle.std.proofs.lemmas.List.{append-nil}
use Rattle.std.specs.Int.{w64, to_be_bytes}
use Rattle.std.specs.List.{flat_map}
use Rattle.std.specs.Ordering.{nat_cmp, ordering_then}
use Rattle.std.specs.declared.cmp.Ordering.{Ordering}
use Rattle.std.specs.declared.cmp.Ordering.TheVariants.{Less, Equal, Greater}
use Rattle.alt_fields.proofs.Apart.{number-apart}
use Rattle.alt_value.specs.declared.kind.KeyKind.{KeyKind}
use Rattle.alt_value.specs.Members.{text_order}
use Rattle.alt_value.specs.Tree.{Tree}
use Rattle.alt_keyorder.specs.KeyBytes.{key_bytes}
use Rattle.alt_keyorder.specs.Kinds.{AreOfKinds, IsKeyFor, IsPlaceOf}
use Rattle.alt_keyorder.specs.Laws.{PlacesLie, OnePlace, TableKeysTell, TableKeysLie, HashKeysBegin, IndexKeysTell, IndexKeysLie}
use Rattle.alt_keyorder.specs.Place.{Place, key_values, place_bytes, place_in_table, place_in_index, then_order, IsPlace}
use Rattle.alt_keyorder.specs.Token.{token_of}
use Rattle.alt_keyorder.proofs.KindLaws.{key_values_of, parts_have_order, one_parts}
use Rattle.alt_keyorder.proofs.Places.{keys-lie, tied_places}
use Rattle.alt_keyorder.proofs.Tokens.{token_fits}

-- ---- places by the kinds of their parts

-- one whose parts are of kinds is a place
place_of_kinds : (kinds : List KeyKind) (p : Place) → IsPlaceOf kinds p → IsPlace p
place_of_kinds kinds p h = record { token = h.token; parts = key_values_of kinds p.parts h.parts }

-- what follows nothing decides nothing
then-equal : (o : Ordering) → ordering_then o Equal ≡ o
then-equal Less = refl
then-equal Equal = refl
then-equal Greater = refl

-- places of the same kinds have an order, and their key bytes lie so
pub places_lie : PlacesLie
places_lie kinds p q h k =
    let parts = parts_have_order kinds p.parts q.parts h.parts k.parts in
    let order = ordering_then (nat_cmp p.token q.token) parts.0 in
    let is = ap (then_order (Some (nat_cmp p.token q.token))) parts.1 in
    let bytes = keys-lie p q order [] [] (place_of_kinds kinds p h) (place_of_kinds kinds q k) is in
    record {
      order = order;
      is = is;
      bytes = sym (λ i. text_order (append-nil (place_bytes p) i) (append-nil (place_bytes q) i))
          ∙ bytes ∙ then-equal order;
      ties = λ e. tied_places p q (key_values_of kinds p.parts h.parts)
          (is ∙ ap (λ (o : Ordering). Some o) e);
    }

-- whatever follows them, key bytes are those of one place
pub one_place : OnePlace
one_place kinds p q x y h k e =
    let token = number-apart p.token q.token (flat_map key_bytes p.parts ++ x)
    (flat_map key_bytes q.parts ++ y) h.token k.token
    (sym (append_assoc (to_be_bytes w64 p.token) (flat_map key_bytes p.parts) x) ∙ e
    ∙ append_assoc (to_be_bytes w64 q.token) (flat_map key_bytes q.parts) y) in
    let parts = one_parts kinds p.parts q.parts x y h.parts k.parts token.1 in
    ((λ i. record { token = token.0 i; parts = parts.0 i }), parts.1)

-- ---- keys of tables and of indexes

-- the kinds of the parts
kinds_of : KeyKind → Option KeyKind → List KeyKind
kinds_of h None = h ∷ []
kinds_of h (Some r) = h ∷ r ∷ []

-- a key's values are of its kinds
values_of_kinds : (h : KeyKind) (r : Option KeyKind) (hash : Tree) (range : Option Tree)
    → IsKeyFor h r hash range
    → AreOfKinds (kinds_of h r) (key_values hash range)
unfolding kinds_of
values_of_kinds h None hash None k = (k, tt)
values_of_kinds h None hash (Some range) k = absurd k
values_of_kinds h (Some r) hash None k = absurd k
values_of_kinds h (Some r) hash (Some range) k = (k.0, (k.1, tt))

-- the values of two keys one behind another are of the kinds of both
of_both : (ks ls : List KeyKind) (ts us : List Tree) → AreOfKinds ks ts → AreOfKinds ls us
    → AreOfKinds (ks ++ ls) (ts ++ us)
of_both [] ls [] us a b = b
of_both [] ls (t ∷ ts) us a b = absurd a
of_both (k ∷ ks) ls [] us a b = absurd a
of_both (k ∷ ks) ls (t ∷ ts) us a b = (a.0, of_both ks ls ts us a.1 b)

-- lists that are equal have equal first parts, where these are of the same kinds
same_values : (h : KeyKind) (r : Option KeyKind) (a : Tree) (b : Option Tree) (c : Tree)
    (d : Option Tree) (xs ys : List Tree)
    → IsKeyFor h r a b → IsKeyFor h r c d → key_values a b ++ xs ≡ key_values c d ++ ys
    → (a ≡ c) × (b ≡ d) × (xs ≡ ys)
same_values h None a None c None xs ys k l e = (cc, refl, cc)
same_values h None a None c (Some d) xs ys k l e = absurd l
same_values h None a (Some b) c d xs ys k l e = absurd k
same_values h (Some r) a None c d xs ys k l e = absurd k
same_values h (Some r) a (Some b) c None xs ys k l e = absurd l
same_values h (Some r) a (Some b) c (Some d) xs ys k l e = (cc, cc, cc)

-- a key's place in a table is one of its kinds
in_table : (h : KeyKind) (r : Option KeyKind) (hash : Tree) (range : Option Tree)
    → IsKeyFor h r hash range
    → IsPlaceOf (kinds_of h r) (place_in_table hash range)
in_table h r hash range k = record {
  token = token_fits hash;
  parts =
      values_of_kinds h r hash range k;
}

-- and so is one in an index
in_index : (ih : KeyKind) (ir : Option KeyKind) (h : KeyKind) (r : Option KeyKind)
    (a : Tree) (b : Option Tree) (c : Tree) (d : Option Tree) → IsKeyFor ih ir a b
    → IsKeyFor h r c d
    → IsPlaceOf (kinds_of ih ir ++ kinds_of h r) (place_in_index a b c d)
in_index ih ir h r a b c d k l = record {
  token = token_fits a;
  parts = of_both (kinds_of ih ir) (kinds_of h r) (key_values a b) (key_values c d)
      (values_of_kinds ih ir a b k) (values_of_kinds h r c d l);
}

-- equal bytes are those of one place
same_bytes : (kinds : List KeyKind) (p q : Place) → IsPlaceOf kinds p → IsPlaceOf kinds q
    → place_bytes p ≡ place_bytes q → p ≡ q
same_bytes kinds p q h k e = (one_place kinds p q [] [] h k (ap (λ s. s ++ []) e)).0

-- equal key bytes of a table are those of equal keys, and lie as their places
pub table_tell : TableKeysTell
table_tell h r hash range other beside k l e =
    let same = same_bytes (kinds_of h r) _ _ (in_table h r hash range k)
    (in_table h r other beside l) e in
    let values = same_values h r hash range other beside [] [] k l
    (append-nil (key_values hash range) ∙ ap (λ p. p.parts) same
    ∙ sym (append-nil (key_values other beside))) in
    (values.0, values.1)

-- the keys of places in a table lie as the places do
pub table_lie : TableKeysLie
table_lie h r hash range other beside k l =
    places_lie (kinds_of h r) _ _ (in_table h r hash range k) (in_table h r other beside l)

-- the same of an index
pub index_tell : IndexKeysTell
index_tell ih ir h r a b c d e f g i ka kc ke kg same =
    let place = same_bytes (kinds_of ih ir ++ kinds_of h r) _ _ (in_index ih ir h r a b c d ka kc)
    (in_index ih ir h r e f g i ke kg) same in
    let first = same_values ih ir a b e f (key_values c d) (key_values g i) ka ke
    (ap (λ p. p.parts) place) in
    let second = same_values h r c d g i [] [] kc kg
    (append-nil (key_values c d) ∙ first.2 ∙ sym (append-nil (key_values g i))) in
    (first.0, first.1, second.0, second.1)

-- the keys of places in an index lie as the places do
pub index_lie : IndexKeysLie
index_lie ih ir h r a b c d e f g i ka kc ke kg =
    places_lie (kinds_of ih ir ++ kinds_of h r) _ _ (in_index ih ir h r a b c d ka kc)
    (in_index ih ir h r e f g i ke kg)

-- ---- all keys with one HASH value

-- what a place with a RANGE value has behind its HASH value
range_bytes : Option Tree → List ℕ
range_bytes None = []
range_bytes (Some range) = key_bytes range

-- a place is that of its HASH value, and then the RANGE value
with_range : (hash : Tree) (range : Option Tree)
    → place_bytes (place_in_table hash range)
    ≡ place_bytes (place_in_table hash None) ++ range_bytes range
unfolding range_bytes
with_range hash None = sym (append-nil (place_bytes (place_in_table hash None)))
with_range hash (Some range) = regroup (to_be_bytes w64 (token_of hash)) (key_bytes hash)
    (key_bytes range)
  where
    regroup : (a b c : List ℕ) → a ++ (b ++ (c ++ [])) ≡ (a ++ (b ++ [])) ++ c
    regroup a b c = simp (append_assoc, append-nil)

-- the keys with a HASH value begin with its bytes
pub hash_begins : HashKeysBegin
hash_begins h hash other range k l = (
  (λ e. (
    range_bytes range,
    with_range other range
        ∙ ap (λ t. place_bytes (place_in_table t None) ++ range_bytes range) (sym e),
  )),
  (λ p.
      let place = one_place (kinds_of h None) (place_in_table other None) (place_in_table hash None)
      (range_bytes range) p.0
      (in_table h None other None l) (in_table h None hash None k)
      (sym (with_range other range) ∙ p.1) in
      sym (same_values h None other None hash None [] [] l k (ap (λ q. q.parts ++ []) place.0)).0),
)
