-- What the reader answers is what the JSON stands for, for values, their elements and their pairs.
use Rattle.std.proofs.Common.{◌≡◌, refl, sym, ap, subst, subst₂, ◌∙◌, ℕ, zero, suc, ◌-◌, ◌<◌, true, false, List, [], ◌∷◌, length, Option, Some, None, Ok, Err, inl, inr, arith}
use Rattle.std.specs.Prelude.{◌==◌, codes}
use Rattle.std.specs.Ordering.{int_cmp}
use Rattle.std.specs.Str.{bytes_eq}
use Rattle.std.proofs.lemmas.Bool.{eqb-false}
use Rattle.base64.specs.Engines.{standard}
use Rattle.base64.specs.GeneralPurpose.{decode_of}
use Rattle.serde_json.specs.Data.{Data, null, boolean, number, string, array, object, Items, no_items, item, Members, no_members, member}
use Rattle.alt_decimal.specs.NumberText.{TextReadsAs}
use Rattle.alt_value.specs.Item.{with_pair}
use Rattle.alt_value.specs.Members.{text_order}
use Rattle.alt_value.specs.Tree.{Tree, S_tree, N_tree, B_tree, BOOL_tree, NULL_tree, SS_tree, NS_tree, BS_tree, L_tree, M_tree, Pair, trees_of, fields_of}
use Rattle.alt_codec.specs.declared.fault.ValueFault.TheVariants as fault
use Rattle.alt_codec.specs.JsonOf.{IsOnlyMember, IsTextOf, IsNumberOf, IsBinaryOf, with_more_pairs, JsonOf, is_text, is_number, is_binary, is_truth, is_none, is_texts, is_numbers, is_binaries, is_list, is_map, ElementsOf, no_elements, element_then, PairsOf, no_pairs, pair_then}
use Rattle.alt_codec.specs.Numbers.{number_of}
use Rattle.alt_codec.specs.Reading.{only_present, value_in, payload_in, list_in, map_in, flat_in, if_room, elements_in, fields_in}
use Rattle.alt_codec.specs.Scalars.{text_in, number_in, binary_in, truth_in, null_in, or_bad_number, or_bad_base64}
use Rattle.alt_codec.specs.Sets.{members_in}
use Rattle.alt_codec.specs.Steps.{and_then, map_ok}
use Rattle.alt_base.proofs.Lists.{bytes_eq-true}
use Rattle.alt_codec.proofs.Numbers.{reads}
use Rattle.alt_codec.proofs.Present.{of_present, only_member-only_present}
use Rattle.alt_codec.proofs.ReadBack.{some_room}
use Rattle.alt_codec.proofs.OneMember.{ok_map, ok_then, arm, present-only, text_of, sound_number, sound_base64, member_text, member_number, member_binary, text_member, number_member, binary_member, set-there}

-- ---- elements and pairs, where values of one level less are told

module _ (room : ℕ) (there : (d : Data) (t : Tree) → value_in room d ≡ Ok t → JsonOf room d t) where
  elements-there : (ds : Items) (ts : List Tree) → elements_in room ds ≡ Ok ts
      → ElementsOf room ds ts
  elements-there no_items ts e = let f : [] ≡ ts = cc in
      subst (ElementsOf room no_items) f (no_elements room)
  elements-there (item d ds) ts e =
      let first = ok_then (λ t. map_ok (λ us. t ∷ us) (elements_in room ds))
      (value_in room d) ts e in
      let rest = ok_map (λ us. first.0 ∷ us) (elements_in room ds) ts first.2 in
      subst (ElementsOf room (item d ds)) rest.2
      (element_then room d ds first.0 rest.0 (there d first.0 first.1)
      (elements-there ds rest.0 rest.1))

  pub pairs-there : (found : List Pair) (ms : Members) (i : List Pair) → fields_in room
      found ms ≡ Ok i
      → (ps : List Pair) × PairsOf room ms ps × (i ≡ with_more_pairs found ps)
  pairs-there found no_members i e = let f : found ≡ i = cc in ([], no_pairs room, sym f)
  pairs-there found (member name d ms) i e =
      elim (arm (length name == 0) (Err fault.EmptyName)
      (and_then (λ t. fields_in room (with_pair name t found) ms) (value_in room d)) (Ok i) e) [
        | inl bare ↦ absurd (let b = bare.1 in let h : ⊥ = cc in h)
        | inr named ↦
            let first = ok_then (λ t. fields_in room (with_pair name t found) ms)
            (value_in room d) i named.1 in
            let rest = pairs-there (with_pair name first.0 found) ms i first.2 in (
              (name, first.0) ∷ rest.0,
              pair_then room name d ms first.0 rest.0 (some (length name) named.0)
                  (there d first.0 first.1) rest.1,
              rest.2,
            )
      ]
    where
      some : (n : ℕ) → (n == 0) ≡ false → 0 < n
      some n e = omega (arith, eqb-false n 0 e)

-- ---- what is read is what the JSON stands for

-- one level less than the room that there is
pub less_room : (n : ℕ) → suc n - 1 ≡ n
less_room n = omega arith

list-there : (room : ℕ) → ((n : ℕ) → suc n ≡ room → (d : Data) (t : Tree) → value_in n d ≡ Ok t
    → JsonOf n d t) → (ms : Members) (ds : Items) (t : Tree)
    → IsOnlyMember ms (codes "L") (array ds) → if_room room
    (map_ok (λ ts. L_tree (trees_of ts)) (elements_in (room - 1) ds)) ≡ Ok t
    → JsonOf room (object ms) t
list-there zero there ms ds t o e = absurd (let h : ⊥ = cc in h)
list-there (suc n) there ms ds t o e =
    let inside : map_ok (λ ts. L_tree (trees_of ts)) (elements_in n ds) ≡ Ok t =
    ap (λ k. map_ok (λ ts. L_tree (trees_of ts)) (elements_in k ds)) (sym (less_room n))
    ∙ sym (some_room (suc n) (map_ok (λ ts. L_tree (trees_of ts)) (elements_in (suc n - 1) ds))
    (omega arith)) ∙ e in
    let r = ok_map (λ ts. L_tree (trees_of ts)) (elements_in n ds) t inside in
    subst (JsonOf (suc n) (object ms)) r.2 (is_list n ms ds r.0 o
    (elements-there n (there n refl) ds r.0 r.1))

map-there : (room : ℕ) → ((n : ℕ) → suc n ≡ room → (d : Data) (t : Tree) → value_in n d ≡ Ok t
    → JsonOf n d t) → (ms os : Members) (t : Tree)
    → IsOnlyMember ms (codes "M") (object os) → if_room room
    (map_ok (λ ps. M_tree (fields_of ps)) (fields_in (room - 1) [] os)) ≡ Ok t
    → JsonOf room (object ms) t
map-there zero there ms os t o e = absurd (let h : ⊥ = cc in h)
map-there (suc n) there ms os t o e =
    let inside : map_ok (λ ps. M_tree (fields_of ps)) (fields_in n [] os) ≡ Ok t =
    ap (λ k. map_ok (λ ps. M_tree (fields_of ps)) (fields_in k [] os)) (sym (less_room n))
    ∙ sym (some_room (suc n) (map_ok (λ ps. M_tree (fields_of ps)) (fields_in (suc n - 1) [] os))
    (omega arith)) ∙ e in
    let r = ok_map (λ ps. M_tree (fields_of ps)) (fields_in n [] os) t inside in
    let q = pairs-there n (there n refl) [] os r.0 r.1 in
    subst (JsonOf (suc n) (object ms)) (ap (λ i. M_tree (fields_of i)) (sym q.2) ∙ r.2)
    (is_map n ms os q.0 o q.1)

truth-there : (room : ℕ) (ms : Members) (d : Data) (t : Tree) → IsOnlyMember ms (codes "BOOL") d
    → truth_in d ≡ Ok t → JsonOf room (object ms) t
truth-there room ms (boolean b) t o e = let f : BOOL_tree b ≡ t = cc in
    subst (JsonOf room (object ms)) f (is_truth room ms b o)
truth-there room ms null t o e = absurd (let h : ⊥ = cc in h)
truth-there room ms (number n) t o e = absurd (let h : ⊥ = cc in h)
truth-there room ms (string s) t o e = absurd (let h : ⊥ = cc in h)
truth-there room ms (array ds) t o e = absurd (let h : ⊥ = cc in h)
truth-there room ms (object os) t o e = absurd (let h : ⊥ = cc in h)

null-there : (room : ℕ) (ms : Members) (d : Data) (t : Tree) → IsOnlyMember ms (codes "NULL") d
    → null_in d ≡ Ok t → JsonOf room (object ms) t
null-there room ms (boolean true) t o e = let f : NULL_tree ≡ t = cc in
    subst (JsonOf room (object ms)) f (is_none room ms o)
null-there room ms (boolean false) t o e = absurd (let h : ⊥ = cc in h)
null-there room ms null t o e = absurd (let h : ⊥ = cc in h)
null-there room ms (number n) t o e = absurd (let h : ⊥ = cc in h)
null-there room ms (string s) t o e = absurd (let h : ⊥ = cc in h)
null-there room ms (array ds) t o e = absurd (let h : ⊥ = cc in h)
null-there room ms (object os) t o e = absurd (let h : ⊥ = cc in h)

module _ (room : ℕ) (ms : Members) (d : Data) (t : Tree) where
  text-there : IsOnlyMember ms (codes "S") d → map_ok S_tree (text_in d) ≡ Ok t
      → JsonOf room (object ms) t
  text-there o e =
      let r = ok_map S_tree (text_in d) t e in
      subst (JsonOf room (object ms)) r.2 (is_text room ms r.0
      (subst (IsOnlyMember ms (codes "S")) (text_of d r.0 r.1) o))

  number-there : IsOnlyMember ms (codes "N") d → map_ok N_tree (number_in d) ≡ Ok t
      → JsonOf room (object ms) t
  number-there o e =
      let r = ok_map N_tree (number_in d) t e in
      let s = ok_then (λ s. or_bad_number (number_of s)) (text_in d) r.0 r.1 in
      let is : IsNumberOf s.0 r.0 = subst (TextReadsAs s.0) (sound_number (number_of s.0) r.0 s.2)
      (reads s.0) in
      subst (JsonOf room (object ms)) r.2 (is_number room ms s.0 r.0
      (subst (IsOnlyMember ms (codes "N")) (text_of d s.0 s.1) o) is)

  binary-there : IsOnlyMember ms (codes "B") d → map_ok B_tree (binary_in d) ≡ Ok t
      → JsonOf room (object ms) t
  binary-there o e =
      let r = ok_map B_tree (binary_in d) t e in
      let s = ok_then (λ s. or_bad_base64 (decode_of standard s)) (text_in d) r.0 r.1 in
      let is : IsBinaryOf s.0 r.0 = sound_base64 (decode_of standard s.0) r.0 s.2 in
      subst (JsonOf room (object ms)) r.2 (is_binary room ms s.0 r.0
      (subst (IsOnlyMember ms (codes "B")) (text_of d s.0 s.1) o) is)

  texts-there : IsOnlyMember ms (codes "SS") d → map_ok SS_tree (members_in text_order text_in d) ≡ Ok t
      → JsonOf room (object ms) t
  texts-there o e =
      let r = ok_map SS_tree (members_in text_order text_in d) t e in
      let s = set-there text_order text_in IsTextOf member_text text_member d r.0 r.1 in
      subst (JsonOf room (object ms)) r.2 (is_texts room ms s.0 r.0
      (subst (IsOnlyMember ms (codes "SS")) s.1 o) s.2)

  numbers-there : IsOnlyMember ms (codes "NS") d → map_ok NS_tree (members_in int_cmp number_in d) ≡ Ok t
      → JsonOf room (object ms) t
  numbers-there o e =
      let r = ok_map NS_tree (members_in int_cmp number_in d) t e in
      let s = set-there int_cmp number_in IsNumberOf member_number number_member d r.0 r.1 in
      subst (JsonOf room (object ms)) r.2 (is_numbers room ms s.0 r.0
      (subst (IsOnlyMember ms (codes "NS")) s.1 o) s.2)

  binaries-there : IsOnlyMember ms (codes "BS") d → map_ok BS_tree (members_in text_order binary_in d)
      ≡ Ok t → JsonOf room (object ms) t
  binaries-there o e =
      let r = ok_map BS_tree (members_in text_order binary_in d) t e in
      let s = set-there text_order binary_in IsBinaryOf member_binary binary_member d r.0 r.1 in
      subst (JsonOf room (object ms)) r.2 (is_binaries room ms s.0 r.0
      (subst (IsOnlyMember ms (codes "BS")) s.1 o) s.2)

  -- the kinds without nested values, by the name
  flat-there : (name : List ℕ) → IsOnlyMember ms name d → flat_in name d ≡ Ok t
      → JsonOf room (object ms) t
  flat-there name o e =
      let named : (kind : List ℕ) → bytes_eq name kind ≡ true
      → IsOnlyMember ms kind d = λ kind same. subst (λ n. IsOnlyMember ms n d)
      (bytes_eq-true name kind same) o in
      elim (arm (bytes_eq name (codes "S")) _ _ _ e) [
        | inl x ↦ text-there (named (codes "S") x.0) x.1
        | inr x ↦ elim (arm (bytes_eq name (codes "N")) _ _ _ x.1) [
          | inl y ↦ number-there (named (codes "N") y.0) y.1
          | inr y ↦ elim (arm (bytes_eq name (codes "B")) _ _ _ y.1) [
            | inl z ↦ binary-there (named (codes "B") z.0) z.1
            | inr z ↦ elim (arm (bytes_eq name (codes "BOOL")) _ _ _ z.1) [
              | inl u ↦ truth-there room ms d t (named (codes "BOOL") u.0) u.1
              | inr u ↦ elim (arm (bytes_eq name (codes "NULL")) _ _ _ u.1) [
                | inl v ↦ null-there room ms d t (named (codes "NULL") v.0) v.1
                | inr v ↦ elim (arm (bytes_eq name (codes "SS")) _ _ _ v.1) [
                  | inl w ↦ texts-there (named (codes "SS") w.0) w.1
                  | inr w ↦ elim (arm (bytes_eq name (codes "NS")) _ _ _ w.1) [
                    | inl k ↦ numbers-there (named (codes "NS") k.0) k.1
                    | inr k ↦ elim (arm (bytes_eq name (codes "BS")) _ _ _ k.1) [
                      | inl l ↦ binaries-there (named (codes "BS") l.0) l.1
                      | inr l ↦ absurd (let g = l.1 in let h : ⊥ = cc in h)
                    ]
                  ]
                ]
              ]
            ]
          ]
        ]
      ]

-- a list is read of an array, and a map of an object
array_of : (room : ℕ) (d : Data) (t : Tree) → list_in room d ≡ Ok t
    → (ds : Items) × (d ≡ array ds) × (if_room room
    (map_ok (λ ts. L_tree (trees_of ts)) (elements_in (room - 1) ds)) ≡ Ok t)
array_of room (array ds) t e = (ds, refl, e)
array_of room null t e = absurd (let h : ⊥ = cc in h)
array_of room (boolean b) t e = absurd (let h : ⊥ = cc in h)
array_of room (number n) t e = absurd (let h : ⊥ = cc in h)
array_of room (string s) t e = absurd (let h : ⊥ = cc in h)
array_of room (object ms) t e = absurd (let h : ⊥ = cc in h)

object_of : (room : ℕ) (d : Data) (t : Tree) → map_in room d ≡ Ok t
    → (os : Members) × (d ≡ object os) × (if_room room
    (map_ok (λ ps. M_tree (fields_of ps)) (fields_in (room - 1) [] os)) ≡ Ok t)
object_of room (object os) t e = (os, refl, e)
object_of room null t e = absurd (let h : ⊥ = cc in h)
object_of room (boolean b) t e = absurd (let h : ⊥ = cc in h)
object_of room (number n) t e = absurd (let h : ⊥ = cc in h)
object_of room (string s) t e = absurd (let h : ⊥ = cc in h)
object_of room (array ds) t e = absurd (let h : ⊥ = cc in h)

module _ (room : ℕ) (there : (n : ℕ) → suc n ≡ room → (d : Data) (t : Tree) → value_in n d ≡ Ok t
    → JsonOf n d t) where
  payload-there : (ms : Members) (name : List ℕ) (d : Data) (t : Tree) → IsOnlyMember ms name d
      → payload_in room name d ≡ Ok t
      → JsonOf room (object ms) t
  payload-there ms name d t o e =
      elim (arm (bytes_eq name (codes "L")) _ _ _ e) [
        | inl x ↦
            let a = array_of room d t x.1 in
            list-there room there ms a.0 t (subst₂ (IsOnlyMember ms)
            (bytes_eq-true name (codes "L") x.0) a.1 o) a.2
        | inr x ↦ elim (arm (bytes_eq name (codes "M")) _ _ _ x.1) [
          | inl y ↦
              let a = object_of room d t y.1 in
              map-there room there ms a.0 t (subst₂ (IsOnlyMember ms)
              (bytes_eq-true name (codes "M") y.0) a.1 o) a.2
          | inr y ↦ flat-there room ms d t name o y.1
        ]
      ]

  of_present-there : (ms : Members) (p : Option (List ℕ × Data)) → only_present ms ≡ p → (t : Tree)
      → of_present room p ≡ Ok t
      → JsonOf room (object ms) t
  unfolding of_present
  of_present-there ms None is t e = absurd (let h : ⊥ = cc in h)
  of_present-there ms (Some p) is t e = payload-there ms p.0 p.1 t (present-only ms p is) e

  level-there : (d : Data) (t : Tree) → value_in room d ≡ Ok t → JsonOf room d t
  level-there (object ms) t e = of_present-there ms (only_present ms) refl t
      (sym (only_member-only_present room ms) ∙ e)
  level-there null t e = absurd (let h : ⊥ = cc in h)
  level-there (boolean b) t e = absurd (let h : ⊥ = cc in h)
  level-there (number n) t e = absurd (let h : ⊥ = cc in h)
  level-there (string s) t e = absurd (let h : ⊥ = cc in h)
  level-there (array ds) t e = absurd (let h : ⊥ = cc in h)

-- what is read as a value stands for it
pub value-there : (room : ℕ) (d : Data) (t : Tree) → value_in room d ≡ Ok t → JsonOf room d t
value-there zero d t e = level-there zero (λ n z. absurd (omega (arith, z))) d t e
value-there (suc n) d t e = level-there (suc n)
    (λ m same. subst (λ k. (u : Data) (v : Tree) → value_in k u ≡ Ok v → JsonOf k u v)
    (omega (arith, same)) (value-there n)) d t e
