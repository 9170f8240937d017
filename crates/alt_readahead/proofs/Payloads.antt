-- What each token, array and object of a value is read as.
use Rattle.std.proofs.Common.{◌≡◌, refl, sym, ap, ◌∙◌, ℕ, suc, ◌-◌, ◌<◌, Bool, true, false, cond, List, [], ◌∷◌, length, Some, None, Result, Ok, Err, IfOk, arith}
use Rattle.std.specs.Prelude.{ℤ, ⊤, codes}
use Rattle.std.specs.Str.{bytes_eq}
use Rattle.std.specs.declared.cmp.Ordering.{Ordering}
use Rattle.base64.specs.Engines.{standard}
use Rattle.base64.specs.GeneralPurpose.{decode_of}
use Rattle.json.specs.Json.{parse_map, read_key, items, members, value}
use Rattle.json.specs.Token.{Token}
use Rattle.json.proofs.Grammar.{value_is, value-begin_array, value-begin_object, skip_value-shorter, left}
use Rattle.serde_json.specs.Data.{Data, null, boolean, number, string, array, object, Items, no_items, item, Members, no_members, member}
use Rattle.serde_json.specs.Read.{of_json, of_items, of_members, converted}
use Rattle.alt_named.proofs.Converted.{converted_some, converted-array, converted-object, member_read, members_over}
use Rattle.alt_decimal.specs.NumberText.{TextReadsAs}
use Rattle.alt_value.specs.declared.attr.Attr.{Attr}
use Rattle.alt_value.specs.Members.{set_of}
use Rattle.alt_value.specs.Stands.{tree_of}
use Rattle.alt_value.specs.Tree.{Tree, BOOL_tree, NULL_tree, L_tree, M_tree, Pair, trees_of, fields_of}
use Rattle.alt_codec.specs.declared.fault.ValueFault.{ValueFault}
use Rattle.alt_codec.specs.Numbers.{number_of}
use Rattle.alt_codec.specs.Reading.{ValueOrFault, value_in, list_in, map_in, payload_in, elements_in, fields_in}
use Rattle.alt_codec.specs.Scalars.{text_in, number_in, binary_in, truth_in, null_in, or_bad_number, or_bad_base64}
use Rattle.alt_codec.specs.Sets.{sound, first_fault, told, members_in}
use Rattle.alt_codec.specs.Steps.{and_then, map_ok}
use Rattle.alt_codec.proofs.Numbers.{reads-number_of}
use Rattle.alt_codec.proofs.ReadBack.{some_room}
use Rattle.alt_readahead.specs.Direct.{ReadsItem}
use Rattle.alt_readahead.specs.Payloads.{ReadsBy, ReadsFlat, AreReadBy, ReadsElements, ReadsFields}

-- ---- what is read is passed

-- a value takes a token at least
pub value_shorter : (depth : ℕ) (before after : List Token) (d : Data)
    → converted of_json (value depth before) ≡ Some (d, after) → length after < length before
value_shorter depth before after d e =
    let j = converted_some of_json (value depth before) d after e in
    skip_value-shorter depth before after (ap left j.1)

-- ---- tokens that are values alone

-- a text is read as itself
pub reads_text : (before after : List Token) (s t : List ℕ) → before ≡ Token.string s ∷ after
    → t ≡ s → ReadsFlat text_in before t after
reads_text before after s t e same depth = (
  string s,
  ap (λ ts. converted of_json (value depth ts)) e
      ∙ ap (converted of_json) (value_is depth (Token.string s ∷ after)),
  ap Ok (sym same),
)

-- so is a truth value
pub reads_truth : (before after : List Token) (b : Bool) → before ≡ Token.boolean b ∷ after
    → ReadsFlat truth_in before (BOOL_tree b) after
reads_truth before after b e depth = (
  boolean b,
  ap (λ ts. converted of_json (value depth ts)) e
      ∙ ap (converted of_json) (value_is depth (Token.boolean b ∷ after)),
  refl,
)

-- and NULL, which is written as true
pub reads_null : (before after : List Token) → before ≡ Token.boolean true ∷ after
    → ReadsFlat null_in before NULL_tree after
reads_null before after e depth = (
  boolean true,
  ap (λ ts. converted of_json (value depth ts)) e
      ∙ ap (converted of_json) (value_is depth (Token.boolean true ∷ after)),
  refl,
)

-- the number of a text
pub reads_number : (before after : List Token) (s t : List ℕ) (z : ℤ)
    → before ≡ Token.string s ∷ after → t ≡ s → TextReadsAs t (Ok z)
    → ReadsFlat number_in before z after
reads_number before after s t z e same h depth =
    let r = reads_text before after s t e same depth in (
      r.0,
      r.1,
      ap (and_then (λ u. or_bad_number (number_of u))) r.2
          ∙ ap or_bad_number (reads-number_of t (Ok z) h),
    )

-- the bytes of a text
pub reads_binary : (before after : List Token) (s t b : List ℕ) → before ≡ Token.string s ∷ after
    → t ≡ s → decode_of standard t ≡ Ok b → ReadsFlat binary_in before b after
reads_binary before after s t b e same h depth =
    let r = reads_text before after s t e same depth in (
      r.0,
      r.1,
      ap (and_then (λ u. or_bad_base64 (decode_of standard u))) r.2
          ∙ ap or_bad_base64 h,
    )

-- what is made of what was read
pub reads_made : {A B : Type 0} (f : Data → Result A ValueFault) (g : A → B) (depth : ℕ)
    (before after : List Token) (x : A) → ReadsBy f depth before x after
    → ReadsBy (λ d. map_ok g (f d)) depth before (g x) after
reads_made f g depth before after x r = (r.0, r.1, ap (map_ok g) r.2)

-- ---- arrays

-- a bracket, and the elements behind it
pub reads_array : (depth : ℕ) (before rest after : List Token) (ds : Items) → 0 < depth
    → before ≡ Token.begin_array ∷ rest
    → converted of_items (items (value (depth - 1)) (length rest) rest) ≡ Some (ds, after)
    → converted of_json (value depth before) ≡ Some (array ds, after)
reads_array depth before rest after ds some e r =
    ap (λ ts. converted of_json (value depth ts)) e
    ∙ ap (converted of_json) (value-begin_array depth rest some)
    ∙ converted-array (items (value (depth - 1)) (length rest) rest)
    ∙ ap (parse_map array) r

-- elements of which each is a member have no fault
module _ {K : Type 0} (f : Data → Result K ValueFault) where
  all_sound : (ds : Items) (ks : List K) → AreReadBy f ds ks → sound f ds ≡ ks
  all_sound no_items [] h = refl
  all_sound no_items (k ∷ ks) h = absurd h
  all_sound (item d ds) [] h = absurd h
  all_sound (item d ds) (k ∷ ks) h = rw h.0 (ap (λ l. k ∷ l) (all_sound ds ks h.1))

  no_fault : (ds : Items) (ks : List K) → AreReadBy f ds ks → first_fault f ds ≡ None
  no_fault no_items [] h = refl
  no_fault no_items (k ∷ ks) h = absurd h
  no_fault (item d ds) [] h = absurd h
  no_fault (item d ds) (k ∷ ks) h = rw h.0 (no_fault ds ks h.1)

  module _ (R : K → K → Ordering) where
    set_read : (ds : Items) (ks set : List K) → AreReadBy f ds ks → 0 < length ks
        → Some set ≡ set_of R ks → members_in R f (array ds) ≡ Ok set
    set_read no_items [] set h some e = absurd (omega arith)
    set_read no_items (k ∷ ks) set h some e = absurd h
    set_read (item d ds) ks set h some e =
        ap (λ l. told (set_of R l) (first_fault f (item d ds))) (all_sound (item d ds) ks h)
        ∙ ap (told (set_of R ks)) (no_fault (item d ds) ks h)
        ∙ ap (λ o. told o None) (sym e)

    -- the set of an array's members, of which there is one at least
    pub reads_set : (depth : ℕ) (before rest after : List Token) (ks set : List K) → 0 < depth
        → before ≡ Token.begin_array ∷ rest → ReadsElements f (depth - 1) rest ks after
        → 0 < length ks → Some set ≡ set_of R ks
        → ReadsBy (members_in R f) depth before set after
    reads_set depth before rest after ks set deep e r some is = (
      array r.0,
      reads_array depth before rest after r.0 deep e r.1,
      set_read r.0 ks set r.2 some is,
    )

-- elements of which each is a value
elements_read : (room : ℕ) (ds : Items) (ts : List Tree) → AreReadBy (value_in room) ds ts
    → elements_in room ds ≡ Ok ts
elements_read room no_items [] h = refl
elements_read room no_items (t ∷ ts) h = absurd h
elements_read room (item d ds) [] h = absurd h
elements_read room (item d ds) (t ∷ ts) h =
    ap (and_then (λ t. map_ok (λ ts. t ∷ ts) (elements_in room ds))) h.0
    ∙ ap (map_ok (λ ts. t ∷ ts)) (elements_read room ds ts h.1)

-- a list, with room for its elements
pub reads_list : (depth room : ℕ) (before rest after : List Token) (ts : List Tree) → 0 < depth
    → 0 < room → before ≡ Token.begin_array ∷ rest
    → ReadsElements (value_in (room - 1)) (depth - 1) rest ts after
    → ReadsBy (list_in room) depth before (L_tree (trees_of ts)) after
reads_list depth room before rest after ts deep some e r = (
  array r.0,
  reads_array depth before rest after r.0 deep e r.1,
  some_room room (map_ok (λ ts. L_tree (trees_of ts)) (elements_in (room - 1) r.0)) some
      ∙ ap (map_ok (λ ts. L_tree (trees_of ts))) (elements_read (room - 1) r.0 ts r.2),
)

-- ---- objects

-- a brace, and the members behind it
pub reads_object : (depth : ℕ) (before rest after : List Token) (ms : Members) → 0 < depth
    → before ≡ Token.begin_object ∷ rest
    → converted (λ os. of_members os no_members) (members (value (depth - 1)) (length rest) rest)
    ≡ Some (ms, after)
    → converted of_json (value depth before) ≡ Some (object ms, after)
reads_object depth before rest after ms some e r =
    ap (λ ts. converted of_json (value depth ts)) e
    ∙ ap (converted of_json) (value-begin_object depth rest some)
    ∙ converted-object (members (value (depth - 1)) (length rest) rest)
    ∙ ap (parse_map object) r

-- a map, with room for its values
pub reads_map : (depth room : ℕ) (before rest after : List Token) (i : List Pair) → 0 < depth
    → 0 < room → before ≡ Token.begin_object ∷ rest
    → ReadsFields (depth - 1) (room - 1) rest i after
    → ReadsBy (map_in room) depth before (M_tree (fields_of i)) after
reads_map depth room before rest after i deep some e r = (
  object r.0,
  reads_object depth before rest after r.0 deep e r.1,
  some_room room (map_ok (λ ps. M_tree (fields_of ps)) (fields_in (room - 1) [] r.0)) some
      ∙ ap (map_ok (λ ps. M_tree (fields_of ps))) r.2,
)

-- ---- values

-- an answer that is no value
abbrev IsFault : ValueOrFault → Type 0
IsFault (Ok t) = ⊥
IsFault (Err f) = ⊤

either_fault : (b : Bool) (q r : ValueOrFault) → IsFault q → IsFault r → IsFault (cond b q r)
either_fault true q r h k = h
either_fault false q r h k = k

-- null is no payload, of whatever kind
null_fault : (room : ℕ) (name : List ℕ) → IsFault (payload_in room name null)
null_fault room name =
    either_fault (bytes_eq name (codes "L")) _ _ tt
    (either_fault (bytes_eq name (codes "M")) _ _ tt
    (either_fault (bytes_eq name (codes "S")) _ _ tt
    (either_fault (bytes_eq name (codes "N")) _ _ tt
    (either_fault (bytes_eq name (codes "B")) _ _ tt
    (either_fault (bytes_eq name (codes "BOOL")) _ _ tt
    (either_fault (bytes_eq name (codes "NULL")) _ _ tt
    (either_fault (bytes_eq name (codes "SS")) _ _ tt
    (either_fault (bytes_eq name (codes "NS")) _ _ tt
    (either_fault (bytes_eq name (codes "BS")) _ _ tt tt)))))))))

faulty : (r : ValueOrFault) (t : Tree) → IsFault r → r ≡ Ok t → ⊥
faulty (Ok u) t h e = h
faulty (Err f) t h e = cc

-- an object with one member stands for what that one's payload stands for
one_member : (room : ℕ) (name : List ℕ) (d : Data) (t : Tree) → payload_in room name d ≡ Ok t
    → value_in room (object (member name d no_members)) ≡ Ok t
one_member room name null t e = absurd (faulty _ t (null_fault room name) e)
one_member room name (boolean b) t e = e
one_member room name (number n) t e = e
one_member room name (string s) t e = e
one_member room name (array ds) t e = e
one_member room name (object ms) t e = e

-- a value: a brace, the kind's name, the payload and a brace
pub reads_value : (depth room : ℕ) (before s1 s2 s3 after : List Token) (kind : List ℕ) (t : Tree)
    → 0 < depth → before ≡ Token.begin_object ∷ s1 → s1 ≡ Token.key kind ∷ s2
    → ReadsBy (payload_in room kind) (depth - 1) s2 t s3 → s3 ≡ Token.end_object ∷ after
    → ReadsBy (value_in room) depth before t after
reads_value depth room before s1 s2 s3 after kind t deep opened named r closed =
    let p = value (depth - 1) in
    let less = value_shorter (depth - 1) s2 s3 r.0 r.1 in
    let long : length s1 ≡ suc (length s2) = ap length named in
    let key : read_key s1 ≡ Some (Some kind, s2) = ap read_key named in
    let over : read_key s3 ≡ Some (None, after) = ap read_key closed in
    let turn = member_read p no_members (length s1) kind s1 s2 s3 r.0 (omega arith) key r.1 in
    let ms = member kind r.0 no_members in
    let rest = members_over p ms (length s1 - 1) s3 after (omega arith) over in (
      object ms,
      reads_object depth before s1 after ms deep opened (turn ∙ rest),
      one_member room kind r.0 t r.2,
    )

-- a kind without nested values, as its name says
pub reads_kind : {E : Type 0} (f : Data → ValueOrFault) (room depth : ℕ) (kind name : List ℕ)
    (before after : List Token) (q : Result Attr E) → kind ≡ name
    → ((d : Data) → payload_in room name d ≡ f d)
    → IfOk q (λ a. ReadsFlat f before (tree_of a) after)
    → IfOk q (λ a. ReadsBy (payload_in room kind) depth before (tree_of a) after)
reads_kind f room depth kind name before after (Ok a) is same h =
    let r = h depth in
    (r.0, r.1, rw is (same r.0 ∙ r.2))
reads_kind f room depth kind name before after (Err e) is same h = tt

-- an item: a brace and the fields behind it
pub reads_item : {E : Type 0} (depth : ℕ) (before rest after : List Token)
    (q : Result (List Pair) E) → 0 < depth → before ≡ Token.begin_object ∷ rest
    → IfOk q (λ i. ReadsFields (depth - 1) 32 rest i after)
    → IfOk q (λ i. ReadsItem depth before i after)
reads_item depth before rest after (Ok i) deep e r =
    (r.0, reads_object depth before rest after r.0 deep e r.1, r.2)
reads_item depth before rest after (Err f) deep e r = tt
