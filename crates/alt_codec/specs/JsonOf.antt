-- Which JSON stands for which value, by the ten kinds (DynamoDB API Reference, "AttributeValue"): an object with one member, which
-- is named by the kind. A member that is null counts as absent. No list or map stands more than so many levels deep.
use Rattle.std.specs.Prelude.{◌≡◌, ℕ, suc, ◌<◌, ℤ, Bool, true, if◌then◌else◌, List, [], ◌∷◌, codes, length, Some, Result, Ok, Err, ◌≢◌, ⊤}
use Rattle.std.specs.Ordering.{int_cmp}
use Rattle.std.specs.declared.cmp.Ordering.{Ordering}
use Rattle.base64.specs.Engines.{standard}
use Rattle.base64.specs.GeneralPurpose.{decode_of}
use Rattle.serde_json.specs.Data.{Data, null, boolean, number, string, array, object, Items, no_items, item, Members, no_members, member}
use Rattle.alt_decimal.specs.declared.fault.NumberFault.{NumberFault}
use Rattle.alt_decimal.specs.NumberText.{TextReadsAs}
use Rattle.alt_value.specs.declared.attr.Attr.{Attr}
use Rattle.alt_value.specs.Item.{with_pair}
use Rattle.alt_value.specs.Members.{set_of, text_order}
use Rattle.alt_value.specs.Stands.{tree_of}
use Rattle.alt_value.specs.Tree.{Tree, S_tree, N_tree, B_tree, BOOL_tree, NULL_tree, SS_tree, NS_tree, BS_tree, L_tree, M_tree, Pair, trees_of, fields_of}
use Rattle.alt_codec.specs.declared.fault.ValueFault.{ValueFault}
use Rattle.alt_codec.specs.declared.fault.ValueFault.TheVariants as fault
use Rattle.alt_codec.specs.Reading.{is_null}

-- the members that aren't null
abbrev pub present : Members → List (List ℕ × Data)
present no_members = []
present (member name d ms) = if is_null d then present ms else ((name, d) ∷ present ms)

-- the one member that isn't null has that name and that payload
abbrev pub IsOnlyMember : Members → List ℕ → Data → Type 0
IsOnlyMember ms name payload = present ms ≡ (name, payload) ∷ []

-- a text stands for itself
abbrev pub IsTextOf : List ℕ → List ℕ → Type 0
IsTextOf text s = text ≡ s

-- a number text stands for the number that it denotes, by the grammar of number texts
abbrev pub IsNumberOf : List ℕ → ℤ → Type 0
IsNumberOf text z = TextReadsAs text (Ok z)

-- base64 with padding stands for the bytes that it encodes (RFC 4648, section 4)
abbrev pub IsBinaryOf : List ℕ → List ℕ → Type 0
IsBinaryOf text b = decode_of standard text ≡ Ok b

-- an item is a text that stands for the member
abbrev pub IsMemberOf : {K : Type 0} → (List ℕ → K → Type 0) → Data → K → Type 0
IsMemberOf P (string s) k = P s k
IsMemberOf P null k = ⊥
IsMemberOf P (boolean b) k = ⊥
IsMemberOf P (number n) k = ⊥
IsMemberOf P (array ds) k = ⊥
IsMemberOf P (object ms) k = ⊥

-- each item is a text that stands for the member at its place
abbrev pub AreMembersOf : {K : Type 0} → (List ℕ → K → Type 0) → Items → List K → Type 0
AreMembersOf P no_items [] = ⊤
AreMembersOf P no_items (k ∷ ks) = ⊥
AreMembersOf P (item d ds) [] = ⊥
AreMembersOf P (item d ds) (k ∷ ks) = IsMemberOf P d k × AreMembersOf P ds ks

-- the items of a set: one at least, for members in any order of which no two are equal
abbrev pub IsSetOf : {K : Type 0} → (K → K → Ordering) → (List ℕ → K → Type 0) → Items → List K
    → Type 0
IsSetOf {K} R P ds set = (ks : List K) × AreMembersOf P ds ks × (0 < length ks)
    × (set_of R ks ≡ Some set)

-- the item with these pairs more, put in one after another
abbrev pub with_more_pairs : List Pair → List Pair → List Pair
with_more_pairs found [] = found
with_more_pairs found (p ∷ ps) = with_more_pairs (with_pair p.0 p.1 found) ps

mutual
  -- a value: lists and maps in it nest so many levels at most
  pub data JsonOf : ℕ → Data → Tree → Type 0 where
    is_text : (room : ℕ) (ms : Members) (s : List ℕ) → IsOnlyMember ms (codes "S") (string s)
        → JsonOf room (object ms) (S_tree s)
    is_number : (room : ℕ) (ms : Members) (text : List ℕ) (z : ℤ)
        → IsOnlyMember ms (codes "N") (string text) → IsNumberOf text z
        → JsonOf room (object ms) (N_tree z)
    is_binary : (room : ℕ) (ms : Members) (text b : List ℕ) → IsOnlyMember ms (codes "B") (string text)
        → IsBinaryOf text b
        → JsonOf room (object ms) (B_tree b)
    is_truth : (room : ℕ) (ms : Members) (b : Bool) → IsOnlyMember ms (codes "BOOL") (boolean b)
        → JsonOf room (object ms) (BOOL_tree b)
    is_none : (room : ℕ) (ms : Members) → IsOnlyMember ms (codes "NULL") (boolean true)
        → JsonOf room (object ms) NULL_tree
    is_texts : (room : ℕ) (ms : Members) (ds : Items) (ss : List (List ℕ))
        → IsOnlyMember ms (codes "SS") (array ds)
        → IsSetOf text_order IsTextOf ds ss → JsonOf room (object ms) (SS_tree ss)
    is_numbers : (room : ℕ) (ms : Members) (ds : Items) (zs : List ℤ)
        → IsOnlyMember ms (codes "NS") (array ds)
        → IsSetOf int_cmp IsNumberOf ds zs → JsonOf room (object ms) (NS_tree zs)
    is_binaries : (room : ℕ) (ms : Members) (ds : Items) (bs : List (List ℕ))
        → IsOnlyMember ms (codes "BS") (array ds)
        → IsSetOf text_order IsBinaryOf ds bs → JsonOf room (object ms) (BS_tree bs)
    is_list : (room : ℕ) (ms : Members) (ds : Items) (ts : List Tree)
        → IsOnlyMember ms (codes "L") (array ds) → ElementsOf room ds ts
        → JsonOf (suc room) (object ms) (L_tree (trees_of ts))
    is_map : (room : ℕ) (ms os : Members) (ps : List Pair) → IsOnlyMember ms (codes "M") (object os)
        → PairsOf room os ps
        → JsonOf (suc room) (object ms) (M_tree (fields_of (with_more_pairs [] ps)))

  -- the elements of a list, place by place
  pub data ElementsOf : ℕ → Items → List Tree → Type 0 where
    no_elements : (room : ℕ) → ElementsOf room no_items []
    element_then : (room : ℕ) (d : Data) (ds : Items) (t : Tree) (ts : List Tree) → JsonOf room d t
        → ElementsOf room ds ts
        → ElementsOf room (item d ds) (t ∷ ts)

  -- the pairs of a map: each name that isn't empty, with the value that its JSON stands for
  pub data PairsOf : ℕ → Members → List Pair → Type 0 where
    no_pairs : (room : ℕ) → PairsOf room no_members []
    pair_then : (room : ℕ) (name : List ℕ) (d : Data) (ms : Members) (t : Tree) (ps : List Pair)
        → 0 < length name → JsonOf room d t
        → PairsOf room ms ps → PairsOf room (member name d ms) ((name, t) ∷ ps)

-- an object stands for the item of its pairs
abbrev pub ItemJsonOf : ℕ → Data → List Pair → Type 0
ItemJsonOf room d i = (ms : Members) × (ps : List Pair) × (d ≡ object ms) × PairsOf room ms ps
    × (i ≡ with_more_pairs [] ps)

-- ---- numbers, and why a text is none

-- an object sends a number as that text
abbrev pub SendsNumber : Data → List ℕ → Type 0
SendsNumber d text = (ms : Members) × (d ≡ object ms) × IsOnlyMember ms (codes "N") (string text)

-- The answer to that text, by the grammar of number texts: the number that it denotes, or else why it stands for none.
abbrev pub AnswersNumber : List ℕ → Result Attr ValueFault → Type 0
AnswersNumber text (Ok a) = (z : ℤ) × (tree_of a ≡ N_tree z) × TextReadsAs text (Ok z)
AnswersNumber text (Err f) =
    f ≢ fault.NoMemory → (n : NumberFault) × (f ≡ fault.BadNumber n) × TextReadsAs text (Err n)
