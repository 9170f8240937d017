-- A body that is one object, and one that is none.
use Rattle.std.proofs.Common.{◌≡◌, ℕ, List, [], ◌∷◌, length, Option, Some, None, true, false, cond, option_and_then, refl, sym, ap, ◌∙◌, true≢false, arith}
use Rattle.std.specs.Prelude.{◌≢◌, option_map}
use Rattle.std.specs.Str.{is_utf8, IsUtf8, bytes_eq}
use Rattle.std.proofs.lemmas.Slice.Eq.{bytes_eq-Decides}
use Rattle.std.proofs.lemmas.Str.{IsUtf8-from_is_utf8, is_utf8-from_IsUtf8}
use Rattle.json.specs.Json as json
use Rattle.json.specs.Json.{items, members, parse_map, value}
use Rattle.json.specs.Lex.{tokens}
use Rattle.json.specs.Token.{Token}
use Rattle.json.proofs.Grammar.{value-begin_array, value-begin_object, value_is}
use Rattle.serde_json.specs.Data.{Data, Num, number, array, object, Items, Members, no_members, put}
use Rattle.serde_json.specs.Find.{as_object, get_member}
use Rattle.serde_json.specs.Read.{converted, number_of, of_items, of_json, of_members, read}
use Rattle.alt_named.proofs.Converted.{converted-object, whole, whole_and_more, whole_read, whole_refused}
use Rattle.serde_json.proofs.Views.{get_member-put, get_member-put_other}
use Rattle.alt_named.specs.Named.{AreSame, body_of, is_among}
use Rattle.alt_named.specs.Parts.{is_brace, object_of}

-- ---- the whole body

-- text says what it reads as
pub body_is : (bytes : List ℕ) → IsUtf8 bytes → body_of bytes ≡ option_and_then as_object (read bytes)
body_is bytes valid = ap (λ b. cond b (option_and_then as_object (read bytes)) None)
    (is_utf8-from_IsUtf8 bytes valid)

-- bytes that are no text say nothing
pub body_none : (bytes : List ℕ) → (IsUtf8 bytes → ⊥) → body_of bytes ≡ None
body_none bytes invalid =
    elim (is_utf8 bytes) as (λ b. is_utf8 bytes ≡ b
    → cond b (option_and_then as_object (read bytes)) None ≡ None) [
      | true ↦ λ e. absurd (invalid (IsUtf8-from_is_utf8 bytes e))
      | false ↦ λ e. refl
    ] refl

-- ---- tokens

-- the members, where tokens were read as an object and none is left
abbrev members_in : Option (json.Json × List Token) → Option Members
members_in o = option_and_then as_object (whole o)

no_array : (o : Option Items) → option_and_then as_object (option_map array o) ≡ None
no_array None = refl
no_array (Some ds) = refl

-- an array is no object
array_none : (o : Option (json.Items × List Token)) → members_in (parse_map json.array o) ≡ None
array_none None = refl
array_none (Some (js, [])) = no_array (of_items js)
array_none (Some (js, t ∷ ts)) = refl

no_number : (o : Option Num) → option_and_then as_object (option_map number o) ≡ None
no_number None = refl
no_number (Some n) = refl

-- nor is a value alone
flat_none : (j : json.Json) (ts : List Token) → option_and_then as_object (of_json j) ≡ None
    → members_in (Some (j, ts)) ≡ None
flat_none j [] h = h
flat_none j (t ∷ ts) h = refl

-- tokens without a first one, or with one that opens no object
pub nothing_none : object_of [] ≡ None
nothing_none = ap members_in (value_is 127 [])

pub other_none : (t : Token) (ts : List Token) → is_brace t ≡ false → object_of (t ∷ ts) ≡ None
other_none Token.begin_object ts h = absurd (true≢false h)
other_none Token.end_object ts h = ap members_in (value_is 127 (Token.end_object ∷ ts))
other_none Token.begin_array ts h =
    ap members_in (value-begin_array 127 ts (omega arith))
    ∙ array_none (items (value 126) (length ts) ts)
other_none Token.end_array ts h = ap members_in (value_is 127 (Token.end_array ∷ ts))
other_none (Token.key s) ts h = ap members_in (value_is 127 (Token.key s ∷ ts))
other_none (Token.string s) ts h =
    ap members_in (value_is 127 (Token.string s ∷ ts)) ∙ flat_none (json.string s) ts refl
other_none (Token.number s) ts h =
    ap members_in (value_is 127 (Token.number s ∷ ts))
    ∙ flat_none (json.number s) ts (no_number (number_of s))
other_none (Token.boolean b) ts h =
    ap members_in (value_is 127 (Token.boolean b ∷ ts)) ∙ flat_none (json.boolean b) ts refl
other_none Token.null ts h =
    ap members_in (value_is 127 (Token.null ∷ ts)) ∙ flat_none json.null ts refl
other_none Token.bad ts h = ap members_in (value_is 127 (Token.bad ∷ ts))

-- what an opened object is, from its members
opened : (ts : List Token)
    → converted of_json (value 127 (Token.begin_object ∷ ts))
    ≡ parse_map object (converted (λ os. of_members os no_members)
    (members (value 126) (length ts) ts))
opened ts = ap (converted of_json) (value-begin_object 127 ts (omega arith))
    ∙ converted-object (members (value 126) (length ts) ts)

module _ (text : List ℕ) (ts : List Token) (first : tokens text ≡ Token.begin_object ∷ ts) where
  -- an object with nothing behind it
  pub object_read : (rest : List Token) (ms : Members)
      → converted (λ os. of_members os no_members) (members (value 126) (length ts) ts)
      ≡ Some (ms, rest) → rest ≡ [] → read text ≡ Some (object ms)
  object_read rest ms e over = whole_read (value 127 (tokens text)) (object ms)
      (ap (λ l. converted of_json (value 127 l)) first ∙ opened ts ∙ ap (parse_map object) e
      ∙ ap (λ l. Some (object ms, l)) over)

  -- an object with more behind it
  pub object_and_more : (t : Token) (rest : List Token) (ms : Members)
      → converted (λ os. of_members os no_members) (members (value 126) (length ts) ts)
      ≡ Some (ms, t ∷ rest) → option_and_then as_object (read text) ≡ None
  object_and_more t rest ms e = ap (option_and_then as_object)
      (whole_and_more (value 127 (tokens text)) (object ms) t rest
      (ap (λ l. converted of_json (value 127 l)) first ∙ opened ts ∙ ap (parse_map object) e))

  -- members that are refused
  pub object_refused :
      converted (λ os. of_members os no_members) (members (value 126) (length ts) ts) ≡ None
      → option_and_then as_object (read text) ≡ None
  object_refused e = ap (option_and_then as_object) (whole_refused (value 127 (tokens text))
      (ap (λ l. converted of_json (value 127 l)) first ∙ opened ts ∙ ap (parse_map object) e))

-- ---- members

-- a member that is kept is put to both
pub same-kept : (names : List (List ℕ)) (k : List ℕ) (d : Data) (ms bs : Members)
    → AreSame names ms bs → AreSame names (put k d ms) (put k d bs)
same-kept names k d ms bs same q named =
    elim (bytes_eq q k) as (λ b. bytes_eq q k ≡ b
    → get_member q (put k d ms) ≡ get_member q (put k d bs)) [
      | true ↦ λ e. let is : q ≡ k = (bytes_eq-Decides q k).0 e in
          rw is (get_member-put k d ms ∙ sym (get_member-put k d bs))
      | false ↦ λ e. let other : q ≢ k = λ is. true≢false (sym ((bytes_eq-Decides q k).1 is) ∙ e) in
          get_member-put_other q k d ms other ∙ same q named
          ∙ sym (get_member-put_other q k d bs other)
    ] refl

-- one whose name isn't asked for is put to none
pub same-passed : (names : List (List ℕ)) (k : List ℕ) (d : Data) (ms bs : Members)
    → is_among names k ≡ false → AreSame names ms bs → AreSame names (put k d ms) bs
same-passed names k d ms bs apart same q named =
    get_member-put_other q k d ms
    (λ is. true≢false (sym named ∙ ap (is_among names) is ∙ apart)) ∙ same q named
