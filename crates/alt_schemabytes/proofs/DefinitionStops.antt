-- Texts, definitions, keys and ranges: what is read as one is right, and where reading stops none stands.
use Rattle.std.proofs.Common.{◌≡◌, refl, sym, ap, subst, ◌∙◌, ℕ, suc, ◌+◌, ◌<◌, ◌^◌, Bool, true, false, not, cond, ◌&&◌, ◌==◌, nat_le, if◌then◌else◌, List, [], ◌∷◌, length, take, drop, Option, Some, None, is_some, arith}
use Rattle.std.specs.List.{find}
use Rattle.std.specs.Str.{is_utf8}
use Rattle.std.proofs.lemmas.Str.{is_utf8-from_IsUtf8, IsUtf8-from_is_utf8}
use Rattle.std.proofs.lemmas.List.{length-drop}
use Rattle.std.proofs.lemmas.Bool.{and_from, not-true, leb-false, true≢false}
use Rattle.alt_fields.specs.Field.{field, told_length}
use Rattle.alt_value.specs.declared.kind.KeyKind.{KeyKind}
use Rattle.alt_schema.specs.Described.{key_attr}
use Rattle.alt_schemabytes.specs.Format.{kind_byte, definition_bytes, range_bytes, truth_byte}
use Rattle.alt_schemabytes.specs.Held.{IsHeldText, Where}
use Rattle.alt_schemabytes.specs.Parts.{ReadOutcome, got, stops, followed_by, read_bytes, read_u64, read_field, read_name, any_name, read_byte, kinds, read_definition, read_key, truths, read_range}
use Rattle.alt_schemabytes.specs.Places.{NoText, text_cut_off, another_field, NoByte, byte_cut_off, another_byte, AnyText, IsNewName, IsDefinedName, IsNextDefinition, NoDefinition, IsDefinedKey, key_attribute_bytes, NoKey, NoRange, no_truth, no_range_name}
use Rattle.alt_schema.specs.Rules.{is_defined}
use Rattle.alt_schema.specs.declared.schema.KeyAttr.{KeyAttr}
use Rattle.alt_schemabytes.proofs.Wholes.{Small, small_back, got_value, both_got, passes, bytes_got, field_got, name_got, byte_got}
use Rattle.alt_schemabytes.proofs.DefinitionReads.{definition_got, key_got, range_got, kind_find}
use Rattle.alt_schemabytes.proofs.Steady.{no_got, stop_count}
use Rattle.alt_schemabytes.proofs.SteadyParts.{name_fails, none_stops}
use Rattle.alt_schemabytes.proofs.SoundParts.{u64_below, Sound, Complete, too_short, unfinished, last_stops}

-- ---- texts

-- a field that isn't cut off tells a length that fits
field_length : (bytes s rest : List ℕ) → Small bytes → read_field bytes ≡ got s rest
    → length s < 2 ^ 64
unfolding read_field
field_length bytes s rest small e =
    let b = both_got read_bytes (read_u64 bytes) s rest e in
    omega (arith, u64_below bytes b.x b.mid small b.first, (bytes_got b.x b.mid s rest b.second).1)

-- where no field is read, it is cut off
field_none : (bytes : List ℕ) (n : ℕ) → read_field bytes ≡ stops n
    → (length bytes < 8 + told_length bytes 0) × (n ≡ 0)
unfolding read_field read_u64 read_bytes
field_none bytes n e =
    (elim (nat_le 8 (length bytes)) as (λ b. nat_le 8 (length bytes) ≡ b
    → followed_by read_bytes (cond b (got (told_length bytes 0) (drop 8 bytes)) (stops 0)) ≡ stops n
    → (length bytes < 8 + told_length bytes 0) × (n ≡ 0)) [
      | true ↦ λ t f.
          let h = too_short (told_length bytes 0) (length (drop 8 bytes))
          (take (told_length bytes 0) (drop 8 bytes))
          (drop (told_length bytes 0) (drop 8 bytes)) n f in
          (omega (arith, h.0, length-drop 8 bytes), h.1)
      | false ↦ λ t f. (omega (arith, leb-false 8 (length bytes) t), sym (stop_count 0 n f))
    ]) refl e

-- a text that is read is one that the program can hold
held_name : (test : List ℕ → Bool) (bytes s rest : List ℕ) → Small bytes → read_name test bytes
    ≡ got s rest
    → IsHeldText s
unfolding read_name
held_name test bytes s rest small e =
    let b = both_got (λ t r. if is_utf8 t && test t then got t r else stops (length bytes))
    (read_field bytes) s rest e in
    let p = passes (is_utf8 b.x && test b.x) (got b.x b.mid) (length bytes) s rest b.second in
    let v : b.x ≡ s = got_value _ _ _ _ p.1 in (
      subst (λ t. length t < 2 ^ 64) v (field_length bytes b.x b.mid small b.first),
      IsUtf8-from_is_utf8 s (name_got test bytes s rest small e).1,
    )

module _ (test : List ℕ → Bool) (Fits : List ℕ → Type 0)
    (passed : (s : List ℕ) → Fits s → test s ≡ true) where
  -- whatever is read as the field
  text_by : (bytes : List ℕ) (r : ReadOutcome (List ℕ)) (n : ℕ) → Small bytes → read_field bytes ≡ r
      → followed_by (λ s q. if is_utf8 s && test s then got s q else stops (length bytes)) r
      ≡ stops n
      → NoText Fits bytes n
  text_by bytes (stops m) n small e f =
      let h = field_none bytes m e in
      text_cut_off h.0 (sym (stop_count m n f) ∙ h.1)
  text_by bytes (got x mid) n small e f =
      let t = name_fails test x mid (length bytes) n f in
      another_field x mid (field_length bytes x mid small e) (field_got bytes x mid small e)
      (λ u fits. true≢false (sym (and_from (is_utf8 x) (test x) (is_utf8-from_IsUtf8 x u)
      (passed x fits)) ∙ t.0))
      (sym t.1)

  -- where no text is read, none stands
  pub text_none : Complete (NoText Fits) (read_name test)
  unfolding read_name
  text_none = λ b n small e. text_by b (read_field b) n small refl e

-- where no text is read, none stands
pub any_none : Complete (NoText AnyText) (read_name any_name)
any_none = text_none any_name AnyText (λ s h. refl)

-- a text that is read is one that the program can hold
pub any_sound : Sound field IsHeldText (read_name any_name)
any_sound = λ b s r small e. ((name_got any_name b s r small e).0, held_name any_name b s r small e)

-- ---- a byte of some

module _ {A : Type 0} (byte_of : A → ℕ) (values : List A)
    (all : (x : A) → is_some (find (λ y. byte_of x == byte_of y) values) ≡ true) where
  -- where no byte of these is read, none stands
  pub byte_none : Complete (NoByte byte_of) (read_byte byte_of values)
  unfolding read_byte
  byte_none = λ b. elim b as (λ l. (n : ℕ) → Small l → read_byte byte_of values l ≡ stops n
      → NoByte byte_of l n) [
        | [] ↦ λ n small e. byte_cut_off refl (sym (stop_count 0 n e))
        | c ∷ rest ↦ λ n small e.
            let s = none_stops (find (λ y. c == byte_of y) values) rest (suc (length rest)) n e in
            another_byte c rest refl
            (λ x is. true≢false (sym (all x)
            ∙ ap (λ m. is_some (find (λ y. m == byte_of y) values)) (sym is) ∙ ap is_some s.0))
            (sym s.1)
      ]

-- ---- definitions and keys

-- each kind has a byte
some_kind : (k : KeyKind) → is_some (find (λ y. kind_byte k == kind_byte y) kinds) ≡ true
some_kind k = ap is_some (kind_find k)

-- a new name that is read is one
new_name_sound : (before : List KeyAttr)
    → Sound field (λ name. IsHeldText name × IsNewName before name)
    (read_name (λ name. not (is_defined before name)))
new_name_sound before = λ b s r small e.
    let g = name_got (λ name. not (is_defined before name)) b s r small e in (
      g.0,
      (
        held_name (λ name. not (is_defined before name)) b s r small e,
        not-true
            (is_defined before s) g.2,
      ),
    )

-- where no definition is read, none stands
pub definition_none : (before : List KeyAttr) → Complete (NoDefinition before)
    (read_definition before)
unfolding read_definition
definition_none before = λ b n small e.
    unfinished field (λ name. IsHeldText name × IsNewName before name) (NoText (IsNewName before))
    (λ name. NoByte kind_byte)
    (read_name (λ name. not (is_defined before name))) _ (new_name_sound before)
    (text_none (λ name. not (is_defined before name)) (IsNewName before) (λ s h. ap not h))
    (λ name is c m behind f. byte_none kind_byte kinds some_kind c m behind (last_stops _ _ m f))
    b n small e

-- a definition that is read is a right one
pub definition_sound : (before : List KeyAttr)
    → Sound definition_bytes (IsNextDefinition before) (read_definition before)
unfolding read_definition
definition_sound before = λ b d r small e.
    let g = definition_got before b d r small e in
    let parts = both_got (λ name q. followed_by
    (λ kind p. got (record { name = name; kind = kind }) p) (read_byte kind_byte kinds q))
    (read_name (λ name. not (is_defined before name)) b) d r e in
    let last = both_got (λ kind p. got (record { name = parts.x; kind = kind }) p)
    (read_byte kind_byte kinds parts.mid) d r parts.second in
    let v : record { name = parts.x; kind = last.x } ≡ d = got_value _ _ _ _ last.second in (
      g.0,
      (
        subst (λ (k : KeyAttr). IsHeldText k.name) v
            (held_name (λ name. not (is_defined before name)) b parts.x parts.mid
            small parts.first),
        g.1,
      ),
    )

-- where no key is read, none stands
pub key_none : (ds : List KeyAttr) → Complete (NoKey ds) (read_key ds)
unfolding read_key
key_none ds = λ b n small e.
    text_none (is_defined ds) (IsDefinedName ds) (λ s h. h) b n small
    (last_stops (key_attr ds) (read_name (is_defined ds) b) n e)

-- a key that is read is a right one
pub key_sound : (ds : List KeyAttr) → Sound key_attribute_bytes (IsDefinedKey ds) (read_key ds)
unfolding read_key
key_sound ds = λ b k r small e.
    let g = key_got ds b k r small e in
    let parts = both_got (λ name q. got (key_attr ds name) q) (read_name (is_defined ds) b) k r e in
    let v : key_attr ds parts.x ≡ k = got_value _ _ _ _ parts.second in (
      g.0,
      (
        subst (λ (a : KeyAttr). IsHeldText a.name) v
            (held_name (is_defined ds) b parts.x parts.mid small parts.first),
        g.1,
      ),
    )

-- each truth value has a byte
some_truth : (t : Bool) → is_some (find (λ y. truth_byte t == truth_byte y) truths) ≡ true
some_truth false = refl
some_truth true = refl

-- the name behind the byte of a RANGE key
range_next : (ds : List KeyAttr) (there : Bool) (b mid : List ℕ) (n : ℕ) → Small mid → b
    ≡ truth_byte there ∷ mid
    → (if there then followed_by (λ key q. got (Some key) q) (read_key ds mid) else got None mid)
    ≡ stops n → NoRange ds b n
range_next ds true b mid n small is e =
    no_range_name mid is (key_none ds mid n small (last_stops Some (read_key ds mid) n e))
range_next ds false b mid n small is e = absurd (no_got None mid n e)

-- the byte of a RANGE key, and what follows
range_by : (ds : List KeyAttr) (b : List ℕ) (r : ReadOutcome Bool) (n : ℕ) → Small b
    → read_byte truth_byte truths b ≡ r
    → followed_by (λ there q. if there then followed_by (λ key p. got (Some key) p)
    (read_key ds q) else got None q) r ≡ stops n → NoRange ds b n
range_by ds b (got there mid) n small e f =
    let t = byte_got truth_byte truths b there mid e in
    range_next ds there b mid n (small_back (truth_byte there ∷ []) mid (subst Small t small)) t f
range_by ds b (stops m) n small e f =
    no_truth (byte_none truth_byte truths some_truth b n small (e ∙ ap stops (stop_count m n f)))

-- where no RANGE key is read, none stands
pub range_none : (ds : List KeyAttr) → Complete (NoRange ds) (read_range ds)
unfolding read_range
range_none ds = λ b n small e. range_by ds b (read_byte truth_byte truths b) n small refl e

-- the RANGE key that is read behind its byte
range_from : (ds : List KeyAttr) (there : Bool) (mid : List ℕ) (r : Option KeyAttr) (rest : List ℕ)
    → Small mid
    → (if there then followed_by (λ key q. got (Some key) q) (read_key ds mid) else got None mid)
    ≡ got r rest → Where (IsDefinedKey ds) r
range_from ds true mid r rest small e =
    let b = both_got (λ key q. got (Some key) q) (read_key ds mid) r rest e in
    subst (Where (IsDefinedKey ds)) (got_value _ _ _ _ b.second)
    (key_sound ds mid b.x b.mid small b.first).1
range_from ds false mid r rest small e = subst (Where (IsDefinedKey ds)) (got_value None r mid rest e) tt

-- a RANGE key that is read is a right one
pub range_sound : (ds : List KeyAttr) → Sound range_bytes (Where (IsDefinedKey ds)) (read_range ds)
unfolding read_range
range_sound ds = λ b r rest small e.
    let parts = both_got (λ there q. if there then followed_by (λ key p. got (Some key) p)
    (read_key ds q) else got None q) (read_byte truth_byte truths b) r rest e in
    let t = byte_got truth_byte truths b parts.x parts.mid parts.first in (
      (range_got ds b r rest small e).0,
      range_from ds parts.x parts.mid r rest
          (small_back (truth_byte parts.x ∷ []) parts.mid (subst Small t small)) parts.second,
    )
