-- What is read as a description is a right one, and where reading stops no further part of one stands.
use Rattle.std.proofs.Common.{◌≡◌, refl, ap, subst, ◌∙◌, ℕ, suc, ◌+◌, ◌<◌, ◌^◌, ◌⊎◌, inl, inr, true, ◌==◌, List, [], ◌∷◌, ◌++◌, length, Option, Some, None, is_some, arith, length-append}
use Rattle.std.specs.Int.{w32, w64, to_be_bytes}
use Rattle.std.specs.List.{find, AllByRecursion}
use Rattle.alt_fields.specs.Field.{field}
use Rattle.alt_schema.specs.Described.{IsDescription}
use Rattle.alt_schemabytes.specs.Format.{counted_list, view_byte, stream_bytes, definition_bytes, range_bytes, index_bytes, description_bytes}
use Rattle.alt_schemabytes.specs.Held.{IsHeldText, Where}
use Rattle.alt_schemabytes.specs.Parts.{ReadOutcome, got, stops, followed_by, read_u64, read_u32, read_name, any_name, read_byte, read_counted, read_definition, read_key, read_range, read_index, views, read_stream, read_description_head, read_keyed, joined_description, read_description, bytes_left_at_stop, StopsAt}
use Rattle.alt_schemabytes.specs.Places.{NoNumberOfWidth, NoText, NoByte, Unfinished, AllNext, NoCounted, AnyText, IsNextDefinition, NoDefinition, IsDefinedKey, key_attribute_bytes, NoKey, NoRange, IsIndex, NoIndexes, NoStream, IsStream, NoKeyed, NoDescription, IsBadDescriptionAt}
use Rattle.alt_schemabytes.specs.declared.parsing.Head.{Head}
use Rattle.alt_schema.specs.declared.schema.KeyAttr.{KeyAttr}
use Rattle.alt_schema.specs.declared.schema.View.{View}
use Rattle.alt_schema.specs.declared.schema.TableSchema.{TableSchema}
use Rattle.alt_schemabytes.proofs.Wholes.{Small, got_value, both_got, byte_got}
use Rattle.alt_schemabytes.proofs.WholeDescriptions.{description_got}
use Rattle.alt_schemabytes.proofs.IndexReads.{stream_got, view_find}
use Rattle.alt_schemabytes.proofs.Steady.{no_got}
use Rattle.alt_schemabytes.proofs.SteadyDescription.{first_place}
use Rattle.alt_schemabytes.proofs.SoundParts.{u32_below, Sound, Complete, u64_sound, u32_sound, u64_none, u32_none, unfinished, last_stops, unfinished_in, counted_none, counted_sound}
use Rattle.alt_schemabytes.proofs.DefinitionStops.{any_none, any_sound, byte_none, definition_none, definition_sound, key_none, key_sound, range_none, range_sound}
use Rattle.alt_schemabytes.proofs.IndexStops.{indexes_none, indexes_sound}

-- ---- the whole

-- each view has a byte
some_view : (v : Option View) → is_some (find (λ y. view_byte v == view_byte y) views) ≡ true
some_view v = ap is_some (view_find v)

-- a view that is read
view_sound : Sound (λ (v : Option View). view_byte v ∷ []) (λ v. Unit {0})
    (read_byte view_byte views)
view_sound = λ b v r small e. (byte_got view_byte views b v r e, tt)

-- where no family is read, none stands
stream_none : (v : Option View) → Complete (NoStream v) (read_stream v)
unfolding read_stream
stream_none None = λ b n small e. no_got None b n e
stream_none (Some w) = λ b n small e. u32_none b n small (last_stops Some (read_u32 b) n e)

-- the stream's family that is read fits
stream_held : (v : Option View) (b : List ℕ) (o : Option ℕ) (r : List ℕ) → Small b → read_stream v b
    ≡ got o r → Where (λ f. f < 2 ^ 32) o
unfolding read_stream
stream_held None b o r small e = subst (Where (λ f. f < 2 ^ 32)) (got_value None o b r e) tt
stream_held (Some w) b o r small e =
    let parts = both_got (λ family q. got (Some family) q) (read_u32 b) o r e in
    subst (Where (λ f. f < 2 ^ 32)) (got_value _ _ _ _ parts.second)
    (u32_below b parts.x parts.mid small parts.first)

-- the stream's family that is read is a right one
stream_sound : (v : Option View) → Sound stream_bytes (IsStream v) (read_stream v)
stream_sound v = λ b o r small e.
    let g = stream_got v b o r small e in
    (g.0, (g.1, stream_held v b o r small e))

-- where what stands on the definitions isn't read, it doesn't stand there
keyed_none : (ds : List KeyAttr) → Complete (NoKeyed ds) (read_keyed ds)
unfolding read_keyed
keyed_none ds = λ b n small e.
    unfinished key_attribute_bytes (IsDefinedKey ds) (NoKey ds) _ (read_key ds) _ (key_sound ds) (key_none ds)
    (λ hash i1 b1 n1 s1 e1.
    unfinished range_bytes (Where (IsDefinedKey ds)) (NoRange ds) _ (read_range ds) _ (range_sound ds)
    (range_none ds) (λ range i2 b2 n2 s2 e2.
    unfinished (counted_list index_bytes) (AllByRecursion (IsIndex ds)) (NoIndexes ds) _
    (read_counted (λ before. read_index ds)) _ (indexes_sound ds) (indexes_none ds)
    (λ locals i3 b3 n3 s3 e3.
    indexes_none ds b3 n3 s3 (last_stops _ _ n3 e3))
    b2 n2 s2 e2) b1 n1 s1 e1) b n small e

-- what stands behind the head
behind_head : Head → List ℕ → ReadOutcome TableSchema
behind_head head b =
    followed_by (λ definitions b2. followed_by (λ keyed b3. got (joined_description head definitions keyed) b3)
    (read_keyed definitions b2)) (read_counted read_definition b)

-- what stands behind the head
behind_head_none : (head : Head)
    → Complete (Unfinished (counted_list definition_bytes) (AllNext IsNextDefinition [])
    (NoCounted definition_bytes IsNextDefinition NoDefinition) NoKeyed) (behind_head head)
unfolding behind_head
behind_head_none head = λ b n small e.
    unfinished (counted_list definition_bytes) (AllNext IsNextDefinition [])
    (NoCounted definition_bytes IsNextDefinition NoDefinition) NoKeyed
    (read_counted read_definition) _
    (counted_sound definition_bytes IsNextDefinition NoDefinition read_definition definition_sound
    definition_none)
    (counted_none definition_bytes IsNextDefinition NoDefinition read_definition definition_sound
    definition_none)
    (λ ds is c m behind f. keyed_none ds c m behind (last_stops _ _ m f)) b n small e

-- what stands behind the parts of the head, one after another
abbrev NoRest : List ℕ → ℕ → Type 0
NoRest =
    Unfinished (counted_list definition_bytes) (AllNext IsNextDefinition [])
    (NoCounted definition_bytes IsNextDefinition NoDefinition) NoKeyed

-- all parts are read
abbrev head_6 : List ℕ → ℕ → ℕ → ℕ → Option View → Option ℕ → List ℕ → ReadOutcome Head
head_6 name created number family view stream b =
    got (record {
      name = name;
      created = created;
      number = number;
      family = family;
      view = view;
      stream_family = stream;
    }) b

-- from the stream's family on
abbrev head_5 : List ℕ → ℕ → ℕ → ℕ → Option View → List ℕ → ReadOutcome Head
head_5 name created number family view b =
    followed_by (head_6 name created number family view) (read_stream view b)

-- from the view on
abbrev head_4 : List ℕ → ℕ → ℕ → ℕ → List ℕ → ReadOutcome Head
head_4 name created number family b =
    followed_by (head_5 name created number family) (read_byte view_byte views b)

-- from the family on
abbrev head_3 : List ℕ → ℕ → ℕ → List ℕ → ReadOutcome Head
head_3 name created number b = followed_by (head_4 name created number) (read_u32 b)

-- from the number on
abbrev head_2 : List ℕ → ℕ → List ℕ → ReadOutcome Head
head_2 name created b = followed_by (head_3 name created) (read_u64 b)

-- from the moment on
abbrev head_1 : List ℕ → List ℕ → ReadOutcome Head
head_1 name b = followed_by (head_2 name) (read_u64 b)

-- no stream's family, or nothing behind it
abbrev NoStreamOn : Option View → List ℕ → ℕ → Type 0
NoStreamOn view = Unfinished stream_bytes (IsStream view) (NoStream view) (λ stream. NoRest)

-- no view, or nothing behind it
abbrev NoViewOn : List ℕ → ℕ → Type 0
NoViewOn = Unfinished (λ view. view_byte view ∷ []) (λ view. Unit {0}) (NoByte view_byte) NoStreamOn

-- no family, or nothing behind it
abbrev NoFamilyOn : List ℕ → ℕ → Type 0
NoFamilyOn = Unfinished (to_be_bytes w32) (λ c. c < 2 ^ 32) (NoNumberOfWidth 4) (λ family. NoViewOn)

-- no number, or nothing behind it
abbrev NoNumberOn : List ℕ → ℕ → Type 0
NoNumberOn = Unfinished (to_be_bytes w64) (λ c. c < 2 ^ 64) (NoNumberOfWidth 8) (λ number. NoFamilyOn)

-- no moment, or nothing behind it
abbrev NoMomentOn : List ℕ → ℕ → Type 0
NoMomentOn = Unfinished (to_be_bytes w64) (λ c. c < 2 ^ 64) (NoNumberOfWidth 8) (λ created. NoNumberOn)

-- where reading stops from the stream's family on
none_5 : (name : List ℕ) (created number family : ℕ) (view : Option View)
    → Complete (NoStreamOn view) (λ b. followed_by behind_head
    (head_5 name created number family view b))
none_5 name created number family view =
    unfinished_in stream_bytes (IsStream view) (NoStream view) (λ stream. NoRest) (read_stream view)
    (head_6 name created number family view) behind_head (stream_sound view) (stream_none view)
    (λ stream is. behind_head_none (record {
      name = name;
      created = created;
      number = number;
      family = family;
      view = view;
      stream_family = stream;
    }))

-- where it stops from the view on
none_4 : (name : List ℕ) (created number family : ℕ)
    → Complete NoViewOn (λ b. followed_by behind_head (head_4 name created number family b))
none_4 name created number family =
    unfinished_in (λ view. view_byte view ∷ []) (λ view. Unit {0}) (NoByte view_byte) NoStreamOn
    (read_byte view_byte views) (head_5 name created number family) behind_head view_sound
    (byte_none view_byte views some_view) (λ view is. none_5 name created number family view)

-- where it stops from the family on
none_3 : (name : List ℕ) (created number : ℕ)
    → Complete NoFamilyOn (λ b. followed_by behind_head (head_3 name created number b))
none_3 name created number =
    unfinished_in (to_be_bytes w32) (λ c. c < 2 ^ 32) (NoNumberOfWidth 4) (λ family. NoViewOn) read_u32
    (head_4 name created number) behind_head u32_sound u32_none
    (λ family is. none_4 name created number family)

-- where it stops from the number on
none_2 : (name : List ℕ) (created : ℕ)
    → Complete NoNumberOn (λ b. followed_by behind_head (head_2 name created b))
none_2 name created =
    unfinished_in (to_be_bytes w64) (λ c. c < 2 ^ 64) (NoNumberOfWidth 8) (λ number. NoFamilyOn) read_u64
    (head_3 name created) behind_head u64_sound u64_none (λ number is. none_3 name created number)

-- where it stops from the moment on
none_1 : (name : List ℕ)
    → Complete NoMomentOn (λ b. followed_by behind_head (head_1 name b))
none_1 name =
    unfinished_in (to_be_bytes w64) (λ c. c < 2 ^ 64) (NoNumberOfWidth 8) (λ created. NoNumberOn) read_u64
    (head_2 name) behind_head u64_sound u64_none (λ created is. none_2 name created)

-- where no description is read, none stands
description_none : Complete NoDescription read_description
unfolding read_description read_description_head behind_head
description_none =
    unfinished_in field IsHeldText (NoText AnyText) (λ name. NoMomentOn) (read_name any_name) head_1
    behind_head any_sound any_none (λ name is. none_1 name)

-- ---- the place

-- whichever way the bytes are no description's
bad_from : (bytes : List ℕ) (at left : ℕ) (r : ReadOutcome TableSchema) → Small bytes
    → read_description bytes ≡ r → bytes_left_at_stop r ≡ Some left
    → at + left ≡ length bytes
    → ((left : ℕ) × NoDescription bytes left × (at + left ≡ length bytes))
    ⊎ ((s : TableSchema) × (behind : List ℕ) × IsDescription s × (0 < length behind)
    × (bytes ≡ description_bytes s ++ behind) × (at ≡ length (description_bytes s)))
bad_from bytes at left (got s []) small e l p = absurd (let f : ⊥ = cc in f)
bad_from bytes at left (got s (b ∷ rest)) small e l p =
    let g = description_got bytes s (b ∷ rest) small e in
    let n : suc (length rest) ≡ left = cc in
    inr (
      s,
      b ∷ rest,
      g.1,
      omega arith,
      g.0,
      omega
          (arith, p, n, ap length g.0, length-append (description_bytes s) (b ∷ rest)),
    )
bad_from bytes at left (stops m) small e l p =
    let n : m ≡ left = cc in
    inl (left, description_none bytes left small (e ∙ ap stops n), p)

-- the place that is told is that of the bytes
pub bad_at : (bytes : List ℕ) (at : ℕ) → Small bytes → StopsAt bytes at → IsBadDescriptionAt bytes at
bad_at bytes at small s =
    let f = first_place bytes at s in
    record {
      stops = bad_from bytes at s.0 (read_description bytes) small refl s.1 f.within;
      no_further = f.no_further;
    }
