-- How a description's bytes are read, part by part of docs/formats/descriptions.md, and where other bytes stop.
--
-- Bytes give a value and what is behind it. Or they stop, with so many bytes left from the place on: none where a part is cut off by
-- the end, and else those from the beginning of the part that is none.
use Rattle.std.specs.Prelude.{◌≡◌, ℕ, zero, suc, ◌-◌, Bool, true, false, not, ◌&&◌, ◌==◌, nat_le, if◌then◌else◌, List, [], ◌∷◌, ◌++◌, length, take, drop, Option, Some, None}
use Rattle.std.specs.Int.{w32, w64, from_be_bytes}
use Rattle.std.specs.List.{find}
use Rattle.std.specs.Option.{option_map_or}
use Rattle.std.specs.Str.{is_utf8}
use Rattle.alt_value.specs.declared.kind.KeyKind.{KeyKind}
use Rattle.alt_value.specs.declared.kind.KeyKind.TheVariants.{S, N, B}
use Rattle.alt_schemabytes.specs.declared.parsing.Head.{Head}
use Rattle.alt_schemabytes.specs.declared.parsing.Keyed.{Keyed}
use Rattle.alt_schemabytes.specs.declared.parts.Stop.{Stop}
use Rattle.alt_schemabytes.specs.declared.parts.Stop.TheVariants.{Left, NoMemory}
use Rattle.alt_schema.specs.Described.{key_attr}
use Rattle.alt_schemabytes.specs.Format.{kind_byte, truth_byte, projection_byte, view_byte}
use Rattle.alt_schema.specs.Rules.{is_defined}
use Rattle.alt_schema.specs.declared.schema.Built.TheVariants.{Whole}
use Rattle.alt_schema.specs.declared.schema.KeyAttr.{KeyAttr}
use Rattle.alt_schema.specs.declared.schema.Projection.{Projection}
use Rattle.alt_schema.specs.declared.schema.Projection.TheVariants.{All, KeysOnly, Include}
use Rattle.alt_schema.specs.declared.schema.View.{View}
use Rattle.alt_schema.specs.declared.schema.View.TheVariants.{KeysOnly as view_keys, NewImage, OldImage, NewAndOldImages}
use Rattle.alt_schema.specs.declared.schema.IndexSchema.{IndexSchema}
use Rattle.alt_schema.specs.declared.schema.TableSchema.{TableSchema}

-- what reading comes to
pub data ReadOutcome (A : Type 0) : Type 0 where
  got : A → List ℕ → ReadOutcome A
  stops : ℕ → ReadOutcome A

-- one part, and then another behind it
abbrev pub followed_by : {A B : Type 0} → (A → List ℕ → ReadOutcome B) → ReadOutcome A → ReadOutcome B
followed_by next (got x rest) = next x rest
followed_by next (stops left) = stops left

-- ---- single parts

-- the first bytes, as many as asked
unfoldable pub read_bytes : ℕ → List ℕ → ReadOutcome (List ℕ)
read_bytes n bytes = if nat_le n (length bytes) then got (take n bytes) (drop n bytes) else stops 0

-- a number of 8 bytes, high byte first
unfoldable pub read_u64 : List ℕ → ReadOutcome ℕ
read_u64 bytes = if nat_le 8 (length bytes) then got (from_be_bytes w64 (take 8 bytes))
    (drop 8 bytes) else stops 0

-- a number of 4 bytes, high byte first
unfoldable pub read_u32 : List ℕ → ReadOutcome ℕ
read_u32 bytes = if nat_le 4 (length bytes) then got (from_be_bytes w32 (take 4 bytes))
    (drop 4 bytes) else stops 0

-- the content of a field
unfoldable pub read_field : List ℕ → ReadOutcome (List ℕ)
read_field bytes = followed_by read_bytes (read_u64 bytes)

-- a field whose content is a text that passes a test
unfoldable pub read_name : (List ℕ → Bool) → List ℕ → ReadOutcome (List ℕ)
read_name test bytes = followed_by
    (λ s rest. if is_utf8 s && test s then got s rest else stops (length bytes)) (read_field bytes)

-- the byte of one of these
unfoldable pub read_byte : {A : Type 0} → (A → ℕ) → List A → List ℕ → ReadOutcome A
read_byte byte_of values [] = stops 0
read_byte byte_of values (b ∷ rest) =
    option_map_or (λ x. got x rest) (find (λ x. b == byte_of x) values) (stops (suc (length rest)))

-- so many parts more behind those before, each read in view of those before it
unfoldable pub read_more : {A : Type 0} → (List A → List ℕ → ReadOutcome A) → ℕ → List A → List ℕ
    → ReadOutcome (List A)
read_more read zero before bytes = got before bytes
read_more read (suc n) before bytes =
    followed_by (λ x rest. read_more read n (before ++ x ∷ []) rest) (read before bytes)

-- a count, and so many parts
unfoldable pub read_counted : {A : Type 0} → (List A → List ℕ → ReadOutcome A) → List ℕ → ReadOutcome (List A)
read_counted read bytes = followed_by (λ n rest. read_more read n [] rest) (read_u64 bytes)

-- ---- the parts of a description

-- each text passes
abbrev pub any_name : List ℕ → Bool
any_name name = true

-- the kinds that have a byte
abbrev pub kinds : List KeyKind
kinds = S ∷ N ∷ B ∷ []

-- a name that no definition before has, and its kind
unfoldable pub read_definition : List KeyAttr → List ℕ → ReadOutcome KeyAttr
read_definition before bytes =
    followed_by (λ name rest. followed_by
    (λ kind behind. got (record { name = name; kind = kind }) behind)
    (read_byte kind_byte kinds rest))
    (read_name (λ name. not (is_defined before name)) bytes)

-- a name that is defined, with its kind
unfoldable pub read_key : List KeyAttr → List ℕ → ReadOutcome KeyAttr
read_key definitions bytes = followed_by (λ name rest. got (key_attr definitions name) rest)
    (read_name (is_defined definitions) bytes)

-- the truth values that have a byte
abbrev pub truths : List Bool
truths = false ∷ true ∷ []

-- 00, or 01 and a key
unfoldable pub read_range : List KeyAttr → List ℕ → ReadOutcome (Option KeyAttr)
read_range definitions bytes =
    followed_by (λ there rest. if there then followed_by (λ key behind. got (Some key) behind)
    (read_key definitions rest) else got None rest)
    (read_byte truth_byte truths bytes)

-- a projection of each kind that has a byte
abbrev pub projection_kinds : List Projection
projection_kinds = All ∷ KeysOnly ∷ Include [] ∷ []

-- the names, where there are some
unfoldable pub read_included : Projection → List ℕ → ReadOutcome Projection
read_included All bytes = got All bytes
read_included KeysOnly bytes = got KeysOnly bytes
read_included (Include names) bytes =
    followed_by (λ given rest. got (Include given) rest)
    (read_counted (λ before. read_name any_name) bytes)

-- the byte of a projection, and its names
unfoldable pub read_projection : List ℕ → ReadOutcome Projection
read_projection bytes = followed_by read_included (read_byte projection_byte projection_kinds bytes)

-- an index, part by part
unfoldable pub read_index : List KeyAttr → List ℕ → ReadOutcome IndexSchema
read_index definitions bytes =
    followed_by (λ name b1. followed_by
    (λ family b2. followed_by (λ hash b3. followed_by (λ range b4. followed_by (λ projection b5.
    got (record {
      name = name;
      hash = hash;
      range = range;
      projection = projection;
      family =
          family;
      built = Whole;
    }) b5)
    (read_projection b4)) (read_range definitions b3)) (read_key definitions b2)) (read_u32 b1))
    (read_name any_name bytes)

-- what a stream can show, or that there is none
abbrev pub views : List (Option View)
views = None ∷ Some view_keys ∷ Some NewImage ∷ Some OldImage ∷ Some NewAndOldImages ∷ []

-- the stream's family, where there is a stream
unfoldable pub read_stream : Option View → List ℕ → ReadOutcome (Option ℕ)
read_stream None bytes = got None bytes
read_stream (Some view) bytes = followed_by (λ family rest. got (Some family) rest) (read_u32 bytes)

-- the name, the moment, the number, the family and the stream
unfoldable pub read_description_head : List ℕ → ReadOutcome Head
read_description_head bytes =
    followed_by (λ name b1. followed_by
    (λ created b2. followed_by (λ number b3. followed_by (λ family b4. followed_by (λ view b5.
    followed_by (λ stream b6.
    got (record {
      name = name;
      created = created;
      number = number;
      family = family;
      view = view;
      stream_family = stream;
    }) b6)
    (read_stream view b5)) (read_byte view_byte views b4)) (read_u32 b3)) (read_u64 b2))
    (read_u64 b1)) (read_name any_name bytes)

-- the key, the local indexes and the global ones
unfoldable pub read_keyed : List KeyAttr → List ℕ → ReadOutcome Keyed
read_keyed definitions bytes =
    followed_by (λ hash b1. followed_by
    (λ range b2. followed_by (λ locals b3. followed_by (λ globals b4.
    got (record { hash = hash; range = range; locals = locals; globals = globals }) b4)
    (read_counted (λ before. read_index definitions) b3))
    (read_counted (λ before. read_index definitions) b2)) (read_range definitions b1))
    (read_key definitions bytes)

-- the parts as one description
abbrev pub joined_description : Head → List KeyAttr → Keyed → TableSchema
joined_description head definitions keyed = record {
  name = head.name;
  definitions = definitions;
  hash = keyed.hash;
  range = keyed.range;
  locals = keyed.locals;
  globals = keyed.globals;
  view = head.view;
  stream_family = head.stream_family;
  created = head.created;
  number = head.number;
  family = head.family;
  ttl = None;
}

-- a description, part by part
unfoldable pub read_description : List ℕ → ReadOutcome TableSchema
read_description bytes =
    followed_by (λ head b1. followed_by
    (λ definitions b2. followed_by (λ keyed b3. got (joined_description head definitions keyed) b3)
    (read_keyed definitions b2)) (read_counted read_definition b1)) (read_description_head bytes)

-- ---- where bytes that are no description stop

-- by how many bytes are left from the place on: those that stop, and those behind a description
abbrev pub bytes_left_at_stop : ReadOutcome TableSchema → Option ℕ
bytes_left_at_stop (got s []) = None
bytes_left_at_stop (got s (b ∷ rest)) = Some (suc (length rest))
bytes_left_at_stop (stops left) = Some left

-- the first place where the bytes can't go on as a description
abbrev pub StopsAt : List ℕ → ℕ → Type 0
StopsAt bytes at = (left : ℕ) × (bytes_left_at_stop (read_description bytes) ≡ Some left)
    × (at ≡ length bytes - left)

-- a stop within the program is the one that is read
abbrev pub StopsAs : {A : Type 0} → ReadOutcome A → Stop → Type 0
StopsAs r (Left n) = r ≡ stops n
StopsAs r NoMemory = Unit {0}
