-- Where bytes stop being those of a description: the first place where nothing stands that could go
-- on there.
--
-- A description is a row of pieces: fields, numbers and single bytes (docs/formats/descriptions.md).
-- Before the place stand whole pieces with which a description begins, and at it no piece that
-- could be the next one. A piece that the bytes cut off stops at their end, any other where it
-- begins. A place is told by how many bytes are left from it on.
use Rattle.std.specs.Prelude.{◌≡◌, ℕ, ◌+◌, ◌<◌, ◌≤◌, ◌^◌, ◌⊎◌, true, false, List, [], ◌∷◌, ◌++◌, length, take, Option, None, Some, is_some}
use Rattle.std.specs.Int.{w32, w64, to_be_bytes}
use Rattle.std.specs.List.{AllByRecursion}
use Rattle.std.specs.Str.{IsUtf8}
use Rattle.alt_fields.specs.Field.{field, told_length}
use Rattle.alt_schema.specs.Described.{is_one_of, keys_defined, IsDescription}
use Rattle.alt_schemabytes.specs.Format.{each, counted_list, view_byte, stream_bytes, kind_byte, definition_bytes, range_bytes, index_bytes, projection_byte, truth_byte, description_bytes}
use Rattle.alt_schemabytes.specs.Held.{IsHeldText, Where, IsHeldIndex, IsHeld}
use Rattle.alt_schema.specs.Rules.{is_defined}
use Rattle.alt_schema.specs.declared.schema.KeyAttr.{KeyAttr}
use Rattle.alt_schema.specs.declared.schema.View.{View}
use Rattle.alt_schema.specs.declared.schema.IndexSchema.{IndexSchema}
use Rattle.alt_schema.specs.declared.schema.TableSchema.{TableSchema}

-- ---- a single piece that doesn't stand at the front

-- a number of so many bytes is cut off
abbrev pub NoNumberOfWidth : ℕ → List ℕ → ℕ → Type 0
NoNumberOfWidth width bytes left = (length bytes < width) × (left ≡ 0)

-- a text is cut off, or a field stands there whose content isn't one that fits
pub data NoText (Fits : List ℕ → Type 0) (bytes : List ℕ) (left : ℕ) : Type 0 where
  text_cut_off : length bytes < 8 + told_length bytes 0 → left ≡ 0 → NoText Fits bytes left
  another_field : (content behind : List ℕ) → length content < 2 ^ 64
      → bytes ≡ field content ++ behind → (IsUtf8 content → Fits content → ⊥)
      → left ≡ length bytes → NoText Fits bytes left

-- no byte stands there, or one that stands for none of these
pub data NoByte {A : Type 0} (byte_of : A → ℕ) (bytes : List ℕ) (left : ℕ) : Type 0 where
  byte_cut_off : bytes ≡ [] → left ≡ 0 → NoByte byte_of bytes left
  another_byte : (b : ℕ) (behind : List ℕ) → bytes ≡ b ∷ behind
      → ((x : A) → b ≡ byte_of x → ⊥) → left ≡ length bytes → NoByte byte_of bytes left

-- ---- a row of pieces that isn't finished

-- the first part doesn't stand there; or it does, and behind it the next doesn't
pub data Unfinished {A : Type 0} (bytes_of : A → List ℕ) (Is : A → Type 0)
    (NoFirst : List ℕ → ℕ → Type 0) (NoNext : A → List ℕ → ℕ → Type 0)
    (bytes : List ℕ) (left : ℕ) : Type 0 where
  no_first : NoFirst bytes left → Unfinished bytes_of Is NoFirst NoNext bytes left
  no_next : (x : A) (behind : List ℕ) → Is x → bytes ≡ bytes_of x ++ behind
      → NoNext x behind left → Unfinished bytes_of Is NoFirst NoNext bytes left

-- this holds of each of a list, in view of those before it
abbrev pub AllNext : {A : Type 0} → (List A → A → Type 0) → List A → List A → Type 0
AllNext P before [] = Unit {0}
AllNext P before (x ∷ xs) = P before x × AllNext P (before ++ x ∷ []) xs

-- fewer parts than were told stand there, and behind them the next doesn't
pub record Fewer {A : Type 0} (bytes_of : A → List ℕ) (Is : List A → A → Type 0)
    (NoNext : List A → List ℕ → ℕ → Type 0) (count : ℕ) (bytes : List ℕ) (left : ℕ)
    : Type 0 where
  pub done : List A
  pub behind : List ℕ
  pub few : length done < count
  pub are : AllNext Is [] done
  pub is : bytes ≡ each bytes_of done ++ behind
  pub stops : NoNext done behind left

-- a count is cut off, or there are fewer parts than it tells
abbrev pub NoCounted : {A : Type 0} → (A → List ℕ) → (List A → A → Type 0)
    → (List A → List ℕ → ℕ → Type 0) → List ℕ → ℕ → Type 0
NoCounted bytes_of Is NoNext =
    Unfinished (to_be_bytes w64) (λ count. count < 2 ^ 64) (NoNumberOfWidth 8) (Fewer bytes_of Is NoNext)

-- ---- definitions and keys

-- any text
abbrev pub AnyText : List ℕ → Type 0
AnyText name = Unit {0}

-- a name that no definition before has
abbrev pub IsNewName : List KeyAttr → List ℕ → Type 0
IsNewName before name = is_defined before name ≡ false

-- a name that a definition has
abbrev pub IsDefinedName : List KeyAttr → List ℕ → Type 0
IsDefinedName definitions name = is_defined definitions name ≡ true

-- a definition whose name no one before has
abbrev pub IsNextDefinition : List KeyAttr → KeyAttr → Type 0
IsNextDefinition before d = IsHeldText d.name × IsNewName before d.name

-- a definition: a new name, and the byte of a kind
abbrev pub NoDefinition : List KeyAttr → List ℕ → ℕ → Type 0
NoDefinition before =
    Unfinished field (λ name. IsHeldText name × IsNewName before name) (NoText (IsNewName before))
    (λ name. NoByte kind_byte)

-- a key attribute: its name is defined, with its kind
abbrev pub IsDefinedKey : List KeyAttr → KeyAttr → Type 0
IsDefinedKey definitions k = IsHeldText k.name × (is_one_of definitions k ≡ true)

-- the bytes of a key attribute: the field of its name
abbrev pub key_attribute_bytes : KeyAttr → List ℕ
key_attribute_bytes k = field k.name

-- a key attribute: a name that is defined
abbrev pub NoKey : List KeyAttr → List ℕ → ℕ → Type 0
NoKey definitions = NoText (IsDefinedName definitions)

-- whether there is a RANGE key, and where there is, its name
pub data NoRange (definitions : List KeyAttr) (bytes : List ℕ) (left : ℕ) : Type 0 where
  no_truth : NoByte truth_byte bytes left → NoRange definitions bytes left
  no_range_name : (behind : List ℕ) → bytes ≡ 1 ∷ behind → NoKey definitions behind left
      → NoRange definitions bytes left

-- ---- indexes

-- names that an index keeps
abbrev pub NoNames : List ℕ → ℕ → Type 0
NoNames = NoCounted field (λ before. IsHeldText) (λ before. NoText AnyText)

-- the byte of a projection, and the names where it names some
pub data NoProjection (bytes : List ℕ) (left : ℕ) : Type 0 where
  no_kind_of_projection : NoByte projection_byte bytes left → NoProjection bytes left
  no_names : (behind : List ℕ) → bytes ≡ 3 ∷ behind → NoNames behind left
      → NoProjection bytes left

-- an index whose keys are defined
abbrev pub IsIndex : List KeyAttr → IndexSchema → Type 0
IsIndex definitions i = IsHeldIndex i × (keys_defined definitions i.hash i.range ≡ true)

-- an index: its name, its family, its keys and its projection
abbrev pub NoIndex : List KeyAttr → List ℕ → ℕ → Type 0
NoIndex definitions =
    Unfinished field IsHeldText (NoText AnyText) (λ name.
    Unfinished (to_be_bytes w32) (λ family. family < 2 ^ 32) (NoNumberOfWidth 4) (λ family.
    Unfinished key_attribute_bytes (IsDefinedKey definitions) (NoKey definitions) (λ hash.
    Unfinished range_bytes (Where (IsDefinedKey definitions)) (NoRange definitions) (λ range.
    NoProjection))))

-- a count, and so many indexes
abbrev pub NoIndexes : List KeyAttr → List ℕ → ℕ → Type 0
NoIndexes definitions =
    NoCounted index_bytes (λ before. IsIndex definitions) (λ before. NoIndex definitions)

-- ---- the whole

-- the stream's family, where there is a stream
abbrev pub NoStream : Option View → List ℕ → ℕ → Type 0
NoStream None bytes left = ⊥
NoStream (Some view) bytes left = NoNumberOfWidth 4 bytes left

-- a stream's family of four bytes stands exactly where there is a stream
abbrev pub IsStream : Option View → Option ℕ → Type 0
IsStream view family = (is_some family ≡ is_some view) × Where (λ f. f < 2 ^ 32) family

-- the keys of the table, its local indexes and its global ones
abbrev pub NoKeyed : List KeyAttr → List ℕ → ℕ → Type 0
NoKeyed definitions =
    Unfinished key_attribute_bytes (IsDefinedKey definitions) (NoKey definitions) (λ hash.
    Unfinished range_bytes (Where (IsDefinedKey definitions)) (NoRange definitions) (λ range.
    Unfinished (counted_list index_bytes) (AllByRecursion (IsIndex definitions)) (NoIndexes definitions)
    (λ locals. NoIndexes definitions)))

-- the name, the moment, the number, the family, the view and the stream's family; then the
-- definitions, and then what stands on them
abbrev pub NoDescription : List ℕ → ℕ → Type 0
NoDescription =
    Unfinished field IsHeldText (NoText AnyText) (λ name.
    Unfinished (to_be_bytes w64) (λ created. created < 2 ^ 64) (NoNumberOfWidth 8) (λ created.
    Unfinished (to_be_bytes w64) (λ number. number < 2 ^ 64) (NoNumberOfWidth 8) (λ number.
    Unfinished (to_be_bytes w32) (λ family. family < 2 ^ 32) (NoNumberOfWidth 4) (λ family.
    Unfinished (λ view. view_byte view ∷ []) (λ view. Unit {0}) (NoByte view_byte) (λ view.
    Unfinished stream_bytes (IsStream view) (NoStream view) (λ stream.
    Unfinished (counted_list definition_bytes) (AllNext IsNextDefinition [])
    (NoCounted definition_bytes IsNextDefinition NoDefinition) NoKeyed))))))

-- no description begins with these bytes
abbrev pub NoneBegins : List ℕ → Type 0
NoneBegins bytes = (s : TableSchema) (more : List ℕ) → IsDescription s → IsHeld s
    → description_bytes s ≡ bytes ++ more → ⊥

-- A whole piece stands at the place, a byte or a field of the length that it tells, and no description
-- begins with the bytes up to and with it. So none that begins with the bytes before has it there.
pub record NoFurther (bytes : List ℕ) (at : ℕ) : Type 0 where
  pub size : ℕ
  pub piece : (size ≡ 1) ⊎ (size ≡ 8 + told_length bytes at)
  pub within : at + size ≤ length bytes
  pub none : NoneBegins (take (at + size) bytes)

-- The place where bytes are bad: they stop there before a description is whole, or something stands
-- behind one; and where bytes stand at the place, no description begins with those up to and with
-- the piece there.
pub record IsBadDescriptionAt (bytes : List ℕ) (at : ℕ) : Type 0 where
  pub stops : ((left : ℕ) × NoDescription bytes left × (at + left ≡ length bytes))
      ⊎ ((s : TableSchema) × (behind : List ℕ) × IsDescription s × (0 < length behind)
      × (bytes ≡ description_bytes s ++ behind) × (at ≡ length (description_bytes s)))
  pub no_further : at < length bytes → NoFurther bytes at
