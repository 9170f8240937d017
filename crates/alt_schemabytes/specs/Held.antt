-- Descriptions as the program can hold them: those whose bytes are read again.
use Rattle.std.specs.Prelude.{◌≡◌, ℕ, ◌<◌, ◌^◌, List, length, Option, Some, None, Result, Ok, Err}
use Rattle.std.specs.List.{AllByRecursion}
use Rattle.std.specs.Str.{IsUtf8}
use Rattle.alt_fields.specs.declared.bytes.BytesFault.{BytesFault}
use Rattle.alt_fields.specs.declared.bytes.BytesFault.TheVariants.{Bad, NoMemory as NoRoom}
use Rattle.alt_schema.specs.Bare.{bare}
use Rattle.alt_schema.specs.Described.{IsDescription}
use Rattle.alt_schemabytes.specs.Format.{description_bytes}
use Rattle.alt_schema.specs.declared.schema.Built.{Built}
use Rattle.alt_schema.specs.declared.schema.Built.TheVariants.{Whole, UpTo}
use Rattle.alt_schema.specs.declared.schema.Projection.{Projection}
use Rattle.alt_schema.specs.declared.schema.Projection.TheVariants.{All, KeysOnly, Include}
use Rattle.alt_schema.specs.declared.schema.IndexSchema.{IndexSchema}
use Rattle.alt_schema.specs.declared.schema.TableSchema.{TableSchema}
use Rattle.alt_value.specs.Values.{IsItemOfValues}

-- a text of the program: UTF-8, of a length that 8 bytes tell
abbrev pub IsHeldText : List ℕ → Type 0
IsHeldText s = (length s < 2 ^ 64) × IsUtf8 s

-- where there is one, it is such a one
abbrev pub Where : {A : Type 0} → (A → Type 0) → Option A → Type 0
Where P None = Unit {0}
Where P (Some x) = P x

-- names in a list of a length that 8 bytes tell
abbrev pub IsHeldList : List (List ℕ) → Type 0
IsHeldList names = (length names < 2 ^ 64) × AllByRecursion IsHeldText names

-- the names of a projection are such texts
abbrev pub IsHeldProjection : Projection → Type 0
IsHeldProjection All = Unit {0}
IsHeldProjection KeysOnly = Unit {0}
IsHeldProjection (Include names) = IsHeldList names

-- the key up to which it is built is an item that a program can hold
abbrev pub IsHeldBuilt : Built → Type 0
IsHeldBuilt Whole = Unit {0}
IsHeldBuilt (UpTo key) = Where IsItemOfValues key

-- an index of such texts, with a family of 4 bytes
pub record IsHeldIndex (i : IndexSchema) : Type 0 where
  pub name : IsHeldText i.name
  pub family : i.family < 2 ^ 32
  pub hash : IsHeldText i.hash.name
  pub range : Where (λ k. IsHeldText k.name) i.range
  pub projection : IsHeldProjection i.projection
  pub built : IsHeldBuilt i.built

-- a description as the program can hold it: texts are UTF-8, and numbers, lengths and counts fit
pub record IsHeld (s : TableSchema) : Type 0 where
  pub name : IsHeldText s.name
  pub created : s.created < 2 ^ 64
  pub number : s.number < 2 ^ 64
  pub family : s.family < 2 ^ 32
  pub stream_family : Where (λ f. f < 2 ^ 32) s.stream_family
  pub definitions : (length s.definitions < 2 ^ 64)
      × AllByRecursion (λ d. IsHeldText d.name) s.definitions
  pub hash : IsHeldText s.hash.name
  pub range : Where (λ k. IsHeldText k.name) s.range
  pub locals : (length s.locals < 2 ^ 64) × AllByRecursion IsHeldIndex s.locals
  pub globals : (length s.globals < 2 ^ 64) × AllByRecursion IsHeldIndex s.globals
  pub ttl : Where IsHeldText s.ttl

-- bytes are read as what they tell of that description, unless memory is wanting
abbrev pub IsReadAs : TableSchema → Result TableSchema BytesFault → Type 0
IsReadAs s (Ok t) = t ≡ bare s
IsReadAs s (Err (Bad at)) = ⊥
IsReadAs s (Err NoRoom) = Unit {0}

-- two descriptions that have the same bytes differ at most in what stands beside these
abbrev pub OneSpelling : Type 0
OneSpelling =
    (s t : TableSchema) → IsDescription s → IsHeld s → IsDescription t → IsHeld t
    → description_bytes s ≡ description_bytes t → bare s ≡ bare t
