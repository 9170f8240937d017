-- The descriptions that may take the place of a table's: those with one global index more, of the next family, or with one less.
use Rattle.std.specs.Prelude.{◌≡◌, ◌+◌, ◌⊎◌, ℕ, Bool, List, length, nat_lt, if◌then◌else◌}
use Rattle.alt_schema.specs.Altered.{with_index, without_index}
use Rattle.alt_schema.specs.declared.schema.KeyAttr.{KeyAttr}
use Rattle.alt_schema.specs.declared.schema.TableSchema.{TableSchema}
use Rattle.alt_schema.specs.declared.stated.StatedIndex.{StatedIndex}
use Rattle.alt_machine.specs.Outcomes.{Wants, a_family, a_number}

-- one has an index of that family more
pub record HasOneMoreIndex (family : ℕ) (d e : TableSchema) : Type 0 where
  pub definitions : List KeyAttr
  pub index : StatedIndex
  pub is : e ≡ with_index d definitions family index

-- one has an index of a name less
pub record HasLess (d e : TableSchema) : Type 0 where
  pub name : List ℕ
  pub is : e ≡ without_index d name

-- one may take the place of the other
abbrev pub MayAlter : ℕ → TableSchema → TableSchema → Type 0
MayAlter family d e = HasOneMoreIndex family d e ⊎ HasLess d e

-- there is an index more
abbrev pub has_more : TableSchema → TableSchema → Bool
has_more d e = nat_lt (length d.globals) (length e.globals)

-- the next family then
abbrev pub family_left : ℕ → TableSchema → TableSchema → ℕ
family_left family d e = if has_more d e then family + 1 else family

-- what the write wants
abbrev pub alter_wants : TableSchema → TableSchema → Wants
alter_wants d e = if has_more d e then a_family else a_number
