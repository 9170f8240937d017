-- The families of a table.
use Rattle.std.specs.Prelude.{◌≢◌, AllPairs}
use Rattle.alt_machine.specs.State.{families_of}
use Rattle.alt_schema.specs.declared.schema.TableSchema.{TableSchema}

-- no two of them are one
abbrev pub HasOwnFamilies : TableSchema → Type 0
HasOwnFamilies d = AllPairs (λ f g. f ≢ g) (families_of d)
