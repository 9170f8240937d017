-- Where no index of any table is being built.
use Rattle.std.specs.Prelude.{◌≡◌, ℕ, List, Some, None}
use Rattle.std.specs.FinMap as map
use Rattle.alt_machine.specs.Building.{building_in}
use Rattle.alt_machine.specs.State.{Texts}
use Rattle.alt_schema.specs.declared.schema.TableSchema.{TableSchema}

-- no index of any of these tables is being built
abbrev pub NoneBuilds : Texts TableSchema → Type 0
NoneBuilds catalog = (name : List ℕ) (d : TableSchema) → map.get catalog name ≡ Some d → building_in d ≡ None
