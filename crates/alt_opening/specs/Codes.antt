-- How the logic stores the values of a catalog: as trees of numbers that give them back.
use Rattle.std.specs.Coded.{Coded, coded_ℕ, coded_list}
use Rattle.std.specs.FinMap as map
use Rattle.alt_schema.specs.contracts.schema.TableSchema as schema
use Rattle.alt_schema.specs.declared.schema.TableSchema.{TableSchema}
use Rattle.alt_machine.specs.State.{Texts}

-- a map of descriptions by their names
abbrev pub coded_catalog : Coded (Texts TableSchema)
coded_catalog = map.code (coded_list coded_ℕ) schema.the_row.coded
