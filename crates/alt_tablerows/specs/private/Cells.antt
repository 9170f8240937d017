-- What is read of the cells of a description's row.
use Rattle.std.specs.Prelude.{◌≡◌, ℕ, List, T, false, true}
use Rattle.std.specs.FinMap.Entries.{below_all}
use Rattle.alt_cells.specs.Keys.{key_cmp}
use Rattle.alt_machine.specs.Building.{is_built_to}
use Rattle.alt_schema.specs.Bare.{is_whole}
use Rattle.alt_schema.specs.declared.schema.Built.{Built}
use Rattle.alt_schema.specs.declared.schema.TableSchema.{TableSchema}
use Rattle.alt_tablerows.specs.CatalogRows.{built_bytes}

-- a name stands before those of all these cells
abbrev pub AllBelow : List ℕ → List (List ℕ × List ℕ) → Type 0
AllBelow name cells = T (below_all key_cmp name cells)

-- Bytes tell how far an index of a table is built, which is up to a key of the table and not whole.
pub record TellsBuilt (d : TableSchema) (bytes : List ℕ) (built : Built) : Type 0 where
  pub part : is_whole built ≡ false
  pub to : is_built_to d built ≡ true
  pub told : bytes ≡ built_bytes d built
