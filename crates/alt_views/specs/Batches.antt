-- When changes of index rows may join a batch.
use Rattle.std.specs.Prelude.{◌≡◌, ◌≢◌, false, List, map, All, AllPairs}
use Rattle.alt_cells.specs.declared.batch.RowChange.{RowChange}
use Rattle.alt_cells.specs.Batches.{has_row}
use Rattle.alt_schema.specs.Indexes.{indexes}
use Rattle.alt_schema.specs.declared.schema.TableSchema.{TableSchema}

-- a batch has no change of the rows of these changes
abbrev pub AreNew : List RowChange → List RowChange → Type 0
AreNew batch changes = All (λ c. has_row batch c.family c.key ≡ false) changes

-- no two indexes have one family
abbrev pub AreOfOwnFamilies : TableSchema → Type 0
AreOfOwnFamilies d = AllPairs (λ f g. f ≢ g) (map (λ i. i.family) (indexes d))
