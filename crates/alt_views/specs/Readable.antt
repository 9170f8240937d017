-- Which indexes of a table are read.
use Rattle.std.specs.Prelude.{◌≡◌, ◌<◌, ℕ, true, length, Some}
use Rattle.alt_machine.specs.Sources.{index_at}
use Rattle.alt_schema.specs.Bare.{is_whole}
use Rattle.alt_schema.specs.Indexes.{indexes}
use Rattle.alt_schema.specs.declared.schema.IndexSchema.{IndexSchema}
use Rattle.alt_schema.specs.declared.schema.TableSchema.{TableSchema}

-- An index can be read: it is one of the table's, and whole.
abbrev pub CanRead : TableSchema → ℕ → Type 0
CanRead d number = (number < length (indexes d))
    × ((i : IndexSchema) → index_at d (Some number) ≡ Some i → is_whole i.built ≡ true)
