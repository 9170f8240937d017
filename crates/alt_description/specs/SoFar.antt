-- How far the indexes of a description are built.
use Rattle.std.specs.Prelude.{◌==◌, ℕ, not, map, if◌then◌else◌}
use Rattle.alt_description.specs.Bare.{is_whole}
use Rattle.alt_description.specs.declared.schema.Built.{Built}
use Rattle.alt_description.specs.declared.schema.IndexSchema.{IndexSchema}
use Rattle.alt_description.specs.declared.schema.TableSchema.{TableSchema}

-- an index is built so far, if it is being built
abbrev pub index_so_far : Built → IndexSchema → IndexSchema
index_so_far built i = if not (is_whole i.built) then record i { built = built } else i

-- and so is that of a description
abbrev pub schema_so_far : Built → TableSchema → TableSchema
schema_so_far built d = record d { globals = map (index_so_far built) d.globals }

-- an index is built so far, if it has that family
abbrev pub index_of_family : ℕ → Built → IndexSchema → IndexSchema
index_of_family family built i = if i.family == family then record i { built = built } else i

-- and so is that of a description
abbrev pub schema_of_family : ℕ → Built → TableSchema → TableSchema
schema_of_family family built d = record d { globals = map (index_of_family family built) d.globals }
