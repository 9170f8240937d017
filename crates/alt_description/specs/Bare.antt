-- What stands beside a description's bytes: how far each index is built, and the attribute for time to live (docs/formats/table-rows.md).
use Rattle.std.specs.Prelude.{Bool, true, false, map, None}
use Rattle.alt_description.specs.declared.schema.Built.{Built}
use Rattle.alt_description.specs.declared.schema.Built.TheVariants.{Whole, UpTo}
use Rattle.alt_description.specs.declared.schema.IndexSchema.{IndexSchema}
use Rattle.alt_description.specs.declared.schema.TableSchema.{TableSchema}

-- it is built of every item
abbrev pub is_whole : Built → Bool
is_whole Whole = true
is_whole (UpTo key) = false

-- an index, as if it were whole
abbrev pub as_whole : IndexSchema → IndexSchema
as_whole i = record i { built = Whole }

-- what the bytes tell: the description with each index whole, and without a time to live
abbrev pub bare : TableSchema → TableSchema
bare d = record d {
  locals = map as_whole d.locals;
  globals = map as_whole d.globals;
  ttl = None;
}
