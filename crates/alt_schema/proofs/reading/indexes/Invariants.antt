-- What was read so far, and what is to come.
use Rattle.std.proofs.Common.{◌≡◌, ◌++◌, drop}
use Rattle.serde_json.specs.View.{items_view}
use Rattle.alt_schema.specs.Stated.{stated_by, index_of}
use Rattle.alt_schema.proofs.reading.indexes.Given as goal

abbrev pub invariant-loop-value : goal.invariant-loop-value
invariant-loop-value l = l.list ++ stated_by index_of (items_view (drop l.value-index l.values))
    ≡ stated_by index_of (items_view l.values)
