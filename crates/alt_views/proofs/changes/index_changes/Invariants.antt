-- The changes of the indexes so far.
use Rattle.std.proofs.Common.{◌≡◌, ◌++◌, option_map, take}
use Rattle.std.specs.List.{flat_map}
use Rattle.alt_schema.specs.Indexes.{indexes}
use Rattle.alt_views.specs.IndexRows.{built_row_changes}
use Rattle.alt_views.proofs.changes.index_changes.Given as goal

abbrev pub invariant-loop-number : goal.invariant-loop-number
invariant-loop-number l = l.batch ≡ l.fn.batch ++ flat_map
    (built_row_changes l.schema (option_map (λ i. i.now) l.old) (option_map (λ i. i.now) l.new))
    (take l.number (indexes l.schema))
