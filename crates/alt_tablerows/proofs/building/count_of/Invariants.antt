-- As many as were met have the family.
use Rattle.std.proofs.Common.{◌≡◌, ◌==◌, take}
use Rattle.std.specs.List.{count_by}
use Rattle.alt_schema.specs.declared.schema.IndexSchema.{IndexSchema}
use Rattle.alt_tablerows.proofs.building.count_of.Given as goal

abbrev pub invariant-loop-index : goal.invariant-loop-index
invariant-loop-index l = l.count
    ≡ count_by (λ (i : IndexSchema). i.family == l.family) (take l.index-index l.indexes)
