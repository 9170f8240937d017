-- Those so far that have other names are copied.
use Rattle.std.proofs.Common.{◌≡◌, not, take}
use Rattle.std.specs.List.{filter}
use Rattle.alt_description.specs.Indexes.{is_named}
use Rattle.alt_schema.proofs.altered.others.Given as goal

abbrev pub invariant-loop-index : goal.invariant-loop-index
invariant-loop-index l = l.list
    ≡ filter (λ i. not (is_named l.name i)) (take l.index-index l.indexes)
