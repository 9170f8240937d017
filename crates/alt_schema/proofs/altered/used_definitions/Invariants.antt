-- Those so far that are used are copied.
use Rattle.std.proofs.Common.{◌≡◌, take}
use Rattle.std.specs.List.{filter}
use Rattle.alt_description.specs.Indexes.{is_used}
use Rattle.alt_schema.proofs.altered.used_definitions.Given as goal

abbrev pub invariant-loop-definition : goal.invariant-loop-definition
invariant-loop-definition l = l.list
    ≡ filter (λ a. is_used l.s a.name) (take l.definition-index l.s.definitions)
