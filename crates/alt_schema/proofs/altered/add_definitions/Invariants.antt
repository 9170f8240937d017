-- Those so far whose names are lacked stand behind the list.
use Rattle.std.proofs.Common.{◌≡◌, ◌++◌, not, take}
use Rattle.std.specs.List.{filter}
use Rattle.alt_schema.specs.Rules.{is_defined}
use Rattle.alt_schema.proofs.altered.add_definitions.Given as goal

abbrev pub invariant-loop-definition : goal.invariant-loop-definition
invariant-loop-definition l = l.list
    ≡ l.fn.list ++ filter (λ a. not (is_defined l.those a.name)) (take l.definition-index l.more)
