-- None of the names so far passes.
use Rattle.std.proofs.Common.{◌≡◌, false, map, take}
use Rattle.std.specs.List.{list_any}
use Rattle.alt_schema.specs.Indexes.{is_projected}
use Rattle.alt_views.proofs.changed.keeps_one.Given as goal

abbrev pub invariant-loop-name : goal.invariant-loop-name
invariant-loop-name l =
    list_any (is_projected l.schema l.index) (map (λ n. n.now) (take l.name-index l.names)) ≡ false
