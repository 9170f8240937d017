use Rattle.std.proofs.Common.{◌≡◌, ◌++◌}
use Rattle.std.specs.BTreeMap.{keys}
use Rattle.alt_disk.proofs.history.History.names.Given as goal

-- the numbers so far and those left are those of the map
abbrev pub invariant-loop-f : goal.invariant-loop-f
invariant-loop-f l = l.list.items ++ l.f-iterator ≡ keys l.self.files
