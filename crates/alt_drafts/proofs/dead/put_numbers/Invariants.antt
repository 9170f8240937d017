-- The numbers so far and those left are all.
use Rattle.std.proofs.Common.{◌≡◌, ◌++◌}
use Rattle.std.specs.BTreeMap.{keys}
use Rattle.alt_drafts.proofs.dead.put_numbers.Given as goal

abbrev pub invariant-loop-family : goal.invariant-loop-family
invariant-loop-family l = l.out.items ++ l.family-iterator ≡ keys l.families
