-- All are below where those to come are.
use Rattle.std.proofs.Common.{◌<◌}
use Rattle.std.specs.BTreeMap.{values}
use Rattle.std.specs.List.{AllByRecursion}
use Rattle.alt_families.specs.declared.family.Family.{Family}
use Rattle.alt_drafts.proofs.full.has_full.Given as goal

abbrev pub invariant-loop-family : goal.invariant-loop-family
invariant-loop-family l =
    AllByRecursion (λ (f : Family). f.table.1 < l.flush) l.family-iterator
    → AllByRecursion (λ (f : Family). f.table.1 < l.flush) (values l.families)
