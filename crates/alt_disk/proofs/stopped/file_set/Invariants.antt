use Rattle.std.proofs.Common.{◌≡◌, ◌<◌, ℕ, slice_index_or, true}
use Rattle.std.specs.BTreeSet.{contains}
use Rattle.std.specs.Ordering.{nat_cmp}
use Rattle.alt_disk.specs.declared.made.Made.{Made}
use Rattle.alt_disk.proofs.stopped.file_set.Given as goal

-- the files of the calls so far are in the set
abbrev pub invariant-loop-made : goal.invariant-loop-made
invariant-loop-made l = (k : ℕ) (d : Made) → k < l.made-index
    → contains nat_cmp l.set (slice_index_or l.calls k d).file ≡ true
