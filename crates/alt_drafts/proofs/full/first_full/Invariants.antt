-- None of those so far is full.
use Rattle.std.proofs.Common.{◌≤◌, ℕ, take}
use Rattle.std.specs.BTreeMap.{get}
use Rattle.std.specs.Ordering.{nat_cmp}
use Rattle.alt_manifest.specs.Versions.{IsIn}
use Rattle.alt_drafts.specs.InHand.{bytes_in_memory}
use Rattle.alt_drafts.proofs.full.first_full.Given as goal

abbrev pub invariant-loop-family : goal.invariant-loop-family
invariant-loop-family l = (other : ℕ) → IsIn (take l.family-index l.live) other
    → l.flush ≤ bytes_in_memory (get nat_cmp l.families other) → ⊥
