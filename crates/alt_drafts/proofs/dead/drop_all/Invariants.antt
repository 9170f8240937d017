-- The families so far are left out.
use Rattle.std.proofs.Common.{◌≡◌, ℕ, List, take, drop}
use Rattle.std.specs.Prelude.{None}
use Rattle.std.specs.BTreeMap.{get}
use Rattle.std.specs.Ordering.{nat_cmp}
use Rattle.alt_disk.specs.Disk.{DiskState}
use Rattle.alt_layout.specs.Layout.{Layout}
use Rattle.alt_manifest.specs.Versions.{IsIn}
use Rattle.alt_writes.specs.Writes.{Write}
use Rattle.alt_drafts.specs.Drafting.{AreDead, Empties, Makes, without_families}
use Rattle.alt_drafts.proofs.dead.drop_all.Given as goal

abbrev pub invariant-loop-family : goal.invariant-loop-family
invariant-loop-family l = record {
  makes : (s : DiskState) (parts : List (List Write)) (m : Layout) (live : List ℕ)
      → AreDead live l.dead → Makes s l.fn.draft l.fn.families parts m
      → (n : Layout) × Makes s l.draft l.families parts n × Empties live m n;
  version : without_families l.draft (drop l.family-index l.dead) ≡ without_families l.fn.draft l.dead;
  gone : (family : ℕ) → IsIn (take l.family-index l.dead) family
      → get nat_cmp l.families family ≡ None;
  others : (family : ℕ) → (IsIn (take l.family-index l.dead) family → ⊥)
      → get nat_cmp l.families family ≡ get nat_cmp l.fn.families family;
}
