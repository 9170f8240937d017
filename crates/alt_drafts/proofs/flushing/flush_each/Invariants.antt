-- The families so far are flushed.
use Rattle.std.proofs.Common.{◌≡◌, ◌≤◌, ◌+◌, ℕ, List, [], take, drop}
use Rattle.std.specs.BTreeMap.{get}
use Rattle.std.specs.Ordering.{nat_cmp}
use Rattle.alt_disk.specs.Disk.{IsTrusted, Goes}
use Rattle.alt_disk.specs.Runs.{Spans}
use Rattle.alt_flush.specs.Drafts.{From}
use Rattle.alt_flush.specs.Laws.{DropsOnly}
use Rattle.alt_layout.specs.Families.{files_of}
use Rattle.alt_layout.specs.Layout.{Layout}
use Rattle.alt_manifest.specs.Versions.{IsIn}
use Rattle.alt_writes.specs.Writes.{Write}
use Rattle.alt_drafts.specs.Carrying.{CarriesDraft}
use Rattle.alt_drafts.specs.Drafting.{MemoryIsFlushed, Makes, files_needed}
use Rattle.alt_drafts.proofs.flushing.flush_each.Given as goal

abbrev pub invariant-loop-family : goal.invariant-loop-family
invariant-loop-family g l = record {
  makes : IsTrusted (g.D.Disk.state l.fn.disk) → (parts : List (List Write)) (m : Layout)
      → Makes (g.D.Disk.state l.fn.disk) l.fn.draft l.fn.families parts m
      → Makes (g.D.Disk.state l.disk) l.draft l.families parts m;
  carries : IsTrusted (g.D.Disk.state l.fn.disk) → (parts : List (List Write)) (m : Layout)
      → Makes (g.D.Disk.state l.fn.disk) l.fn.draft l.fn.families parts m → (family : ℕ)
      → CarriesDraft (g.D.Disk.state l.fn.disk) (g.D.Disk.state l.disk) l.fn.draft l.draft
      (get nat_cmp l.fn.families family) (get nat_cmp l.families family) family;
  file : l.draft.next_file + files_needed l.families (drop l.family-index l.live)
      ≡ l.fn.draft.next_file + files_needed l.fn.families l.live;
  low : l.fn.draft.next_file ≤ l.draft.next_file;
  segments : l.draft.segments ≡ l.fn.draft.segments;
  flushed : (family : ℕ) → IsIn (take l.family-index l.live) family
      → MemoryIsFlushed (get nat_cmp l.fn.families family) (get nat_cmp l.families family);
  others : (family : ℕ) → (IsIn (take l.family-index l.live) family → ⊥)
      → get nat_cmp l.families family ≡ get nat_cmp l.fn.families family;
  drops : DropsOnly l.fn.draft l.draft [];
  apart : (family : ℕ) → (IsIn (take l.family-index l.live) family → ⊥)
      → files_of l.draft.families family ≡ files_of l.fn.draft.families family;
  spans : IsTrusted (g.D.Disk.state l.fn.disk)
      → Spans (g.D.Disk.state l.fn.disk) (g.D.Disk.state l.disk) (From l.fn.draft.next_file)
      (λ t image. Unit {0});
  goes : Goes (g.D.Disk.state l.fn.disk) (g.D.Disk.state l.disk);
  well : (g.D.Disk.state l.disk).faults ≡ (g.D.Disk.state l.fn.disk).faults;
}
