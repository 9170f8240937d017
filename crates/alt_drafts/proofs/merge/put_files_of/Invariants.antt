-- The families so far.
use Rattle.std.proofs.Common.{ℕ, take}
use Rattle.alt_layout.specs.Families.{files_of}
use Rattle.alt_manifest.specs.Versions.{IsIn}
use Rattle.alt_drafts.proofs.merge.put_files_of.Given as goal

abbrev pub invariant-loop-found : goal.invariant-loop-found
invariant-loop-found l = record {
  own : (f : ℕ) → IsIn (files_of (take l.found-index l.families) l.family) f
      → IsIn l.files.items f;
  kept : (f : ℕ) → IsIn l.fn.files.items f → IsIn l.files.items f;
}
