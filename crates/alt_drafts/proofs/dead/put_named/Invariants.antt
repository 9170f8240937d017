-- The families so far.
use Rattle.std.proofs.Common.{ℕ, take}
use Rattle.std.specs.Prelude.{◌⊎◌}
use Rattle.alt_layout.specs.Families.{files_of}
use Rattle.alt_manifest.specs.Versions.{IsIn, numbers_of, row_files}
use Rattle.alt_drafts.specs.Drafting.{AreDead}
use Rattle.alt_drafts.proofs.dead.put_named.Given as goal

abbrev pub invariant-loop-family : goal.invariant-loop-family
invariant-loop-family l = record {
  dead : AreDead l.live l.dead.items;
  named : (family : ℕ) → IsIn (numbers_of (take l.family-index l.families)) family
      → IsIn l.live family ⊎ IsIn l.dead.items family;
  left : (f : ℕ) → IsIn l.files.items f
      → IsIn l.fn.files.items f ⊎ IsIn (row_files l.families) f;
  files : (family : ℕ) → (IsIn l.live family → ⊥) → (f : ℕ)
      → IsIn (files_of (take l.family-index l.families) family) f → IsIn l.files.items f;
  kept : (f : ℕ) → IsIn l.fn.files.items f → IsIn l.files.items f;
}
