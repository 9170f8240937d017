-- The numbers so far.
use Rattle.std.proofs.Common.{◌≡◌, ℕ, take}
use Rattle.std.specs.Prelude.{◌⊎◌}
use Rattle.std.specs.BTreeMap.{get}
use Rattle.std.specs.FinMap.{empty}
use Rattle.std.specs.Ordering.{nat_cmp}
use Rattle.alt_families.specs.Families.{rows_in}
use Rattle.alt_manifest.specs.Versions.{IsIn}
use Rattle.alt_drafts.specs.Drafting.{AreDead}
use Rattle.alt_drafts.proofs.dead.put_hidden.Given as goal

abbrev pub invariant-loop-number : goal.invariant-loop-number
invariant-loop-number l = record {
  dead : AreDead l.live l.dead.items;
  more : (family : ℕ) → IsIn l.fn.dead.items family → IsIn l.dead.items family;
  rest : (family : ℕ) → IsIn (take l.number-index l.numbers) family → IsIn l.live family
      ⊎ (IsIn l.dead.items family ⊎ (rows_in (get nat_cmp l.families family) ≡ empty));
}
