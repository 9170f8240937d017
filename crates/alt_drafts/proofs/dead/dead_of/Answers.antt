-- What is in hand is among the numbers.
use Rattle.std.proofs.Common.{◌≡◌, inr, ⊎_elim, List, ℕ, subst, sym}
use Rattle.std.specs.BTreeMap.{get}
use Rattle.std.specs.FinMap.{empty}
use Rattle.std.specs.Ordering.{nat_cmp}
use Rattle.alt_families.specs.Families.{rows_in}
use Rattle.alt_manifest.specs.Versions.{IsIn}
use Rattle.alt_drafts.proofs.DeadLaws.{in_hand_or_none}
use Rattle.alt_drafts.proofs.dead.dead_of.Goals as goal

pub returns-clause-rest : goal.returns-clause-rest
returns-clause-rest c family =
    let numbers = c.put_numbers.new.out.items in
    ⊎_elim (λ (there : IsIn numbers family). c.in_ok-put_hidden.ensures.rest family
    (subst (λ (xs : List ℕ). IsIn xs family) (sym c.as_slice-2.ensures.value) there))
    (λ (none : rows_in (get nat_cmp c.args.families.now family) ≡ empty). inr (inr none))
    (in_hand_or_none c.args.families.now numbers family (c.in_ok-put_numbers.ensures family))
