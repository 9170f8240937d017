-- A family that shows a row, or none.
use Rattle.std.proofs.Common.{◌≡◌, ◌+◌, ◌∷◌, ℕ, rules, refl, sym, ap, subst, ◌∙◌, arith}
use Rattle.std.specs.BTreeMap.Range.{entries_between}
use Rattle.std.specs.Ordering.{nat_cmp}
use Rattle.std.specs.declared.ops.Bound.TheVariants.{Included, Unbounded}
use Rattle.alt_disk.specs.Disk.{DiskState}
use Rattle.alt_disk.proofs.Calls.{goes_refl, goes_on}
use Rattle.alt_disk.proofs.Runs.{quiet_start, quiet_then}
use Rattle.alt_disk.proofs.Staying.{tells_on}
use Rattle.alt_families.specs.declared.family.Family.{Family}
use Rattle.alt_families.proofs.FirstLaws.{AreFrom, FamilyList, among-before, among-from, families_from, lower_from, shown_among, shown_at, tree_shows, without_first}
use Rattle.alt_families.proofs.OpenLaws.{reads_still}
use Rattle.alt_families.proofs.first.first_shown.Goals as goal

pub loop-number-init : goal.loop-number-init
loop-number-init g c =
    let s : DiskState = g.D.Disk.state c.args.disk.now in
    let families = c.args.families.now in
    let between : c.range-ahead.result
    ≡ entries_between nat_cmp (Included c.args.family) Unbounded families.entries =
    c.range-ahead.ensures.between tt in
    record {
      rest = λ told rows reads f k low. tree_shows s families rows reads f k
          ∙ sym (ap (λ (l : FamilyList). shown_among (λ h. shown_at (rows h)) l f k) between
          ∙ among-from (λ h. shown_at (rows h)) families.entries c.args.family f k low);
      from = subst (AreFrom c.args.family) (sym between)
          (families_from families c.args.family c.range-ahead.ensures.ordered);
      quiet = λ told. quiet_start s;
      goes = goes_refl s;
      well = refl;
    }

pub loop-number-preserved : goal.loop-number-preserved
loop-number-preserved g c =
    let s : DiskState = g.D.Disk.state c.args.disk.now in
    let a : DiskState = g.D.Disk.state c.loop-number.disk in
    let b : DiskState = g.D.Disk.state c.first_key.new.disk in
    let next : FamilyList = c.next.new.self in
    let number = c.in-Some.number.now in
    let e : ℕ × Family = (number, c.in-Some._found.now) in
    let steps = c.in-Some.ensures.steps in
    let so_far = c.loop-number.invariant in
    let from : AreFrom c.args.family (e ∷ next) = subst (AreFrom c.args.family) steps so_far.from in
    record {
      rest = λ told rows reads f k low. so_far.rest told rows reads f k low
          ∙ ap (λ (l : FamilyList). shown_among (λ h. shown_at (rows h)) l f k) steps
          ∙ without_first (λ h. shown_at (rows h)) e next c.args.family f k from
          (rw c.in-Ok-None.field-0-is at c.in-Ok-None.ensures.first (tells_on s a so_far.goes told)
          (rows number) (reads_still s a _ (rows number) (so_far.quiet told) (reads number)));
      from = lower_from next c.args.family (number + 1) (omega (arith, from.0)) from.1;
      quiet = λ told. quiet_then s a b (so_far.quiet told)
          (c.first_key.ensures.quiet (tells_on s a so_far.goes told));
      goes = goes_on s a b so_far.goes c.first_key.ensures.goes;
      well = c.in-Ok-None.ensures.well (search rules) ∙ so_far.well;
    }

pub returns-in-Ok-Some-clause-first : goal.returns-in-Ok-Some-clause-first
returns-in-Ok-Some-clause-first g c told rows reads =
    let s : DiskState = g.D.Disk.state c.args.disk.now in
    let a : DiskState = g.D.Disk.state c.loop-number.disk in
    let number = c.in-Some.number.now in
    let next : FamilyList = c.next.new.self in
    let e : ℕ × Family = (number, c.in-Some._found.now) in
    let steps = c.in-Some.ensures.steps in
    let so_far = c.loop-number.invariant in
    let from : AreFrom c.args.family (e ∷ next) = subst (AreFrom c.args.family) steps so_far.from in
    let here = rw c.in-Ok-Some.field-0-is at c.in-Ok-Some.ensures.first
    (tells_on s a so_far.goes told) (rows number)
    (reads_still s a _ (rows number) (so_far.quiet told) (reads number)) in
    record {
      later = from.0;
      shows = here.shows;
      first = here.first;
      before = λ f k low less. so_far.rest told rows reads f k low
          ∙ ap (λ (l : FamilyList). shown_among (λ h. shown_at (rows h)) l f k) steps
          ∙ among-before (λ h. shown_at (rows h)) (e ∷ next) number f k (omega arith, from.1) less;
    }

pub returns-in-Err-clause-undamaged : goal.returns-in-Err-clause-undamaged
returns-in-Err-clause-undamaged g c told rows reads =
    let s : DiskState = g.D.Disk.state c.args.disk.now in
    let a : DiskState = g.D.Disk.state c.loop-number.disk in
    let number = c.in-Some.number.now in
    let so_far = c.loop-number.invariant in
    c.in-Err.ensures.undamaged (tells_on s a so_far.goes told) (rows number)
    (reads_still s a _ (rows number) (so_far.quiet told) (reads number))
