-- A batch is a list of one.
use Rattle.std.proofs.Common.{◌≡◌, ◌+◌, ◌-◌, ◌^◌, List, OnOk, IfErr, Err, length, max, ap, subst, ◌∙◌, arith}
use Rattle.alt_cells.specs.declared.batch.RowChange.{RowChange}
use Rattle.alt_disk.specs.Disk.{IsTrusted}
use Rattle.alt_disk.specs.Runs.{Spans}
use Rattle.alt_layout.specs.Layout.{Layout}
use Rattle.alt_layout.specs.Writes.{with_writes}
use Rattle.alt_hand.specs.InHand.{BeforeOrAll, IsSpentBy, HandStandsForLayout, batch_writes, next_of}
use Rattle.alt_drafts.specs.declared.fault.EngineFault.TheVariants.{Spent}
use Rattle.alt_hand.proofs.hand.Hand.apply.Goals as goal

pub apply_all-requires-clause-some : goal.apply_all-requires-clause-some
apply_all-requires-clause-some g c =
    let one = ap (λ (bs : List (List RowChange)). length bs) c.from_ref.ensures.value in
    omega (arith, one)

pub returns-clause-ok : goal.returns-clause-ok
returns-clause-ok g c = subst (λ (bs : List (List RowChange)). OnOk c.apply_all.result
    (IsTrusted (g.D.Disk.state c.args.disk.now) → (l : Layout)
    → HandStandsForLayout (g.D.Disk.state c.args.disk.now) c.args.self.now l
    → HandStandsForLayout (g.D.Disk.state c.apply_all.new.disk) c.apply_all.new.self
    (with_writes l (batch_writes l bs)))) c.from_ref.ensures.value c.apply_all.ensures.ok

pub returns-clause-next : goal.returns-clause-next
returns-clause-next g c = subst (λ (bs : List (List RowChange)). OnOk c.apply_all.result
    (next_of c.apply_all.new.self ≡ next_of c.args.self.now + length bs))
    c.from_ref.ensures.value c.apply_all.ensures.next

pub returns-clause-any_moment : goal.returns-clause-any_moment
returns-clause-any_moment g c = subst (λ (bs : List (List RowChange)).
    IsTrusted (g.D.Disk.state c.args.disk.now) → (l : Layout)
    → HandStandsForLayout (g.D.Disk.state c.args.disk.now) c.args.self.now l
    → Spans (g.D.Disk.state c.args.disk.now) (g.D.Disk.state c.apply_all.new.disk) (λ f. Unit {0})
    (BeforeOrAll l bs)) c.from_ref.ensures.value c.apply_all.ensures.any_moment

pub returns-clause-spent_number : goal.returns-clause-spent_number
returns-clause-spent_number g c more =
    let one = ap (λ (bs : List (List RowChange)). length bs) c.from_ref.ensures.value in
    c.apply_all.ensures.spent_number (omega (arith, one, more))
    ∙ ap (λ n. Err (Spent n))
    (let most : max (next_of c.args.self.now) (2 ^ 62 - 1) ≡ next_of c.args.self.now =
    omega (arith, more) in most)

pub returns-clause-spent_file : goal.returns-clause-spent_file
returns-clause-spent_file g c few form last =
    let one = ap (λ (bs : List (List RowChange)). length bs) c.from_ref.ensures.value in
    c.apply_all.ensures.spent_file (omega (arith, one, few)) form last

pub returns-clause-cause_spent : goal.returns-clause-cause_spent
returns-clause-cause_spent g c = subst (λ (bs : List (List RowChange)). IfErr c.apply_all.result
    (IsSpentBy c.args.self.now (length bs))) c.from_ref.ensures.value c.apply_all.ensures.cause_spent
