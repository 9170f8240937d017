-- One step of a walk over a range.
use Rattle.std.proofs.Common.{ℕ, List, refl, sym, subst, ◌∙◌}
use Rattle.alt_cells.specs.declared.row.RowCells.{RowCells}
use Rattle.alt_families.specs.Paying.{IsPaid}
use Rattle.alt_families.specs.Ranges.{Ahead}
use Rattle.alt_families.proofs.PayLaws.{paid_gives, paid_next, passed_first}
use Rattle.alt_families.proofs.StepLaws.{step_next, step_none, step_out}
use Rattle.alt_families.proofs.rows.go_on.Goals as goal

pub returns-then-is_out-clause-gives : goal.returns-then-is_out-clause-gives
returns-then-is_out-clause-gives g c told p bound n shows passes ahead =
    let a = g.D.Disk.state c.args.disk.now in
    let b = g.D.Disk.state c.next.new.disk in (
      refl,
      step_out (IsPaid p bound a c.args.walk.now c.args.forward)
          (IsPaid p bound b c.next.new.self c.args.forward) c.args.forward
          c.args.range.now.from c.args.range.now.to shows ahead c.in-Ok-Some.field-0
          (paid_gives p bound a b c.args.walk.now c.next.new.self c.args.forward
          c.in-Ok-Some.field-0 (c.in-Ok-Some.ensures.spends told))
          (c.in-Ok-Some.key, c.in-Ok-Some.row)
          c.in-Ok-Some.field-0-is (sym c.is_out.ensures ∙ c.if-is_out.true),
    )

pub returns-in_ok-give-in-Some-clause-gives : goal.returns-in_ok-give-in-Some-clause-gives
returns-in_ok-give-in-Some-clause-gives g c told p bound n shows passes ahead =
    let a = g.D.Disk.state c.args.disk.now in
    let b = g.D.Disk.state c.next.new.disk in
    let e : List ℕ × RowCells = (c.in-Ok-Some.key, c.in-Ok-Some.row) in
    let in_range = sym c.is_out.ensures ∙ c.if-is_out.false in
    let s = step_next (IsPaid p bound a c.args.walk.now c.args.forward)
    (IsPaid p bound b c.next.new.self c.args.forward) c.args.forward
    c.args.range.now.from c.args.range.now.to shows ahead c.in-Ok-Some.field-0
    (paid_gives p bound a b c.args.walk.now c.next.new.self c.args.forward
    c.in-Ok-Some.field-0 (c.in-Ok-Some.ensures.spends told)) e c.in-Ok-Some.field-0-is in_range
    (λ more are same left. paid_next p bound a b c.args.walk.now c.next.new.self c.args.forward
    c.in-Ok-Some.field-0 (c.in-Ok-Some.ensures.spends told) c.next.ensures.widths
    c.next.ensures.way e c.in-Ok-Some.field-0-is (sym (passes c.in-Ok-Some.key)
    ∙ passed_first c.args.forward c.args.range.now.from c.args.range.now.to e more shows n are same
    in_range) more left)
    _ (sym c.in_ok-shown-in-Ok-Some.ensures ∙ c.in-Some.is) in
    ((c.in-Ok-Some.key, c.in-Some.shown), s.0, s.1, c.in_ok-give-in-Some.ensures.ok, s.2)

pub returns-in-None-clause-gives : goal.returns-in-None-clause-gives
returns-in-None-clause-gives g c told p bound n shows passes ahead =
    let a = g.D.Disk.state c.args.disk.now in
    let b = g.D.Disk.state c.next.new.disk in
    let e : List ℕ × RowCells = (c.in-Ok-Some.key, c.in-Ok-Some.row) in
    let in_range = sym c.is_out.ensures ∙ c.if-is_out.false in
    let s = step_next (IsPaid p bound a c.args.walk.now c.args.forward)
    (IsPaid p bound b c.next.new.self c.args.forward) c.args.forward
    c.args.range.now.from c.args.range.now.to shows ahead c.in-Ok-Some.field-0
    (paid_gives p bound a b c.args.walk.now c.next.new.self c.args.forward
    c.in-Ok-Some.field-0 (c.in-Ok-Some.ensures.spends told)) e c.in-Ok-Some.field-0-is in_range
    (λ more are same left. paid_next p bound a b c.args.walk.now c.next.new.self c.args.forward
    c.in-Ok-Some.field-0 (c.in-Ok-Some.ensures.spends told) c.next.ensures.widths
    c.next.ensures.way e c.in-Ok-Some.field-0-is (sym (passes c.in-Ok-Some.key)
    ∙ passed_first c.args.forward c.args.range.now.from c.args.range.now.to e more shows n are same
    in_range) more left)
    _ (sym c.in_ok-shown-in-Ok-Some.ensures ∙ c.in-None.is) in (
      refl,
      subst (Ahead (IsPaid p bound b c.next.new.self c.args.forward)
          c.args.forward c.args.range.now.from c.args.range.now.to) (sym s.1) s.2,
    )

pub returns-in-Ok-None-clause-gives : goal.returns-in-Ok-None-clause-gives
returns-in-Ok-None-clause-gives g c told p bound n shows passes ahead =
    let a = g.D.Disk.state c.args.disk.now in
    let b = g.D.Disk.state c.next.new.disk in (
      refl,
      step_none (IsPaid p bound a c.args.walk.now c.args.forward)
          (IsPaid p bound b c.next.new.self c.args.forward) c.args.forward
          c.args.range.now.from c.args.range.now.to shows ahead c.in-Ok-None.field-0
          (paid_gives p bound a b c.args.walk.now c.next.new.self c.args.forward
          c.in-Ok-None.field-0 (c.in-Ok-None.ensures.spends told)) c.in-Ok-None.field-0-is,
    )
