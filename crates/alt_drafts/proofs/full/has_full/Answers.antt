-- None of all is full.
use Rattle.std.proofs.Common.{◌<◌, subst, sym, arith}
use Rattle.std.specs.List.{AllByRecursion}
use Rattle.std.specs.Ordering.{is_eq, nat_cmp}
use Rattle.alt_families.specs.declared.family.Family.{Family}
use Rattle.alt_drafts.proofs.FullLaws.{found_below}
use Rattle.alt_drafts.proofs.full.has_full.Goals as goal

pub returns : goal.returns
returns c none family =
    let flush = c.args.flush in
    let apart = c.if-flush-eq0.false in
    found_below (λ k. is_eq (nat_cmp family k)) c.args.families.now.entries flush
    (omega (arith, apart))
    (c.loop-family.invariant (subst (AllByRecursion (λ (f : Family). f.table.1 < flush))
    (sym c.in-None.ensures.steps.0) tt))
