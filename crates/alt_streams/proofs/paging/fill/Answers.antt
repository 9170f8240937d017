-- A piece more was read, or the last one.
use Rattle.std.proofs.Common.{sym, subst, ◌∙◌}
use Rattle.alt_machine.specs.Ops.GetRecords.{changes_from}
use Rattle.alt_streams.specs.private.Paged.{StepsPage}
use Rattle.alt_streams.proofs.Pieces.{ended_before, find_passed, read_ended, read_on}
use Rattle.alt_request.proofs.TablesLooking.{only_then, ready_only}
use Rattle.alt_streams.proofs.paging.fill.Goals as goal

pub step-requires-clause-ready : goal.step-requires-clause-ready
step-requires-clause-ready g c = ready_only c.pieces.invariant.only c.requires.ready

pub returns-then-is_full-clause-filled : goal.returns-then-is_full-clause-filled
returns-then-is_full-clause-filled g c s t shows most from stands at view h =
    ended_before t.description shows most from t (changes_from c.args.page.now.next t.changes)
    c.pieces.page (c.pieces.invariant.read s t shows most from stands at view h)
    (sym c.is_full.ensures.full ∙ c.if-is_full.true)

pub returns-then-not-more-clause-filled : goal.returns-then-not-more-clause-filled
returns-then-not-more-clause-filled g c s t shows most from stands at view h =
    let so = c.pieces.invariant.read s t shows most from stands at view h in
    read_ended t.description shows most from t (changes_from c.args.page.now.next t.changes)
    c.pieces.page c.step.new.page so
    (subst (StepsPage t.description shows most from c.step.new.page so.seen t
    (changes_from c.pieces.page.next t.changes)) c.if-not-more.true
    (c.in_ok-more.ensures.steps s t shows most from so.seen ((c.pieces.invariant.only.stays s).0 stands)
    at view so.read))

pub returns-in_err-more-clause-fault : goal.returns-in_err-more-clause-fault
returns-in_err-more-clause-fault g c s stands = find_passed c.from_residual.result
    c.in_err-more.field-0.0 c.from_residual.ensures
    (c.in_err-more.ensures.fault s ((c.pieces.invariant.only.stays s).0 stands))

pub pieces-preserved : goal.pieces-preserved
pieces-preserved g c = record {
  read = λ s t shows most from stands at view h.
      let so = c.pieces.invariant.read s t shows most from stands at view h in
      read_on t.description shows most from t (changes_from c.args.page.now.next t.changes)
      c.pieces.page c.step.new.page so
      (subst (StepsPage t.description shows most from c.step.new.page so.seen t
      (changes_from c.pieces.page.next t.changes)) c.if-not-more.false
      (c.in_ok-more.ensures.steps s t shows most from so.seen
      ((c.pieces.invariant.only.stays s).0 stands)
      at view so.read));
  only = only_then c.pieces.invariant.only c.step.ensures.only;
}

pub returns-in_err-more-clause-only : goal.returns-in_err-more-clause-only
returns-in_err-more-clause-only g c = only_then c.pieces.invariant.only c.step.ensures.only

pub returns-then-not-more-clause-only : goal.returns-then-not-more-clause-only
returns-then-not-more-clause-only g c = only_then c.pieces.invariant.only c.step.ensures.only
