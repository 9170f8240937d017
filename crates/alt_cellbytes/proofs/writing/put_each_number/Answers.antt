-- A member more is written; past the last all are.
use Rattle.alt_decimal.specs.Spelled.{spelled}
use Rattle.alt_base.proofs.Prefixes.{on_err_holds}
use Rattle.alt_cellbytes.proofs.OneMore.{wrote_more, wrote_whole, begins}
use Rattle.alt_cellbytes.proofs.writing.put_each_number.Goals as goal

pub returns-in_err-put_spelled-clause-begun : goal.returns-in_err-put_spelled-clause-begun
returns-in_err-put_spelled-clause-begun c = on_err_holds c.from_residual.result
    (begins c.args.out.now.items _ c.loop-place.out.items c.put_spelled.new.out.items
    c.loop-place.invariant c.in_err-put_spelled.ensures.begun)

pub loop-place-preserved : goal.loop-place-preserved
loop-place-preserved c = wrote_more spelled c.args.set.now c.loop-place.place c.in-Some.number
    c.args.out.now.items c.loop-place.out.items c.put_spelled.new.out.items c.loop-place.invariant
    c.in-Some.ensures.member c.in_ok-put_spelled.ensures.appended

pub returns-in_default-clause-appended : goal.returns-in_default-clause-appended
returns-in_default-clause-appended c = wrote_whole spelled c.args.set.now c.loop-place.place
    c.args.out.now.items c.loop-place.out.items c.loop-place.invariant c.in_default.ensures.member
