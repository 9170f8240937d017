-- Each group past the end puts what is put there.
use Rattle.std.proofs.Common.{◌≡◌, ◌<◌, ◌++◌, length, arith, map}
use Rattle.std.specs.Prelude.{option_to_list}
use Rattle.alt_expr.specs.Updated.{put_here}
use Rattle.alt_updeval.specs.Shown.{way_of}
use Rattle.alt_updeval.proofs.Steps.{past_more, past_all}
use Rattle.alt_updeval.proofs.within.push_past.Goals as goal

pub loop-behind-preserved : goal.loop-behind-preserved
loop-behind-preserved c =
    let lt : c.loop-behind.behind-index < length c.deref-behind-items.result.now =
    omega (arith, c.loop-behind-test.true) in
    let put : c.push_put.new.out ≡ c.loop-behind.out
    ++ option_to_list (put_here (map way_of c.loop-behind-item.result.1.items)) =
    rw (← c.as_slice.ensures.value) c.in_ok-push_put.ensures in
    past_more c.deref-behind-items.result.now c.loop-behind.behind-index c.loop-behind-item.result
    c.args.out.now c.loop-behind.out c.push_put.new.out lt c.loop-behind-item.is
    c.loop-behind.invariant put

pub returns : goal.returns
returns c =
    let same = c.deref-behind-items.ensures.value in
    past_all (map way_of c.args.ways.now) c.args.count c.in_ok-past_end.field-0.items
    c.in_ok-past_end.ensures
    c.deref-behind-items.result.now (rw same c.in_ok-indexed.ensures.rising)
    (rw same c.in_ok-indexed.ensures.groups)
    c.loop-behind.behind-index c.args.out.now c.loop-behind.out
    (omega (arith, c.loop-behind-test.false)) c.loop-behind.invariant
