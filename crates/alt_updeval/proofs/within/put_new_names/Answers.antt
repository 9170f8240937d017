-- Each group puts what is put at its name, and once all were seen no name is left.
use Rattle.std.proofs.Common.{◌≡◌, ◌<◌, length, arith, map}
use Rattle.alt_expr.specs.Updated.{put_here}
use Rattle.alt_updeval.specs.Shown.{way_of, put_new_if}
use Rattle.alt_updeval.proofs.Steps.{new_more, new_all}
use Rattle.alt_updeval.proofs.within.put_new_names.Goals as goal

pub loop-name-preserved : goal.loop-name-preserved
loop-name-preserved c =
    let same = c.deref-name-items.ensures.value in
    let lt : c.loop-name.name-index < length c.deref-name-items.result.now =
    omega (arith, c.loop-name-test.true) in
    let put : c.put_new.new.out ≡ put_new_if c.loop-name-item.result.0.now
    (put_here (map way_of c.loop-name-item.result.1.items)) c.loop-name.out =
    rw (← c.as_slice.ensures.value) c.in_ok-put_new.ensures in
    new_more (map way_of c.args.ways.now) c.args.old.now c.in_ok-by_new_name.field-0.items
    c.in_ok-by_new_name.ensures
    c.deref-name-items.result.now (rw same c.in_ok-named.ensures.rising)
    (rw same c.in_ok-named.ensures.groups) c.args.out.now
    c.loop-name.name-index c.loop-name-item.result c.loop-name.out c.put_new.new.out lt
    c.loop-name-item.is c.loop-name.invariant put

pub returns : goal.returns
returns c =
    let same = c.deref-name-items.ensures.value in
    new_all (map way_of c.args.ways.now) c.args.old.now c.in_ok-by_new_name.field-0.items
    c.in_ok-by_new_name.ensures
    c.deref-name-items.result.now (rw same c.in_ok-named.ensures.rising)
    (rw same c.in_ok-named.ensures.groups) c.args.out.now
    c.loop-name.name-index c.loop-name.out (omega (arith, c.loop-name-test.false))
    c.loop-name.invariant
