-- One more is put; at the end nothing is left.
use Rattle.std.proofs.Common.{◌≤◌, ◌++◌, sym, ap, subst, ◌∙◌, List, take, length}
use Rattle.std.specs.Vec.Iter.{into_iter_items}
use Rattle.alt_base.proofs.Lists.{length-zero}
use Rattle.alt_machine.specs.declared.Standing.{Standing}
use Rattle.alt_machine.specs.declared.TheConstants.{MOST_EXPIRED}
use Rattle.alt_ttl.specs.private.Searched.{standing_of, standings_of}
use Rattle.alt_ttl.proofs.Fronts.{take_few, take_step, take_whole}
use Rattle.alt_ttl.proofs.standings.put_expired.Goals as goal

pub loop-item-preserved : goal.loop-item-preserved
loop-item-preserved c =
    let st = standings_of c.args.schema.now c.args.name.now c.args.moment in
    let old : List Standing = c.loop-item.out.items in
    let rest = into_iter_items c.next.new.self in
    let one = standing_of c.args.schema.now c.args.name.now c.args.moment c.in-Some.item in
    let so = c.loop-item.invariant in
    record {
      few = subst (λ (l : List Standing). length l ≤ MOST_EXPIRED) (sym c.in_ok-put_one.ensures.put)
          (take_few MOST_EXPIRED (old ++ one));
      put = take_step MOST_EXPIRED old one (st rest) c.put_one.new.out.items
          c.in_ok-put_one.ensures.put
          ∙ ap (λ l. take MOST_EXPIRED (old ++ st l)) (sym c.in-Some.ensures.steps.0) ∙ so.put;
    }

pub returns : goal.returns
returns c =
    let st = standings_of c.args.schema.now c.args.name.now c.args.moment in
    let old : List Standing = c.loop-item.out.items in
    let so = c.loop-item.invariant in
    record {
      put = sym (take_whole MOST_EXPIRED old so.few)
          ∙ ap (λ l. take MOST_EXPIRED (old ++ st l))
          (sym (length-zero (into_iter_items c.loop-item.item-iterator)
          (sym c.loop-item.item-iterator.rest.ok.0 ∙ c.in-None.ensures.steps.0)))
          ∙ so.put;
    }
