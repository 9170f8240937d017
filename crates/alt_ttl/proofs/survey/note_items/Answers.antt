-- One more is noted; at the end none is left.
use Rattle.std.proofs.Common.{sym, subst, ◌∙◌}
use Rattle.std.specs.Vec.Iter.{into_iter_items}
use Rattle.alt_base.proofs.Lists.{length-zero}
use Rattle.alt_request.specs.TablesSeveral.{Every}
use Rattle.alt_ttl.specs.private.Foresight.{ForeseesPlaced}
use Rattle.alt_ttl.proofs.Surveying.{placed_on}
use Rattle.alt_ttl.proofs.survey.note_items.Goals as goal

pub loop-item-init : goal.loop-item-init
loop-item-init c = record {
  known = λ later keeps h. subst (Every (ForeseesPlaced c.args.schema.now c.args.name.now later))
      c.into_iter-item-iterator.ensures.into_iter_gives.0 h;
  keeps = λ moment spot knows. knows;
}

pub loop-item-preserved : goal.loop-item-preserved
loop-item-preserved c =
    let so = c.loop-item.invariant in
    let P = ForeseesPlaced c.args.schema.now c.args.name.now in
    record {
      known = λ later keeps h. so.known later
          (λ moment spot knows. keeps moment spot (c.note_item.ensures.keeps moment spot knows))
          (subst (Every (P later)) (sym c.in-Some.ensures.steps.0) (
            placed_on c.args.schema.now c.args.name.now c.note_item.new.due later keeps
                c.in-Some.item c.in_ok-note_item.ensures.known,
            h,
          ));
      keeps = λ moment spot knows. c.note_item.ensures.keeps moment spot
          (so.keeps moment spot knows);
    }

pub returns-clause-known : goal.returns-clause-known
returns-clause-known c =
    let so = c.loop-item.invariant in
    so.known c.loop-item.due (λ moment spot knows. knows)
    (subst (Every (ForeseesPlaced c.args.schema.now c.args.name.now c.loop-item.due))
    (sym (length-zero (into_iter_items c.loop-item.item-iterator)
    (sym c.loop-item.item-iterator.rest.ok.0 ∙ c.in-None.ensures.steps.0))) tt)
