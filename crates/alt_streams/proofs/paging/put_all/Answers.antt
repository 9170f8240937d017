-- A record more was put, or it filled the page.
use Rattle.std.proofs.Common.{◌∙◌, map, ◌++◌, ◌∷◌, All, subst, sym}
use Rattle.std.proofs.lemmas.List.Elements.{All-head, All-tail}
use Rattle.std.specs.Vec.Iter.{into_iter_items}
use Rattle.alt_base.proofs.Lists.{length-zero}
use Rattle.alt_changes.specs.ChangeRows.{change_in}
use Rattle.alt_streams.specs.private.Paged.{IsFit}
use Rattle.alt_streams.proofs.Pieces.{SoFar, all_put, next_fit, one_more, one_last, read_passed}
use Rattle.alt_streams.proofs.paging.put_all.Goals as goal

pub loop-change-preserved : goal.loop-change-preserved
loop-change-preserved c = record {
  put = λ shows most from seen is h all.
      let d = c.args.schema.now in
      let changes = map change_in c.args.changes.items in
      let ahead = into_iter_items c.next.new.self in
      let one = change_in c.in-Some.change in
      let so : SoFar d shows most from seen changes c.loop-change.page (one ∷ map change_in ahead) =
      subst (λ l. SoFar d shows most from seen changes c.loop-change.page (map change_in l))
      c.in-Some.ensures.steps.0 (c.loop-change.invariant.put shows most from seen is h all) in
      one_more d shows most from seen changes c.loop-change.page c.put.new.self one
      (map change_in ahead) so
      (c.in_ok-put.ensures.read shows most from (seen ++ so.front) is so.read
      (next_fit d shows most from seen changes c.loop-change.page c.put.new.self one
      (map change_in ahead) so all));
  fit = λ all. All-tail IsFit (change_in c.in-Some.change)
      (map change_in (into_iter_items c.next.new.self))
      (subst (λ l. All IsFit (map change_in l)) c.in-Some.ensures.steps.0
      (c.loop-change.invariant.fit all));
  going = sym c.is_full.ensures.full ∙ c.if-is_full.false;
}

pub returns-then-is_full-clause-puts : goal.returns-then-is_full-clause-puts
returns-then-is_full-clause-puts c shows most from seen is h all =
    let d = c.args.schema.now in
    let changes = map change_in c.args.changes.items in
    let ahead = into_iter_items c.next.new.self in
    let one = change_in c.in-Some.change in
    let so : SoFar d shows most from seen changes c.loop-change.page (one ∷ map change_in ahead) =
    subst (λ l. SoFar d shows most from seen changes c.loop-change.page (map change_in l))
    c.in-Some.ensures.steps.0 (c.loop-change.invariant.put shows most from seen is h all) in
    one_last d shows most from seen changes c.loop-change.page c.put.new.self one
    (map change_in ahead) so
    (c.in_ok-put.ensures.read shows most from (seen ++ so.front) is so.read
    (next_fit d shows most from seen changes c.loop-change.page c.put.new.self one
    (map change_in ahead) so all)) (sym c.is_full.ensures.full ∙ c.if-is_full.true)

pub returns-in_err-put-clause-fault : goal.returns-in_err-put-clause-fault
returns-in_err-put-clause-fault c all = read_passed c.from_residual.result c.in_err-put.field-0.0
    c.from_residual.ensures (c.in_err-put.ensures.fault (All-head IsFit (change_in c.in-Some.change)
    (map change_in (into_iter_items c.next.new.self))
    (subst (λ l. All IsFit (map change_in l)) c.in-Some.ensures.steps.0
    (c.loop-change.invariant.fit all))))

pub returns-clause-puts : goal.returns-clause-puts
returns-clause-puts c shows most from seen is h all =
    let d = c.args.schema.now in
    let changes = map change_in c.args.changes.items in
    all_put d shows most from seen changes c.loop-change.page
    (subst (λ l. SoFar d shows most from seen changes c.loop-change.page (map change_in l))
    (length-zero (into_iter_items c.loop-change.change-iterator)
    (sym c.loop-change.change-iterator.rest.ok.0 ∙ c.in-None.ensures.steps.0))
    (c.loop-change.invariant.put shows most from seen is h all))
