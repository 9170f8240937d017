-- An item more was examined, or it ended the page.
use Rattle.std.proofs.Common.{rules, sym, ap, subst, ◌∙◌, ◌++◌, ◌∷◌, []}
use Rattle.std.specs.Vec.Iter.{into_iter_items}
use Rattle.std.proofs.Common.{append_assoc}
use Rattle.alt_expr.specs.Pages.{ends_early}
use Rattle.alt_ops_query.proofs.WalkLaws.{SoFar, one_more, next_some, ended_by}
use Rattle.alt_paging.specs.Offered.{WasOffered}
use Rattle.alt_ops_query.proofs.walking.examine.Goals as goal

pub returns-then-not-branch-clause-examines : goal.returns-then-not-branch-clause-examines
returns-then-not-branch-clause-examines c ask seen h all =
    let before = c.args.pager.now in
    let items = c.args.items.items in
    let ahead = into_iter_items c.next.new.self in
    let so : SoFar before c.loop-item.pager items (c.in-Some.item ∷ ahead) ask seen =
    subst (λ l. SoFar before c.loop-item.pager items l ask seen) c.in-Some.ensures.steps.0
    (c.loop-item.invariant.examined ask seen h all) in
    let got = c.in_ok-offered.ensures.examines ask (seen ++ so.front) so.examined
    (next_some before c.loop-item.pager items ahead c.in-Some.item ask seen so all) in (
      so.front ++ c.in-Some.item ∷ [],
      ahead,
      so.is ∙ sym (append_assoc so.front (c.in-Some.item ∷ []) ahead),
      subst (WasOffered c.offered.new.pager ask)
          (append_assoc seen so.front (c.in-Some.item ∷ [])) got.0,
      ap (ends_early ask.limit) (sym (append_assoc seen so.front (c.in-Some.item ∷ [])))
          ∙ ended_by c.in_ok-offered.field-0 _ got.1 c.if-not-branch.true,
    )

pub loop-item-preserved : goal.loop-item-preserved
loop-item-preserved c = record {
  examined = λ ask seen h all.
      let before = c.args.pager.now in
      let items = c.args.items.items in
      let ahead = into_iter_items c.next.new.self in
      let so : SoFar before c.loop-item.pager items (c.in-Some.item ∷ ahead) ask seen =
      subst (λ l. SoFar before c.loop-item.pager items l ask seen) c.in-Some.ensures.steps.0
      (c.loop-item.invariant.examined ask seen h all) in
      one_more before c.loop-item.pager c.offered.new.pager items ahead
      c.in-Some.item ask seen so
      (c.in_ok-offered.ensures.examines ask (seen ++ so.front) so.examined
      (next_some before c.loop-item.pager items ahead c.in-Some.item ask seen so all)).0;
  going = search rules;
}
