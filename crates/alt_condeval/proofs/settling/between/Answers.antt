-- Both comparisons, or the copy.
use Rattle.std.proofs.Common.{ap, ◌∙◌, ◌&&◌, List, [], ◌∷◌, ◌++◌}
use Rattle.alt_expr.specs.declared.cond.Comparison.TheVariants.{LessEqual, GreaterEqual}
use Rattle.alt_expr.specs.declared.cond.Cond.{Cond}
use Rattle.alt_expr.specs.declared.cond.Cond.TheVariants as cond
use Rattle.alt_expr.specs.Holds.{holds, denoted, compares}
use Rattle.alt_expr.specs.Located.{View}
use Rattle.alt_expr.proofs.HoldsLaws.{holds-Between}
use Rattle.alt_condeval.proofs.Alike.{both-tell}
use Rattle.alt_condeval.proofs.settling.between.Goals as goal

pub returns-then-is_some : goal.returns-then-is_some
returns-then-is_some c item =
    let one = c.in_ok-compare.field-0 in
    let other = c.in_ok-compare-2.field-0 in
    ap (λ (cs : List Cond). holds item (cond.All cs)) (c.in_ok-push-2.ensures.ok
    ∙ ap (λ (l : List Cond). l ++ other ∷ []) (c.in_ok-push.ensures.ok
    ∙ ap (λ (l : List Cond). l ++ one ∷ []) c.new-both.ensures.empty))
    ∙ both-tell
    (λ (v : View). compares GreaterEqual (denoted v c.args.a.now) (denoted v c.args.low.now))
    (λ (v : View). compares LessEqual (denoted v c.args.a.now) (denoted v c.args.high.now))
    one other c.in_ok-compare.ensures c.in_ok-compare-2.ensures item

pub returns : goal.returns
returns c item =
    holds-Between item c.in_ok-a.a c.in_ok-low.low c.in_ok-high.high
    ∙ (λ i. compares GreaterEqual (denoted item (c.in_ok-a.ensures i))
    (denoted item (c.in_ok-low.ensures i))
    && compares LessEqual (denoted item (c.in_ok-a.ensures i))
    (denoted item (c.in_ok-high.ensures i)))
