use Rattle.std.proofs.Common.{sym, ◌∙◌, Bool}
use Rattle.alt_value.specs.Stands.{tree_of}
use Rattle.alt_value.specs.Tree.{Tree}
use Rattle.alt_expr.specs.Holds.{same}
use Rattle.alt_condeval.proofs.Elements.{any_here, any_later}
use Rattle.alt_condeval.proofs.contained.has_element.Goals as goal

pub returns-then-same : goal.returns-then-same
returns-then-same c =
    let f : Tree → Bool = λ s. same s (tree_of c.args.b.now) in
    sym (any_here f c.args.list.now c.loop-i.i
    (tree_of c.in-Some.element.now) c.loop-i.invariant c.in-Some.ensures.element
    (sym c.same.ensures ∙ c.if-same.true))

pub loop-i-preserved : goal.loop-i-preserved
loop-i-preserved c =
    let f : Tree → Bool = λ s. same s (tree_of c.args.b.now) in
    any_later f c.args.list.now c.loop-i.i (tree_of c.in-Some.element.now) c.loop-i.invariant
    c.in-Some.ensures.element (sym c.same.ensures ∙ c.if-same.false)
