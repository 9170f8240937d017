use Rattle.std.proofs.Common.{[], ◌∷◌, ◌++◌, refl, sym, ap, ◌∙◌}
use Rattle.alt_keyorder.specs.KeyBytes.{escaped}
use Rattle.alt_keyorder.proofs.Unclosed.{read_on, read_whole, unclosed_behind}
use Rattle.alt_keyorder.proofs.take.read_closed.Goals as goal

pub returns-then-not-goes_on : goal.returns-then-not-goes_on
returns-then-not-goes_on c =
    rw c.in_ok-extend_from_slice.ensures.items
    (read_whole c.args.bytes.now c.loop-front.content.items c.loop-front.rest.now
    c.in-Some.front.now c.in-Some.after.now c.in-Some.goes_on _
    c.loop-front.invariant c.in-Some.ensures c.if-not-goes_on.true refl)

pub loop-front-preserved : goal.loop-front-preserved
loop-front-preserved c =
    read_on c.args.bytes.now c.loop-front.content.items c.loop-front.rest.now c.in-Some.front.now
    c.in-Some.after.now c.in-Some.goes_on
    c.loop-front.invariant c.in-Some.ensures c.if-not-goes_on.false
    ∙ ap (λ s. escaped s ++ c.in-Some.after.now)
    (sym (c.in_ok-push.ensures.items ∙ ap
    (λ s. s ++ 0 ∷ []) c.in_ok-extend_from_slice.ensures.items))

pub returns : goal.returns
returns c = unclosed_behind c.args.bytes.now c.loop-front.content.items c.loop-front.rest.now
    c.loop-front.invariant c.in_default.ensures
