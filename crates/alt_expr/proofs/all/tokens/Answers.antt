use Rattle.std.proofs.Common.{true, false, Some, None, Ok, subst, sym}
use Rattle.alt_expr.specs.Lexed.{Lexed}
use Rattle.alt_expr.proofs.Tokenized.{Continues, ends, one_on, shorter}
use Rattle.alt_expr.proofs.all.tokens.Goals as goal

pub returns-in-Err : goal.returns-in-Err
returns-in-Err c = let f = c.in-Err.ensures.found in
    ends c.args.text.now c.all.lexer.rest.now c.all.found.items false c.all.invariant (f.0, f.1)

pub returns-in-Ok-None : goal.returns-in-Ok-None
returns-in-Ok-None c =
    let old = c.all.lexer.rest.now in
    let f = subst (λ o. Lexed c.all.lexer.whole.now old (Ok o) c.next.new.self.rest.now)
    c.in-Ok-None.field-0-is c.in-Ok-None.ensures.found in
    ends c.args.text.now old c.all.found.items true c.all.invariant f.0

pub all-smaller : goal.all-smaller
all-smaller c =
    let old = c.all.lexer.rest.now in
    let f = subst (λ o. Lexed c.all.lexer.whole.now old (Ok o) c.next.new.self.rest.now)
    c.in-Ok-Some.field-0-is c.in-Ok-Some.ensures.found in
    shorter old c.all.lexer.whole.now c.next.new.self.rest.now c.in-Ok-Some.next f

pub all-preserved : goal.all-preserved
all-preserved c =
    let old = c.all.lexer.rest.now in
    let f = subst (λ o. Lexed c.all.lexer.whole.now old (Ok o) c.next.new.self.rest.now)
    c.in-Ok-Some.field-0-is c.in-Ok-Some.ensures.found in
    subst (Continues c.args.text.now c.next.new.self.rest.now)
    (sym c.in_ok-push-in-Ok-Some.ensures.items)
    (one_on c.args.text.now old c.all.lexer.whole.now c.next.new.self.rest.now c.all.found.items
    c.in-Ok-Some.next c.all.invariant f)
