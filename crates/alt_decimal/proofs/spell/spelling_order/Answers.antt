use Rattle.std.proofs.Common.{◌∙◌, ◌++◌, sym, ap}
use Rattle.alt_decimal.specs.Spelled.{spelled}
use Rattle.alt_decimal.proofs.Apart.{spelled-apart}
use Rattle.alt_decimal.proofs.SpellingOrder.{spelled_cmp}
use Rattle.alt_decimal.proofs.spell.spelling_order.Goals as goal

pub returns-clause-spellings : goal.returns-clause-spellings
returns-clause-spellings c =
    c.order.ensures ∙ rw (← c.a.view_is, ← c.b.view_is)
    (spelled_cmp c.a.inside c.b.inside c.a.invariant c.b.invariant)

pub returns-clause-apart : goal.returns-clause-apart
returns-clause-apart c = λ after rest is.
    let seen = ap (λ z. spelled z ++ after) c.a.view_is ∙ is
    ∙ ap (λ z. spelled z ++ rest) (sym c.b.view_is) in
    sym c.a.view_is ∙ spelled-apart c.a.inside c.b.inside c.a.invariant c.b.invariant after rest
    seen ∙ c.b.view_is
