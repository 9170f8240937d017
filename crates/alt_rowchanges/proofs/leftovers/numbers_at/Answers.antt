-- The number of a row more, and a row that is none of a number.
use Rattle.std.proofs.Common.{◌≡◌, [], ◌∷◌, ◌++◌, sym, subst, ◌∙◌, Some, None, length, rules}
use Rattle.std.proofs.lemmas.Iterator.Adapters.{YieldsList-from_vec}
use Rattle.std.proofs.lemmas.Iterator.Consumers.{YieldsList-turn}
use Rattle.alt_rowchanges.specs.Trims.{AreNumbersOf}
use Rattle.alt_rowchanges.proofs.LeftoverRows.{number_row_at, numbers_more}
use Rattle.alt_rowchanges.proofs.leftovers.numbers_at.Goals as goal

pub loop-row-preserved : goal.loop-row-preserved
loop-row-preserved c =
    subst (AreNumbersOf (c.loop-row.yielded ++ c.in-Some.row ∷ []))
    (sym c.in_ok-push-in-Some-number_of.ensures.items)
    (numbers_more c.loop-row.yielded c.in-Some.row c.loop-row.numbers.items
    c.in-Some-number_of.number c.loop-row.invariant
    (sym c.as_slice.ensures.same ∙ c.in-Some-number_of.ensures.number.1)
    c.in-Some-number_of.ensures.number.0)

pub returns-in-None-number_of-clause-fault : goal.returns-in-None-number_of-clause-fault
returns-in-None-number_of-clause-fault c numbers are =
    let turn = YieldsList-turn
    (YieldsList-from_vec {s = c.into_iter-row-iterator.result} c.args.page.items (search rules)
    (search rules)) c.loop-row.yielded c.loop-row.row-iterator c.loop-row.yielded_by
    c.next.result c.next.new.self c.in-Some.row c.in-Some.is c.next.ensures.steps in
    let (number, fits, is) = number_row_at c.args.page.items numbers (length c.loop-row.yielded)
    c.in-Some.row are turn.0 turn.1 in
    absurd (let no : None ≡ Some number = sym c.in-None-number_of.is
    ∙ c.number_of.ensures.none number fits (c.as_slice.ensures.same ∙ is) in let f : ⊥ = cc no in f)
