-- Rows of two numbers that may be left over are told to be so.
use Rattle.std.proofs.Common.{◌≡◌, sym, subst, ◌∙◌, Bool, false, IsTrue}
use Rattle.std.proofs.lemmas.Bool.{false≢true}
use Rattle.alt_rowchanges.specs.Trims.{AreTwo}
use Rattle.alt_rowchanges.proofs.LeftoverRows.{one_numbers}
use Rattle.alt_rowchanges.proofs.leftovers.numbers_of.Goals as goal

no_truth : (b : Bool) → b ≡ false → IsTrue b → ⊥
no_truth b e t = false≢true (sym e ∙ t)

pub returns-clause-fault : goal.returns-clause-fault
returns-clause-fault c numbers are two = no_truth c.are_two.result c.if-are_two.false
    (c.are_two.ensures.1 (subst (AreTwo c.args.most)
    (one_numbers c.args.page.items numbers c.in-Ok.numbers.items are c.in-Ok.ensures.numbers
    ∙ sym c.as_slice.ensures.value) two))
