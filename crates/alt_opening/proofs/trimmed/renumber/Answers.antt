-- What was known of the table gives way to the number.
use Rattle.std.proofs.Common.{◌∙◌, sym, ap, subst, Result, Ok, Err, OnOk}
use Rattle.alt_opening.specs.Trimmed.{IsRenumbered, with_number}
use Rattle.alt_opening.proofs.TrimmedLaws.{number-instead}
use Rattle.alt_opening.proofs.trimmed.renumber.Goals as goal

on_ok : {A E : Type 0} (P Q : Type 0) (r : Result A E) → (P → Q) → OnOk r P → OnOk r Q
on_ok P Q (Ok x) leads p = leads p
on_ok P Q (Err e) leads p = tt

pub returns : goal.returns
returns c = on_ok _ _ c.know.result
    (λ is. subst (IsRenumbered c.args.table.now c.args.number c.args.known.now.items)
    (sym (is ∙ ap (with_number c.args.table.now c.args.number) c.forget.ensures))
    (number-instead c.args.table.now c.args.number c.args.known.now.items))
    c.know.ensures
