-- One action alone overlaps with none.
use Rattle.std.proofs.Common.{◌≡◌, refl, ◌<◌, false, List, [], ◌∷◌, length, arith}
use Rattle.alt_expr.specs.UpdateLanguage.{targets_overlap}
use Rattle.alt_expr.specs.declared.update.Action.{Action}
use Rattle.alt_updparse.proofs.overlap.targets_overlap.Goals as goal

alone : (xs : List Action) → length xs < 2 → false ≡ targets_overlap xs
alone [] few = refl
alone (x ∷ []) few = refl
alone (x ∷ y ∷ xs) few = absurd (omega arith)

pub returns-in-empty : goal.returns-in-empty
returns-in-empty c = alone c.args.actions.now (omega (arith, c.in-empty.len_below))
