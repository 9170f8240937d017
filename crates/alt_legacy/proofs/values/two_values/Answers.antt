-- A list of another length than two.
use Rattle.std.proofs.Common.{◌≡◌, refl, ◌<◌, List, [], ◌∷◌, length, None, arith}
use Rattle.serde_json.specs.View.{items_view}
use Rattle.serde_json.specs.declared.value.Value.{Value}
use Rattle.alt_legacy.specs.Values.{two_values}
use Rattle.alt_legacy.proofs.values.two_values.Goals as goal
use Rattle.alt_legacy.proofs.values.two_values.Goals.{in_default-via-then-values-lt2, in_default-via-else-values-lt2+else-values-lt3}

fewer : (vs : List Value) → length vs < 2 → two_values (items_view vs) ≡ None
fewer [] h = refl
fewer (v ∷ []) h = refl
fewer (v ∷ w ∷ vs) h = absurd (omega (arith, h))

more : (vs : List Value) → 2 < length vs → two_values (items_view vs) ≡ None
more [] h = absurd (omega (arith, h))
more (v ∷ []) h = absurd (omega (arith, h))
more (v ∷ w ∷ []) h = absurd (omega (arith, h))
more (v ∷ w ∷ u ∷ vs) h = refl

pub returns-in_default-clause-err : goal.returns-in_default-clause-err
returns-in_default-clause-err c = λ _. (
  refl,
  elim c.in_default.branch [
    | in_default-via-then-values-lt2 w ↦ fewer c.args.values.now (grind arith)
    | in_default-via-else-values-lt2+else-values-lt3 w ↦ more c.args.values.now (grind arith)
  ],
)
