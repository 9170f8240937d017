-- A list of another length than one.
use Rattle.std.proofs.Common.{◌≡◌, refl, ◌<◌, List, [], ◌∷◌, length, None, arith}
use Rattle.serde_json.specs.View.{items_view}
use Rattle.serde_json.specs.declared.value.Value.{Value}
use Rattle.alt_legacy.specs.Values.{one_value}
use Rattle.alt_legacy.proofs.values.one_value.Goals as goal
use Rattle.alt_legacy.proofs.values.one_value.Goals.{in_default-via-then-values-lt1, in_default-via-else-values-lt1+else-values-lt2}

fewer : (vs : List Value) → length vs < 1 → one_value (items_view vs) ≡ None
fewer [] h = refl
fewer (v ∷ vs) h = absurd (omega (arith, h))

more : (vs : List Value) → 1 < length vs → one_value (items_view vs) ≡ None
more [] h = absurd (omega (arith, h))
more (v ∷ []) h = absurd (omega (arith, h))
more (v ∷ w ∷ vs) h = refl

pub returns-in_default-clause-err : goal.returns-in_default-clause-err
returns-in_default-clause-err c = λ _. (
  refl,
  elim c.in_default.branch [
    | in_default-via-then-values-lt1 w ↦ fewer c.args.values.now (grind arith)
    | in_default-via-else-values-lt1+else-values-lt2 w ↦ more c.args.values.now (grind arith)
  ],
)
