-- A list with a member has a value.
use Rattle.std.proofs.Common.{◌≡◌, refl, ◌<◌, List, [], ◌∷◌, length, None, arith}
use Rattle.serde_json.specs.View.{items_view}
use Rattle.serde_json.specs.declared.value.Value.{Value}
use Rattle.alt_legacy.specs.Values.{no_value}
use Rattle.alt_legacy.proofs.values.no_value.Goals as goal

some_value : (vs : List Value) → 0 < length vs → no_value (items_view vs) ≡ None
some_value [] h = absurd (omega (arith, h))
some_value (v ∷ vs) h = refl

pub returns-in_default-clause-err : goal.returns-in_default-clause-err
returns-in_default-clause-err c = λ _. (refl, some_value c.args.values.now (omega arith))
