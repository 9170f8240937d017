-- The pair that stands at the place comes behind those before it.
use Rattle.std.proofs.Common.{ap, ◌∙◌, ◌++◌, List}
use Rattle.std.specs.Prelude.{slice_get, option_to_list}
use Rattle.alt_value.specs.Tree.{Pair}
use Rattle.alt_expr.proofs.PlacesOfWords.{take_on}
use Rattle.alt_expr.proofs.word_values.WordValues.of_item.Goals as goal

pub loop-place-preserved : goal.loop-place-preserved
loop-place-preserved g c =
    c.in_ok-push_at.ensures
    ∙ ap (λ (ps : List Pair). ps ++ option_to_list (slice_get c.args.item.now c.loop-place.place)) c.loop-place.invariant
    ∙ take_on c.args.item.now c.loop-place.place
