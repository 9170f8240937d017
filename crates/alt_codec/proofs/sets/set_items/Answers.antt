-- The items of an array that isn't empty.
use Rattle.std.proofs.Common.{ap, sym, ◌∙◌, length}
use Rattle.std.specs.Prelude.{Ok, ◌==◌}
use Rattle.serde_json.specs.View.{view, items_view}
use Rattle.alt_codec.proofs.Present.{items_from}
use Rattle.alt_codec.proofs.sets.set_items.Goals as goal

pub returns-else-is_empty-clause-value : goal.returns-else-is_empty-clause-value
returns-else-is_empty-clause-value c =
    items_from (view c.args.v.now) c.in-Some.items.now.items c.in-Some.ensures
    (c.if-is_empty.ensures ∙ ap (λ n. n == 0)
    (sym (sym (ap length c.as_slice.ensures.value) ∙ c.as_slice.ensures.len)))
    ∙ ap (λ vs. Ok (items_view vs)) (sym c.as_slice.ensures.value)
