-- One attribute that goes, or two.
use Rattle.std.proofs.Common.{ℕ, List, sym, ap, ◌∙◌, Option}
use Rattle.alt_schema.specs.declared.schema.KeyAttr.{KeyAttr}
use Rattle.alt_value.specs.Item.{without}
use Rattle.alt_views.specs.IndexRows.{beside}
use Rattle.alt_views.proofs.Parts.{beside-hash, beside-both}
use Rattle.alt_views.proofs.indexed.take_out.Goals as goal

pub returns-in-Some : goal.returns-in-Some
returns-in-Some c =
    let item = c.args.item.now in
    let hash = c.args.hash.now in
    let range = c.in-Some.range in
    record {
      rest = c.remove-in-Some.ensures.rest
          ∙ (λ j. without (c.as_str-in-Some.ensures.same j) (c.remove.ensures.rest j))
          ∙ ap (λ (name : List ℕ). without range.name (without name item)) c.as_str.ensures.same
          ∙ sym (beside-both hash range item)
          ∙ ap (λ (o : Option KeyAttr). beside hash o item) (sym c.in-Some.is);
    }

pub returns-in_default : goal.returns-in_default
returns-in_default c =
    let item = c.args.item.now in
    let hash = c.args.hash.now in
    record {
      rest = c.remove.ensures.rest
          ∙ ap (λ (name : List ℕ). without name item) c.as_str.ensures.same
          ∙ sym (beside-hash hash item)
          ∙ ap (λ (o : Option KeyAttr). beside hash o item) (sym c.in_default.is);
    }
