-- The attribute at this place, put in or left out.
use Rattle.std.proofs.Common.{◌∙◌, sym, ap, add-one, take}
use Rattle.alt_value.specs.Item.{with_pair}
use Rattle.alt_schema.specs.Indexes.{is_projected, cut}
use Rattle.alt_value.proofs.NamedPairs.{name_some}
use Rattle.alt_views.proofs.Cuts.{kept, skipped, pair_within}
use Rattle.alt_views.proofs.rows.projection.keep.Goals as goal

pub put-requires : goal.put-requires
put-requires c = name_some c.args.item.now c.args.i c.in-Some.name.now _ c.requires.whole
    (sym c.in-Some.ensures.pair)

pub returns-in_ok-put : goal.returns-in_ok-put
returns-in_ok-put c =
    c.in_ok-put.ensures.ok ∙ (λ j. with_pair c.in-Some.name.now (c.in_ok-copy.ensures.same j)
    (c.requires.before j))
    ∙ kept (is_projected c.args.s.now c.args.index.now) c.args.item.now c.args.i c.in-Some.name.now
    _ c.requires.whole.0 (sym c.in-Some.ensures.pair)
    (sym c.is_projected.ensures ∙ c.if-is_projected.true)
    ∙ ap (λ n. cut c.args.s.now c.args.index.now (take n c.args.item.now)) (sym (add-one c.args.i))

pub returns-else-is_projected : goal.returns-else-is_projected
returns-else-is_projected c =
    c.requires.before
    ∙ skipped (is_projected c.args.s.now c.args.index.now) c.args.item.now c.args.i
    c.in-Some.name.now _ (sym c.in-Some.ensures.pair)
    (sym c.is_projected.ensures ∙ c.if-is_projected.false)
    ∙ ap (λ n. cut c.args.s.now c.args.index.now (take n c.args.item.now)) (sym (add-one c.args.i))

pub returns-in_default : goal.returns-in_default
returns-in_default c = absurd (pair_within c.args.item.now c.args.i c.requires.within
    c.in_default.ensures.pair)
