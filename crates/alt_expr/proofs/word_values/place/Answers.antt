-- Each look halves what is left, and keeps the words before it below and those after it above.
use Rattle.std.proofs.Common.{sym, ap, ◌∙◌, arith}
use Rattle.alt_value.specs.Members.{text_order}
use Rattle.alt_expr.proofs.PlacesOfWords.{before_more, after_more, stands_here}
use Rattle.alt_expr.proofs.word_values.place.Goals as goal

pub loop-low-preserved-in-Less : goal.loop-low-preserved-in-Less
loop-low-preserved-in-Less g c = record {
  ordered = omega arith;
  within = c.loop-low.invariant.within;
  before = before_more g.V.Kept.tree c.args.word.now c.args.entries.now.items _ c.index.result.now c.requires
      (omega arith) c.index.ensures
      (ap (λ s. text_order s c.args.word.now) (sym c.as_str.ensures.same) ∙ sym c.cmp.ensures
      ∙ c.in-Less.is);
  after = c.loop-low.invariant.after;
}

pub returns-in-Equal : goal.returns-in-Equal
returns-in-Equal g c = stands_here g.V.Kept.tree c.args.word.now c.args.entries.now.items _ c.index.result.now
    c.requires (omega arith) c.index.ensures
    (ap (λ s. text_order s c.args.word.now) (sym c.as_str.ensures.same) ∙ sym c.cmp.ensures
    ∙ c.in-Equal.is)

pub loop-low-preserved : goal.loop-low-preserved
loop-low-preserved g c = record {
  ordered = omega arith;
  within = omega arith;
  before = c.loop-low.invariant.before;
  after = after_more g.V.Kept.tree c.args.word.now c.args.entries.now.items _ c.index.result.now c.requires
      (omega arith) c.index.ensures
      (ap (λ s. text_order s c.args.word.now) (sym c.as_str.ensures.same) ∙ sym c.cmp.ensures
      ∙ c.in-Greater.is);
}
