-- Each look halves what is left, and keeps the names before it below and those after it above.
use Rattle.std.proofs.Common.{sym, ap, ◌∙◌, arith}
use Rattle.alt_value.specs.Members.{text_order}
use Rattle.alt_opening.proofs.Named.{below_more, above_more, named_here}
use Rattle.alt_opening.proofs.catalog.seek.Goals as goal

pub loop-low-preserved-in-Less : goal.loop-low-preserved-in-Less
loop-low-preserved-in-Less c = record {
  ordered = omega arith;
  within = c.loop-low.invariant.within;
  before = below_more (λ e. e.name) (λ d. d) c.args.name.now c.args.entries.now.items _
      c.index.result.now c.requires (omega arith) c.index.ensures
      (ap (λ s. text_order s c.args.name.now) (sym c.as_str.ensures.same) ∙ sym c.cmp.ensures
      ∙ c.in-Less.is);
  after = c.loop-low.invariant.after;
}

pub loop-low-preserved : goal.loop-low-preserved
loop-low-preserved c = record {
  ordered = omega arith;
  within = omega arith;
  before = c.loop-low.invariant.before;
  after = above_more (λ e. e.name) (λ d. d) c.args.name.now c.args.entries.now.items _
      c.index.result.now c.requires (omega arith) c.index.ensures
      (ap (λ s. text_order s c.args.name.now) (sym c.as_str.ensures.same) ∙ sym c.cmp.ensures
      ∙ c.in-Greater.is);
}

pub returns-in-Equal-clause-named : goal.returns-in-Equal-clause-named
returns-in-Equal-clause-named c = named_here (λ e. e.name) (λ d. d) c.args.name.now
    c.args.entries.now.items _ c.index.result.now (omega arith) c.index.ensures
    (ap (λ s. text_order s c.args.name.now) (sym c.as_str.ensures.same) ∙ sym c.cmp.ensures
    ∙ c.in-Equal.is)
