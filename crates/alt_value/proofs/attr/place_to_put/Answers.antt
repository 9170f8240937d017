-- A name above the last one goes behind it.
use Rattle.std.proofs.Common.{sym, ap, ◌∙◌, arith}
use Rattle.alt_value.specs.Members.{text_order}
use Rattle.alt_value.proofs.Entries.{before_more}
use Rattle.alt_value.proofs.attr.place_to_put.Goals as goal

pub returns-in-Less : goal.returns-in-Less
returns-in-Less c = record {
  within = omega (arith, c.len-count.ensures);
  before = λ k d below. before_more c.args.name.now c.args.entries.now.items _ c.index.result.now
      c.requires (omega arith) c.index.ensures
      (ap (λ s. text_order s c.args.name.now) (sym c.as_str.ensures.same) ∙ sym c.cmp.ensures
      ∙ c.in-Less.is) k d (omega (arith, below, c.len-count.ensures));
  after = λ k d from below. absurd (omega (arith, from, below, c.len-count.ensures));
}
