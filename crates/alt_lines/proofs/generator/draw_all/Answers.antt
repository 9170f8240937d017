use Rattle.std.proofs.Common.{◌≡◌, ℕ, ap, ◌∙◌}
use Rattle.alt_lines.specs.Trial.{next_number, drawn, draws, after_draws}
use Rattle.alt_lines.proofs.generator.draw_all.Goals as goal

pub returns-clause-drawn : goal.returns-clause-drawn
unfolding draws
returns-clause-drawn c =
    let s = c.args.number.now in
    let a : c.draw-kind.new.number ≡ next_number s = c.draw-kind.ensures.after in
    let b : c.draw-partition.new.number ≡ next_number (next_number s) =
    c.draw-partition.ensures.after ∙ ap next_number a in
    let d : c.draw-range.new.number ≡ next_number (next_number (next_number s)) =
    c.draw-range.ensures.after ∙ ap next_number b in
    λ i. record {
      kind = c.draw-kind.ensures.drawn i;
      partition = (c.draw-partition.ensures.drawn ∙ ap (λ (n : ℕ). drawn (next_number n) 40) a) i;
      range = (c.draw-range.ensures.drawn ∙ ap (λ (n : ℕ). drawn (next_number n) 200) b) i;
      value = (c.draw-value.ensures.drawn ∙ ap (λ (n : ℕ). drawn (next_number n) 1000) d) i;
    }

pub returns-clause-after : goal.returns-clause-after
unfolding after_draws
returns-clause-after c =
    c.draw-value.ensures.after
    ∙ ap next_number (c.draw-range.ensures.after
    ∙ ap next_number (c.draw-partition.ensures.after
    ∙ ap next_number c.draw-kind.ensures.after))
