-- A name of the list passes.
use Rattle.std.proofs.Common.{sym, ◌∙◌, arith}
use Rattle.alt_schema.specs.Indexes.{is_projected}
use Rattle.alt_views.proofs.Beside.{passes_here}
use Rattle.alt_views.proofs.changed.keeps_one.Goals as goal

pub returns-then-is_projected : goal.returns-then-is_projected
returns-then-is_projected c = sym (passes_here (λ n. n.now)
    (is_projected c.args.schema.now c.args.index.now) c.args.names.now c.loop-name.name-index _
    (omega (arith, c.loop-name-test.true)) (sym c.is_projected.ensures ∙ c.if-is_projected.true))
