-- One index more.
use Rattle.std.proofs.Common.{◌∙◌, ap, sym, ◌+◌, ◌-◌}
use Rattle.alt_schemabytes.specs.Parts.{read_more, read_index}
use Rattle.alt_schemabytes.proofs.Wholes.{more_step}
use Rattle.alt_schemabytes.proofs.parsing.take_each_index.Goals as goal

pub loop-done-preserved : goal.loop-done-preserved
loop-done-preserved c =
    let ds = c.args.definitions.now in
    let done = c.loop-done._done in
    c.loop-done.invariant
    ∙ more_step (λ before. read_index ds) c.args.count done c.loop-done.list c.loop-done.rest.now
    c.in_ok-index.index c.in_ok-index.behind.now
    c.loop-done-test.true c.in_ok-index.ensures.part
    ∙ ap (λ l. read_more (λ before. read_index ds)
    (c.args.count - (done + 1)) l c.in_ok-index.behind.now) (sym c.in_ok-push.ensures.ok)
