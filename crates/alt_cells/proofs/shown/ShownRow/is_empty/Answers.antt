-- No column is no entry.
use Rattle.std.proofs.Common.{◌==◌, length, sym, ap, ◌∙◌}
use Rattle.std.specs.FinMap.{len-entries}
use Rattle.alt_cells.proofs.shown.ShownRow.is_empty.Goals as goal

pub returns : goal.returns
returns c =
    c.is_empty.ensures ∙ ap (λ n. n == 0)
    (ap length c.as_slice.ensures ∙ sym (len-entries c.args.self.now))
