-- Entries that rise are a row that is shown, unless there are none.
use Rattle.std.proofs.Common.{◌∙◌, sym, false, true, vec_len}
use Rattle.alt_cells.proofs.Alone.{rising_shown}
use Rattle.alt_cells.proofs.shown.ShownRow.of_rising.Goals as goal

pub returns-then-is_empty : goal.returns-then-is_empty
returns-then-is_empty c =
    sym (rising_shown c.args.entries.items (vec_len c.args.entries) true c.requires
    c.args.entries.ok.0 (sym c.is_empty.ensures ∙ c.if-is_empty.true))

pub returns : goal.returns
returns c =
    sym (rising_shown c.args.entries.items (vec_len c.args.entries) false c.requires
    c.args.entries.ok.0 (sym c.is_empty.ensures ∙ c.if-is_empty.false))
