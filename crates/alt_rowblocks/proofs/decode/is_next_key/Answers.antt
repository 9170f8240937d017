-- The last key decides.
use Rattle.std.proofs.Common.{◌∙◌, ap, None}
use Rattle.std.specs.Ordering.{is_lt}
use Rattle.std.specs.FinMap.{empty}
use Rattle.alt_cells.specs.Keys.{key_cmp}
use Rattle.alt_cells.proofs.CellLaws.{key_total}
use Rattle.alt_cells.proofs.Rising.{last_tested}
use Rattle.alt_rowblocks.proofs.decode.is_next_key.Goals as goal

pub returns-in-Some : goal.returns-in-Some
returns-in-Some c =
    last_tested key_cmp key_total c.args.rows.now c.in-Some.last.now
    (c.args.key.now, record { gone = None; cells = empty })
    c.is_lt.result c.requires.1 c.in-Some.ensures.value
    (c.is_lt.ensures
    ∙ ap is_lt (c.cmp.ensures
    ∙ (λ i. key_cmp (c.as_slice.ensures.same i) (c.as_slice-in-Some.ensures.same i))))
