-- The family in hand, or none.
use Rattle.std.proofs.Common.{sym, ap, subst, ◌∙◌}
use Rattle.std.specs.Prelude.{option_and_then}
use Rattle.std.specs.FinMap.{get, get-empty}
use Rattle.alt_cells.specs.Keys.{key_cmp}
use Rattle.alt_cells.specs.Shown.{row_shown}
use Rattle.alt_layout.specs.Layout.{RowMap}
use Rattle.alt_families.specs.Opened.{FamilyReads}
use Rattle.alt_families.proofs.OpenLaws.{none_reads}
use Rattle.alt_families.proofs.row.shown_row.Goals as goal

pub returns-in-Some-clause-undamaged : goal.returns-in-Some-clause-undamaged
returns-in-Some-clause-undamaged g c told rows reads =
    c.shown_in.ensures.undamaged told rows (subst (λ o. FamilyReads (g.D.Disk.state c.args.disk.now) o rows)
    (sym c.in-Some.ensures.value) reads)

pub returns-in-None-clause-row : goal.returns-in-None-clause-row
returns-in-None-clause-row g c told rows reads =
    ap (option_and_then row_shown) (sym (ap (λ (m : RowMap). get m c.args.key.now)
    (none_reads (g.D.Disk.state c.args.disk.now) rows
    (subst (λ o. FamilyReads (g.D.Disk.state c.args.disk.now) o rows)
    (sym c.in-None.ensures.value) reads)) ∙ get-empty key_cmp c.args.key.now))
