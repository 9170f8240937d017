-- The cells of columns that rise.
use Rattle.std.proofs.Common.{◌≡◌, T, map, Some, ap, ◌∙◌, sym, subst, arith}
use Rattle.std.proofs.lemmas.List.{take_all}
use Rattle.std.specs.FinMap.Entries.{is_sorted}
use Rattle.alt_cells.specs.Changes.{cell_at, with_value}
use Rattle.alt_cells.specs.Keys.{key_cmp}
use Rattle.alt_cells.proofs.GivenLaws.{sorted-map}
use Rattle.alt_cells.proofs.OfChange.{entry_given, cells_given-rising}
use Rattle.alt_cells.proofs.change.column_cells.Goals as goal

-- all columns have their cells
all : (c : goal.After-loop-name)
    → c.loop-name.cells.items ≡ map (entry_given 0) (map with_value c.args.columns.now)
all c = c.loop-name.invariant
    ∙ ap (λ es. map (entry_given 0) (map with_value es))
    (take_all c.loop-name.name-index c.args.columns.now (omega arith))

pub from_rising-requires : goal.from_rising-requires
from_rising-requires c =
    subst (λ es. T (is_sorted key_cmp es)) (sym (all c))
    (sorted-map (cell_at 0) (map with_value c.args.columns.now)
    (sorted-map (λ v. Some v) c.args.columns.now c.requires))

pub returns : goal.returns
returns c =
    let whole = c.loop-name.invariant
    ∙ ap (λ es. map (entry_given 0) (map with_value es))
    (take_all c.loop-name.name-index c.args.columns.now (omega arith)) in
    cells_given-rising 0 (map with_value c.args.columns.now) c.from_rising.result
    (sorted-map (λ v. Some v) c.args.columns.now c.requires) (c.from_rising.ensures ∙ whole)
