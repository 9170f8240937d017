-- The cells of names that rise.
use Rattle.std.proofs.Common.{◌≡◌, T, map, ap, ◌∙◌, sym, subst, arith}
use Rattle.std.proofs.lemmas.List.{take_all}
use Rattle.std.specs.FinMap.Entries.{is_sorted}
use Rattle.alt_cells.specs.Keys.{key_cmp}
use Rattle.alt_cells.specs.Changes.{cell_at}
use Rattle.alt_cells.proofs.GivenLaws.{sorted-map}
use Rattle.alt_cells.proofs.OfChange.{entry_given, cells_given-rising}
use Rattle.alt_cells.proofs.change.rising_cells.Goals as goal

-- all names have their cells
all : (c : goal.After-loop-name)
    → c.loop-name.cells.items ≡ map (entry_given c.args.number) c.args.given.now
all c = c.loop-name.invariant
    ∙ ap (map (entry_given c.args.number))
    (take_all c.loop-name.name-index c.args.given.now (omega arith))

pub from_rising-requires : goal.from_rising-requires
from_rising-requires c =
    subst (λ es. T (is_sorted key_cmp es)) (sym (all c))
    (sorted-map (cell_at c.args.number) c.args.given.now c.requires)

pub returns : goal.returns
returns c =
    let whole = c.loop-name.invariant
    ∙ ap (map (entry_given c.args.number))
    (take_all c.loop-name.name-index c.args.given.now (omega arith)) in
    cells_given-rising c.args.number c.args.given.now c.from_rising.result c.requires
    (c.from_rising.ensures ∙ whole)
