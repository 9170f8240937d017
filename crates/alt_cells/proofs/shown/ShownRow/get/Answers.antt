-- The search finds the column's entry, or that there is none.
use Rattle.alt_cells.proofs.Searched.{found, missed}
use Rattle.alt_cells.proofs.shown.ShownRow.get.Goals as goal

pub returns-in-Some : goal.returns-in-Some
returns-in-Some c = record {
  value = found c.self.inside.entries.items c.deref.result.now c.args.self.now c.args.name.now
      c.in-Some.place c.index.result.now
      c.deref.ensures.value c.self.view_is c.self.invariant c.in-Some.ensures.some.0
      c.in-Some.ensures.some.1 c.index.ensures;
}

pub returns-in-None : goal.returns-in-None
returns-in-None c = record {
  value = missed c.self.inside.entries.items c.deref.result.now c.args.self.now c.args.name.now
      c.deref.ensures.value c.self.view_is c.self.invariant c.in-None.ensures.none;
}
