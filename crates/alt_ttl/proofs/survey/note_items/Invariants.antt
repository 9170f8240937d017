-- A list that knows of the items that are left, and all that this one knows, knows of all.
use Rattle.std.specs.Vec.Iter.{into_iter_items}
use Rattle.alt_due.specs.Due.{KeepsKnown}
use Rattle.alt_due.specs.declared.due.Due.{Due}
use Rattle.alt_request.specs.TablesSeveral.{Every}
use Rattle.alt_ttl.specs.private.Foresight.{ForeseesPlaced}
use Rattle.alt_ttl.proofs.survey.note_items.Given as goal

abbrev pub invariant-loop-item : goal.invariant-loop-item
invariant-loop-item l = record {
  known : (later : Due) → KeepsKnown l.due later
      → Every (ForeseesPlaced l.schema l.name later) (into_iter_items l.item-iterator)
      → Every (ForeseesPlaced l.schema l.name later) l.fn.items.items;
  keeps : KeepsKnown l.fn.due l.due;
}
