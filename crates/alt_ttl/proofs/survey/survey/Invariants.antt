-- The list knows of the items of each table whose name isn't among those that are left.
use Rattle.std.proofs.Common.{◌≡◌, ◌⊎◌, true, ℕ, List, Some}
use Rattle.std.specs.FinMap as map
use Rattle.std.specs.Vec.Iter.{into_iter_items}
use Rattle.alt_machine.specs.State.{State, Table}
use Rattle.alt_request.specs.TablesLooking.{OnlyReads}
use Rattle.alt_request.specs.TablesSeveral.{Every}
use Rattle.alt_request.specs.TablesStands.{Stands, catalog_of}
use Rattle.alt_ttl.specs.private.Foresight.{ForeseesTable}
use Rattle.alt_ttl.proofs.Surveying.{Among}
use Rattle.alt_ttl.proofs.survey.survey.Given as goal

abbrev pub invariant-loop-name : goal.invariant-loop-name
invariant-loop-name g l = record {
  known : (s : State) → Stands (g.D.Disk.state l.fn.disk) l.fn.tables s → (q : List ℕ) (t : Table)
      → map.get s.tables q ≡ Some t
      → Among q (into_iter_items l.name-iterator) ⊎ ForeseesTable q t l.due;
  there : Every (λ name. map.contains_key (catalog_of l.fn.tables) name ≡ true)
      (into_iter_items l.name-iterator);
  only : OnlyReads (g.D.Disk.state l.fn.disk) (g.D.Disk.state l.disk) l.fn.tables l.tables;
}
