-- What the list of the items that are due next knows of the items of tables.
use Rattle.std.specs.Prelude.{◌≡◌, ◌<◌, ◌^◌, ℕ, true, List, Option, Some, IfSome}
use Rattle.std.specs.FinMap as map
use Rattle.alt_due.specs.Due.{Knows}
use Rattle.alt_due.specs.Order.{spot_of}
use Rattle.alt_due.specs.declared.due.Due.{Due}
use Rattle.alt_machine.specs.Expiry.{is_expired}
use Rattle.alt_machine.specs.Ops.BatchWriteItem.{PlacedWrite}
use Rattle.alt_machine.specs.State.{Table, Texts}
use Rattle.alt_schema.specs.declared.schema.TableSchema.{TableSchema}
pub use Rattle.alt_rowchanges.specs.Moments.{IsMomentFrom, IsFirstOver, IsMetFrom}
use Rattle.alt_value.specs.Tree.{Pair}

-- the list knows of an item that stands at a place of a table of that name, at each moment at which it has expired
abbrev pub ForeseesItem : TableSchema → List ℕ → List ℕ → Due → List Pair → Type 0
ForeseesItem d name place due item = (moment : ℕ) → moment < 2 ^ 64
    → is_expired d moment item ≡ true → Knows due moment (spot_of name place)

-- of each item of these tables
abbrev pub Foresees : Texts Table → Due → Type 0
Foresees tables due = (name place : List ℕ) (t : Table) (item : List Pair)
    → map.get tables name ≡ Some t → map.get t.items place ≡ Some item
    → ForeseesItem t.description name place due item

-- of what a write leaves at a place of a table of that name
abbrev pub ForeseesWrite : Texts TableSchema → List ℕ → List ℕ → Option (List Pair) → Due → Type 0
ForeseesWrite catalog name place new due = (d : TableSchema) → map.get catalog name ≡ Some d
    → IfSome new (ForeseesItem d name place due)

-- the same of one of several
abbrev pub ForeseesWritten : Texts TableSchema → Due → PlacedWrite → Type 0
ForeseesWritten catalog due w = ForeseesWrite catalog w.table w.place w.new due
