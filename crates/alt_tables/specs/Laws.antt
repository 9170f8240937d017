-- The laws of files and of tables that stand for a state.
use Rattle.std.specs.Prelude.{◌≡◌, ◌<◌, ◌^◌, ℕ, false, List, Option, Some, IfSome}
use Rattle.std.specs.FinMap as map
use Rattle.alt_changes.specs.TrimRows.{AreLeft}
use Rattle.alt_disk.specs.Disk.{DiskState, IsImage}
use Rattle.alt_disk.specs.Runs.{Quiet}
use Rattle.alt_layout.specs.Files.{IsLayout}
use Rattle.alt_layout.specs.Layout.{no_rows}
use Rattle.alt_codec.specs.declared.writer.Writer.{Writer}
use Rattle.alt_machine.specs.declared.TheConstants.{NUMBERS_END}
use Rattle.alt_machine.specs.Same.{is_same}
use Rattle.alt_machine.specs.State.{State, Table, start}
use Rattle.alt_machine.specs.Valid.{IsStored, IsValid}
use Rattle.alt_machine.specs.Writes.{after_item_by, with_write_by}
use Rattle.alt_rowchanges.specs.OpeningStateRows.{IsHeldWhole}
use Rattle.alt_rowchanges.specs.RowChanges.{Turns, write_changes}
use Rattle.alt_value.specs.Tree.{Pair}
use Rattle.alt_value.specs.Values.{IsItemOfValues}
use Rattle.alt_rowchanges.specs.OpeningImages.{StandsFor}
use Rattle.alt_tables.specs.Stands.{Stands}
use Rattle.alt_tables.specs.declared.tables.Tables.{Tables}

-- An image stands for at most one state.
abbrev pub OneState : Type 0
OneState = (image : ℕ → Option (List ℕ)) (s r : State) → StandsFor image s → StandsFor image r
    → s ≡ r

-- Tables stand for at most one.
abbrev pub OneInHand : Type 0
OneInHand = (disk : DiskState) (t : Tables) (s r : State) → Stands disk t s → Stands disk t r
    → s ≡ r

-- Where tables stand for a state, so do the files of the disk as they read.
abbrev pub FilesStand : Type 0
FilesStand = (disk : DiskState) (t : Tables) (s : State) → Stands disk t s
    → StandsFor disk.file s

-- And so does whatever a stop now leaves.
abbrev pub EachLeft : Type 0
EachLeft = (disk : DiskState) (t : Tables) (s : State) → Stands disk t s
    → (image : ℕ → Option (List ℕ)) → IsImage disk disk.moment image → StandsFor image s

-- Calls that leave every file, and what the disk says of itself, leave for which state tables stand.
abbrev pub TablesStayQuiet : Type 0
TablesStayQuiet = (a b : DiskState) (t : Tables) (s : State) → b.tells ≡ a.tells
    → b.honest ≡ a.honest → Quiet a b → Stands a t s → Stands b t s

-- Files that hold no rows stand for the empty store.
abbrev pub MadeStands : Type 0
MadeStands = (image : ℕ → Option (List ℕ)) → IsLayout image no_rows → StandsFor image start

-- The changes of an item's row, of its rows in all indexes and of the rows of the stream, whichever rows that are left over are hidden, turn the
-- rows of a state into those of the state with that item, where it differs from what is there.
abbrev pub ItemTurns : Type 0
ItemTurns = (s : State) (moment : ℕ) (writer : Writer) (name : List ℕ) (t : Table) (place : List ℕ)
    (new : Option (List Pair)) (leftovers : List ℕ) → IsValid s → IsHeldWhole s
    → s.next_number < NUMBERS_END
    → map.get s.tables name ≡ Some t → is_same (map.get t.items place) new ≡ false
    → ((item : List Pair) → new ≡ Some item → IsStored t.description place item)
    → IfSome new IsItemOfValues → moment < 2 ^ 64
    → AreLeft (with_write_by s.next_number moment writer t place new).trimmed leftovers
    → Turns (write_changes t.description s.next_number moment writer place (map.get t.items place)
    new t.trimmed (with_write_by s.next_number moment writer t place new).trimmed leftovers) s
    (after_item_by s moment writer name t place new)
