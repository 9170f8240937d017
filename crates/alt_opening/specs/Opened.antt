-- The state for which the rows of an engine stand, and so a store that was opened.
use Rattle.std.specs.Prelude.{◌≡◌}
use Rattle.alt_disk.specs.Disk.{DiskState, IsTrusted}
use Rattle.alt_engine.specs.InHand.{StandsForLayout as EngineStands, next_write_of_engine}
use Rattle.alt_layout.specs.Layout.{Layout}
use Rattle.alt_engine.specs.declared.engine.Engine.{Engine}
use Rattle.alt_machine.specs.State.{State, descriptions}
use Rattle.alt_machine.specs.Valid.{IsValid}
use Rattle.alt_opening.specs.Sized.{AreSized}
use Rattle.alt_opening.specs.StateRows.{Shows, IsHeldWhole}
use Rattle.alt_opening.specs.Trimmed.{AreTrimmedOf}
use Rattle.alt_opening.specs.declared.recover.Store.{Store}

-- The disk tells its contents and keeps what was synced, and the rows for which the engine stands, as the disk reads and in whatever
-- a stop now leaves, show the state.
pub record EngineHoldsState (disk : DiskState) (engine : Engine) (s : State) : Type 0 where
  pub trusted : IsTrusted disk
  pub layout : Layout
  pub is : EngineStands disk engine layout
  pub shows : Shows layout s
  pub held : IsHeldWhole s

-- A store that was opened, with the disk beneath it, stands for a valid state of the machine: it has the tables that are known, what was
-- trimmed of their changes, and the next number and the next family, none of its items has more bytes than the largest has, and its rows are
-- those on the disk.
pub record OpensAs (disk : DiskState) (store : Store) (s : State) : Type 0 where
  pub catalog : store.catalog ≡ descriptions s.tables
  pub number : next_write_of_engine store.engine ≡ s.next_number
  pub family : store.family ≡ s.next_family
  pub trimmed : AreTrimmedOf s.tables store.trimmed.items
  pub sized : AreSized s.tables store.largest
  pub rows : EngineHoldsState disk store.engine s
  pub valid : IsValid s
