-- What callers of the tables say of the disk: what a call that reads leaves, for which state the tables stand behind it, and for which
-- state the files stand that a stop leaves.
use Rattle.std.proofs.Common.{◌≡◌, ◌≤◌, ◌&&◌, Bool, true, false, sym, subst, ℕ, List, Option, IsTrue}
use Rattle.std.specs.Prelude.{◌↔◌, ⊤}
use Rattle.alt_disk.specs.Disk.{DiskState, Goes, IsImage, IsTrusted}
use Rattle.alt_disk.specs.Runs.{Quiet, Spans}
use Rattle.alt_disk.proofs.Calls.{goes_refl, goes_on}
use Rattle.alt_disk.proofs.Runs.{quiet_start, quiet_then, tells_of, trusted_back}
use Rattle.alt_rowchanges.proofs.OpeningOverEngine.{files_hold, one_layout_in_hand}
use Rattle.alt_machine.specs.State.{State}
use Rattle.alt_rowchanges.specs.OpeningImages.{StandsFor}
use Rattle.alt_rowchanges.specs.OpeningRecovery.{WasLeft}
use Rattle.alt_rowchanges.proofs.OpeningEngineLaws.{stays_quiet}
use Rattle.alt_tables.specs.Images.{AfterSome, ImagesAreWhole, StateLasts, Leaves}
use Rattle.alt_tables.specs.Stands.{AreReady, HasRows, Stands, Reads}
use Rattle.alt_tables.specs.declared.tables.Tables.{Tables}
use Rattle.alt_tables.proofs.Holding.{each_holds, holds_quiet, leaves_behind, leaves_quiet}
use Rattle.alt_tables.proofs.Holding as holding

-- ---- calls that read

-- no call at all reads
pub reads_nothing : (d : DiskState) → Reads d d
reads_nothing d = record { goes = goes_refl d; quiet = λ tells. quiet_start d }

-- one after another
pub reads_then : (a b c : DiskState) → Reads a b → Reads b c → Reads a c
reads_then a b c first then = record {
  goes = goes_on a b c first.goes then.goes;
  quiet = λ tells. quiet_then a b c (first.quiet tells)
      (then.quiet (subst IsTrue (sym first.goes.tells) tells));
}

-- ---- the tables behind them

-- tables that stand for a state stand over a disk that can be relied on
pub stands_trusted : (a : DiskState) (t : Tables) (s : State) → Stands a t s → IsTrusted a
stands_trusted a t s stands = stands.rows.trusted

-- calls that leave every file, and what the disk says of itself, leave for which state they stand
pub stands_quiet : (a b : DiskState) (t : Tables) (s : State) → b.tells ≡ a.tells
    → b.honest ≡ a.honest → Quiet a b → Stands a t s → Stands b t s
stands_quiet a b t s tells honest quiet stands = record {
  catalog = stands.catalog;
  number = stands.number;
  family = stands.family;
  live = stands.live;
  trimmed = stands.trimmed;
  rows = holds_quiet a b t.engine s tells honest quiet stands.rows;
  fronts = λ m rows. stands.fronts m (subst (λ l. HasRows a t l)
      (one_layout_in_hand b t.engine stands.rows.layout m
      (stays_quiet a b t.engine stands.rows.layout stands.rows.is quiet) rows) stands.rows.is);
  due = stands.due;
  sized = stands.sized;
  builds = stands.builds;
  valid = stands.valid;
}

-- so do calls that read and aren't theirs
pub stays_read : (a b : DiskState) (t : Tables) (s : State) → Reads a b → Stands a t s
    → Stands b t s
stays_read a b t s reads stands = stands_quiet a b t s reads.goes.tells reads.goes.honest
    (reads.quiet (tells_of a stands.rows.trusted)) stands

-- and stay so where a call says that they stand for what they stood for
pub ready_on : (a b : DiskState) (t u : Tables) → Goes a b
    → ((s : State) → Stands a t s ↔ Stands b u s) → AreReady a t → AreReady b u
ready_on a b t u goes stays ready trusted =
    let (s, stands) = ready (trusted_back a b goes trusted) in (s, (stays s).0 stands)

-- ---- what a stop leaves

-- a call that reads leaves what the state is, whatever writes were to be made
pub leaves_reads : (a b : DiskState) (t : Tables) (s : State) (atoms : List State) → Reads a b
    → Stands a t s → Leaves a b s atoms
leaves_reads a b t s atoms reads stands = leaves_quiet a b t.engine s atoms stands.rows
    stands.valid (reads.quiet (tells_of a stands.rows.trusted))

-- and one that writes behind it leaves what it leaves from the start on
pub leaves_after : (a b c : DiskState) (t : Tables) (s : State) (atoms : List State) → Reads a b
    → Stands a t s → Leaves b c s atoms → Leaves a c s atoms
leaves_after a b c t s atoms reads stands then = leaves_behind a b c t.engine s atoms stands.rows
    stands.valid (reads.quiet (tells_of a stands.rows.trusted)) then

-- whatever a stop leaves at each moment of a call stands for the state after some of its writes
pub leaves_images : (a b : DiskState) (t : Tables) (s : State) (atoms : List State) → Stands a t s
    → Leaves a b s atoms → Spans a b (λ _. ⊤) (AfterSome s atoms)
leaves_images a b t s atoms stands leaves =
    holding.leaves_images a b t.engine s atoms stands.rows stands.valid leaves

-- whatever a stop now leaves stands for the state
pub stands_left : (a : DiskState) (t : Tables) (s : State) → Stands a t s
    → (image : ℕ → Option (List ℕ)) → IsImage a a.moment image → StandsFor image s
stands_left a t s stands = each_holds a t.engine s stands.rows stands.valid

-- and so do the files as they read
pub stands_read : (a : DiskState) (t : Tables) (s : State) → Stands a t s → StandsFor a.file s
stands_read a t s stands = record {
  layout = stands.rows.layout;
  is = files_hold a t.engine stands.rows.layout stands.rows.is.hand.reads;
  shows = stands.rows.shows;
  valid = stands.valid;
  held = stands.rows.held;
}

-- so what the disk holds stands for it
pub stands_lasts : (a : DiskState) (t : Tables) (s : State) → Stands a t s → StateLasts a s
stands_lasts a t s stands = record {
  reads = stands_read a t s stands;
  left = stands_left a t s stands;
}

-- also behind calls that read, whatever becomes of the tables
pub reads_lasts : (a b : DiskState) (t : Tables) (s : State) → Reads a b → Stands a t s → StateLasts b s
reads_lasts a b t s reads stands = stands_lasts b t s (stays_read a b t s reads stands)

-- ---- a disk that is whole

-- a disk that keeps what was synced and tells its contents can be relied on
both_so : (b c : Bool) → IsTrue b → IsTrue c → IsTrue (b && c)
both_so true true p q = q
both_so true false p q = q
both_so false c p q = p

-- it is whole at each moment of an opening
pub whole_on : (a b : DiskState) → Goes a b
    → (IsTrusted a → Spans a b (λ _. ⊤) (WasLeft a)) → IsTrue a.tells → ImagesAreWhole a a.moment
    → (t : ℕ) → a.moment ≤ t → t ≤ b.moment → ImagesAreWhole b t
whole_on a b goes any_moment tells whole t low high = record {
  honest = subst IsTrue (sym goes.honest) whole.honest;
  each = λ image is.
      let like : WasLeft a t image =
      (any_moment (both_so a.tells a.honest tells whole.honest)).each t image low high is in
      let (s, stands) = whole.each like.before like.left in
      (s, like.same s stands);
}
