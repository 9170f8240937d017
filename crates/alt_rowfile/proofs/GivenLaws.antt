-- What an answer is made of, from the calls below.
use Rattle.std.proofs.Common.{◌≡◌, ◌∙◌, inr, ap, subst, ℕ, List, [], Option, None}
use Rattle.std.specs.Prelude.{Result, Ok, Err, IfOk}
use Rattle.alt_disk.specs.Disk.{DiskState}
use Rattle.alt_cells.specs.declared.row.RowCells.{RowCells}
use Rattle.alt_cells.specs.declared.source.SourceFault.{SourceFault}
use Rattle.alt_rowblocks.specs.Format.{Entry}
use Rattle.alt_rowfile.specs.Given.{AreRead, GivesBeyondHand, IsRowGiven, IsRowRead, walk_nexts}
use Rattle.alt_rowblocks.specs.Taken.{HandGives, IsBegun}
use Rattle.alt_rowblocks.specs.Holding.{IsInHand}
use Rattle.alt_rowfile.specs.InHand.{block_count}
use Rattle.alt_rowfile.specs.Walking.{IsNext, place_behind_block}
use Rattle.alt_rowblocks.specs.declared.hand.Hand.{Hand}
use Rattle.alt_rowfile.specs.declared.rowfile.RowFile.{RowFile}
use Rattle.alt_rowfile.specs.declared.walk.RowFileWalk.{RowFileWalk}

-- what was read of a block is given
pub given_by : {E : Type 0} (old new : DiskState) (file : RowFile) (block : ℕ) (key : List ℕ)
    (r : Result (Option RowCells) E)
    → IfOk r (IsRowRead old file block key) → IfOk r (IsRowGiven old new file key)
given_by old new file block key (Ok row) read = inr (block, read)
given_by old new file block key (Err e) read = read

-- ---- beyond what is in hand

-- what the next block gives when it is in hand
pub block_gives : (s t : DiskState) (walk new : RowFileWalk) (i : ℕ) (loaded : Hand)
    (r : Result (Option Entry) SourceFault)
    → IsNext walk.forward walk.next (block_count walk.file.now) i
    → AreRead s walk.file.now i loaded.bytes.items → IsBegun loaded None walk.forward
    → new.next ≡ place_behind_block walk.forward i
    → IfOk r (λ row. HandGives loaded walk.forward row new.hand)
    → IfOk r (λ row. GivesBeyondHand s t walk row new)
block_gives s t walk new i loaded (Err e) next read begun behind gives = gives
block_gives s t walk new i loaded (Ok row) next read begun behind gives =
    inr (record {
      block = i;
      next = next;
      loaded = loaded;
      read = read;
      begun = begun;
      gives = gives;
      behind = behind;
    })

-- where nothing is left in hand, the walk gives what is beyond
pub beyond_gives : (s t : DiskState) (walk mid new : RowFileWalk)
    (r : Result (Option Entry) SourceFault) → mid ≡ walk → IsInHand walk.hand walk.forward []
    → new.file ≡ mid.file → new.forward ≡ mid.forward
    → IfOk r (λ row. GivesBeyondHand s t mid row new) → IfOk r (λ row. walk_nexts s t walk row new)
beyond_gives s t walk mid new (Err e) same none file way beyond = beyond
beyond_gives s t walk mid new (Ok row) same none file way beyond = (
  file ∙ ap (λ (w : RowFileWalk). w.file) same,
  way ∙ ap (λ (w : RowFileWalk). w.forward) same,
  inr (none, subst (λ (w : RowFileWalk). GivesBeyondHand s t w row new) same beyond),
)
