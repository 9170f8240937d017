-- One write more.
use Rattle.std.proofs.Common.{◌≡◌, ◌<◌, ◌≤◌, ◌+◌, ◌++◌, ◌∷◌, [], ℕ, List, get_or, length, refl, sym, ap, subst, take, ◌∙◌, arith}
use Rattle.std.proofs.lemmas.List.{take_all, take_more}
use Rattle.alt_layout.specs.Families.{next_after}
use Rattle.alt_cells.specs.declared.batch.RowChange.{RowChange}
use Rattle.alt_writes.specs.Bytes.{AllHeld, IsHeldWrite}
use Rattle.alt_writes.specs.Reading.{write_of, writes_of}
use Rattle.alt_writes.specs.Writes.{Write}
use Rattle.alt_writes.proofs.EntryReads.{length-reads}
use Rattle.alt_writes.specs.declared.read.LoggedWrite.{LoggedWrite}
use Rattle.alt_recovery.specs.Replays.{IsJoinedTo, Replays}
use Rattle.alt_recovery.specs.declared.replay.Replay.{Replay}
use Rattle.alt_recovery.proofs.ReplayLaws.{held_at, replays_none, replays_one, replays_then, rising_at}
use Rattle.alt_recovery.proofs.SegmentReplays.{write_at}
use Rattle.alt_recovery.proofs.replay.join_writes.Goals as goal

-- a write that was read is held
held_read : (reads : List LoggedWrite) (i : ℕ) (read : LoggedWrite) → read ≡ get_or reads i read
    → AllHeld (writes_of reads) → i < length reads → IsHeldWrite (write_of read)
held_read reads i read is all less =
    subst IsHeldWrite (write_at reads i read ∙ ap write_of (sym is))
    (held_at (writes_of reads) i (write_of read) all (omega (arith, less, length-reads reads)))

pub overflow_add-replay : goal.overflow_add-replay
overflow_add-replay c =
    let held = held_read c.args.writes.now c.loop-write.write-index c.write-item.result
    c.write-item.is c.requires.held c.loop-write-test.true in
    let low = held.number in omega (arith, low)

pub loop-write-init : goal.loop-write-init
loop-write-init c = record { joined = replays_none c.args.replay.now; length = refl }

pub loop-write-preserved : goal.loop-write-preserved
loop-write-preserved c =
    let a : Replay = c.args.replay.now in
    let old : Replay = c.loop-write.replay in
    let ws : List Write = writes_of c.args.writes.now in
    let i = c.loop-write.write-index in
    let read = c.write-item.result in
    let w = write_of read in
    let new : Replay = record old {
      families = c.join_later.new.families;
      least = read.number + 1;
    } in
    let inv = c.loop-write.invariant in
    let less : i < length ws =
    omega (arith, c.loop-write-test.true, length-reads c.args.writes.now) in
    let at : get_or ws i w ≡ w =
    write_at c.args.writes.now i read ∙ ap write_of (sym c.write-item.is) in
    let held : IsHeldWrite w = held_read c.args.writes.now i read c.write-item.is c.requires.held
    c.loop-write-test.true in
    let low : next_after a.least (take i ws) ≤ w.number =
    subst (λ (v : Write). next_after a.least (take i ws) ≤ v.number) at
    (rising_at a.least ws i w c.requires.rising less) in
    let one : Replays old new (w ∷ []) 0 = replays_one old new w held
    (let first = inv.joined.least in omega (arith, first, low)) refl refl refl
    (subst (λ (cs : List RowChange). IsJoinedTo old.flushed old.families c.join_later.new.families
    (record { number = read.number; changes = cs })) c.as_slice.ensures.value
    c.in_ok-join_later.ensures) in
    record {
      joined = subst (λ (l : List Write). Replays a new l 0)
          (ap (λ (v : Write). take i ws ++ v ∷ []) (sym at) ∙ sym (take_more ws i w less))
          (replays_then a old new (take i ws) (w ∷ []) 0 0 inv.joined one);
      length = inv.length;
    }

pub returns-clause-joined : goal.returns-clause-joined
returns-clause-joined c =
    let ws : List Write = writes_of c.args.writes.now in
    subst (λ (l : List Write). Replays c.args.replay.now c.loop-write.replay l 0)
    (take_all c.loop-write.write-index ws
    (omega (arith, c.loop-write-test.false, length-reads c.args.writes.now)))
    c.loop-write.invariant.joined
