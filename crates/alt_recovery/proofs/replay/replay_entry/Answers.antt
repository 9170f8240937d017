-- The writes of an entry, and then its bytes.
use Rattle.std.proofs.Common.{◌≡◌, ◌+◌, [], List, get_or, length, min, refl, sym, ap, subst, ◌∙◌}
use Rattle.alt_memtable.specs.Rows.{most_bytes}
use Rattle.alt_writes.specs.Bytes.{AllHeld}
use Rattle.alt_writes.specs.Reading.{writes_of}
use Rattle.alt_writes.specs.Writes.{AreRising}
use Rattle.alt_writes.specs.declared.read.LoggedWrite.{LoggedWrite}
use Rattle.alt_recovery.specs.Entries.{writes_in}
use Rattle.alt_recovery.specs.Replays.{Replays}
use Rattle.alt_recovery.specs.declared.replay.Replay.{Replay}
use Rattle.alt_recovery.proofs.ReplayLaws.{replays_counted}
use Rattle.alt_recovery.proofs.replay.replay_entry.Goals as goal

pub join_writes-requires-clause-held : goal.join_writes-requires-clause-held
join_writes-requires-clause-held g c =
    subst (λ (l : List LoggedWrite). AllHeld (writes_of l)) (sym c.as_slice.ensures.value)
    c.in-Ok.ensures.held

pub join_writes-requires-clause-rising : goal.join_writes-requires-clause-rising
join_writes-requires-clause-rising g c =
    subst (λ (l : List LoggedWrite). AreRising c.args.replay.now.least (writes_of l))
    (sym c.as_slice.ensures.value) c.in-Ok.ensures.rising

pub returns-clause-ok : goal.returns-clause-ok
returns-clause-ok g c told entries reads =
    let entry = get_or entries c.args.i [] in
    let old : Replay = c.args.replay.now in
    let now : Replay = c.join_writes.new.replay in
    let new : Replay = record now { length = c.with_more-replay.result } in
    let bytes : c.in-Ok.read.length ≡ length entry = c.in-Ok.ensures.length told entries reads in
    let joined : Replays old now (writes_in c.in-Ok.read) 0 =
    subst (λ (l : List LoggedWrite). Replays old now (writes_of l) 0) c.as_slice.ensures.value
    c.in-Ok-join_writes.ensures.joined in (
      writes_in c.in-Ok.read,
      c.in-Ok.ensures.entry told entries reads,
      replays_counted old now new (writes_in c.in-Ok.read) (length entry) joined refl refl refl
          (c.with_more-replay.ensures ∙ ap (λ n. min (now.length + n) most_bytes) bytes)
          c.join_writes.ensures.length,
    )
