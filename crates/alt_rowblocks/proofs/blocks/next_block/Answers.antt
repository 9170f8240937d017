-- A block with its length.
use Rattle.std.proofs.Common.{◌≡◌, ◌∙◌, ◌+◌, ◌==◌, ◌++◌, sym, ap, arith, take, drop, length, List, ℕ}
use Rattle.alt_fields.specs.Field.{field}
use Rattle.alt_disk.specs.Disk.{DiskState, contents}
use Rattle.alt_disk.proofs.Staying.{tells_on}
use Rattle.alt_rowblocks.proofs.BlockRuns.{next_whole, no_next_block, no_next_field, rows_few}
use Rattle.alt_rowblocks.proofs.StreamLaws.{same_bytes, field_up_to, length_up_to, at_end}
use Rattle.alt_rowblocks.proofs.blocks.next_block.Goals as goal

pub returns-in-Ok-Some-clause-some : goal.returns-in-Ok-Some-clause-some
returns-in-Ok-Some-clause-some g c = λ told room.
    let s : DiskState = g.D.Disk.state c.args.disk.now in
    let t : DiskState = g.D.Disk.state c.length_at.new.disk in
    let bytes = contents s c.args.f in
    let at = c.args.at in
    let end = c.args.end in
    let n = c.in-Some.count in
    let block = c.in-Some-2.block.items in
    let behind = drop (at + 8 + n) (take end bytes) in
    let same = same_bytes s t c.args.f (c.in_ok-count.ensures.quiet told) in
    let counted = rw c.in-Some.is at (c.in_ok-count.ensures.some told room) in
    let fits = rw c.in-Some.is at c.in_ok-count.ensures.room in
    let content : block ≡ take n (drop (at + 8) bytes) =
    (rw c.in-Some-2.is at
    (c.in_ok-block-in-Some.ensures.bytes (tells_on s t c.in_ok-count.ensures.goes told)))
    ∙ ap (λ (l : List ℕ). take n (drop (at + 8) l)) same in
    let whole : drop at (take end bytes) ≡ field c.deref.result.now ++ behind =
    field_up_to bytes at n end block fits room counted content
    ∙ ap (λ (l : List ℕ). field l ++ behind) (sym c.deref.ensures.value) in
    let r = rw c.in-Ok-Some.field-0-is at c.in-Ok-Some.ensures.some in (
      r.0,
      next_whole c.args.after.now (at + 8 + n == end)
          (drop at (take end bytes)) c.deref.result.now behind r.0
          (at_end (at + 8 + n) end (length behind) fits (length_up_to bytes (at + 8 + n) end room))
          whole r.1,
      r.2,
    )

pub returns-in-Ok-None-clause-none : goal.returns-in-Ok-None-clause-none
returns-in-Ok-None-clause-none g c = λ told room.
    let s : DiskState = g.D.Disk.state c.args.disk.now in
    let t : DiskState = g.D.Disk.state c.length_at.new.disk in
    let bytes = contents s c.args.f in
    let at = c.args.at in
    let end = c.args.end in
    let n = c.in-Some.count in
    let block = c.in-Some-2.block.items in
    let behind = drop (at + 8 + n) (take end bytes) in
    let same = same_bytes s t c.args.f (c.in_ok-count.ensures.quiet told) in
    let counted = rw c.in-Some.is at (c.in_ok-count.ensures.some told room) in
    let fits = rw c.in-Some.is at c.in_ok-count.ensures.room in
    let content : block ≡ take n (drop (at + 8) bytes) =
    (rw c.in-Some-2.is at
    (c.in_ok-block-in-Some.ensures.bytes (tells_on s t c.in_ok-count.ensures.goes told)))
    ∙ ap (λ (l : List ℕ). take n (drop (at + 8) l)) same in
    let whole : drop at (take end bytes) ≡ field c.deref.result.now ++ behind =
    field_up_to bytes at n end block fits room counted content
    ∙ ap (λ (l : List ℕ). field l ++ behind) (sym c.deref.ensures.value) in
    let none = rw c.in-Ok-None.field-0-is at c.in-Ok-None.ensures.none in
    no_next_block c.args.after.now (at + 8 + n == end)
    (drop at (take end bytes)) c.deref.result.now behind
    (at_end (at + 8 + n) end (length behind) fits (length_up_to bytes (at + 8 + n) end room))
    c.deref.type_inv.0 whole none

pub returns-in-Ok-Some-clause-place : goal.returns-in-Ok-Some-clause-place
returns-in-Ok-Some-clause-place g c =
    let fits = rw c.in-Some.is at c.in_ok-count.ensures.room in
    let size = rw c.in-Some-2.is at c.in_ok-block-in-Some.ensures.size in
    let r = rw c.in-Ok-Some.field-0-is at c.in-Ok-Some.ensures.some in (
      omega (
        arith,
        r.2.rows_is,
        rows_few r.0,
        ap length r.1.is,
        ap length c.deref.ensures.value,
        size,
      ),
      fits,
    )

pub returns-clause-none : goal.returns-clause-none
returns-clause-none g c = λ told room.
    no_next_field c.args.after.now
    (drop c.args.at (take c.args.end (contents (g.D.Disk.state c.args.disk.now) c.args.f)))
    (rw c.in-None.is at (c.in_ok-count.ensures.none told room))
