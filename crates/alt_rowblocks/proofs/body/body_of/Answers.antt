-- The blocks and their tail, or none.
use Rattle.std.proofs.Common.{◌≡◌, ◌∙◌, ◌-◌, ◌≤◌, ◌<◌, ◌^◌, ap, sym, subst, arith, take, drop, length, List, ℕ, refl}
use Rattle.std.specs.Int.{w64, to_be_bytes}
use Rattle.std.proofs.lemmas.List.{take-take, length-take-le}
use Rattle.alt_disk.specs.Disk.{DiskState, contents}
use Rattle.alt_disk.proofs.Staying.{tells_on}
use Rattle.alt_rowblocks.specs.Format.{tail_bytes}
use Rattle.alt_rowblocks.specs.Blocks.{AreBlocksOf}
use Rattle.alt_rowblocks.proofs.BodyLaws.{other_tail, body_parts, body_whole}
use Rattle.alt_rowblocks.proofs.StreamLaws.{same_bytes}
use Rattle.alt_rowblocks.proofs.body.body_of.Goals as goal

pub returns-then-branch-clause-some : goal.returns-then-branch-clause-some
returns-then-branch-clause-some g c = λ told room.
    let s : DiskState = g.D.Disk.state c.args.disk.now in
    let t : DiskState = g.D.Disk.state c.index_place.new.disk in
    let f = c.args.f in
    let size = c.args.size in
    let end = c.in-Some.end in
    let bytes = contents s f in
    let whole = take size bytes in
    let first = same_bytes s t f (c.in_ok-end.ensures.quiet told) in
    let told_t = tells_on s t c.in_ok-end.ensures.goes told in
    let place = rw c.in-Some.is at (c.in_ok-end.ensures.some told room) in
    let bounds = rw c.in-Some.is at c.in_ok-end.ensures.bounds in
    let long : size ≡ length whole = sym (length-take-le size bytes room) in
    let last : drop (length whole - 8) whole ≡ to_be_bytes w64 end =
    ap (λ n. drop (n - 8) whole) (sym long) ∙ place.1 in
    let fits : end < 2 ^ 64 = omega (arith, bounds, c.ranges.size.fits) in
    let inner : take end whole ≡ take end (contents t f) = take-take end size bytes bounds.1
    ∙ ap (take end) (sym first) in
    let room_t : end ≤ length (contents t f) = omega (arith, bounds, room, ap length first) in
    let u : DiskState = g.D.Disk.state c.read_blocks.new.disk in
    let found = c.in-Some-2.found in
    let blocks = rw c.in-Some-2.is at (c.in_ok-found-in-Some.ensures.some told_t room_t) in
    let are : AreBlocksOf blocks.0 (drop 8 (take end whole)) =
    subst (λ (l : List ℕ). AreBlocksOf blocks.0 (drop 8 l)) (sym inner) blocks.1 in
    let told_u = tells_on t u c.in_ok-found-in-Some.ensures.goes told_t in
    let second : contents u f ≡ bytes =
    same_bytes t u f (c.in_ok-found-in-Some.ensures.quiet told_t) ∙ first in
    let room_u : size ≤ length (contents u f) = omega (arith, room, ap length second) in
    let behind : drop end (take size (contents u f)) ≡ drop end whole =
    ap (λ (l : List ℕ). drop end (take size l)) second in
    let tail = tail_bytes found.marks.items found.rows end in
    let same : tail ≡ drop end whole =
    c.in_ok-is_tail-in-Some-2.ensures.yes told_u room_u c.if-branch.true ∙ behind in
    let p = body_whole whole tail end found.rows found.marks.items blocks.0 bounds.0
    (omega (arith, bounds, long)) fits place.0 are blocks.2 refl same in
    (blocks.0, p.0, p.1, p.2, blocks.2.summary_is, blocks.2.filters_are)

pub returns-else-branch-clause-none : goal.returns-else-branch-clause-none
returns-else-branch-clause-none g c = λ told room.
    let s : DiskState = g.D.Disk.state c.args.disk.now in
    let t : DiskState = g.D.Disk.state c.index_place.new.disk in
    let f = c.args.f in
    let size = c.args.size in
    let end = c.in-Some.end in
    let bytes = contents s f in
    let whole = take size bytes in
    let first = same_bytes s t f (c.in_ok-end.ensures.quiet told) in
    let told_t = tells_on s t c.in_ok-end.ensures.goes told in
    let place = rw c.in-Some.is at (c.in_ok-end.ensures.some told room) in
    let bounds = rw c.in-Some.is at c.in_ok-end.ensures.bounds in
    let long : size ≡ length whole = sym (length-take-le size bytes room) in
    let last : drop (length whole - 8) whole ≡ to_be_bytes w64 end =
    ap (λ n. drop (n - 8) whole) (sym long) ∙ place.1 in
    let fits : end < 2 ^ 64 = omega (arith, bounds, c.ranges.size.fits) in
    let inner : take end whole ≡ take end (contents t f) = take-take end size bytes bounds.1
    ∙ ap (take end) (sym first) in
    let room_t : end ≤ length (contents t f) = omega (arith, bounds, room, ap length first) in
    let u : DiskState = g.D.Disk.state c.read_blocks.new.disk in
    let found = c.in-Some-2.found in
    let blocks = rw c.in-Some-2.is at (c.in_ok-found-in-Some.ensures.some told_t room_t) in
    let are : AreBlocksOf blocks.0 (drop 8 (take end whole)) =
    subst (λ (l : List ℕ). AreBlocksOf blocks.0 (drop 8 l)) (sym inner) blocks.1 in
    let told_u = tells_on t u c.in_ok-found-in-Some.ensures.goes told_t in
    let second : contents u f ≡ bytes =
    same_bytes t u f (c.in_ok-found-in-Some.ensures.quiet told_t) ∙ first in
    let room_u : size ≤ length (contents u f) = omega (arith, room, ap length second) in
    let behind : drop end (take size (contents u f)) ≡ drop end whole =
    ap (λ (l : List ℕ). drop end (take size l)) second in
    let tail = tail_bytes found.marks.items found.rows end in
    other_tail whole tail end found.rows found.marks.items blocks.0 fits last are blocks.2 refl
    (λ same. c.in_ok-is_tail-in-Some-2.ensures.no told_u room_u c.if-branch.false (same
    ∙ sym behind))

pub returns-in-None-2-clause-none : goal.returns-in-None-2-clause-none
returns-in-None-2-clause-none g c = λ told room blocks is.
    let s : DiskState = g.D.Disk.state c.args.disk.now in
    let t : DiskState = g.D.Disk.state c.index_place.new.disk in
    let f = c.args.f in
    let size = c.args.size in
    let end = c.in-Some.end in
    let bytes = contents s f in
    let whole = take size bytes in
    let first = same_bytes s t f (c.in_ok-end.ensures.quiet told) in
    let told_t = tells_on s t c.in_ok-end.ensures.goes told in
    let place = rw c.in-Some.is at (c.in_ok-end.ensures.some told room) in
    let bounds = rw c.in-Some.is at c.in_ok-end.ensures.bounds in
    let long : size ≡ length whole = sym (length-take-le size bytes room) in
    let last : drop (length whole - 8) whole ≡ to_be_bytes w64 end =
    ap (λ n. drop (n - 8) whole) (sym long) ∙ place.1 in
    let fits : end < 2 ^ 64 = omega (arith, bounds, c.ranges.size.fits) in
    let inner : take end whole ≡ take end (contents t f) = take-take end size bytes bounds.1
    ∙ ap (take end) (sym first) in
    let room_t : end ≤ length (contents t f) = omega (arith, bounds, room, ap length first) in
    let none = rw c.in-None-2.is at (c.in_ok-found-in-Some.ensures.none told_t room_t) in
    none blocks (subst (λ (l : List ℕ). AreBlocksOf blocks (drop 8 l)) inner
    (body_parts whole end fits last blocks is).0)

pub returns-in-None-clause-none : goal.returns-in-None-clause-none
returns-in-None-clause-none g c = λ told room.
    rw c.in-None.is at (c.in_ok-end.ensures.none told room)
