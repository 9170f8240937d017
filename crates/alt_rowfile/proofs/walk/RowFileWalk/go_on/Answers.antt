-- The next block is in hand, or there is none.
use Rattle.std.proofs.Common.{◌≡◌, inl, refl, arith, subst, length, get_or, [], ℕ}
use Rattle.alt_cells.specs.Walks.{turned}
use Rattle.alt_disk.specs.Disk.{DiskState}
use Rattle.alt_rowfile.specs.Walking.{IsEnd, IsNext}
use Rattle.alt_rowfile.proofs.GivenLaws.{block_gives}
use Rattle.alt_rowblocks.proofs.HandLaws.{all_in_hand}
use Rattle.alt_rowfile.proofs.LoadLaws.{at_place, here}
use Rattle.alt_rowfile.proofs.WalkLaws.{left_end, next_within, unread_damage, unread_sound, walk_gives}
use Rattle.alt_rowfile.proofs.walk.RowFileWalk.go_on.Goals as goal

pub returns-in-Ok-clause-gives : goal.returns-in-Ok-clause-gives
returns-in-Ok-clause-gives g c = λ told rows h l.
    let s : DiskState = g.D.Disk.state c.args.disk.now in
    let t : DiskState = g.D.Disk.state c.load.new.disk in
    let walk = c.args.self.now in
    let file = walk.file.now in
    let i = c.in-Some.i in
    let size : c.len.result ≡ length file.marks.items = omega (arith, c.len.ensures, file.marks.ok) in
    let found : IsNext walk.forward walk.next (length file.marks.items) i =
    subst (λ (n : ℕ). IsNext walk.forward walk.next n i) size c.in-Some.ensures.some in
    let less = next_within walk.forward walk.next (length file.marks.items) i found in
    let b = get_or l.reads.as_file.blocks i [] in
    let loaded = at_place s file.file file.marks.items file.end i l.all l.reads less in
    walk_gives s t walk c.begin.new.self i rows l ((c.in-Ok.ensures.quiet told).file file.file) found
    c.begin.result c.begin.ensures.file c.begin.ensures.forward c.begin.ensures.next
    (c.begin.ensures.gives (turned walk.forward b)
    (all_in_hand c.in-Ok.hand walk.forward b (c.in-Ok.ensures.block told b loaded) loaded.held.0))

pub returns-in-Ok-clause-undamaged : goal.returns-in-Ok-clause-undamaged
returns-in-Ok-clause-undamaged g c = λ told rows reads.
    let s : DiskState = g.D.Disk.state c.args.disk.now in
    let walk = c.args.self.now in
    let file = walk.file.now in
    let i = c.in-Some.i in
    let size : c.len.result ≡ length file.marks.items = omega (arith, c.len.ensures, file.marks.ok) in
    let less = next_within walk.forward walk.next (length file.marks.items) i
    (subst (λ (n : ℕ). IsNext walk.forward walk.next n i) size c.in-Some.ensures.some) in
    unread_sound s file i walk.forward c.in-Ok.hand less c.in-Ok.ensures.block c.begin.result
    c.begin.ensures.fault told (here s file.file file.marks.items file.end i rows reads less)
    (at_place s file.file file.marks.items file.end i rows reads less)

pub returns-in-Ok-clause-damage : goal.returns-in-Ok-clause-damage
returns-in-Ok-clause-damage g c =
    let s : DiskState = g.D.Disk.state c.args.disk.now in
    let walk = c.args.self.now in
    let file = walk.file.now in
    let i = c.in-Some.i in
    let size : c.len.result ≡ length file.marks.items = omega (arith, c.len.ensures, file.marks.ok) in
    let less = next_within walk.forward walk.next (length file.marks.items) i
    (subst (λ (n : ℕ). IsNext walk.forward walk.next n i) size c.in-Some.ensures.some) in
    unread_damage s file i walk.forward c.in-Ok.hand less c.in-Ok.ensures.block c.begin.result
    c.begin.ensures.fault

pub returns-in-None-clause-gives : goal.returns-in-None-clause-gives
returns-in-None-clause-gives g c = λ told rows h l.
    let s : DiskState = g.D.Disk.state c.args.disk.now in
    let walk = c.args.self.now in
    let file = walk.file.now in
    let size : c.len.result ≡ length file.marks.items = omega (arith, c.len.ensures, file.marks.ok) in
    left_end s file walk.forward walk.next walk.hand rows h l
    (subst (λ (n : ℕ). IsEnd walk.forward walk.next n) size c.in-None.ensures.none)

pub returns-in-Ok-clause-given : goal.returns-in-Ok-clause-given
returns-in-Ok-clause-given g c =
    let s : DiskState = g.D.Disk.state c.args.disk.now in
    let t : DiskState = g.D.Disk.state c.load.new.disk in
    let walk = c.args.self.now in
    let file = walk.file.now in
    let i = c.in-Some.i in
    let size : c.len.result ≡ length file.marks.items = omega (arith, c.len.ensures, file.marks.ok) in
    let found : IsNext walk.forward walk.next (length file.marks.items) i =
    subst (λ (n : ℕ). IsNext walk.forward walk.next n i) size c.in-Some.ensures.some in
    block_gives s t walk c.begin.new.self i c.in-Ok.hand c.begin.result found c.in-Ok.ensures.given
    c.in-Ok.ensures.begun c.begin.ensures.next c.begin.ensures.given

pub returns-in-None-clause-given : goal.returns-in-None-clause-given
returns-in-None-clause-given g c =
    let walk = c.args.self.now in
    let file = walk.file.now in
    let size : c.len.result ≡ length file.marks.items = omega (arith, c.len.ensures, file.marks.ok) in
    inl (record {
      none = refl;
      end = subst (λ (n : ℕ). IsEnd walk.forward walk.next n) size c.in-None.ensures.none;
      uncalled = refl;
      stays = refl;
    })
