-- The block at which the key is.
use Rattle.std.proofs.Common.{inl, inr, ◌≡◌, ◌+◌, ◌-◌, ◌<◌, ◌∙◌, sym, subst, arith, refl, length, List, Some}
use Rattle.std.proofs.lemmas.Bool.{false≢true}
use Rattle.alt_disk.specs.Disk.{DiskState}
use Rattle.alt_rowblocks.specs.Format.{Mark}
use Rattle.alt_rowblocks.specs.Searching.{EndsAt}
use Rattle.alt_rowfile.specs.Walking.{list_from}
use Rattle.alt_rowfile.proofs.LoadLaws.{at_place, here}
use Rattle.alt_rowfile.proofs.SeekLaws.{nothing_held, sought_first, sought_in}
use Rattle.alt_rowfile.proofs.seek.start_at.Goals as goal

pub returns-then-count-eq0-clause-left : goal.returns-then-count-eq0-clause-left
returns-then-count-eq0-clause-left g c = λ told rows reads.
    let s : DiskState = g.D.Disk.state c.args.disk.now in
    let file = c.args.file.now in
    let n = c.blocks_up_to-count.result in
    let ends : EndsAt file.marks.items c.args.key.now n =
    subst (λ (m : List Mark). EndsAt m c.args.key.now n)
    c.deref.ensures.value c.blocks_up_to-count.ensures in
    nothing_held s file c.args.forward 0 c.empty.result
    (list_from rows (Some c.args.key.now) c.args.forward) (c.empty.ensures c.args.forward)
    (sought_first s s file c.args.key.now rows reads refl n ends c.if-count-eq0.true c.args.forward)

pub returns-then-forward-clause-left : goal.returns-then-forward-clause-left
returns-then-forward-clause-left g c = λ told rows reads.
    let s : DiskState = g.D.Disk.state c.args.disk.now in
    let t : DiskState = g.D.Disk.state c.load.new.disk in
    let file = c.args.file.now in
    let n = c.blocks_up_to-count.result in
    let ends : EndsAt file.marks.items c.args.key.now n =
    subst (λ (m : List Mark). EndsAt m c.args.key.now n)
    c.deref.ensures.value c.blocks_up_to-count.ensures in
    let less : n - 1 < length file.marks.items =
    omega (arith, ends.within, c.if-count-eq0.false) in
    let b = here s file.file file.marks.items file.end (n - 1) rows reads less in
    let loaded = at_place s file.file file.marks.items file.end (n - 1) rows reads less in
    sought_in s t file c.args.key.now rows reads ((c.in-Ok.ensures.quiet told).file file.file) n
    (n - 1) ends
    (omega (arith, c.if-count-eq0.false))
    c.in-Ok.hand c.args.forward n (c.in-Ok.ensures.block told b loaded) loaded.held.0 (λ up. refl)
    (λ down. absurd (false≢true (sym down ∙ c.if-forward.true)))

pub returns-else-forward-clause-left : goal.returns-else-forward-clause-left
returns-else-forward-clause-left g c = λ told rows reads.
    let s : DiskState = g.D.Disk.state c.args.disk.now in
    let t : DiskState = g.D.Disk.state c.load.new.disk in
    let file = c.args.file.now in
    let n = c.blocks_up_to-count.result in
    let ends : EndsAt file.marks.items c.args.key.now n =
    subst (λ (m : List Mark). EndsAt m c.args.key.now n)
    c.deref.ensures.value c.blocks_up_to-count.ensures in
    let less : n - 1 < length file.marks.items =
    omega (arith, ends.within, c.if-count-eq0.false) in
    let b = here s file.file file.marks.items file.end (n - 1) rows reads less in
    let loaded = at_place s file.file file.marks.items file.end (n - 1) rows reads less in
    sought_in s t file c.args.key.now rows reads ((c.in-Ok.ensures.quiet told).file file.file) n
    (n - 1) ends
    (omega (arith, c.if-count-eq0.false))
    c.in-Ok.hand c.args.forward (n - 1) (c.in-Ok.ensures.block told b loaded) loaded.held.0
    (λ up. absurd (false≢true (sym c.if-forward.false ∙ up))) (λ down. refl)

pub returns-then-count-eq0-clause-given : goal.returns-then-count-eq0-clause-given
returns-then-count-eq0-clause-given g c =
    let file = c.args.file.now in
    let n = c.blocks_up_to-count.result in
    let ends : EndsAt file.marks.items c.args.key.now n =
    subst (λ (m : List Mark). EndsAt m c.args.key.now n)
    c.deref.ensures.value c.blocks_up_to-count.ensures in
    inl (
      refl,
      λ way. c.empty.ensures way,
      subst (EndsAt file.marks.items c.args.key.now) c.if-count-eq0.true ends,
      refl,
    )

pub returns-then-forward-clause-given : goal.returns-then-forward-clause-given
returns-then-forward-clause-given g c =
    let file = c.args.file.now in
    let n = c.blocks_up_to-count.result in
    let ends : EndsAt file.marks.items c.args.key.now n =
    subst (λ (m : List Mark). EndsAt m c.args.key.now n)
    c.deref.ensures.value c.blocks_up_to-count.ensures in
    let one : n ≡ n - 1 + 1 = omega (arith, c.if-count-eq0.false) in
    inr (
      n - 1,
      c.in-Ok.ensures.given,
      c.in-Ok.ensures.begun,
      subst (EndsAt file.marks.items c.args.key.now) one ends,
      rw c.if-forward.true one,
    )

pub returns-else-forward-clause-given : goal.returns-else-forward-clause-given
returns-else-forward-clause-given g c =
    let file = c.args.file.now in
    let n = c.blocks_up_to-count.result in
    let ends : EndsAt file.marks.items c.args.key.now n =
    subst (λ (m : List Mark). EndsAt m c.args.key.now n)
    c.deref.ensures.value c.blocks_up_to-count.ensures in
    let one : n ≡ n - 1 + 1 = omega (arith, c.if-count-eq0.false) in
    inr (
      n - 1,
      c.in-Ok.ensures.given,
      c.in-Ok.ensures.begun,
      subst (EndsAt file.marks.items c.args.key.now) one ends,
      rw c.if-forward.false refl,
    )
