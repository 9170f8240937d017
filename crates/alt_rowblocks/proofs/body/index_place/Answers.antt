-- The header and the last number.
use Rattle.std.proofs.Common.{◌≡◌, ◌∙◌, ◌-◌, ap, sym, arith, take, drop, length}
use Rattle.std.proofs.lemmas.List.{length-take, length-take-le, take-take}
use Rattle.alt_disk.specs.Disk.{contents, DiskState}
use Rattle.alt_disk.proofs.Staying.{tells_on}
use Rattle.alt_rowblocks.proofs.BodyLaws.{too_short}
use Rattle.alt_rowblocks.proofs.StreamLaws.{same_bytes, up_to}
use Rattle.alt_rowblocks.proofs.BodyLaws.{if_some_weaker, if_none_weaker}
use Rattle.alt_rowblocks.proofs.body.index_place.Goals as goal

pub returns-then-size-lt32-clause-none : goal.returns-then-size-lt32-clause-none
returns-then-size-lt32-clause-none g c = λ told room.
    too_short (take c.args.size (contents (g.D.Disk.state c.args.disk.now) c.args.f))
    (omega (
      arith,
      length-take c.args.size (contents (g.D.Disk.state c.args.disk.now) c.args.f),
      c.if-size-lt32.true,
    ))

pub returns-then-not-branch-clause-none : goal.returns-then-not-branch-clause-none
returns-then-not-branch-clause-none g c = λ told room blocks is.
    omega (arith, c.in_ok-fill.ensures.short told c.if-not-branch.true, room, c.if-size-lt32.false)

pub returns-then-not-branch-2-clause-none : goal.returns-then-not-branch-2-clause-none
returns-then-not-branch-2-clause-none g c = λ told room blocks is.
    let s : DiskState = g.D.Disk.state c.args.disk.now in
    let t : DiskState = g.D.Disk.state c.fill.new.disk in
    let told_t = tells_on s t c.in_ok-fill.ensures.goes told in
    omega (
      arith,
      c.in_ok-fill-2.ensures.short told_t c.if-not-branch-2.true,
      ap length (same_bytes s t c.args.f (c.in_ok-fill.ensures.quiet told)),
      room,
      c.if-size-lt32.false,
    )

pub returns-clause-some : goal.returns-clause-some
returns-clause-some g c = λ told room.
    let s : DiskState = g.D.Disk.state c.args.disk.now in
    let t : DiskState = g.D.Disk.state c.fill.new.disk in
    let f = c.args.f in
    let size = c.args.size in
    let told_t = tells_on s t c.in_ok-fill.ensures.goes told in
    let head : c.fill.new.buf ≡ take 8 (take size (contents s f)) =
    c.in_ok-fill.ensures.filled told c.if-not-branch.false
    ∙ sym (take-take 8 size (contents s f) (omega (arith, c.if-size-lt32.false))) in
    let last : c.fill-2.new.buf ≡ drop (size - 8) (take size (contents s f)) =
    c.in_ok-fill-2.ensures.filled told_t c.if-not-branch-2.false
    ∙ up_to (contents t f) (size - 8) 8 size (omega (arith, c.if-size-lt32.false))
    ∙ ap (λ l. drop (size - 8) (take size l))
    (same_bytes s t f (c.in_ok-fill.ensures.quiet told)) in
    if_some_weaker c.place_in.result _ _
    (λ p is. (sym head ∙ is.0, sym last ∙ is.1)) c.place_in.ensures.some

pub returns-clause-none : goal.returns-clause-none
returns-clause-none g c = λ told room.
    let s : DiskState = g.D.Disk.state c.args.disk.now in
    let t : DiskState = g.D.Disk.state c.fill.new.disk in
    let f = c.args.f in
    let size = c.args.size in
    let told_t = tells_on s t c.in_ok-fill.ensures.goes told in
    let head : c.fill.new.buf ≡ take 8 (take size (contents s f)) =
    c.in_ok-fill.ensures.filled told c.if-not-branch.false
    ∙ sym (take-take 8 size (contents s f) (omega (arith, c.if-size-lt32.false))) in
    let last : c.fill-2.new.buf ≡ drop (size - 8) (take size (contents s f)) =
    c.in_ok-fill-2.ensures.filled told_t c.if-not-branch-2.false
    ∙ up_to (contents t f) (size - 8) 8 size (omega (arith, c.if-size-lt32.false))
    ∙ ap (λ l. drop (size - 8) (take size l))
    (same_bytes s t f (c.in_ok-fill.ensures.quiet told)) in
    if_none_weaker c.place_in.result _ _
    (λ none. none (take size (contents s f))
    (sym (length-take-le size (contents s f) room)) head last) c.place_in.ensures.none
