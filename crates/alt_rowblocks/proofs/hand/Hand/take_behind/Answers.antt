-- The row that stands behind the place, or none at the end.
use Rattle.std.proofs.Common.{◌≡◌, ◌<◌, ◌-◌, ◌∙◌, ap, refl, arith, length, drop}
use Rattle.alt_rowblocks.specs.declared.hand.Hand.{Hand}
use Rattle.std.proofs.lemmas.List.{drop_all}
use Rattle.alt_rowblocks.proofs.TakenLaws.{taken_behind}
use Rattle.alt_rowblocks.proofs.HandLaws.{behind_none, behind_next, behind_some}
use Rattle.alt_rowblocks.proofs.hand.Hand.take_behind.Goals as goal

pub returns-then-self-len-clause-gives : goal.returns-then-self-len-clause-gives
returns-then-self-len-clause-gives c = λ rows h.
    let hand = c.args.self.now in
    behind_none hand hand rows h
    (omega (arith, c.if-self-len.true, c.len.ensures, hand.bytes.ok)) refl

pub returns-in-Ok-Some-clause-gives : goal.returns-in-Ok-Some-clause-gives
returns-in-Ok-Some-clause-gives c = λ rows h.
    let hand = c.args.self.now in
    let p = rw c.in-Ok-Some.field-0-is at c.in-Ok-Some.ensures.some in
    let rest = c.split_at.result.1.now in
    let is : rest ≡ drop hand.at hand.bytes.items =
    c.split_at.ensures.back ∙ ap (drop hand.at) c.deref.ensures.value in
    let some : hand.at < length hand.bytes.items =
    omega (arith, c.if-self-len.false, c.len.ensures, hand.bytes.ok) in
    let new : Hand = record {
      bytes = hand.bytes;
      before = hand.before;
      at = c.len-in-Ok-Some.result - length c.in-Ok-Some.behind.now;
    } in
    behind_next hand new rows h rest is some (c.in-Ok-Some.key, c.in-Ok-Some.row)
    c.in-Ok-Some.behind.now p.0 p.1 refl
    (omega (arith, c.len-in-Ok-Some.ensures, hand.bytes.ok))

pub returns-in-Ok-None-clause-read : goal.returns-in-Ok-None-clause-read
returns-in-Ok-None-clause-read c = λ rows h bad.
    let hand = c.args.self.now in
    let rest = c.split_at.result.1.now in
    let is : rest ≡ drop hand.at hand.bytes.items =
    c.split_at.ensures.back ∙ ap (drop hand.at) c.deref.ensures.value in
    let some : hand.at < length hand.bytes.items =
    omega (arith, c.if-self-len.false, c.len.ensures, hand.bytes.ok) in
    behind_some hand hand rows h rest is some
    (rw c.in-Ok-None.field-0-is at c.in-Ok-None.ensures.none)

pub returns-then-self-len-clause-given : goal.returns-then-self-len-clause-given
returns-then-self-len-clause-given c =
    let hand = c.args.self.now in (
      refl,
      (
        tt,
        drop_all hand.at hand.bytes.items
            (omega (arith, c.if-self-len.true, c.len.ensures, hand.bytes.ok)),
      ),
    )

pub returns-in-Ok-Some-clause-given : goal.returns-in-Ok-Some-clause-given
returns-in-Ok-Some-clause-given c =
    let hand = c.args.self.now in
    let p = rw c.in-Ok-Some.field-0-is at c.in-Ok-Some.ensures.some in
    let rest = c.split_at.result.1.now in
    let is : rest ≡ drop hand.at hand.bytes.items =
    c.split_at.ensures.back ∙ ap (drop hand.at) c.deref.ensures.value in
    let some : hand.at < length hand.bytes.items =
    omega (arith, c.if-self-len.false, c.len.ensures, hand.bytes.ok) in
    let new : Hand = record {
      bytes = hand.bytes;
      before = hand.before;
      at = c.len-in-Ok-Some.result - length c.in-Ok-Some.behind.now;
    } in
    taken_behind hand new rest c.in-Ok-Some.behind.now (c.in-Ok-Some.key, c.in-Ok-Some.row) is some
    p.0 p.1 refl (omega (arith, c.len-in-Ok-Some.ensures, hand.bytes.ok))
