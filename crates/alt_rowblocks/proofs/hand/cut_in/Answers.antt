-- The rows of a block stand at the end of its bytes.
use Rattle.std.proofs.Common.{◌-◌, length, refl, Some, None, false}
use Rattle.std.specs.Int.{w64, to_be_bytes}
use Rattle.alt_rowblocks.specs.Decoding.{NoRows}
use Rattle.alt_rowblocks.proofs.PlaceLaws.{no_block_field}
use Rattle.alt_rowblocks.proofs.PickLaws.{none_missing}
use Rattle.alt_rowblocks.proofs.HandLaws.{begun_by, begun_front, block_front, cut_front, some_either}
use Rattle.alt_rowblocks.proofs.hand.cut_in.Goals as goal

pub returns-in-Some-from-clause-some : goal.returns-in-Some-from-clause-some
returns-in-Some-from-clause-some c = λ b held sorted is.
    let f = c.in-Some.ensures.some in
    let p = block_front c.args.bytes.now c.in-Some.rows.now b held is f.0
    f.1 in
    rw c.in-Some-from.is
    (some_either c.pass.result (λ v. v.0.items) (λ v. v.1) c.args.bytes.now c.in-Some-from.key.now
    c.args.forward b
    (c.pass.ensures.passed (to_be_bytes w64 (length c.in-Some.rows.now)) b (held.0, sorted) p.0 p.1))

pub returns-in-Some-from-clause-none : goal.returns-in-Some-from-clause-none
returns-in-Some-from-clause-none c = λ b held sorted is.
    let f = c.in-Some.ensures.some in
    let p = block_front c.args.bytes.now c.in-Some.rows.now b held is f.0
    f.1 in
    none_missing c.pass.result
    (λ (none : NoRows c.in-Some.rows.now). none b (held.0, sorted) p.0) c.pass.ensures.none

pub returns-then-forward-clause-some : goal.returns-then-forward-clause-some
returns-then-forward-clause-some c = λ b held sorted is.
    let f = c.in-Some.ensures.some in
    let p = block_front c.args.bytes.now c.in-Some.rows.now b held is f.0
    f.1 in
    rw (c.in-None-from.is, c.if-forward.true)
    (cut_front c.args.bytes.now (to_be_bytes w64 (length c.in-Some.rows.now)) c.in-Some.rows.now
    c.new.result.items (length c.args.bytes.now - length c.in-Some.rows.now) b c.new.ensures.items
    p.0 p.1 refl)

pub returns-else-forward-clause-some : goal.returns-else-forward-clause-some
returns-else-forward-clause-some c = λ b held sorted is.
    let f = c.in-Some.ensures.some in
    let p = block_front c.args.bytes.now c.in-Some.rows.now b held is f.0
    f.1 in
    rw (c.in-None-from.is, c.if-forward.false)
    (c.pass-else-forward.ensures.passed (to_be_bytes w64 (length c.in-Some.rows.now)) b
    (held.0, sorted) p.0 p.1)

pub returns-else-forward-clause-none : goal.returns-else-forward-clause-none
returns-else-forward-clause-none c = λ b held sorted is.
    let f = c.in-Some.ensures.some in
    let p = block_front c.args.bytes.now c.in-Some.rows.now b held is f.0
    f.1 in
    none_missing c.pass-else-forward.result
    (λ (none : NoRows c.in-Some.rows.now). none b (held.0, sorted) p.0)
    c.pass-else-forward.ensures.none

pub returns-in-None-clause-none : goal.returns-in-None-clause-none
returns-in-None-clause-none c =
    λ b held sorted is. no_block_field c.args.bytes.now b held is c.in-None.ensures.none

pub returns-in-Some-from-clause-begun : goal.returns-in-Some-from-clause-begun
returns-in-Some-from-clause-begun c =
    let is = c.in-Some.ensures.some.1 in
    rw c.in-Some-from.is
    (begun_by c.pass.result (λ v. v.0.items) (λ v. v.1) c.args.bytes.now c.in-Some.rows.now
    (Some c.in-Some-from.key.now) c.args.forward is
    (c.pass.ensures.begun (to_be_bytes w64 (length c.in-Some.rows.now)) is))

pub returns-then-forward-clause-begun : goal.returns-then-forward-clause-begun
returns-then-forward-clause-begun c =
    rw (c.in-None-from.is, c.if-forward.true)
    (begun_front c.args.bytes.now c.in-Some.rows.now c.new.result.items
    (length c.args.bytes.now - length c.in-Some.rows.now) c.in-Some.ensures.some.1
    c.new.ensures.items refl)

pub returns-else-forward-clause-begun : goal.returns-else-forward-clause-begun
returns-else-forward-clause-begun c =
    let is = c.in-Some.ensures.some.1 in
    rw (c.in-None-from.is, c.if-forward.false)
    (begun_by c.pass-else-forward.result (λ v. v.0.items) (λ v. v.1) c.args.bytes.now
    c.in-Some.rows.now None false is
    (c.pass-else-forward.ensures.begun (to_be_bytes w64 (length c.in-Some.rows.now)) is))
