-- One row more is passed, or the walk begins, or no row stands next.
use Rattle.std.proofs.Common.{◌-◌, refl, length, false}
use Rattle.std.specs.Option.{option_copied}
use Rattle.std.proofs.lemmas.Bool.{false≢true}
use Rattle.alt_base.proofs.Numbers.{zero_from_test, above_zero_from_test}
use Rattle.alt_rowblocks.proofs.RowPlaces.{none_passed, one_passed, no_piece_there, cut_there, cut_end, begun_there, begun_end}
use Rattle.alt_rowblocks.proofs.hand.pass.Goals as goal

pub passed-init : goal.passed-init
passed-init c =
    none_passed c.args.bytes.now c.args.all.now (option_copied c.args.to)
    c.new-places.result.items c.new-places.ensures.items

pub returns-then-not-is_passed-clause-passed : goal.returns-then-not-is_passed-clause-passed
returns-then-not-is_passed-clause-passed c = λ front b are is whole.
    let p = c.in-Some.ensures.some in
    cut_there c.args.bytes.now c.args.all.now c.passed.rest.now (option_copied c.args.to)
    c.passed.places.items c.passed.invariant front b (c.in-Some.key.now, c.in-Some.field-0-1.now)
    c.in-Some.behind.now (length c.args.bytes.now - length c.passed.rest.now) false are is whole p.0
    p.1 (λ passed. false≢true (c.if-not-is_passed.ensures.1 passed)) refl

pub passed-preserved : goal.passed-preserved
passed-preserved c =
    let p = c.in-Some.ensures.some in
    one_passed c.args.bytes.now c.args.all.now c.passed.rest.now c.in-Some.behind.now
    (option_copied c.args.to) (c.in-Some.key.now, c.in-Some.field-0-1.now)
    (length c.args.bytes.now - length c.passed.rest.now)
    c.passed.places.items c.push.new.self.items c.passed.invariant p.0 p.1
    (c.if-not-is_passed.ensures.0 refl) refl c.in_ok-push-in-Some.ensures.items

pub returns-in-None-clause-none : goal.returns-in-None-clause-none
returns-in-None-clause-none c =
    no_piece_there c.args.bytes.now c.args.all.now c.passed.rest.now (option_copied c.args.to)
    c.passed.places.items c.passed.invariant
    (above_zero_from_test (length c.passed.rest.now) c.passed-test.ensures) c.in-None.ensures.none

pub returns-clause-passed : goal.returns-clause-passed
returns-clause-passed c = λ front b are is whole.
    cut_end c.args.bytes.now c.args.all.now c.passed.rest.now (option_copied c.args.to)
    c.passed.places.items c.passed.invariant front b (length c.args.bytes.now) are is whole
    (zero_from_test (length c.passed.rest.now) c.passed-test.ensures) refl

pub returns-then-not-is_passed-clause-begun : goal.returns-then-not-is_passed-clause-begun
returns-then-not-is_passed-clause-begun c = λ front whole.
    let p = c.in-Some.ensures.some in
    begun_there c.args.bytes.now c.args.all.now c.passed.rest.now (option_copied c.args.to)
    c.passed.places.items c.passed.invariant front (c.in-Some.key.now, c.in-Some.field-0-1.now)
    c.in-Some.behind.now (length c.args.bytes.now - length c.passed.rest.now) whole p.0 p.1
    (λ passed. false≢true (c.if-not-is_passed.ensures.1 passed)) refl

pub returns-clause-begun : goal.returns-clause-begun
returns-clause-begun c = λ front whole.
    begun_end c.args.bytes.now c.args.all.now c.passed.rest.now (option_copied c.args.to)
    c.passed.places.items c.passed.invariant front (length c.args.bytes.now) whole
    (zero_from_test (length c.passed.rest.now) c.passed-test.ensures) refl
