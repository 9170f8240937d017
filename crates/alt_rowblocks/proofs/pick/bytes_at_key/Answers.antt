-- One piece more, or none that could be the next.
use Rattle.std.proofs.Common.{refl, length}
use Rattle.std.specs.Option.{option_copied}
use Rattle.std.proofs.lemmas.Bool.{false≢true}
use Rattle.alt_base.proofs.Numbers.{above_zero_from_test}
use Rattle.alt_rowblocks.proofs.PickLaws.{one_piece_more, no_piece_next, no_key_next}
use Rattle.alt_rowblocks.proofs.pick.bytes_at_key.Goals as goal

pub returns-then-not-is_above-clause-none : goal.returns-then-not-is_above-clause-none
returns-then-not-is_above-clause-none c =
    let p = c.in-Some.ensures.some in
    no_key_next c.args.bytes.now c.pieces.rest.now c.in-Some.behind.now c.args.key.now
    (option_copied c.pieces.last) (option_copied c.pieces.found)
    (c.in-Some.next.now, c.in-Some.row.now) c.pieces.invariant p.0 p.1
    (λ above. false≢true (c.if-not-is_above.ensures.1 above))

pub pieces-preserved : goal.pieces-preserved
pieces-preserved c =
    let p = c.in-Some.ensures.some in
    one_piece_more c.args.bytes.now c.pieces.rest.now c.in-Some.behind.now c.args.key.now
    (option_copied c.pieces.last) (option_copied c.pieces.found)
    (option_copied c.one_more-found.result) (c.in-Some.next.now, c.in-Some.row.now)
    c.pieces.invariant p.0 p.1 (c.if-not-is_above.ensures.0 refl) c.one_more-found.ensures

pub returns-in-None-clause-none : goal.returns-in-None-clause-none
returns-in-None-clause-none c =
    no_piece_next c.args.bytes.now c.pieces.rest.now c.args.key.now (option_copied c.pieces.last)
    (option_copied c.pieces.found) c.pieces.invariant
    (above_zero_from_test (length c.pieces.rest.now) c.pieces-test.ensures) c.in-None.ensures.none
