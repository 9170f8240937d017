-- A set stops at its count or at a member.
use Rattle.std.proofs.Common.{refl, arith, ◌∷◌}
use Rattle.std.proofs.lemmas.Result.{err_from_is_err_and}
use Rattle.alt_base.proofs.Lists.{cons_same}
use Rattle.alt_cellbytes.specs.Places.{StopsHere, no_count, empty_set, no_text_member, no_number_member, no_binary_member}
use Rattle.alt_cellbytes.proofs.Kept.{stop_map, length-told, zero_told}
use Rattle.alt_cellbytes.proofs.reading.take_set.Goals as goal

pub returns-in_err-count-clause-stop : goal.returns-in_err-count-clause-stop
returns-in_err-count-clause-stop c =
    let p = err_from_is_err_and c.from_residual.result c.from_residual.ensures.1 in
    rw (p.1, p.2) (stop_map _ (StopsHere (c.args.kind ∷ c.args.bytes.now)) c.in_err-count.field-0.0
    (λ n h. no_count c.args.kind c.args.bytes.now c.requires.0 (omega (arith, c.requires.1)) refl h)
    c.in_err-count.ensures.stop)

pub returns-then-count-eq0-clause-stop : goal.returns-then-count-eq0-clause-stop
returns-then-count-eq0-clause-stop c =
    empty_set c.args.kind c.in_ok-count.rest.now c.requires.0 c.requires.1
    (cons_same c.args.kind c.args.kind c.args.bytes.now _ refl
    (zero_told c.in_ok-count.count c.args.bytes.now c.in_ok-count.rest.now c.if-count-eq0.true
    c.in_ok-count.ensures.count.1))
    (length-told c.in_ok-count.count c.args.bytes.now c.in_ok-count.rest.now
    c.in_ok-count.ensures.count.1)

pub returns-in-Err-clause-stop : goal.returns-in-Err-clause-stop
returns-in-Err-clause-stop c =
    stop_map _ (StopsHere (c.args.kind ∷ c.args.bytes.now)) c.in-Err.stop
    (λ n h. no_text_member c.in_ok-count.count c.in_ok-count.rest.now c.in_ok-count.ensures.count.0
    (cons_same c.args.kind 6 c.args.bytes.now _ c.in-6.is c.in_ok-count.ensures.count.1) h)
    c.in-Err.ensures.stop

pub returns-in-Err-take_numbers-clause-stop : goal.returns-in-Err-take_numbers-clause-stop
returns-in-Err-take_numbers-clause-stop c =
    stop_map _ (StopsHere (c.args.kind ∷ c.args.bytes.now)) c.in-Err-take_numbers.stop
    (λ n h. no_number_member c.in_ok-count.count c.in_ok-count.rest.now
    c.in_ok-count.ensures.count.0 (cons_same c.args.kind 7 c.args.bytes.now _ c.in-7.is
    c.in_ok-count.ensures.count.1) h)
    c.in-Err-take_numbers.ensures.stop

pub returns-in-Err-take_binaries-clause-stop : goal.returns-in-Err-take_binaries-clause-stop
returns-in-Err-take_binaries-clause-stop c =
    stop_map _ (StopsHere (c.args.kind ∷ c.args.bytes.now)) c.in-Err-take_binaries.stop
    (λ n h. no_binary_member c.in_ok-count.count c.in_ok-count.rest.now
    c.in_ok-count.ensures.count.0 (cons_same c.args.kind 8 c.args.bytes.now _
    (omega (arith, c.requires.0, c.requires.1, c.in_default)) c.in_ok-count.ensures.count.1) h)
    c.in-Err-take_binaries.ensures.stop
