-- A value without elements stops at its one piece.
use Rattle.std.proofs.Common.{refl, inl, ◌∷◌}
use Rattle.std.proofs.lemmas.Result.{err_from_is_err_and}
use Rattle.alt_base.proofs.Lists.{cons_same}
use Rattle.alt_cellbytes.specs.Places.{StopsHere, no_text, no_number, no_binary, no_truth}
use Rattle.alt_cellbytes.proofs.Kept.{stop_map}
use Rattle.alt_cellbytes.proofs.reading.take_flat.Goals as goal

pub returns-in_err-text-in-1-clause-stop : goal.returns-in_err-text-in-1-clause-stop
returns-in_err-text-in-1-clause-stop c =
    let p = err_from_is_err_and c.from_residual.result c.from_residual.ensures.1 in
    rw (p.1, p.2) (stop_map _ (StopsHere (c.args.kind ∷ c.args.bytes.now))
    c.in_err-text-in-1.field-0.0
    (λ n h. no_text c.args.bytes.now (cons_same c.args.kind 1 c.args.bytes.now c.args.bytes.now
    c.in-1.is refl) h) c.in_err-text-in-1.ensures.stop)

pub returns-in_err-binary-in-3-clause-stop : goal.returns-in_err-binary-in-3-clause-stop
returns-in_err-binary-in-3-clause-stop c =
    let p = err_from_is_err_and c.from_residual-in_err-binary-in-3.result
    c.from_residual-in_err-binary-in-3.ensures.1 in
    rw (p.1, p.2) (stop_map _ (StopsHere (c.args.kind ∷ c.args.bytes.now))
    c.in_err-binary-in-3.field-0.0
    (λ n h. no_binary c.args.bytes.now (cons_same c.args.kind 3 c.args.bytes.now c.args.bytes.now
    c.in-3.is refl) (inl h)) c.in_err-binary-in-3.ensures.stop)

pub returns-in_err-truth-in-4-clause-stop : goal.returns-in_err-truth-in-4-clause-stop
returns-in_err-truth-in-4-clause-stop c =
    let p = err_from_is_err_and c.from_residual-in_err-truth-in-4.result
    c.from_residual-in_err-truth-in-4.ensures.1 in
    rw (p.1, p.2) (stop_map _ (StopsHere (c.args.kind ∷ c.args.bytes.now))
    c.in_err-truth-in-4.field-0.0
    (λ n h. no_truth c.args.bytes.now (cons_same c.args.kind 4 c.args.bytes.now c.args.bytes.now
    c.in-4.is refl) h.0 h.1) c.in_err-truth-in-4.ensures.stop)

pub returns-in-Err-clause-stop : goal.returns-in-Err-clause-stop
returns-in-Err-clause-stop c =
    stop_map _ (StopsHere (c.args.kind ∷ c.args.bytes.now)) c.in-Err.stop
    (λ n h. no_number c.args.bytes.now (cons_same c.args.kind 2 c.args.bytes.now c.args.bytes.now
    c.in-2.is refl) h) c.in-Err.ensures.stop
