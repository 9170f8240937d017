-- Errors that are passed on.
use Rattle.std.proofs.Common.{◌≡◌, ap, Result, Ok, Err}
use Rattle.std.specs.Result.{IsErr, IsErrAnd}

-- an error that is passed on is the same
pub err_is : {A E : Type 0} (r : Result A E) (e : E) → IsErr r × IsErrAnd r (λ x. x ≡ e) → r ≡ Err e
err_is (Ok x) e h = absurd (let g = h.0 in let f : ⊥ = cc in f)
err_is (Err x) e h = ap Err h.1
