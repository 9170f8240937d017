-- Plain facts that the proofs of each grammar's parser share.
use Rattle.std.proofs.Common.{◌≡◌, Bool, true, false, Ok, Err}
use Rattle.std.specs.Prelude.{Result, is_err, OnOk}

-- nothing is both
pub clash : (b : Bool) → b ≡ true → b ≡ false → ⊥
clash b p q = cc

-- what holds on Ok holds of a result that is no error
pub was_ok : {T E : Type 0} (r : Result T E) (P : Type 0) → is_err r ≡ false → OnOk r P → P
was_ok (Ok t) P e h = h
was_ok (Err f) P e h = absurd (cc)
