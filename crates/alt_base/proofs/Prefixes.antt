-- What begins with what, where something fails on the way.
use Rattle.std.proofs.Common.{◌++◌, ap, ◌∙◌, append_assoc, List, Result, Ok, Err, OnErr}
use Rattle.alt_base.specs.Prefix.{IsPrefix}

-- what begins with a list that begins with another begins with that one
pub prefix_trans : {A : Type 0} (a b c : List A) → IsPrefix a b → IsPrefix b c → IsPrefix a c
prefix_trans a b c p q = (p.0 ++ q.0, q.1 ∙ ap (λ xs. xs ++ q.0) p.1 ∙ append_assoc a p.0 q.0)

-- what holds, holds on an error
pub on_err_holds : {T E P : Type 0} (r : Result T E) → P → OnErr r P
on_err_holds (Ok x) p = tt
on_err_holds (Err e) p = p
