-- One answer after another: the first fault is the answer.
use Rattle.std.specs.Prelude.{Result, Ok, Err}
use Rattle.alt_codec.specs.declared.fault.ValueFault.{ValueFault}

-- an answer that depends on another
abbrev pub and_then : {A B : Type 0} → (A → Result B ValueFault) → Result A ValueFault
    → Result B ValueFault
and_then f (Ok x) = f x
and_then f (Err e) = Err e

-- what is made of an answer
abbrev pub map_ok : {A B : Type 0} → (A → B) → Result A ValueFault → Result B ValueFault
map_ok f (Ok x) = Ok (f x)
map_ok f (Err e) = Err e
