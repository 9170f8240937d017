-- How a walk stops.
use Rattle.std.specs.Prelude.{Result, Ok, Err}
use Rattle.alt_request.specs.Carried.{WhereFailed}
use Rattle.alt_request.specs.declared.stop.Stop.{Stop}
use Rattle.alt_request.specs.declared.stop.Stop.TheVariants.{Refused, Fault}
use Rattle.alt_request.specs.TablesFaults.{IsFindFault}

-- by a fault of a call that reads
abbrev pub IsFault : Stop → Type 0
IsFault (Refused r) = ⊥
IsFault (Fault f) = IsFindFault f

-- by a fault that isn't a failure of the device
abbrev pub IsUnfailed : Stop → Type 0
IsUnfailed (Refused r) = ⊥
IsUnfailed (Fault f) = WhereFailed f ⊥

-- by a fault, and where the device failed this holds
abbrev pub IfErrFailed : {A : Type 0} → Result A Stop → Type 0 → Type 0
IfErrFailed (Ok x) P = Unit {0}
IfErrFailed (Err (Refused r)) P = ⊥
IfErrFailed (Err (Fault f)) P = WhereFailed f P
