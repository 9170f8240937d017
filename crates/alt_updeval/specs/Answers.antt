-- A call's answer beside what the definition says: the value, or the fault. Want of memory says nothing.
use Rattle.std.specs.Prelude.{◌≡◌, ◌≢◌, Result, Ok, Err}
use Rattle.alt_expr.specs.Updated.{ActionFault, no_path, wrong_kind, no_number}
use Rattle.alt_updeval.specs.declared.fault.UpdateFault.{UpdateFault}
use Rattle.alt_updeval.specs.declared.fault.UpdateFault.TheVariants.{BadPath, BadKind, BadNumber, NoMemory}

-- the fault of the definition that an answer tells
abbrev pub fault_as_defined : UpdateFault → ActionFault
fault_as_defined BadPath = no_path
fault_as_defined BadKind = wrong_kind
fault_as_defined (BadNumber f) = no_number f
fault_as_defined NoMemory = no_path

-- an answer shows the value that the definition has, or its fault
abbrev pub AnswersAsDefined : {A B : Type 0} → (A → B) → Result A UpdateFault → Result B ActionFault → Type 0
AnswersAsDefined shows (Ok a) told = told ≡ Ok (shows a)
AnswersAsDefined shows (Err f) told = f ≢ NoMemory → told ≡ Err (fault_as_defined f)

-- a fault is that of the definition; want of memory says nothing
abbrev pub IsFaultAsDefined : {B : Type 0} → Result B ActionFault → UpdateFault → Type 0
IsFaultAsDefined told f = f ≢ NoMemory → told ≡ Err (fault_as_defined f)
