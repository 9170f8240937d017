-- What the steps of a request come to, where the machine has the same steps.
use Rattle.std.specs.Prelude.{◌≡◌, List, Option, Some, None, Result, Ok, Err}
use Rattle.alt_machine.specs.Refusals.{first_answer}
use Rattle.alt_said.specs.declared.stop.Stop.{Stop}
use Rattle.alt_said.specs.declared.stop.Stop.TheVariants.{Refused, Fault}
use Rattle.alt_shape.specs.Refusals.{Answer, refused, IsKnown}
use Rattle.alt_tables.specs.Faults.{IsReadFault}
use Rattle.alt_tables.specs.DeclaredTableFault.TheVariants.{NoMemory}

-- None of the tests applies, or the request is refused by the first that does.
abbrev pub Tested : {X : Type 0} → List (Option Answer) → Result X Stop → Type 0
Tested tests (Ok x) = first_answer tests ≡ None
Tested tests (Err (Refused r)) = (first_answer tests ≡ Some (refused r)) × IsKnown r
Tested tests (Err (Fault f)) = IsReadFault f

-- What the machine's test finds is what was found, as `of` reads it; or the request is refused as the machine does.
abbrev pub Comes : {A X : Type 0} → (X → A) → Result A Answer → Result X Stop → Type 0
Comes of r (Ok x) = r ≡ Ok (of x)
Comes of r (Err (Refused q)) = (r ≡ Err (refused q)) × IsKnown q
Comes of r (Err (Fault f)) = IsReadFault f

-- memory was wanting
abbrev pub IsMemory : Stop → Type 0
IsMemory stop = stop ≡ Fault NoMemory
