-- Reading a set: its members are tested in list order, and two that are equal are a fault where they stand before any other.
use Rattle.std.specs.Prelude.{List, [], ◌∷◌, Result, Ok, Err, Option, Some, None}
use Rattle.std.specs.declared.cmp.Ordering.{Ordering}
use Rattle.serde_json.specs.Data.{Data, null, boolean, number, string, array, object, Items, no_items, item}
use Rattle.alt_value.specs.Members.{set_of}
use Rattle.alt_codec.specs.declared.fault.ValueFault.{ValueFault}
use Rattle.alt_codec.specs.declared.fault.ValueFault.TheVariants as fault
use Rattle.alt_codec.specs.Steps.{and_then}

-- the items of a set, of which there is one at least
abbrev pub set_items : Data → Result Items ValueFault
set_items (array no_items) = Err fault.EmptySet
set_items (array (item d ds)) = Ok (item d ds)
set_items null = Err fault.WrongJson
set_items (boolean b) = Err fault.WrongJson
set_items (number n) = Err fault.WrongJson
set_items (string s) = Err fault.WrongJson
set_items (object ms) = Err fault.WrongJson

-- one member more in front of those that follow, where it has no fault
abbrev pub then_sound : {K : Type 0} → Result K ValueFault → List K → List K
then_sound (Ok k) ks = k ∷ ks
then_sound (Err f) ks = []

-- its fault, where it has one, else that of those that follow
abbrev pub or_later_fault : {K : Type 0} → Result K ValueFault → Option ValueFault → Option ValueFault
or_later_fault (Ok k) later = later
or_later_fault (Err f) later = Some f

-- a set that there is, without a fault
abbrev pub told : {A : Type 0} → Option A → Option ValueFault → Result A ValueFault
told None f = Err fault.RepeatInSet
told (Some s) None = Ok s
told (Some s) (Some f) = Err f

module _ {K : Type 0} (read : Data → Result K ValueFault) where
  -- the members before the first that has a fault
  abbrev pub sound : Items → List K
  sound no_items = []
  sound (item d ds) = then_sound (read d) (sound ds)

  -- the fault of the first that has one
  abbrev pub first_fault : Items → Option ValueFault
  first_fault no_items = None
  first_fault (item d ds) = or_later_fault (read d) (first_fault ds)

module _ {K : Type 0} (R : K → K → Ordering) (read : Data → Result K ValueFault) where
  -- the set of the members, unless two before the first fault are equal, or there is one
  abbrev pub members_of : Items → Result (List K) ValueFault
  members_of ds = told (set_of R (sound read ds)) (first_fault read ds)

  -- the members of a set
  abbrev pub members_in : Data → Result (List K) ValueFault
  members_in d = and_then members_of (set_items d)
