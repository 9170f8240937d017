-- Which fault of the values of all entries is told: by name, in an entry Value before AttributeValueList, and that in list order.
use Rattle.std.specs.Prelude.{Option, Some, None, option_and_then, Ok, Err, codes}
use Rattle.serde_json.specs.Data.{Data, Items, no_items, item, Members, no_members, member}
use Rattle.serde_json.specs.Find.{as_array, as_object}
use Rattle.alt_codec.specs.Reading.{ValueOrFault, value_in}
use Rattle.alt_codec.specs.declared.fault.ValueFault.{ValueFault}
use Rattle.alt_shape.specs.Shape.{given}

-- the first, and where there is none the second
abbrev pub or_next_value_fault : Option ValueFault → Option ValueFault → Option ValueFault
or_next_value_fault None second = second
or_next_value_fault (Some f) second = Some f

-- the fault of what was read
abbrev pub fault_of_reading : ValueOrFault → Option ValueFault
fault_of_reading (Ok t) = None
fault_of_reading (Err f) = Some f

-- the fault of a value
abbrev pub value_fault : Data → Option ValueFault
value_fault d = fault_of_reading (value_in 32 d)

-- that of a list, by rising index
abbrev pub list_fault : Items → Option ValueFault
list_fault no_items = None
list_fault (item d ds) = or_next_value_fault (value_fault d) (list_fault ds)

-- that of an entry by its members
abbrev pub members_fault : Members → Option ValueFault
members_fault ms =
    or_next_value_fault (option_and_then value_fault (given (codes "Value") ms))
    (option_and_then list_fault
    (option_and_then as_array (given (codes "AttributeValueList") ms)))

-- that of an entry
abbrev pub entry_fault : Data → Option ValueFault
entry_fault d = option_and_then members_fault (as_object d)

-- that of all entries, by name
abbrev pub each_fault : Members → Option ValueFault
each_fault no_members = None
each_fault (member name d ms) = or_next_value_fault (entry_fault d) (each_fault ms)

-- that of a member
abbrev pub entries_fault : Data → Option ValueFault
entries_fault d = option_and_then each_fault (as_object d)
