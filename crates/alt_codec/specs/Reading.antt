-- Which value a JSON tree stands for, by cases over the ten kinds, and else its one fault: the first on a walk that tests a
-- value before its elements, a list by rising index and a map by name in byte order (DynamoDB API Reference, "AttributeValue").
use Rattle.std.specs.Prelude.{ℕ, ◌-◌, Bool, true, false, ◌&&◌, List, [], ◌∷◌, codes, ◌==◌, length, Result, Ok, Err, Option, Some, None, if◌then◌else◌}
use Rattle.std.specs.Str.{bytes_eq}
use Rattle.std.specs.Ordering.{int_cmp}
use Rattle.serde_json.specs.Data.{Data, null, boolean, number, string, array, object, Items, no_items, item, Members, no_members, member}
use Rattle.alt_value.specs.Item.{with_pair}
use Rattle.alt_value.specs.Members.{text_order}
use Rattle.alt_value.specs.Tree.{Tree, S_tree, N_tree, B_tree, SS_tree, NS_tree, BS_tree, L_tree, M_tree, Pair, trees_of, fields_of}
use Rattle.alt_codec.specs.declared.fault.ValueFault.{ValueFault}
use Rattle.alt_codec.specs.declared.fault.ValueFault.TheVariants as fault
use Rattle.alt_codec.specs.Scalars.{text_in, number_in, binary_in, truth_in, null_in}
use Rattle.alt_codec.specs.Sets.{members_in}
use Rattle.alt_codec.specs.Steps.{and_then, map_ok}

-- a value or a fault
abbrev pub ValueOrFault : Type 0
ValueOrFault = Result Tree ValueFault

-- a JSON tree is null
abbrev pub is_null : Data → Bool
is_null null = true
is_null (boolean b) = false
is_null (number n) = false
is_null (string s) = false
is_null (array ds) = false
is_null (object ms) = false

-- each member is null, and so counts as absent
abbrev pub all_null : Members → Bool
all_null no_members = true
all_null (member name d ms) = is_null d && all_null ms

-- the value of a kind without nested values; no other name is one of a kind
abbrev pub flat_in : List ℕ → Data → ValueOrFault
flat_in name d =
    if bytes_eq name (codes "S") then map_ok S_tree (text_in d)
    else if bytes_eq name (codes "N") then map_ok N_tree (number_in d)
    else if bytes_eq name (codes "B") then map_ok B_tree (binary_in d)
    else if bytes_eq name (codes "BOOL") then truth_in d
    else if bytes_eq name (codes "NULL") then null_in d
    else if bytes_eq name (codes "SS") then map_ok SS_tree (members_in text_order text_in d)
    else if bytes_eq name (codes "NS") then map_ok NS_tree (members_in int_cmp number_in d)
    else if bytes_eq name (codes "BS") then map_ok BS_tree (members_in text_order binary_in d)
    else Err fault.UnknownKind

-- the answer by the kind's name
abbrev pub by_kind : List ℕ → ValueOrFault → ValueOrFault → ValueOrFault → ValueOrFault
by_kind name list map flat =
    if bytes_eq name (codes "L") then list else if bytes_eq name (codes "M") then map else flat

-- a list or a map that stands too deep is refused before its elements
abbrev pub if_room : {A : Type 0} → ℕ → Result A ValueFault → Result A ValueFault
if_room room answer = if room == 0 then Err fault.TooDeep else answer

-- `room` is how many lists and maps may still be nested
abbrev mutual
  pub value_in : ℕ → Data → ValueOrFault
  value_in room null = Err fault.WrongJson
  value_in room (boolean b) = Err fault.WrongJson
  value_in room (number n) = Err fault.WrongJson
  value_in room (string s) = Err fault.WrongJson
  value_in room (array ds) = Err fault.WrongJson
  value_in room (object ms) = only_member room ms

  -- a null member counts as absent; another has to be the only one
  pub only_member : ℕ → Members → ValueOrFault
  only_member room no_members = Err fault.NotOneMember
  only_member room (member name d ms) = first_member (only_member room ms) (all_null ms) room name d

  -- the answer by the first member, from that of the others, and whether those are all null
  pub first_member : ValueOrFault → Bool → ℕ → List ℕ → Data → ValueOrFault
  first_member others alone room name null = others
  first_member others alone room name (boolean b) =
      if alone then by_kind name (Err fault.WrongJson) (Err fault.WrongJson)
      (flat_in name (boolean b)) else Err fault.NotOneMember
  first_member others alone room name (number n) =
      if alone then by_kind name (Err fault.WrongJson) (Err fault.WrongJson)
      (flat_in name (number n)) else Err fault.NotOneMember
  first_member others alone room name (string s) =
      if alone then by_kind name (Err fault.WrongJson) (Err fault.WrongJson)
      (flat_in name (string s)) else Err fault.NotOneMember
  first_member others alone room name (array ds) =
      if alone then by_kind name (if_room room
      (map_ok (λ ts. L_tree (trees_of ts)) (elements_in (room - 1) ds))) (Err fault.WrongJson)
      (flat_in name (array ds)) else Err fault.NotOneMember
  first_member others alone room name (object ms) =
      if alone then by_kind name (Err fault.WrongJson)
      (if_room room (map_ok (λ ps. M_tree (fields_of ps)) (fields_in (room - 1) [] ms)))
      (flat_in name (object ms)) else Err fault.NotOneMember

  -- the elements of a list, each with the value that it stands for
  pub elements_in : ℕ → Items → Result (List Tree) ValueFault
  elements_in room no_items = Ok []
  elements_in room (item d ds) = and_then (λ t. map_ok (λ ts. t ∷ ts) (elements_in room ds))
      (value_in room d)

  -- The pairs of a map, each put to those found so far. A name is tested before the value that it has.
  pub fields_in : ℕ → List Pair → Members → Result (List Pair) ValueFault
  fields_in room found no_members = Ok found
  fields_in room found (member name d ms) =
      if length name == 0 then Err fault.EmptyName
      else and_then (λ t. fields_in room (with_pair name t found) ms) (value_in room d)

-- the one member that isn't null
abbrev pub only_present : Members → Option (List ℕ × Data)
only_present no_members = None
only_present (member name d ms) = if is_null d then only_present ms
    else (if all_null ms then Some (name, d) else None)

-- what a kind's payload stands for, by the kind's name
abbrev pub list_in : ℕ → Data → ValueOrFault
list_in room (array ds) = if_room room (map_ok (λ ts. L_tree (trees_of ts))
    (elements_in (room - 1) ds))
list_in room null = Err fault.WrongJson
list_in room (boolean b) = Err fault.WrongJson
list_in room (number n) = Err fault.WrongJson
list_in room (string s) = Err fault.WrongJson
list_in room (object ms) = Err fault.WrongJson

-- a map is an object of values, where there is room for it
abbrev pub map_in : ℕ → Data → ValueOrFault
map_in room (object ms) = if_room room (map_ok (λ ps. M_tree (fields_of ps))
    (fields_in (room - 1) [] ms))
map_in room null = Err fault.WrongJson
map_in room (boolean b) = Err fault.WrongJson
map_in room (number n) = Err fault.WrongJson
map_in room (string s) = Err fault.WrongJson
map_in room (array ds) = Err fault.WrongJson

-- by the name of the kind
abbrev pub payload_in : ℕ → List ℕ → Data → ValueOrFault
payload_in room name d = by_kind name (list_in room d) (map_in room d) (flat_in name d)

-- an item is an object of values
abbrev pub item_in : ℕ → Data → Result (List Pair) ValueFault
item_in room (object ms) = fields_in room [] ms
item_in room null = Err fault.WrongJson
item_in room (boolean b) = Err fault.WrongJson
item_in room (number n) = Err fault.WrongJson
item_in room (string s) = Err fault.WrongJson
item_in room (array ds) = Err fault.WrongJson
