-- What the body of a reply says, as JSON.
use Rattle.std.specs.Prelude.{List, [], ◌∷◌, string_bytes}
use Rattle.serde_json.specs.Data.{Data, string, number, unsigned, array, object, Items, no_items, item, Members, no_members, member}
use Rattle.serde_json.specs.View.{view}
use Rattle.alt_codec.specs.Writing.{json_of_pairs}
use Rattle.alt_value.specs.Tree.{Pair}
use Rattle.alt_shape.specs.Objects.{objects_json}
use Rattle.alt_shape.specs.declared.body.Body.{Body}
use Rattle.alt_shape.specs.declared.body.Body.TheVariants as body
use Rattle.alt_shape.specs.declared.body.Member.{Member}
use Rattle.alt_shape.specs.declared.body.Part.{Part}
use Rattle.alt_shape.specs.declared.body.Part.TheVariants as part
use Rattle.alt_shape.specs.declared.body.TableItems.{TableItems}

-- the items of a list, each as the object of its names
abbrev pub items_json : List (List Pair) → Items
items_json [] = no_items
items_json (i ∷ is) = item (json_of_pairs i) (items_json is)

-- tables in their order, each with the list of its items
abbrev pub tables_json : List TableItems → Members
tables_json [] = no_members
tables_json (t ∷ ts) = member t.table (array (items_json t.items.items)) (tables_json ts)

-- the value of a member
abbrev pub part_json : Part → Data
part_json (part.Text text) = string text.now
part_json (part.Owned text) = string (string_bytes text)
part_json (part.Count n) = number (unsigned n)
part_json (part.Item i) = json_of_pairs i
part_json (part.Items is) = array (items_json is.items)
part_json (part.Tables ts) = object (tables_json ts.items)
part_json (part.Objects os) = array (objects_json os.items)

-- members in their order
abbrev pub members_json : List Member → Members
members_json [] = no_members
members_json (m ∷ ms) = member m.name.now (part_json m.value) (members_json ms)

-- a tree as it is, or the object of the members
abbrev pub body_json : Body → Data
body_json (body.Tree value) = view value
body_json (body.Members ms) = object (members_json ms.items)
