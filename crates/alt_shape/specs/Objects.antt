-- What the objects of a list in a reply say, as JSON.
use Rattle.std.specs.Prelude.{List, [], ◌∷◌, string_bytes}
use Rattle.serde_json.specs.Data.{Data, string, number, unsigned, object, Items, no_items, item, Members, no_members, member}
use Rattle.alt_codec.specs.Writing.{json_of_pairs}
use Rattle.alt_shape.specs.declared.object.Entry.{Entry}
use Rattle.alt_shape.specs.declared.object.Field.{Field}
use Rattle.alt_shape.specs.declared.object.Inner.{Inner}
use Rattle.alt_shape.specs.declared.object.Inner.TheVariants as inner
use Rattle.alt_shape.specs.declared.object.Leaf.{Leaf}
use Rattle.alt_shape.specs.declared.object.Leaf.TheVariants as leaf
use Rattle.alt_shape.specs.declared.object.Object.{Object}

-- a plain value
abbrev pub leaf_json : Leaf → Data
leaf_json (leaf.Word w) = string w.now
leaf_json (leaf.Text t) = string (string_bytes t)
leaf_json (leaf.Count n) = number (unsigned n)
leaf_json (leaf.Item i) = json_of_pairs i

-- plain values under their names, in their order
abbrev pub fields_json : List Field → Members
fields_json [] = no_members
fields_json (f ∷ fs) = member f.name.now (leaf_json f.value) (fields_json fs)

-- what stands at an entry: a plain value, or an object of such
abbrev pub inner_json : Inner → Data
inner_json (inner.Leaf l) = leaf_json l
inner_json (inner.Fields fs) = object (fields_json fs.items)

-- entries in their order
abbrev pub entries_json : List Entry → Members
entries_json [] = no_members
entries_json (e ∷ es) = member e.name.now (inner_json e.value) (entries_json es)

-- an object of a list
abbrev pub object_json : Object → Data
object_json o = object (entries_json o.entries.items)

-- the objects of a list
abbrev pub objects_json : List Object → Items
objects_json [] = no_items
objects_json (o ∷ os) = item (object_json o) (objects_json os)
