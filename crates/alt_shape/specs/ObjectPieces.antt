-- The tokens of objects of a list, of their entries and of the fields inside, one by one.
use Rattle.std.specs.Prelude.{List, ◌∷◌}
use Rattle.serde_json.specs.Written.{outline}
use Rattle.json.specs.Token as token
use Rattle.json.specs.Token.{Token}
use Rattle.json.specs.Tree.{json_tokens}
use Rattle.alt_shape.specs.Objects.{inner_json, leaf_json, object_json}
use Rattle.alt_shape.specs.declared.object.Entry.{Entry}
use Rattle.alt_shape.specs.declared.object.Field.{Field}
use Rattle.alt_shape.specs.declared.object.Object.{Object}

-- a name, and the tokens of the plain value there
abbrev pub field_tokens : Field → List Token
field_tokens f = token.key f.name.now ∷ json_tokens (outline (leaf_json f.value))

-- a name, and the tokens of what stands there
abbrev pub entry_tokens : Entry → List Token
entry_tokens e = token.key e.name.now ∷ json_tokens (outline (inner_json e.value))

-- the tokens of an object
abbrev pub object_tokens : Object → List Token
object_tokens o = json_tokens (outline (object_json o))
