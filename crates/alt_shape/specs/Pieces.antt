-- The tokens of the members of a reply, of the items of a list and of tables, one by one.
use Rattle.std.specs.Prelude.{List, ◌∷◌}
use Rattle.serde_json.specs.Data.{array}
use Rattle.serde_json.specs.Written.{outline}
use Rattle.json.specs.Token as token
use Rattle.json.specs.Token.{Token}
use Rattle.json.specs.Tree.{json_tokens}
use Rattle.alt_codec.specs.Writing.{json_of_pairs}
use Rattle.alt_value.specs.Tree.{Pair}
use Rattle.alt_shape.specs.Body.{items_json, part_json}
use Rattle.alt_shape.specs.declared.body.Member.{Member}
use Rattle.alt_shape.specs.declared.body.TableItems.{TableItems}

-- a name, and the tokens of what stands there
abbrev pub member_tokens : Member → List Token
member_tokens m = token.key m.name.now ∷ json_tokens (outline (part_json m.value))

-- the tokens of an item
abbrev pub item_tokens : List Pair → List Token
item_tokens i = json_tokens (outline (json_of_pairs i))

-- the name of a table, and the tokens of the list of its items
abbrev pub table_tokens : TableItems → List Token
table_tokens t = token.key t.table ∷ json_tokens (outline (array (items_json t.items.items)))
