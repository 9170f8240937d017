-- What a GetItem answers of what stands at its key.
use Rattle.std.specs.Prelude.{List, Option, option_map, codes}
use Rattle.alt_machine.specs.declared.Expressions.{Expressions}
use Rattle.alt_machine.specs.Ops.GetItem.{parts}
use Rattle.alt_machine.specs.Replies.{item_answer}
use Rattle.alt_shape.specs.Refusals.{Answer}
use Rattle.alt_value.specs.Tree.{Pair}

-- the parts that the projection chooses of the item, if one is there
abbrev pub projected_item_answer : Expressions → Option (List Pair) → Answer
projected_item_answer said item = item_answer (codes "Item") (option_map (parts said.projection) item)
