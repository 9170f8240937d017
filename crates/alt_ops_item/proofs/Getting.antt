-- What is shown of an item.
use Rattle.std.proofs.Common.{◌≡◌, refl, List, Option, Some, None, option_map}
use Rattle.alt_machine.specs.Ops.GetItem.{parts}
use Rattle.alt_value.specs.Tree.{Pair}

-- all of an item is shown where no parts are chosen
pub all_parts : (item : Option (List Pair)) → option_map (parts None) item ≡ item
all_parts None = refl
all_parts (Some item) = refl
