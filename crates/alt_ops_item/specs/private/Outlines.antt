-- What the outline of an item says of it. Private contracts alone cite it.
use Rattle.std.specs.Prelude.{◌≡◌, Bool, true, List, Result, Ok}
use Rattle.alt_shape.specs.Refusals.{Answer}
use Rattle.alt_updeval.specs.StandsIn.{EachOfTwo, StandsInAt}
use Rattle.alt_value.specs.Tree.{Pair}

-- There is an item after the update. The outline has its names, with values that stand in for its values; where it is whole it is that
-- item.
pub record IsOutline (after : Result (List Pair) Answer) (outline : List Pair)
    (whole : Bool) : Type 0 where
  pub item : List Pair
  pub is : after ≡ Ok item
  pub stands_in : EachOfTwo StandsInAt outline item
  pub same : whole ≡ true → outline ≡ item
