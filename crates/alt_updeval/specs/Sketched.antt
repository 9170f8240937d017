-- What a sketch of an update says of the item after it.
use Rattle.std.specs.Prelude.{◌≡◌, ℕ, true, List, Result, Ok}
use Rattle.alt_expr.specs.Located.{View}
use Rattle.alt_expr.specs.Updated.{ActionFault}
use Rattle.alt_updeval.specs.Changes.{changed_by}
use Rattle.alt_updeval.specs.StandsIn.{StandsInIf}
use Rattle.alt_updeval.specs.declared.sketch.Sketch.{Sketch}

-- The update isn't refused, and what the sketch makes of each attribute stands in for what the update does. Where nothing was left
-- out they are the same.
pub record IsSketch (item : View) (told : Result View ActionFault) (s : Sketch) : Type 0 where
  pub new : View
  pub updated : told ≡ Ok new
  pub stands_in : (name : List ℕ) → StandsInIf (changed_by s.changes.items item name) (new name)
  pub whole : s.whole ≡ true → changed_by s.changes.items item ≡ new
