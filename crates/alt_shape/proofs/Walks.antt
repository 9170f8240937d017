-- Walks over the items of an array and over the members of an object.
use Rattle.std.proofs.Common.{◌≡◌, ◌<◌, ◌+◌, ℕ, zero, suc, List, [], ◌∷◌, length, drop, get_or, Option, refl, add-one, arith}
use Rattle.serde_json.specs.Data.{Data}
use Rattle.serde_json.specs.View.{view, items_view}
use Rattle.serde_json.specs.declared.value.Value.{Value}
use Rattle.alt_shape.specs.declared.rule.Broken.{Broken}
use Rattle.alt_shape.specs.BodyParts.{in_items}
use Rattle.alt_shape.specs.Shape.{or_next_fault}

-- the same, with the next place as `suc i`
in_items_from_suc : (fault : Data → Option Broken) (vs : List Value) (i : ℕ) (v : Value)
    → i < length vs
    → in_items fault (items_view (drop i vs))
    ≡ or_next_fault (fault (view (get_or vs i v))) (in_items fault (items_view (drop (suc i) vs)))
in_items_from_suc fault [] i v h = absurd (omega arith)
in_items_from_suc fault (x ∷ vs) zero v h = refl
in_items_from_suc fault (x ∷ vs) (suc i) v h = in_items_from_suc fault vs i v (omega arith)

-- the fault of the items from a place on is that of the item there, and else of those after it
pub in_items_from : (fault : Data → Option Broken) (vs : List Value) (i : ℕ) (v : Value)
    → i < length vs
    → in_items fault (items_view (drop i vs))
    ≡ or_next_fault (fault (view (get_or vs i v))) (in_items fault (items_view (drop (i + 1) vs)))
in_items_from fault vs i v h = rw add-one (in_items_from_suc fault vs i v h)
