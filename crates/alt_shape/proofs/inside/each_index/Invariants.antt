use Rattle.std.proofs.Common.{◌≡◌, drop}
use Rattle.serde_json.specs.View.{items_view}
use Rattle.alt_shape.specs.Bodies as bodies
use Rattle.alt_shape.specs.BodyParts.{in_items, object_fault}
use Rattle.alt_shape.proofs.inside.each_index.Given as goal

-- the first fault of all the elements is that of those from here on
abbrev pub invariant-loop-element : goal.invariant-loop-element
invariant-loop-element l = in_items (object_fault bodies.secondary_index) (items_view l.elements)
    ≡ in_items (object_fault bodies.secondary_index) (items_view (drop l.element-index l.elements))
