use Rattle.std.proofs.Common.{◌≡◌}
use Rattle.serde_json.specs.View.{members_view}
use Rattle.alt_shape.specs.Bodies as bodies
use Rattle.alt_shape.specs.BodyParts.{in_members, object_fault}
use Rattle.alt_shape.proofs.inside.each_table_of_keys.Given as goal

-- the first fault of all the tables is that of those that are left
abbrev pub invariant-loop-asked : goal.invariant-loop-asked
invariant-loop-asked l = in_members (object_fault bodies.keys_and_attributes)
    (members_view l.tables.entries)
    ≡ in_members (object_fault bodies.keys_and_attributes) (members_view l.asked-iterator)
