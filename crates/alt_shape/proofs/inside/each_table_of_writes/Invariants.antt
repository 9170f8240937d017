use Rattle.std.proofs.Common.{◌≡◌}
use Rattle.serde_json.specs.View.{members_view}
use Rattle.alt_shape.specs.Bodies as bodies
use Rattle.alt_shape.specs.BodyParts.{in_items, in_members, object_fault, array_fault}
use Rattle.alt_shape.proofs.inside.each_table_of_writes.Given as goal

-- the first fault of all the tables is that of those that are left
abbrev pub invariant-loop-requests : goal.invariant-loop-requests
invariant-loop-requests l = in_members (array_fault (in_items (object_fault bodies.write_request)))
    (members_view l.tables.entries)
    ≡ in_members (array_fault (in_items (object_fault bodies.write_request)))
    (members_view l.requests-iterator)
