use Rattle.std.proofs.Common.{◌≡◌, map}
use Rattle.serde_json.specs.View.{members_view}
use Rattle.alt_shape.specs.BodyParts.{in_members, object_fault}
use Rattle.alt_shape.specs.Shape.{demand_of, first_unmet}
use Rattle.alt_shape.proofs.older.each_entry.Given as goal

-- the first fault of all the entries is that of those that are left
abbrev pub invariant-loop-entry : goal.invariant-loop-entry
invariant-loop-entry l = in_members (object_fault (first_unmet (map demand_of l.rules)))
    (members_view l.entries.entries)
    ≡ in_members (object_fault (first_unmet (map demand_of l.rules))) (members_view l.entry-iterator)
