-- The actions so far, and those of the entries that are left.
use Rattle.std.proofs.Common.{◌≡◌, ◌++◌, map}
use Rattle.std.specs.Prelude.{option_map}
use Rattle.serde_json.specs.View.{members_view}
use Rattle.alt_legacy.specs.Changes.{each_change}
use Rattle.alt_legacy.specs.Trees.{action_of}
use Rattle.alt_legacy.proofs.update.actions.Given as goal

abbrev pub invariant-loop-name : goal.invariant-loop-name
invariant-loop-name l =
    option_map (map action_of) (each_change (members_view l.members.entries))
    ≡ option_map (λ cs. l.found ++ map action_of cs) (each_change (members_view l.name-iterator))
