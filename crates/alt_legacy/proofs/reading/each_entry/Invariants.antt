-- What was read so far and what is left give what the whole gives.
use Rattle.std.proofs.Common.{◌≡◌, ◌++◌}
use Rattle.std.specs.Prelude.{option_map}
use Rattle.serde_json.specs.View.{members_view}
use Rattle.alt_legacy.specs.Entries.{each_entry}
use Rattle.alt_legacy.proofs.reading.each_entry.Given as goal

abbrev pub invariant-loop-name : goal.invariant-loop-name
invariant-loop-name l =
    each_entry l.form (members_view l.members.entries) ≡ option_map (λ es. l.found.items ++ es)
    (each_entry l.form (members_view l.name-iterator))
