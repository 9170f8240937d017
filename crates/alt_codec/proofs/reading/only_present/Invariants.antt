-- What was found and what is left give what the whole gives.
use Rattle.std.proofs.Common.{◌≡◌}
use Rattle.std.specs.Option.{option_map}
use Rattle.serde_json.specs.View.{view, members_view}
use Rattle.alt_codec.specs.Reading.{only_present}
use Rattle.alt_codec.proofs.Present.{found_with}
use Rattle.alt_codec.proofs.reading.only_present.Given as goal

abbrev pub invariant-loop-name : goal.invariant-loop-name
invariant-loop-name l =
    only_present (members_view l.members.entries)
    ≡ found_with (option_map (λ p. (p.0.now, view p.1.now)) l.found)
    (members_view l.name-iterator)
