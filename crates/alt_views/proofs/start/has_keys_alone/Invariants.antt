-- Those before are keys.
use Rattle.std.proofs.Common.{◌≡◌, true, option_map, take}
use Rattle.std.specs.List.{list_all}
use Rattle.alt_machine.specs.Sources.{is_key_there}
use Rattle.alt_views.proofs.start.has_keys_alone.Given as goal

abbrev pub invariant-loop-at : goal.invariant-loop-at
invariant-loop-at l = list_all
    (λ p. is_key_there l.schema (option_map (λ i. i.now) l.index) p.0) (take l.at l.key) ≡ true
