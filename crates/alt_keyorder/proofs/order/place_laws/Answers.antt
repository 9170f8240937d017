-- The laws of places.
use Rattle.alt_keyorder.proofs.PlaceLaws.{places_lie, one_place}
use Rattle.alt_keyorder.proofs.Places.{keys-lie, keys-tell}
use Rattle.alt_keyorder.proofs.order.place_laws.Goals as goal

pub returns-clause-order : goal.returns-clause-order
returns-clause-order c = keys-lie

pub returns-clause-one : goal.returns-clause-one
returns-clause-one c = keys-tell

pub returns-clause-kinds : goal.returns-clause-kinds
returns-clause-kinds c = places_lie

pub returns-clause-one_of_kinds : goal.returns-clause-one_of_kinds
returns-clause-one_of_kinds c = one_place
