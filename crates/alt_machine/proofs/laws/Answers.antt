-- Each operation's writes keep what is valid.
use Rattle.alt_machine.proofs.BuildSteps.{builds_keep_valid}
use Rattle.alt_machine.proofs.BuildItems.{builds_leave_items}
use Rattle.alt_machine.proofs.Expirations.{deletes_expired}
use Rattle.alt_machine.proofs.Indexing.{index_places_lie, all_index}
use Rattle.alt_legacy.proofs.Keyed.{keys_asked}
use Rattle.alt_machine.proofs.OlderMeaning.{older_conditions, older_updates}
use Rattle.alt_machine.proofs.Placed.{places_lie}
use Rattle.alt_machine.proofs.States.{start_valid}
use Rattle.alt_machine.proofs.Steps.{one_atom, step_valid}
use Rattle.alt_machine.proofs.Timeless.{others_expire_none}
use Rattle.alt_machine.proofs.laws.Goals as goal

pub returns-clause-start : goal.returns-clause-start
returns-clause-start c = start_valid

pub returns-clause-steps : goal.returns-clause-steps
returns-clause-steps c = step_valid

pub returns-clause-one_atom : goal.returns-clause-one_atom
returns-clause-one_atom c = one_atom

pub returns-clause-builds : goal.returns-clause-builds
returns-clause-builds c = builds_keep_valid

pub returns-clause-places : goal.returns-clause-places
returns-clause-places c = places_lie

pub returns-clause-index_places : goal.returns-clause-index_places
returns-clause-index_places c = index_places_lie

pub returns-clause-indexes : goal.returns-clause-indexes
returns-clause-indexes c = all_index

pub returns-clause-expiry : goal.returns-clause-expiry
returns-clause-expiry c = deletes_expired

pub returns-clause-others : goal.returns-clause-others
returns-clause-others c = others_expire_none

pub returns-clause-items_left : goal.returns-clause-items_left
returns-clause-items_left c = builds_leave_items

pub returns-clause-older_conditions : goal.returns-clause-older_conditions
returns-clause-older_conditions c = older_conditions

pub returns-clause-older_keys : goal.returns-clause-older_keys
returns-clause-older_keys c = λ hash range entries. keys_asked hash range entries

pub returns-clause-older_updates : goal.returns-clause-older_updates
returns-clause-older_updates c = older_updates
