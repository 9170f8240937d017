-- A BatchWriteItem behind the tests of its members.
use Rattle.std.proofs.Common.{◌≡◌, refl, ℕ, List, map}
use Rattle.serde_json.specs.Data.{Members}
use Rattle.alt_machine.specs.declared.PlacedMember.{PlacedMember}
use Rattle.alt_machine.specs.Ops.BatchWriteItem.{all_processed, batch_write_item, written_by, writes_asked, writes_of_all}
use Rattle.alt_machine.specs.Outcomes.{Outcome, writes_together, with_found}
use Rattle.alt_machine.specs.State.{State, descriptions}

-- what it goes on with
abbrev pub go : ℕ → State → List PlacedMember → Outcome
go moment s there = writes_together s (writes_of_all s moment (map written_by there)) all_processed

-- a BatchWriteItem looks for the writes that are asked for, and goes on with them
pub write_is : (moment : ℕ) (ms : Members) (s : State) → batch_write_item s moment ms
    ≡ with_found (writes_asked (descriptions s.tables) ms) (go moment s)
unfolding batch_write_item
write_is moment ms s = refl
