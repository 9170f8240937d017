-- ExpireItems: deletes the first items whose time is over and says how many. It is this project's own operation, as the API has none
-- that deletes them.
use Rattle.std.specs.Prelude.{ℕ, length, codes}
use Rattle.serde_json.specs.Data.{number, unsigned}
use Rattle.alt_shape.specs.Refusals.{Answer}
use Rattle.alt_machine.specs.Expiry.{deletions, expiring}
use Rattle.alt_machine.specs.Outcomes.{Outcome, writes_together}
use Rattle.alt_machine.specs.Replies.{answers}
use Rattle.alt_machine.specs.State.{State}

-- the reply: how many they are
abbrev pub expired : State → ℕ → Answer
expired s moment = answers (codes "Expired") (number (unsigned (length (expiring s moment))))

-- Its body says nothing, and nothing refuses it. The first expired items are deleted, as by a batch, and become lasting together.
unfoldable pub expire_items : State → ℕ → Outcome
expire_items s moment = writes_together s (deletions s moment) (expired s moment)
