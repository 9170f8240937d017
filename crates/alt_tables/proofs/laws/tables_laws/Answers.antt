-- The laws, from their lemmas.
use Rattle.alt_tables.proofs.Left.{stands_left, stands_quiet, stands_read}
use Rattle.alt_rowchanges.proofs.OpeningOneState.{one_state_of_image}
use Rattle.alt_tables.proofs.Standing.{one_stands}
use Rattle.alt_rowchanges.proofs.ItemTurns.{item_turns}
use Rattle.alt_tables.proofs.Starting.{image_made}
use Rattle.alt_tables.proofs.laws.tables_laws.Goals as goal

pub returns : goal.returns
returns c = record {
  one_state = one_state_of_image;
  one_in_hand = one_stands;
  files = stands_read;
  left = stands_left;
  stays_quiet = stands_quiet;
  made = image_made;
  item_turns = item_turns;
}
