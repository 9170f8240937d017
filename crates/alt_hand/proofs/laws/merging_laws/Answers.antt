-- The laws of merges.
use Rattle.alt_hand.proofs.BesideLaws.{files_by_side, files_read, merging_stays, stands_by_side}
use Rattle.alt_hand.proofs.laws.merging_laws.Goals as goal

pub returns : goal.returns
returns c = record {
  stands = stands_by_side;
  files = files_by_side;
  merging = merging_stays;
  read = files_read;
}
