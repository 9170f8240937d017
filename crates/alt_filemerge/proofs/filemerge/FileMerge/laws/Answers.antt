-- It stands where its files stay.
use Rattle.alt_filemerge.proofs.Merged.{stands_on}
use Rattle.alt_filemerge.proofs.filemerge.FileMerge.laws.Goals as goal

pub returns : goal.returns
returns c = record { stays = stands_on }
