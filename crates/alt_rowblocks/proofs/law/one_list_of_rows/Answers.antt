use Rattle.alt_rowblocks.proofs.OneFile.{one_list}
use Rattle.alt_rowblocks.proofs.law.one_list_of_rows.Goals as goal

pub returns : goal.returns
returns c = one_list
