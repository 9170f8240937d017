use Rattle.std.proofs.Common.{rules}
use Rattle.alt_rowblocks.specs.Format.{row_file_header}
use Rattle.alt_rowblocks.proofs.body.is_header.Goals as goal

pub returns-clause-yes : goal.returns-clause-yes
unfolding row_file_header
returns-clause-yes c is = search rules

pub returns-clause-no : goal.returns-clause-no
unfolding row_file_header
returns-clause-no c is = search rules
