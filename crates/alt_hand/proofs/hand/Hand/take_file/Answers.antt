-- The next file is there to be made.
use Rattle.std.proofs.Common.{arith}
use Rattle.alt_hand.proofs.BesideLaws.{merge_begins, stands_taken}
use Rattle.alt_hand.proofs.hand.Hand.take_file.Goals as goal

pub returns-clause-stands : goal.returns-clause-stands
returns-clause-stands c s l stands = stands_taken s c.args.self.now l stands

pub returns-clause-missing : goal.returns-clause-missing
returns-clause-missing c s l stands = stands.reads.fresh c.args.self.now.next_file (omega arith)

pub returns-clause-merging : goal.returns-clause-merging
returns-clause-merging c s l family stands some = merge_begins s c.args.self.now l stands family some
