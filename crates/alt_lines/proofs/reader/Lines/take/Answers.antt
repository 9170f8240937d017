use Rattle.std.proofs.Common.{refl}
use Rattle.alt_lines.specs.Reader.{unread}
use Rattle.alt_lines.proofs.reader.Lines.take.Goals as goal

pub returns-in-Ok-clause-moved : goal.returns-in-Ok-clause-moved
unfolding unread
returns-in-Ok-clause-moved c = refl
