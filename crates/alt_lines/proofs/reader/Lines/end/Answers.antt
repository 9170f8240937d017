use Rattle.std.proofs.Common.{refl}
use Rattle.alt_lines.specs.Reader.{unread}
use Rattle.alt_lines.proofs.reader.Lines.end.Goals as goal

pub returns : goal.returns
unfolding unread
returns c = refl
