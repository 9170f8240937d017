use Rattle.alt_lines.specs.Reader.{unread}
use Rattle.alt_lines.proofs.reader.Lines.new.Goals as goal

pub returns : goal.returns
unfolding unread
returns c = cc (c.new.ensures.items)
