use Rattle.alt_lines.proofs.Feeds.{first_feed}
use Rattle.alt_lines.proofs.feed.line_feed.Goals as goal

pub returns : goal.returns
returns c = first_feed c.args.bytes.now c.memchr.result c.memchr.ensures
