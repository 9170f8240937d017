-- A reader of lines as contracts see it.
use Rattle.std.specs.Prelude.{ℕ, [], ◌++◌, drop, length, if◌then◌else◌}
use Rattle.alt_lines.specs.Unread.{Unread, too_many}
use Rattle.alt_lines.specs.declared.reader.Lines.{Lines}

-- what it has not given out yet
unfoldable pub unread : Lines → Unread
unread lines = record {
  most = lines.most;
  bytes = (if lines.past then too_many lines.most else []) ++ drop lines.start lines.held.items;
  ended = lines.ended;
}

-- how many bytes it keeps in memory, those that were given out and weren't dropped yet among them
abbrev pub held_by : Lines → ℕ
held_by lines = length lines.held.items
