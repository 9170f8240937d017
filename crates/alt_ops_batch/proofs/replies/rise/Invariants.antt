-- The names so far rise.
use Rattle.std.proofs.Common.{◌≡◌, [], drop}
use denote.Text.{Utf8}
use denote.Shadow.{shadow}
use Rattle.alt_ops_batch.specs.private.Readings.{rises}
use Rattle.alt_ops_batch.proofs.replies.rise.Given as goal

abbrev pub invariant-loop-table : goal.invariant-loop-table
invariant-loop-table l = shadow (Utf8 l.last)
    × (rises [] l.tables ≡ rises l.last (drop l.table-index l.tables))
