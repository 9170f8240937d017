-- The laws of drafts.
use Rattle.alt_flush.proofs.SegmentLaws.{segment_drops}
use Rattle.alt_flush.proofs.NamedLaws.{flush_drops, flush_names, log_drops, log_names, merge_drops, without_drops, without_names}
use Rattle.alt_flush.proofs.laws.draft_laws.Goals as goal

pub returns : goal.returns
returns c = record {
  flush = flush_names;
  flush_drops = flush_drops;
  without = without_names;
  without_drops = without_drops;
  new_log = log_names;
  new_log_drops = log_drops;
  segment_drops = segment_drops;
  merge_drops = merge_drops;
}
