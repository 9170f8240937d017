-- The laws of layouts.
use Rattle.alt_layout.proofs.BatchLaws.{shows_batch}
use Rattle.alt_layout.proofs.FamilyLaws.{flushed_files, flushed_rows}
use Rattle.alt_layout.proofs.FlushLaws.{stored_with, version_with_is}
use Rattle.alt_layout.proofs.FlushedLayout.{flush_same}
use Rattle.alt_layout.proofs.FreshLaws.{fresh_layout}
use Rattle.alt_layout.proofs.CompactionLaws.{compaction, compaction_is}
use Rattle.alt_layout.proofs.MergedLaws.{named_made, shows_made, stored_made, version_made_is}
use Rattle.alt_layout.proofs.MergeLaws.{merged_shown}
use Rattle.alt_layout.proofs.LaterWrites.{same_after_all}
use Rattle.alt_layout.proofs.OneLayout.{one_layout}
use Rattle.alt_layout.proofs.PastLaws.{image_past}
use Rattle.alt_layout.proofs.ShownLaws.{get-shown_rows}
use Rattle.alt_layout.proofs.laws.layout_laws.Goals as goal

pub returns : goal.returns
returns c = record {
  one_layout = one_layout;
  images_past = image_past;
  same_after = same_after_all;
  shows_batch = shows_batch;
  finds = get-shown_rows;
  fresh = fresh_layout;
  flushes = flushed_rows;
  flushes_all = flushed_files;
  flushes_one = λ image v held parts family file next m is has two new rows top stored. (
    version_with_is v family file next is has two,
    stored_with image v held parts family file next m is has new stored,
    flush_same v held parts family file next m is has rows top,
  );
  merges = merged_shown;
  merges_one = λ image v held more parts family taken number made is may stored new. (
    version_made_is v held more family taken number made is may,
    stored_made v held more family taken number made is may image parts stored new,
    shows_made v held more family taken number made is may parts,
  );
  names_made = named_made;
  compacts = λ m. (compaction m, compaction_is m);
}
