-- It is among all where it is among those to come, and only there.
use Rattle.std.proofs.Common.{drop}
use Rattle.alt_manifest.specs.Versions.{IsIn, row_files}
use Rattle.alt_flush.proofs.remove.has_row_file.Given as goal

abbrev pub invariant-loop-family : goal.invariant-loop-family
invariant-loop-family l = record {
  all : IsIn (row_files (drop l.family-index l.families)) l.file → IsIn (row_files l.families) l.file;
  rest : IsIn (row_files l.families) l.file → IsIn (row_files (drop l.family-index l.families)) l.file;
}
