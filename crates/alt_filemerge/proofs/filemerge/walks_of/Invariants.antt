use Rattle.std.proofs.Common.{take}
use Rattle.alt_merge.specs.Merges.{Each2}
use Rattle.alt_filemerge.specs.FileMerges.{IsWalkOf}
use Rattle.alt_filemerge.proofs.filemerge.walks_of.Given as goal

abbrev pub invariant-loop-file : goal.invariant-loop-file
invariant-loop-file l = Each2 IsWalkOf (take l.file-index l.files) l.walks.items
