-- Where the files that are still to come hold their maps, all do.
use Rattle.std.proofs.Common.{drop}
use Rattle.alt_families.proofs.SourceLaws.{SourcesSoFar}
use Rattle.alt_families.proofs.source.sources_of.Given as goal

abbrev pub invariant-loop-file : goal.invariant-loop-file
invariant-loop-file l =
    SourcesSoFar l.family.table.0 l.sources.items l.family.files.items (drop l.file-index l.family.files.items)
