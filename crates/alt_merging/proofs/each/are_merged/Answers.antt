-- One file, by whether it has a tombstone.
use Rattle.std.proofs.Common.{◌<◌, ◌≤◌, length, arith}
use Rattle.std.proofs.lemmas.Bool.Decides.{nat_tests}
use Rattle.std.specs.FinMap.{entries}
use Rattle.alt_merging.proofs.EachLaws.{one_merged}
use Rattle.alt_merging.proofs.each.are_merged.Goals as goal

pub returns-clause-merged : goal.returns-clause-merged
returns-clause-merged c s maps each =
    let some : 0 < length c.args.files.now =
    grind (arith, nat_tests, c.is_empty.ensures, c.if-is_empty.false) in
    let few : length c.args.files.now ≤ 1 = (let one = c.if-files-gt1.false in omega (arith, one)) in
    one_merged s c.args.files.now maps c.index-files-0.result c.has_tombstone.result some few
    c.index-files-0.is (λ m reads. c.has_tombstone.ensures s (entries m) reads) each
