-- The sorted copy rises exactly where the numbers differ.
use Rattle.std.proofs.Common.{subst}
use Rattle.alt_manifest.specs.Rules.{Reflects}
use Rattle.alt_manifest.specs.Versions.{RiseFrom}
use Rattle.alt_manifest.proofs.DistinctLaws.{sorted_tells}
use Rattle.alt_manifest.proofs.rules.are_distinct.Goals as goal

pub returns : goal.returns
returns c =
    sorted_tells c.rises.result c.args.numbers.items c.sort.new.self.items
    c.sort.ensures.permutation c.in_ok-sort.ensures.sorted
    (subst (λ ns. Reflects c.rises.result (RiseFrom 0 ns)) c.as_slice.ensures.value c.rises.ensures)
