-- What is known stays known, while ever fewer wait.
use Rattle.std.proofs.Common.{◌≡◌, length}
use Rattle.alt_due.specs.Due.{KeepsKnown}
use Rattle.alt_due.proofs.due.Due.ripen.Given as goal

abbrev pub invariant-loop : goal.invariant-loop
invariant-loop l = KeepsKnown l.initial.self l.self
    × (l.self.since ≡ l.initial.self.since) × (l.self.until ≡ l.initial.self.until)
    × (l.self.end ≡ l.initial.self.end)

abbrev pub decreases-loop : goal.decreases-loop
decreases-loop l = length l.self.waiting.keys
