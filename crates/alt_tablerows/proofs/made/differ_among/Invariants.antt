-- The names differ where those from here on do.
use Rattle.std.proofs.Common.{◌≡◌, ◌++◌, drop, []}
use Rattle.alt_schema.specs.Rules.{all_differ}
use Rattle.alt_tablerows.proofs.made.differ_among.Given as goal

abbrev pub invariant-loop-i : goal.invariant-loop-i
invariant-loop-i l = all_differ (λ x. x.name) l.indexes
    ≡ all_differ (λ x. x.name) (drop l.i l.indexes ++ [])
