-- The names differ where those from here on do.
use Rattle.std.proofs.Common.{◌≡◌, ◌++◌, drop}
use Rattle.alt_schema.specs.Rules.{all_differ}
use Rattle.alt_tablerows.proofs.made.names_differ.Given as goal

abbrev pub invariant-loop-i : goal.invariant-loop-i
invariant-loop-i l = all_differ (λ x. x.name) (l.locals ++ l.globals)
    ≡ all_differ (λ x. x.name) (drop l.i l.locals ++ l.globals)
