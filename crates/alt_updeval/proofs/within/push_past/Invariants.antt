use Rattle.std.proofs.Common.{◌≡◌, ◌++◌, map, take}
use Rattle.alt_updeval.proofs.Lists.{puts}
use Rattle.alt_updeval.proofs.Steps.{shown_group}
use Rattle.alt_updeval.proofs.within.push_past.Given as goal

-- what the groups so far put
abbrev pub invariant-loop-behind : goal.invariant-loop-behind
invariant-loop-behind l =
    l.out ≡ l.fn.out ++ map (λ p. p.1) (puts shown_group (take l.behind-index l.behind-items))
