use Rattle.std.proofs.Common.{◌≡◌, [], ap, ◌∙◌, rules}
use Rattle.std.specs.Option.{option_map_or}
use Rattle.std.specs.Ordering.{eq_by_cmp}
use Rattle.std.specs.Map.{lookup}
use Rattle.alt_expr.proofs.grouping.groups.Goals as goal

pub returns-clause-groups : goal.returns-clause-groups
returns-clause-groups g c =
    let same : c.in_ok-groups.groups.items ≡ c.in_ok-by_key.by_key.entries = search rules in
    λ q. ap (λ es. option_map_or (λ v. v.items) (lookup (eq_by_cmp g.K.Ord.cmp q) es) []) same
    ∙ c.in_ok-by_key.ensures.groups q
