use Rattle.std.proofs.Common.{◌≡◌, [], map, filter}
use Rattle.std.specs.Option.{option_map_or}
use Rattle.std.specs.Ordering.{eq_by_cmp}
use Rattle.std.specs.BTreeMap.{get, IsOrdered}
use Rattle.alt_expr.proofs.grouping.gathered.Given as goal

abbrev pub invariant-loop-key : goal.invariant-loop-key
invariant-loop-key g l = record {
  ordered : IsOrdered g.K.Ord.cmp l.groups;
  groups : (q : g.row.K.Denot) → option_map_or (λ v. v.items) (get g.K.Ord.cmp l.groups q) []
      ≡ map (λ p. p.1) (filter (λ p. eq_by_cmp g.K.Ord.cmp p.0 q) l.yielded);
}
