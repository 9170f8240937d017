-- The first search passes those below the step, the second those with it.
use Rattle.std.proofs.Common.{◌≡◌, ◌+◌, ◌-◌, ap, sym, subst, ◌∙◌, true, false, List, length, take, drop, rules}
use Rattle.std.specs.List.Sorted.{IsPartitionedBy, IsPartitionPoint}
use Rattle.std.specs.Ordering.{is_lt, is_le}
use Rattle.std.proofs.lemmas.List.Sorted.{IsPartitionPoint-from_clause}
use Rattle.alt_expr.specs.declared.path.PathPart.{PathPart}
use Rattle.alt_projection.specs.Ways.{Rise, Longer, tails, side, step_of}
use Rattle.alt_projection.proofs.Range.{below_first, upto_first, whole_rest, found-under, found-rises, found-longer}
use Rattle.alt_projection.proofs.behind.behind.Goals as goal

pub returns-clause-under : goal.returns-clause-under
returns-clause-under c =
    let depth = c.args.depth in
    let ways = c.args.ways.now in
    let step = step_of c.args.step.now in
    let n = c.partition_point-first.result in
    let m = c.partition_point-end.result in
    let same = whole_rest n ways in
    let low = IsPartitionPoint-from_clause (λ (w : List PathPart). is_lt (side step (drop depth w)))
    ways n c.partition_point-first.ensures.partitioned (below_first step depth ways c.requires)
    (λ a r f k. (search rules, search rules)) in
    let high = IsPartitionPoint-from_clause (λ (w : List PathPart). is_le (side step (drop depth w)))
    (take (length ways - n) (drop n ways)) m c.partition_point-end.ensures.partitioned
    (subst (IsPartitionedBy (λ (w : List PathPart). is_le (side step (drop depth w)))) (sym same)
    (upto_first step depth ways c.requires n))
    (λ a r f k. (search rules, search rules)) in
    ap (λ (l : List (List PathPart)). tails (depth + 1) (take m l)) same
    ∙ found-under step depth ways c.requires n m low
    (subst (λ (l : List (List PathPart)).
    IsPartitionPoint (λ w. is_le (side step (drop depth w)) ≡ true)
    (λ w. is_le (side step (drop depth w)) ≡ false) l m) same high)

pub returns-clause-rising : goal.returns-clause-rising
returns-clause-rising c =
    let depth = c.args.depth in
    let ways = c.args.ways.now in
    let step = step_of c.args.step.now in
    let n = c.partition_point-first.result in
    let m = c.partition_point-end.result in
    let same = whole_rest n ways in
    let low = IsPartitionPoint-from_clause (λ (w : List PathPart). is_lt (side step (drop depth w)))
    ways n c.partition_point-first.ensures.partitioned (below_first step depth ways c.requires)
    (λ a r f k. (search rules, search rules)) in
    let high = IsPartitionPoint-from_clause (λ (w : List PathPart). is_le (side step (drop depth w)))
    (take (length ways - n) (drop n ways)) m c.partition_point-end.ensures.partitioned
    (subst (IsPartitionedBy (λ (w : List PathPart). is_le (side step (drop depth w)))) (sym same)
    (upto_first step depth ways c.requires n))
    (λ a r f k. (search rules, search rules)) in
    subst (λ (l : List (List PathPart)). Rise (depth + 1) (take m l)) (sym same)
    (found-rises step depth ways c.requires n m low
    (subst (λ (l : List (List PathPart)).
    IsPartitionPoint (λ w. is_le (side step (drop depth w)) ≡ true)
    (λ w. is_le (side step (drop depth w)) ≡ false) l m) same high))

pub returns-clause-longer : goal.returns-clause-longer
returns-clause-longer c =
    let depth = c.args.depth in
    let ways = c.args.ways.now in
    let step = step_of c.args.step.now in
    let n = c.partition_point-first.result in
    let m = c.partition_point-end.result in
    let same = whole_rest n ways in
    let low = IsPartitionPoint-from_clause (λ (w : List PathPart). is_lt (side step (drop depth w)))
    ways n c.partition_point-first.ensures.partitioned (below_first step depth ways c.requires)
    (λ a r f k. (search rules, search rules)) in
    let high = IsPartitionPoint-from_clause (λ (w : List PathPart). is_le (side step (drop depth w)))
    (take (length ways - n) (drop n ways)) m c.partition_point-end.ensures.partitioned
    (subst (IsPartitionedBy (λ (w : List PathPart). is_le (side step (drop depth w)))) (sym same)
    (upto_first step depth ways c.requires n))
    (λ a r f k. (search rules, search rules)) in
    subst (λ (l : List (List PathPart)). Longer depth (take m l)) (sym same)
    (found-longer step depth ways c.requires n m low
    (subst (λ (l : List (List PathPart)).
    IsPartitionPoint (λ w. is_le (side step (drop depth w)) ≡ true)
    (λ w. is_le (side step (drop depth w)) ≡ false) l m) same high))
