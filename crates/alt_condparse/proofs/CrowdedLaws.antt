-- What `is_crowded` is at each kind of condition.
use Rattle.std.proofs.Common.{◌≡◌, sym, ap, ◌∙◌, Bool, ◌||◌, List, length, nat_lt, rules}
use Rattle.std.specs.List.{list_any}
use Rattle.alt_base.proofs.Lists.{any-map}
use Rattle.alt_expr.specs.declared.cond.Cond.{Cond, fold-Cond, fold-roll-Cond, the_lemmas}
use Rattle.alt_expr.specs.declared.cond.Cond.TheOpen.{Cond-F}
use Rattle.alt_expr.specs.declared.cond.Cond.TheVariants as cond
use Rattle.alt_expr.specs.declared.cond.Cond.TheVariants.{rolls-Any, rolls-All}
use Rattle.alt_expr.specs.declared.cond.Comparison.{Comparison}
use Rattle.alt_expr.specs.declared.cond.Operand.{Operand}
use Rattle.alt_expr.specs.declared.path.PathPart.{PathPart}
use Rattle.alt_expr.specs.Crowded.{is_long, has_long, crowded_step, is_crowded}

-- an OR is crowded where one of its conditions is
pub any_law : (xs : List Cond) → is_crowded (cond.Any xs) ≡ list_any is_crowded xs
unfolding is_crowded
any_law xs = ap (fold-Cond Bool crowded_step) (sym (rolls-Any xs))
    ∙ fold-roll-Cond Bool crowded_step (Cond-F.Any xs) ∙ any-map is_crowded xs

-- an AND is crowded where one of its conditions is
pub all_law : (xs : List Cond) → is_crowded (cond.All xs) ≡ list_any is_crowded xs
unfolding is_crowded
all_law xs = ap (fold-Cond Bool crowded_step) (sym (rolls-All xs))
    ∙ fold-roll-Cond Bool crowded_step (Cond-F.All xs) ∙ any-map is_crowded xs

-- a NOT is crowded where its condition is
pub not_law : (x : Cond) → is_crowded (cond.Not x) ≡ is_crowded x
unfolding is_crowded
not_law x = search (rules, the_lemmas)

-- a comparison is crowded where one of its operands has a path that is too long
pub compare_law : (by : Comparison) (a b : Operand)
    → is_crowded (cond.Compare by a b) ≡ (has_long a || has_long b)
unfolding is_crowded
compare_law by a b = search (rules, the_lemmas)

-- a BETWEEN is crowded where one of its three operands has a path that is too long
pub between_law : (a low high : Operand) → is_crowded (cond.Between a low high)
    ≡ (has_long a || has_long low || has_long high)
unfolding is_crowded
between_law a low high = search (rules, the_lemmas)

-- an IN is crowded where an operand has a path that is too long, or more than 100 are listed
pub among_law : (a : Operand) (xs : List Operand)
    → is_crowded (cond.Among a xs) ≡ (has_long a || nat_lt 100 (length xs) || list_any has_long xs)
unfolding is_crowded
among_law a xs = search (rules, the_lemmas)

-- `attribute_exists` is crowded where its path is too long
pub exists_law : (path : List PathPart) → is_crowded (cond.Exists path) ≡ is_long path
unfolding is_crowded
exists_law path = search (rules, the_lemmas)

-- `attribute_not_exists` is crowded where its path is too long
pub not_exists_law : (path : List PathPart) → is_crowded (cond.NotExists path) ≡ is_long path
unfolding is_crowded
not_exists_law path = search (rules, the_lemmas)

-- `attribute_type` is crowded where its path or its operand's is too long
pub kind_law : (path : List PathPart) (a : Operand)
    → is_crowded (cond.HasKind path a) ≡ (is_long path || has_long a)
unfolding is_crowded
kind_law path a = search (rules, the_lemmas)

-- `begins_with` is crowded where one of its operands has a path that is too long
pub begins_law : (a b : Operand) → is_crowded (cond.BeginsWith a b) ≡ (has_long a || has_long b)
unfolding is_crowded
begins_law a b = search (rules, the_lemmas)

-- `contains` is crowded where one of its operands has a path that is too long
pub contains_law : (a b : Operand) → is_crowded (cond.Contains a b) ≡ (has_long a || has_long b)
unfolding is_crowded
contains_law a b = search (rules, the_lemmas)
