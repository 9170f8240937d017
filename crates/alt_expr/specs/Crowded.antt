-- Which trees have a path of over 32 parts or an IN with over 100 operands.
use Rattle.std.specs.Prelude.{Bool, false, ◌||◌, nat_lt, List, length}
use Rattle.std.specs.List.{list_any}
use Rattle.alt_expr.specs.declared.path.PathPart.{PathPart}
use Rattle.alt_expr.specs.declared.cond.Operand.{Operand}
use Rattle.alt_expr.specs.declared.cond.Operand.TheVariants as o
use Rattle.alt_expr.specs.declared.cond.Cond.{Cond, fold-Cond}
use Rattle.alt_expr.specs.declared.cond.Cond.TheOpen.{Cond-F}

-- a path of over 32 parts
abbrev pub is_long : List PathPart → Bool
is_long path = nat_lt 32 (length path)

-- whether an operand has a path of too many parts
abbrev pub has_long : Operand → Bool
has_long (o.At path) = is_long path
has_long (o.Value v) = false
has_long (o.Size path) = is_long path

-- one level, with each condition inside already told
abbrev pub crowded_step : Cond-F Bool → Bool
crowded_step (Cond-F.Any xs) = list_any (λ x. x) xs
crowded_step (Cond-F.All xs) = list_any (λ x. x) xs
crowded_step (Cond-F.Not x) = x
crowded_step (Cond-F.Compare by a b) = has_long a || has_long b
crowded_step (Cond-F.Between a low high) = has_long a || has_long low || has_long high
crowded_step (Cond-F.Among a xs) = has_long a || nat_lt 100 (length xs) || list_any has_long xs
crowded_step (Cond-F.Exists path) = is_long path
crowded_step (Cond-F.NotExists path) = is_long path
crowded_step (Cond-F.HasKind path a) = is_long path || has_long a
crowded_step (Cond-F.BeginsWith a b) = has_long a || has_long b
crowded_step (Cond-F.Contains a b) = has_long a || has_long b

-- a condition with such a path or IN
unfoldable pub is_crowded : Cond → Bool
is_crowded = fold-Cond Bool crowded_step
