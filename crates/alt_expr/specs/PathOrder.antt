-- An order of paths, in which a path stands right before those that begin with it. Private contracts alone cite it.
use Rattle.std.specs.Prelude.{ℕ, Bool, false, ◌||◌, List, [], ◌∷◌}
use Rattle.std.specs.List.{starts_with}
use Rattle.std.specs.declared.cmp.Ordering.{Ordering}
use Rattle.std.specs.Ordering.{nat_cmp}
use Rattle.std.specs.Cmp.Lexicographic.{slice_cmp}
use Rattle.alt_expr.specs.Projected.{same_step}
use Rattle.alt_expr.specs.declared.path.PathPart.{PathPart}
use Rattle.alt_expr.specs.declared.path.PathPart.TheVariants.{Name, Index}

-- a part as numbers
abbrev pub path_part_numbers : PathPart → List ℕ
path_part_numbers (Name n) = 0 ∷ n
path_part_numbers (Index i) = 1 ∷ i ∷ []

-- names stand before indexes
abbrev pub part_cmp : PathPart → PathPart → Ordering
part_cmp s t = slice_cmp nat_cmp (path_part_numbers s) (path_part_numbers t)

-- one of the paths behind a path begins with the one right before it
abbrev pub is_one_before : List PathPart → List (List PathPart) → Bool
is_one_before p [] = false
is_one_before p (q ∷ qs) = starts_with same_step q p || is_one_before q qs

-- the same of a list of paths
abbrev pub is_before_one : List (List PathPart) → Bool
is_before_one [] = false
is_before_one (p ∷ ps) = is_one_before p ps
