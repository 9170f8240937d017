-- The laws of the equality and of the order of parts of paths.
use mathlib.Core.Path.{refl, sym, subst, ◌∙◌}
use Rattle.std.specs.Prelude.{◌≡◌, Bool, true, false, ◌&&◌, Some, nat_eq}
use Rattle.std.specs.Str.{bytes_eq}
use Rattle.std.specs.Ordering.{eq_by_cmp}
use Rattle.std.specs.Cmp.{IsPartialEquivalence, IsEquivalence, IsPartialOrder, IsTotalOrder, partial_equiv_from_equiv, on_equiv, on_total, po}
use Rattle.std.specs.Cmp.Lexicographic.{nat_list_cmp_total, nat_list_eq_equiv, texts_ties}
use Rattle.alt_expr.specs.Projected.{same_step}
use Rattle.alt_expr.specs.PathOrder.{path_part_numbers, part_cmp}
use Rattle.alt_expr.specs.declared.path.PathPart.{PathPart}
use Rattle.alt_expr.specs.declared.path.PathPart.TheVariants.{Name, Index}

-- what is told with what holds is told alone
and_true : (b : Bool) → (b && true) ≡ b
and_true true = refl
and_true false = refl

-- parts are one step where their numbers are one list
by_numbers : (s t : PathPart) → bytes_eq (path_part_numbers s) (path_part_numbers t) ≡ same_step s t
by_numbers (Name m) (Name n) = refl
by_numbers (Name m) (Index j) = refl
by_numbers (Index i) (Name n) = refl
by_numbers (Index i) (Index j) = and_true (nat_eq i j)

-- being one step is an equality
pub parts_equiv : IsEquivalence same_step
parts_equiv =
    subst IsEquivalence (λ i s t. by_numbers s t i) (on_equiv path_part_numbers nat_list_eq_equiv)

-- the same, as `PartialEq` asks for it
pub parts_per : IsPartialEquivalence same_step
parts_per = partial_equiv_from_equiv parts_equiv

-- parts stand in one order
pub parts_total : IsTotalOrder part_cmp
parts_total = on_total path_part_numbers nat_list_cmp_total

-- parts that tie are one step
pub parts_tie : (s t : PathPart) → same_step s t ≡ eq_by_cmp part_cmp s t
parts_tie s t = sym (by_numbers s t) ∙ texts_ties (path_part_numbers s) (path_part_numbers t)

-- the order, as `PartialOrd` asks for it
pub parts_po : IsPartialOrder same_step (λ s t. Some (part_cmp s t))
parts_po = po parts_total parts_tie
