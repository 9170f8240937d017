-- Paths in order, and what is left of them behind their first steps, for private contracts.
use Rattle.std.specs.Prelude.{◌≡◌, ℕ, ◌<◌, ◌≤◌, Bool, true, false, ◌&&◌, List, [], ◌∷◌, map, drop, length, slice_index_or, Option, Some, None}
use Rattle.std.specs.List.{list_any, AllWithin}
use Rattle.std.specs.declared.cmp.Ordering.{Ordering}
use Rattle.std.specs.declared.cmp.Ordering.TheVariants.{Less}
use Rattle.std.specs.Ordering.{is_lt}
use Rattle.std.specs.Cmp.Lexicographic.{slice_cmp}
use Rattle.alt_value.specs.Item.{with_pair}
use Rattle.alt_value.specs.Tree.{Tree, Pair}
use Rattle.alt_expr.specs.PathOrder.{part_cmp}
use Rattle.alt_expr.specs.Projected.{same_step}
use Rattle.alt_expr.specs.declared.path.PathPart.{PathPart}
use Rattle.alt_expr.specs.declared.path.PathPart.TheVariants.{Name, Index}
use Rattle.alt_projection.specs.declared.behind.Step.{Step}
use Rattle.alt_projection.specs.declared.behind.Step.TheVariants as step

-- the paths are one path: each step of the one is the same as that of the other
abbrev pub is_path : List PathPart → List PathPart → Bool
is_path [] [] = true
is_path (s ∷ p) (t ∷ q) = same_step s t && is_path p q
is_path _ _ = false

-- each path stands in both lists or in none
abbrev pub SamePaths : List (List PathPart) → List (List PathPart) → Type 0
SamePaths xs ys = (p : List PathPart) → list_any (is_path p) xs ≡ list_any (is_path p) ys

-- the order of paths, part by part
abbrev pub path_cmp : List PathPart → List PathPart → Ordering
path_cmp = slice_cmp part_cmp

-- what is left of each path behind so many steps
abbrev pub tails : ℕ → List (List PathPart) → List (List PathPart)
tails depth ways = map (λ w. drop depth w) ways

-- behind so many steps, no path is below one that stands before it
abbrev pub Rise : ℕ → List (List PathPart) → Type 0
Rise depth ways = (i j : ℕ) (e : List PathPart) → i ≤ j → j < length ways
    → is_lt (path_cmp (drop depth (slice_index_or ways j e)) (drop depth (slice_index_or ways i e)))
    ≡ false

-- each of the paths has more steps
abbrev pub Longer : ℕ → List (List PathPart) → Type 0
Longer depth ways = AllWithin (λ (w : List PathPart). depth < length w) ways 0 (length ways)

-- how the first part of what is left of a path stands to a step
abbrev pub side : PathPart → List PathPart → Ordering
side s [] = Less
side s (p ∷ ps) = part_cmp p s

-- the step that a name or an index is
abbrev pub step_of : Step → PathPart
step_of (step.Name name) = Name name.now
step_of (step.Index i) = Index i

-- the item with that value at the name, if there is one to put
abbrev pub put_if : List ℕ → Option Tree → List Pair → List Pair
put_if name None item = item
put_if name (Some t) item = with_pair name t item
