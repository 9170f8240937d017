-- What is chosen depends on which paths there are, and on neither their order nor how often they stand.
use Rattle.std.proofs.Common.{◌≡◌, refl, sym, ap, ◌∙◌, ℕ, suc, ◌<◌, true, false, ◌&&◌, ◌||◌, cond, List, [], ◌∷◌, ◌++◌, map, length, get_or, Some, None, arith}
use Rattle.std.specs.List.{list_any}
use Rattle.std.specs.List.Sorted.{IsPermutation, IsSorted}
use Rattle.std.specs.Ordering.{is_lt}
use Rattle.std.specs.Cmp.Lexicographic.{lists_total}
use Rattle.std.proofs.lemmas.List.{length-map, get_or-map}
use Rattle.std.proofs.lemmas.List.Sorted.{IsPermutation-map, list_any-IsPermutation, sorted_far, ranks_by}
use denote.Ref.{Bor}
use Rattle.alt_value.specs.Tree.{Tree, L_tree, M_tree, Trees, no_trees, tree_then, Fields, no_fields, field_then, Pair, fields_of, pairs}
use Rattle.alt_expr.specs.PartOrder.{parts_total}
use Rattle.alt_expr.specs.declared.path.PathPart.{PathPart}
use Rattle.alt_expr.specs.declared.path.PathPart.TheVariants.{Name, Index}
use Rattle.alt_expr.specs.Projected.{same_step, under, is_chosen_whole, chosen, chosen_elements, chosen_fields, pair_then, element_then, some_list, some_map, projected}
use Rattle.alt_projection.specs.Ways.{is_path, SamePaths, path_cmp, Rise, tails}

-- a path goes on from a step where the whole of it stands among the paths
any-under : (s : PathPart) (p : List PathPart) (xs : List (List PathPart))
    → list_any (is_path p) (under s xs) ≡ list_any (is_path (s ∷ p)) xs
any-under s p [] = refl
any-under s p ([] ∷ xs) = any-under s p xs
any-under s p ((q ∷ qs) ∷ xs) = elim (same_step s q) as (λ b.
    list_any (is_path p) (cond b (qs ∷ []) [] ++ under s xs)
    ≡ ((b && is_path p qs) || list_any (is_path (s ∷ p)) xs)) [
      | true ↦ ap (λ b. is_path p qs || b) (any-under s p xs)
      | false ↦ any-under s p xs
    ]

any-ends : (xs : List (List PathPart)) → is_chosen_whole xs ≡ list_any (is_path []) xs
any-ends [] = refl
any-ends ([] ∷ xs) = refl
any-ends ((p ∷ ps) ∷ xs) = any-ends xs

same-under : (s : PathPart) (xs ys : List (List PathPart)) → SamePaths xs ys
    → SamePaths (under s xs) (under s ys)
same-under s xs ys h p = any-under s p xs ∙ h (s ∷ p) ∙ sym (any-under s p ys)

same-whole : (xs ys : List (List PathPart)) → SamePaths xs ys → is_chosen_whole xs ≡ is_chosen_whole ys
same-whole xs ys h = any-ends xs ∙ h [] ∙ sym (any-ends ys)

mutual
  -- the same paths choose the same of a value
  chosen-same : (t : Tree) (xs ys : List (List PathPart)) → SamePaths xs ys → chosen xs t ≡ chosen ys t
  chosen-same (L_tree ts) xs ys h =
      ap (λ b. cond b (Some (L_tree ts)) (some_list (chosen_elements xs 0 ts))) (same-whole xs ys h)
      ∙ ap (λ us. cond (is_chosen_whole ys) (Some (L_tree ts)) (some_list us)) (elements-same ts 0 xs ys h)
  chosen-same (M_tree fs) xs ys h =
      ap (λ b. cond b (Some (M_tree fs)) (some_map (chosen_fields xs fs))) (same-whole xs ys h)
      ∙ ap (λ gs. cond (is_chosen_whole ys) (Some (M_tree fs)) (some_map gs)) (fields-same fs xs ys h)
  chosen-same t xs ys h = ap (λ b. cond b (Some t) None) (same-whole xs ys h)

  -- of a list's elements
  elements-same : (ts : Trees) (i : ℕ) (xs ys : List (List PathPart)) → SamePaths xs ys
      → chosen_elements xs i ts ≡ chosen_elements ys i ts
  elements-same no_trees i xs ys h = refl
  elements-same (tree_then t ts) i xs ys h =
      ap (λ o. element_then o (chosen_elements xs (suc i) ts))
      (chosen-same t (under (Index i) xs) (under (Index i) ys) (same-under (Index i) xs ys h))
      ∙ ap (element_then (chosen (under (Index i) ys) t)) (elements-same ts (suc i) xs ys h)

  -- and of a map's pairs
  fields-same : (fs : Fields) (xs ys : List (List PathPart)) → SamePaths xs ys
      → chosen_fields xs fs ≡ chosen_fields ys fs
  fields-same no_fields xs ys h = refl
  fields-same (field_then name t fs) xs ys h =
      ap (λ o. pair_then name o (chosen_fields xs fs))
      (chosen-same t (under (Name name) xs) (under (Name name) ys) (same-under (Name name) xs ys h))
      ∙ ap (pair_then name (chosen (under (Name name) ys) t)) (fields-same fs xs ys h)

-- the same paths choose the same of an item
pub projected-same : (xs ys : List (List PathPart)) (item : List Pair) → SamePaths xs ys
    → projected xs item ≡ projected ys item
projected-same xs ys item h = ap pairs (fields-same (fields_of item) xs ys h)

-- ---- put in order

-- a path that is borrowed
abbrev pub Way : Type 0
Way = Bor (List PathPart)

-- the paths that these are
abbrev pub nows : List Way → List (List PathPart)
nows ways = map (λ w. w.now) ways

-- in another order they are the same
pub same-moved : (ws vs : List Way) → IsPermutation ws vs → SamePaths (nows ws) (nows vs)
same-moved ws vs moved p =
    list_any-IsPermutation (is_path p) (nows ws) (nows vs)
    (IsPermutation-map (λ (w : Way). w.now) ws vs moved)

-- and where they were sorted they rise
pub rise-sorted : (ws : List Way) → IsSorted (λ x y. path_cmp x.now y.now) ws → Rise 0 (nows ws)
rise-sorted ws sorted i j e le less =
    let none : Way = record { ref_ptr = (0, 0); now = e } in
    let in_ws : j < length ws = omega (arith, less, length-map ws (λ (w : Way). w.now)) in
    ap (λ w. is_lt (path_cmp w (get_or (nows ws) i e))) (get_or-map (λ (w : Way). w.now) ws j none e in_ws)
    ∙ ap (λ w. is_lt (path_cmp (get_or ws j none).now w)) (get_or-map (λ (w : Way). w.now) ws i none e (omega (arith, le, in_ws)))
    ∙ sorted_far (λ x y. is_lt (path_cmp x.now y.now))
    (ranks_by (lists_total parts_total) (λ (w : Way). w.now)) ws sorted i j none le in_ws

-- behind no steps the paths are whole
pub tails_none : (ways : List (List PathPart)) → tails 0 ways ≡ ways
tails_none [] = refl
tails_none (w ∷ ways) = ap (λ (l : List (List PathPart)). w ∷ l) (tails_none ways)

-- what was chosen by paths in order is what the paths choose
pub chosen-ready : (paths ways read : List (List PathPart)) (item out : List Pair)
    → read ≡ ways → SamePaths paths ways → out ≡ projected (tails 0 read) item
    → out ≡ projected paths item
chosen-ready paths ways read item out is same e =
    e ∙ ap (λ (ws : List (List PathPart)). projected ws item) (tails_none read ∙ is)
    ∙ sym (projected-same paths ways item same)
