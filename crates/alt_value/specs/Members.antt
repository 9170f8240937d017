-- Sets as lists of members in value order, without repeats.
use Rattle.std.specs.Prelude.{ℕ, Bool, true, ◌&&◌, not, if◌then◌else◌, T, List, [], ◌∷◌, Option, Some, None}
use Rattle.std.specs.List.{list_any, filter}
use Rattle.std.specs.declared.cmp.Ordering.{Ordering}
use Rattle.std.specs.Ordering.{nat_cmp, is_lt, is_eq}
use Rattle.std.specs.Cmp.Lexicographic.{slice_cmp}
use Rattle.std.specs.FinMap.Entries.{by_order}

-- the order of texts and of byte strings: by unsigned bytes from the front
abbrev pub text_order : List ℕ → List ℕ → Ordering
text_order = slice_cmp nat_cmp

module _ {K : Type 0} (R : K → K → Ordering) where
  -- x is below each of them
  abbrev pub is_below_each : K → List K → Bool
  is_below_each x [] = true
  is_below_each x (y ∷ ys) = is_lt (R x y) && is_below_each x ys

  -- each is below those after it
  abbrev pub is_rising : List K → Bool
  is_rising [] = true
  is_rising (x ∷ xs) = is_below_each x xs && is_rising xs

  -- a list is a set where its members rise
  abbrev pub IsSet : List K → Type 0
  IsSet xs = T (is_rising xs)

  -- whether one of them is equal to x
  abbrev pub has_member : K → List K → Bool
  has_member x ys = list_any (λ y. is_eq (R x y)) ys

  -- the set with a member more, which stands at its place; the same set where it was one
  abbrev pub with_member : K → List K → List K
  with_member x [] = x ∷ []
  with_member x (y ∷ ys) = by_order (R x y) (x ∷ y ∷ ys) (y ∷ ys) (y ∷ with_member x ys)

  -- the set with each of these members more
  abbrev pub with_members : List K → List K → List K
  with_members [] ys = ys
  with_members (x ∷ xs) ys = with_member x (with_members xs ys)

  -- the set without those of its members that are among these
  abbrev pub without_members : List K → List K → List K
  without_members xs ys = filter (λ y. not (has_member y xs)) ys

  -- no two of them are equal
  abbrev pub are_apart : List K → Bool
  are_apart [] = true
  are_apart (x ∷ xs) = not (has_member x xs) && are_apart xs

  -- the members of a list, in value order
  abbrev pub gathered : List K → List K
  gathered [] = []
  gathered (x ∷ xs) = with_member x (gathered xs)

  -- the set that a list writes in any order; none where two of them are equal
  unfoldable pub set_of : List K → Option (List K)
  set_of xs = if are_apart xs then Some (gathered xs) else None
