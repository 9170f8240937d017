-- The page of a list of items (DynamoDB Developer Guide, "Paginating table query results" and "Filter expressions for the Query
-- operation"). Where a page ends is said of the list alone; filter and projection come after.
use Rattle.std.specs.Prelude.{ℕ, Bool, true, false, ◌||◌, nat_le, List, [], ◌∷◌, length, map, sum_by, Option, is_some, unwrap_or}
use Rattle.std.specs.List.{filter, find}
use Rattle.std.specs.Option.{option_map_or}
use Rattle.alt_value.specs.Item.{at_name}
use Rattle.alt_value.specs.Size.{item_size}
use Rattle.alt_value.specs.Tree.{Pair}
use Rattle.alt_expr.specs.Holds.{holds}
use Rattle.alt_expr.specs.Projected.{projected}
use Rattle.alt_expr.specs.declared.cond.Cond.{Cond}
use Rattle.alt_expr.specs.declared.path.PathPart.{PathPart}

-- ---- where a page ends

-- The bytes of items after which a page ends: 1 MB.
abbrev pub page_bytes : ℕ
page_bytes = 1048576

-- so many items fill a page, where there is a limit
abbrev pub reaches_limit : Option ℕ → List (List Pair) → Bool
reaches_limit limit items = option_map_or (λ most. nat_le most (length items)) limit false

-- Items fill a page where there are as many as the limit, or where their sizes add up to 1 MB.
abbrev pub fills : Option ℕ → List (List Pair) → Bool
fills limit items = reaches_limit limit items || nat_le page_bytes (sum_by item_size items)

-- the prefixes of a list, from the shortest on
abbrev pub prefixes : {A : Type 0} → List A → List (List A)
prefixes [] = [] ∷ []
prefixes (x ∷ xs) = [] ∷ map (λ front. x ∷ front) (prefixes xs)

-- the shortest prefix that fills a page, if one does
abbrev pub full_prefix : Option ℕ → List (List Pair) → Option (List (List Pair))
full_prefix limit items = find (fills limit) (prefixes items)

-- The examined items: the shortest prefix that fills a page, and the whole list where none does.
abbrev pub examined : Option ℕ → List (List Pair) → List (List Pair)
examined limit items = unwrap_or (full_prefix limit items) items

-- A page has ended early exactly where a prefix fills it.
abbrev pub ends_early : Option ℕ → List (List Pair) → Bool
ends_early limit items = is_some (full_prefix limit items)

-- ---- what a page gives

-- an item meets the filter, or there is no filter
abbrev pub passes : Option Cond → List Pair → Bool
passes condition item = option_map_or (holds (λ name. at_name name item)) condition true

-- what paths choose of an item, or all of it where there are none
abbrev pub parts : Option (List (List PathPart)) → List Pair → List Pair
parts paths item = option_map_or (λ chosen. projected chosen item) paths item

-- what is asked of a page: a limit of items, a condition as their filter, and what to show of each
pub record Asked : Type 0 where
  pub limit : Option ℕ
  pub condition : Option Cond
  pub paths : Option (List (List PathPart))

-- the items, how many they are, how many were examined, and whether the page has ended early
pub record Page : Type 0 where
  pub items : List (List Pair)
  pub count : ℕ
  pub scanned : ℕ
  pub ended : Bool

-- of items that were examined, those that meet the filter
abbrev pub passed : Asked → List (List Pair) → List (List Pair)
passed ask items = filter (passes ask.condition) items

-- The page of a list: of the examined items those that meet the filter, each as it is shown.
abbrev pub page_of : Asked → List (List Pair) → Page
page_of ask items =
    let seen : List (List Pair) = examined ask.limit items in record {
      items = map (parts ask.paths) (passed ask seen);
      count = length (passed ask seen);
      scanned = length seen;
      ended = ends_early ask.limit items;
    }
