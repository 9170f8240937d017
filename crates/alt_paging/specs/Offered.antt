-- What a pager was offered, and the page of it.
use Rattle.std.specs.Prelude.{◌≡◌, Bool, not, ◌&&◌, ◌||◌, ◌==◌, ◌+◌, ◌-◌, List, [], ◌∷◌, ◌++◌, length, map, sum_by, Option, Some, None, if◌then◌else◌}
use Rattle.std.specs.List.{last_or}
use Rattle.alt_expr.specs.Pages.{Asked, page_bytes, examined, ends_early, passes, parts, passed, page_of}
use Rattle.alt_paging.specs.Counted.{reached}
use Rattle.alt_paging.specs.Looked.{IsLooked}
use Rattle.alt_paging.specs.declared.ask.Page.{Page}
use Rattle.alt_paging.specs.declared.ask.PageAsk.{PageAsk}
use Rattle.alt_paging.specs.declared.pager.Pager.{Pager}
use Rattle.alt_value.specs.Size.{item_size}
use Rattle.alt_value.specs.Tree.{Pair}

-- what is asked, as it is said of lists
abbrev pub asked_of_page : PageAsk → Asked
asked_of_page ask = record { limit = ask.limit; condition = ask.filter; paths = ask.paths }

-- the items, unless counts alone are wanted
abbrev pub unless_counts : Bool → List (List Pair) → List (List Pair)
unless_counts count_only items = if count_only then [] else items

-- the last of the items that a page of a list examines, where the page ends early
abbrev pub last_item_of_page : PageAsk → List (List Pair) → Option (List Pair)
last_item_of_page ask list =
    if ends_early ask.limit list then last_or None (examined ask.limit list) else None

-- The page is that of the list, and tells the item that ended it; where counts alone are wanted, it has none of the items.
pub record IsPage (ask : PageAsk) (list : List (List Pair)) (page : Page) : Type 0 where
  pub items : page.items ≡ unless_counts ask.count_only (page_of (asked_of_page ask) list).items
  pub count : page.count ≡ (page_of (asked_of_page ask) list).count
  pub scanned : page.scanned ≡ (page_of (asked_of_page ask) list).scanned
  pub ended : page.ended ≡ (page_of (asked_of_page ask) list).ended
  pub last : page.last ≡ last_item_of_page ask list

-- the page has ended
abbrev pub has_ended : Pager → Bool
has_ended pager = pager.ended

-- The pager was made for that ask and was offered these items, one after the other: all of them are examined.
pub record WasOffered (pager : Pager) (ask : PageAsk) (items : List (List Pair)) : Type 0 where
  pub for : pager.ask ≡ ask
  pub looked : IsLooked pager.look pager.ask
  pub kept : pager.kept ≡ unless_counts ask.count_only
      (map (parts ask.paths) (passed (asked_of_page ask) items))
  pub count : pager.count ≡ length (passed (asked_of_page ask) items)
  pub scanned : pager.scanned ≡ length items
  pub left : pager.left ≡ page_bytes - sum_by item_size items
  pub whole : examined ask.limit items ≡ items
  pub ended : pager.ended ≡ ends_early ask.limit items
  pub last : pager.last ≡ last_item_of_page ask items

-- ---- for private contracts

-- what is kept of an item
abbrev pub kept_of_item : PageAsk → List Pair → List (List Pair)
kept_of_item ask item =
    if passes ask.filter item && not ask.count_only then parts ask.paths item ∷ [] else []

-- an item is examined: it is kept and counted where it meets the filter, its bytes are counted, and it is at hand where it ends the page
pub record ExaminesItem (old : Pager) (item : List Pair) (new : Pager) : Type 0 where
  pub ask : new.ask ≡ old.ask
  pub looked : IsLooked old.look old.ask → IsLooked new.look new.ask
  pub kept : IsLooked old.look old.ask → new.kept ≡ old.kept ++ kept_of_item old.ask item
  pub count : IsLooked old.look old.ask
      → new.count ≡ old.count + (if passes old.ask.filter item then 1 else 0)
  pub scanned : new.scanned ≡ old.scanned + 1
  pub left : new.left ≡ old.left - item_size item
  pub ended : new.ended ≡ (reached old.ask.limit new.scanned || (new.left == 0))
  pub last : new.last ≡ (if new.ended then Some item else None)
