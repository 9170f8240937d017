-- What a walk has examined for a page.
use Rattle.std.specs.Prelude.{◌≡◌, ◌<◌, ◌≤◌, ◌+◌, ◌*◌, ◌&&◌, ℕ, Bool, true, false, not, List, ◌++◌, length, Option, Some, None, IfSome}
use Rattle.alt_cells.specs.Walks.{RowMap}
use Rattle.alt_disk.specs.Disk.{DiskState}
use Rattle.alt_expr.specs.Pages as pages
use Rattle.alt_expr.specs.Pages.{ends_early}
use Rattle.alt_families.specs.Reads.{versions_of}
use Rattle.alt_keyorder.specs.declared.range.KeyRange.{KeyRange}
use Rattle.alt_machine.specs.State.{Table}
use Rattle.alt_machine.specs.Walks.{is_beyond, items_between}
use Rattle.alt_ops_query.specs.PageReads.{is_passed_by_page, page_end}
use Rattle.alt_ops_query.specs.private.Ranges.{IsBeyond}
use Rattle.alt_paging.specs.declared.pager.Pager.{Pager}
use Rattle.alt_paging.specs.Offered.{WasOffered, asked_of_page, has_ended}
use Rattle.alt_paging.specs.declared.ask.PageAsk.{PageAsk}
use Rattle.alt_schema.specs.declared.schema.IndexSchema.{IndexSchema}
use Rattle.alt_request.specs.TablesReading.{HasRowFiles, family_read, is_within}
use Rattle.alt_value.specs.Tree.{Pair}

-- Behind those that were seen all of the items were examined, and the page goes on; or the first of them, the last of which ended it.
abbrev pub Examines : Pager → PageAsk → List (List Pair) → List (List Pair) → Bool → Type 0
Examines pager ask seen items true = WasOffered pager ask (seen ++ items)
    × (has_ended pager ≡ false)
Examines pager ask seen items false = (front : List (List Pair)) × (rest : List (List Pair))
    × (items ≡ front ++ rest) × WasOffered pager ask (seen ++ front)
    × (ends_early ask.limit (seen ++ front) ≡ true)

-- What a page of the list examines was examined, and the page has ended where that of the list does.
pub record HasFilled (pager : Pager) (ask : PageAsk) (list : List (List Pair)) : Type 0 where
  pub whole : WasOffered pager ask (pages.examined ask.limit list)
  pub ends : ends_early ask.limit (pages.examined ask.limit list) ≡ ends_early ask.limit list

-- ---- the steps of a walk

-- A page passed the places of a range that aren't beyond this one; where there is none yet it passed nothing.
abbrev pub is_behind_in_range : Bool → List ℕ → Option (List ℕ) → Option (List ℕ) → List ℕ → Bool
is_behind_in_range forward from to place key = is_within from to key && not (is_beyond forward place key)

-- so many versions were passed there, and each row file was read twice besides, so many times
abbrev pub paid_for : (List ℕ → Bool) → List RowMap → ℕ → ℕ
paid_for p maps times = versions_of p maps + 2 * length maps * times

-- A step examined a front of the list of its range, which has one item or more; the rest of the range lies beyond the last of these and
-- has the others; and the places up to there were paid for.
pub record ContinuesPage (a b : DiskState) (t : Table) (i : Option IndexSchema) (forward : Bool)
    (ask : PageAsk) (seen : List (List Pair)) (pager : Pager) (range rest : KeyRange)
    : Type 0 where
  pub front : List (List Pair)
  pub some : 0 < length front
  pub examined : WasOffered pager ask (seen ++ front)
  pub whole : items_between t i range.from range.to forward
      ≡ front ++ items_between t i rest.from rest.to forward
  pub last : List ℕ
  pub within : is_within range.from range.to last ≡ true
  pub beyond : IsBeyond forward (Some last) range.from range.to rest.from rest.to
  pub paid : (maps : List RowMap) → HasRowFiles a.file (family_read t.description i) maps
      → b.reads ≤ a.reads + paid_for (is_behind_in_range forward range.from range.to (Some last)) maps 1

-- A step examined all that the page examines, and no less than what was seen; and the places up to the page's end were paid for.
pub record EndsPage (a b : DiskState) (t : Table) (i : Option IndexSchema) (forward : Bool)
    (ask : PageAsk) (seen list : List (List Pair)) (pager : Pager) (range : KeyRange)
    : Type 0 where
  pub filled : HasFilled pager ask (seen ++ list)
  pub more : length seen ≤ length (pages.examined ask.limit (seen ++ list))
  pub within : IfSome (page_end t i (asked_of_page ask) (seen ++ list))
      (λ place. is_within range.from range.to place ≡ true)
  pub paid : (maps : List RowMap) → HasRowFiles a.file (family_read t.description i) maps
      → b.reads ≤ a.reads + paid_for (is_passed_by_page forward range.from range.to
      (page_end t i (asked_of_page ask) (seen ++ list))) maps 1

-- A step of a walk goes on with the rest of the range, or is the last one.
abbrev pub Steps : DiskState → DiskState → Table → Option IndexSchema → Bool → PageAsk
    → List (List Pair) → Pager → KeyRange → Option KeyRange → Type 0
Steps a b t i forward ask seen pager range None = EndsPage a b t i forward ask seen
    (items_between t i range.from range.to forward) pager range
Steps a b t i forward ask seen pager range (Some rest) =
    ContinuesPage a b t i forward ask seen pager range rest
