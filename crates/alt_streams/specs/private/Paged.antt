-- A page of a stream that is being filled.
use Rattle.std.specs.Prelude.{◌≡◌, ◌-◌, ◌<◌, ◌^◌, ◌==◌, ◌||◌, ◌⊎◌, ◌++◌, ℕ, Bool, true, false, if◌then◌else◌, List, [], length, map, sum_by, Option, Some, None, codes}
use Rattle.std.specs.List.{find}
use Rattle.serde_json.specs.Data.{string, array, member, no_members}
use Rattle.alt_changes.specs.KeyOf.{HasSizes}
use Rattle.alt_expr.specs.Pages.{page_bytes, prefixes}
use Rattle.alt_machine.specs.Changes.{record_json, record_size}
use Rattle.alt_machine.specs.Ops.GetRecords.{changes_from, records_fill_page, next_from}
use Rattle.alt_machine.specs.State.{Change, Table}
use Rattle.alt_machine.specs.Streams.{Iterator, iterator_text}
use Rattle.alt_schema.specs.Json.{stream_arn}
use Rattle.alt_schema.specs.declared.schema.TableSchema.{TableSchema}
use Rattle.alt_schema.specs.declared.schema.View.{View}
use Rattle.alt_shape.specs.Objects.{object_json, objects_json}
use Rattle.alt_shape.specs.Refusals.{Answer, answered}
use Rattle.alt_streams.specs.declared.page.Page.{Page}

-- the shortest prefix of changes that fills a page, if one does
abbrev pub full_change_prefix : ℕ → (Change → ℕ) → List Change → Option (List Change)
full_change_prefix most size changes = find (records_fill_page most size) (prefixes changes)

-- No shorter prefix of the changes fills a page.
abbrev pub NoShorterPrefixFills : ℕ → (Change → ℕ) → List Change → Type 0
NoShorterPrefixFills most size changes =
    full_change_prefix most size changes ≡ (if records_fill_page most size changes then Some changes else None)

-- The page has the records of these changes of a table whose stream shows so much, of at most so many from a number on; and none of their
-- prefixes fills a page, but for all of them.
pub record PageHasRecords (d : TableSchema) (shows : View) (most from : ℕ) (page : Page)
    (seen : List Change) : Type 0 where
  pub records : map object_json page.records.items ≡ map (record_json d shows) seen
  pub room : page.room ≡ most - length seen
  pub left : page.left ≡ page_bytes - sum_by (record_size d shows) seen
  pub next : page.next ≡ next_from from seen
  pub first : NoShorterPrefixFills most (record_size d shows) seen

-- no more records may follow
abbrev pub is_full : Page → Bool
is_full page = page.room == 0 || page.left == 0

-- a change as it stands in a valid state, as far as a page asks
abbrev pub IsFit : Change → Type 0
IsFit c = (c.number < 2 ^ 62) × HasSizes c

-- Behind those that were read all of these changes were, or a front of them that fills the page.
abbrev pub Puts : TableSchema → View → ℕ → ℕ → Page → List Change → List Change → Bool → Type 0
Puts d shows most from page seen changes true = PageHasRecords d shows most from page (seen ++ changes)
Puts d shows most from page seen changes false = (front : List Change) × (rest : List Change)
    × (changes ≡ front ++ rest) × PageHasRecords d shows most from page (seen ++ front)
    × (is_full page ≡ true)

-- A step read a front of the changes, and the others are those from the page's next number on; or the page or the changes end with it.
abbrev pub StepsPage : TableSchema → View → ℕ → ℕ → Page → List Change → Table → List Change
    → Bool → Type 0
StepsPage d shows most from page seen t list true = (front : List Change)
    × PageHasRecords d shows most from page (seen ++ front)
    × (list ≡ front ++ changes_from page.next t.changes)
StepsPage d shows most from page seen t list false = (front : List Change) × (rest : List Change)
    × (list ≡ front ++ rest) × PageHasRecords d shows most from page (seen ++ front)
    × ((is_full page ≡ true) ⊎ (rest ≡ []))

-- ---- the answer

-- the iterator of a table's stream at a number
abbrev pub iterator_at : TableSchema → ℕ → Iterator
iterator_at d from = record { arn = stream_arn d.name d.number; from = from }

-- a page as it is answered
abbrev pub records_page_answer : TableSchema → Page → Answer
records_page_answer d page = answered
    (member (codes "NextShardIterator") (string (iterator_text (iterator_at d page.next)))
    (member (codes "Records") (array (objects_json page.records.items)) no_members))
