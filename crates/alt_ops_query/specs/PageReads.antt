-- What a page may read of the disk. Where the table or the index that is read has f row files, and these have v versions of rows, tombstones among them, at the
-- places that the page passes, a page that examines e items makes at most v + 2 * f * (1 + e) reads.
use Rattle.std.specs.Prelude.{◌≡◌, ◌≤◌, ◌+◌, ◌*◌, ◌&&◌, ℕ, Bool, true, not, List, length, Option, Some, None, option_and_then, Ok}
use Rattle.std.specs.Option.{option_map_or}
use Rattle.serde_json.specs.Data.{Members}
use Rattle.alt_cells.specs.Walks.{RowMap}
use Rattle.alt_disk.specs.Disk.{DiskState}
use Rattle.alt_expr.specs.KeyForm.{Ask}
use Rattle.alt_expr.specs.Pages.{Asked, page_of, passes}
use Rattle.alt_families.specs.Reads.{versions_of}
use Rattle.alt_machine.specs.declared.Expressions.{Expressions}
use Rattle.alt_machine.specs.Expressions.{querying, scanning}
use Rattle.alt_machine.specs.Lists.{IsListed, last_examined, listed, page_asked, walk_start}
use Rattle.alt_machine.specs.Members.{table_at}
use Rattle.alt_machine.specs.Ops.Query as machine_query
use Rattle.alt_machine.specs.Ops.Query.{goes_forward, key_asked}
use Rattle.alt_machine.specs.Ops.Scan as machine_scan
use Rattle.alt_machine.specs.Ops.Scan.{is_in, segment_of}
use Rattle.alt_machine.specs.Sources.{hash_of, index_at}
use Rattle.alt_machine.specs.State.{State, Table}
use Rattle.alt_machine.specs.Walks.{is_beyond}
use Rattle.alt_ops_query.specs.Places.{HoldsListed, place_in_source}
use Rattle.alt_schema.specs.declared.schema.IndexSchema.{IndexSchema}
use Rattle.alt_request.specs.TablesReading.{HasRowFiles, family_read, is_within}
use Rattle.alt_value.specs.Tree.{Pair}

-- Where the page of a list ends: at the place of the last item that it examines, where it ends early; else it goes on to the range's end.
abbrev pub page_end : Table → Option IndexSchema → Asked → List (List Pair) → Option (List ℕ)
page_end t i ask list = option_and_then (place_in_source t.description i) (last_examined ask list)

-- A page that ends there passes the places of its range that aren't beyond its end.
abbrev pub is_passed_by_page : Bool → List ℕ → Option (List ℕ) → Option (List ℕ) → List ℕ → Bool
is_passed_by_page forward from to end place = is_within from to place
    && option_map_or (λ last. not (is_beyond forward (Some last) place)) end true

-- The most reads of the page of a list that lies in a range, where what is read has these row files.
abbrev pub most_reads_of_page : Table → Option IndexSchema → Bool → List ℕ → Option (List ℕ) → Asked
    → List (List Pair) → List RowMap → ℕ
most_reads_of_page t i forward from to ask list maps =
    versions_of (is_passed_by_page forward from to (page_end t i ask list)) maps
    + 2 * length maps * (1 + (page_of ask list).scanned)

-- The page of the items beyond the start that pass a test was read: over a range that holds exactly these of the items that may stand there, with no
-- more reads than that, by the row files of the table or of the index itself, as they were before.
pub record ReadsPage (before after : DiskState) (t : Table) (i : Option IndexSchema)
    (forward : Bool) (start : Option (List ℕ)) (test : List Pair → Bool) (ask : Asked)
    : Type 0 where
  pub from : List ℕ
  pub to : Option (List ℕ)
  pub holds : HoldsListed forward start test t.description i from to
  pub reads : (maps : List RowMap) → HasRowFiles before.file (family_read t.description i) maps
      → after.reads ≤ before.reads
      + most_reads_of_page t i forward from to ask (listed forward start test t i) maps

-- The page of a Query was read: that of the items of which its key condition holds.
pub record ReadsQuery (s : State) (ms : Members) (before after : DiskState) : Type 0 where
  pub table : Table
  pub there : table_at s ms ≡ Ok table
  pub said : Expressions
  pub start : Option (List Pair)
  pub index : Option ℕ
  pub listed : IsListed (machine_query.of_body ms) querying ms table.description said start index
  pub ask : Ask
  pub asks : key_asked table.description (index_at table.description index) said.key_condition
      ≡ Ok ask
  pub place : Option (List ℕ)
  pub starts : walk_start table.description (index_at table.description index) (Some ask.hash)
      start ≡ Ok place
  pub page : ReadsPage before after table (index_at table.description index) (goes_forward ms) place
      (passes said.key_condition) (page_asked ms said)

-- The page of a Scan was read: that of the items of its segment, or of all.
pub record ReadsScan (s : State) (ms : Members) (before after : DiskState) : Type 0 where
  pub table : Table
  pub there : table_at s ms ≡ Ok table
  pub said : Expressions
  pub start : Option (List Pair)
  pub index : Option ℕ
  pub listed : IsListed (machine_scan.of_body ms) scanning ms table.description said start index
  pub place : Option (List ℕ)
  pub starts : walk_start table.description (index_at table.description index) None start
      ≡ Ok place
  pub page : ReadsPage before after table (index_at table.description index) true place
      (is_in (hash_of table.description (index_at table.description index)) (segment_of ms))
      (page_asked ms said)
