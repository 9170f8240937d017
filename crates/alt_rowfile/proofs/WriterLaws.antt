-- What one row more and one block more make of a row file that is being written.
use Rattle.std.proofs.Common.{◌≡◌, ℕ, ◌+◌, ◌<◌, ◌≤◌, ◌^◌, List, [], ◌∷◌, ◌++◌, length, refl, sym, ap, subst, ◌∙◌, arith, append_assoc, length-append, T}
use Rattle.std.specs.List.{AllByRecursion}
use Rattle.std.specs.FinMap.Entries.{is_sorted}
use Rattle.std.proofs.lemmas.List.{append-nil}
use Rattle.alt_fields.specs.Field.{field}
use Rattle.alt_disk.specs.Disk.{DiskState}
use Rattle.alt_cells.specs.declared.row.RowCells.{RowCells}
use Rattle.alt_cells.specs.Format.{bytes_of_row}
use Rattle.alt_cells.specs.Keys.{key_cmp}
use Rattle.alt_fields.proofs.Apart.{all_append}
use Rattle.alt_filter.specs.Filters.{Holds}
use Rattle.alt_filter.specs.declared.filter.Filter.{Filter}
use Rattle.alt_rowblocks.specs.Format.{Entry, Mark, row_entry_bytes, rows_bytes, block_bytes, front, rows_of, first_key, marks_from, tail_bytes, body, row_file_bytes, IsBlock, IsFull, AreBlocks, IsHeldEntry, IsHeldBlock}
use Rattle.alt_rowblocks.specs.Filtering.{AreFilters}
use Rattle.alt_rowfile.specs.Sinks.{IsPut, Lasts}
use Rattle.alt_rowfile.specs.InHand.{StandsAsRowFile}
use Rattle.sha2.specs.Sha256.{sha256}
use Rattle.alt_disk.proofs.Settled.{synced_settled}
use Rattle.alt_rowfile.specs.Writing.{piece, IsOpenBlock, WritesAs}
use Rattle.alt_rowblocks.specs.Summaries.{joined_summary, summary_of}
use Rattle.alt_rowfile.specs.declared.sink.Sink.{Sink}
use Rattle.alt_rowblocks.specs.declared.summary.Summary.{Summary}
use Rattle.alt_rowblocks.proofs.OneFile.{length-entry}
use Rattle.alt_rowblocks.proofs.FilterLaws.{filters-push, holds_more}
use Rattle.alt_rowblocks.proofs.SummaryLaws.{summary-append}
use Rattle.alt_rowblocks.proofs.PushLaws.{rows_bytes-push, rows_of-push, front-push, length-front, marks-push}

-- the open block has one row at least once a row was added
pub piece-push : (waiting : List Entry) (e : Entry)
    → piece (waiting ++ e ∷ []) ≡ (waiting ++ e ∷ []) ∷ []
piece-push [] e = refl
piece-push (x ∷ waiting) e = refl

-- the first key of an open block stays with one row more
first-push : (waiting : List Entry) (e x : Entry) → first_key ((x ∷ waiting) ++ e ∷ []) ≡ x.0
first-push waiting e x = refl

-- an open block that isn't full stays open with one row more
pub open_push : (waiting : List Entry) (e : Entry) → length (rows_bytes waiting) < 4096
    → IsOpenBlock (waiting ++ e ∷ [])
open_push [] e short = record { rows = []; last = e; is = refl; short = short }
open_push (x ∷ waiting) e short = record { rows = x ∷ waiting; last = e; is = refl; short = short }

-- with one row more it is a block
pub block_push : (waiting : List Entry) (e : Entry) → length (rows_bytes waiting) < 4096
    → IsBlock (waiting ++ e ∷ [])
block_push waiting e short = record { rows = waiting; last = e; is = refl; short = short }

-- no bytes, no rows
pub rows_none : (rows : List Entry) → length (rows_bytes rows) ≡ 0 → rows ≡ []
rows_none [] e = refl
rows_none (x ∷ rows) e =
    absurd (omega (arith, e, length-append (row_entry_bytes x) (rows_bytes rows), length-entry x))

-- rows of which there are some have bytes
pub rows_some : (x : Entry) (rows : List Entry) → 0 < length (rows_bytes (x ∷ rows))
rows_some x rows = omega (arith, length-append (row_entry_bytes x) (rows_bytes rows), length-entry x)

-- the marks with one row more: at the first row of a block a mark is set
pub marks_more : (closed : List (List Entry)) (waiting : List Entry) (e : Entry) (at : ℕ)
    (block : List ℕ) (marks new : List Mark) → at ≡ length (front closed)
    → block ≡ rows_bytes waiting
    → marks ≡ marks_from 8 (closed ++ piece waiting)
    → (length block ≡ 0 → new ≡ marks ++ (at, e.0) ∷ []) → (0 < length block → new ≡ marks)
    → new ≡ marks_from 8 (closed ++ piece (waiting ++ e ∷ []))
marks_more closed [] e at block marks new place is are set kept =
    set (ap length is)
    ∙ ap (λ (l : List Mark). l ++ (at, e.0) ∷ []) (are ∙ ap (marks_from 8) (append-nil closed))
    ∙ ap (λ (n : ℕ). marks_from 8 closed ++ (n, e.0) ∷ []) (place ∙ length-front closed)
    ∙ sym (marks-push 8 closed (e ∷ []))
marks_more closed (x ∷ waiting) e at block marks new place is are set kept =
    kept (omega (arith, ap length is, rows_some x waiting)) ∙ are
    ∙ marks-push 8 closed (x ∷ waiting) ∙ sym (marks-push 8 closed (x ∷ (waiting ++ e ∷ [])))

-- one row more in the open block
pub row_more : (s : DiskState) (sink : Sink) (block new_block : List ℕ)
    (marks new_marks : List Mark) (count new_count : ℕ) (summary new_summary : Summary)
    (filters : List Filter) (filter new_filter : Filter) (closed : List (List Entry))
    (waiting : List Entry) (e : Entry)
    → WritesAs s sink block marks count summary filters filter closed waiting → length
    (rows_bytes waiting) < 4096
    → T (is_sorted key_cmp (rows_of closed ++ (waiting ++ e ∷ []))) → IsHeldEntry e
    → new_block ≡ block ++ row_entry_bytes e
    → (length block ≡ 0 → new_marks ≡ marks ++ (sink.at, e.0) ∷ [])
    → (0 < length block → new_marks ≡ marks) → new_count ≡ count + 1
    → new_summary ≡ joined_summary summary (summary_of (e ∷ []))
    → ((key : List ℕ) → Holds filter key → Holds new_filter key) → Holds new_filter e.0
    → WritesAs s sink new_block new_marks new_count new_summary filters new_filter closed
    (waiting ++ e ∷ [])
row_more s sink block new_block marks new_marks count new_count summary new_summary filters filter
    new_filter closed waiting e w short rising held bytes set kept counted told holds_on holds =
    record {
      put = w.put;
      blocks = w.blocks;
      held = w.held;
      opens = open_push waiting e short;
      open_held = all_append IsHeldEntry waiting (e ∷ []) w.open_held (held, tt);
      rising = rising;
      bytes = bytes ∙ ap (λ (l : List ℕ). l ++ row_entry_bytes e) w.bytes
          ∙ sym (rows_bytes-push waiting e);
      marks_are = marks_more closed waiting e sink.at block marks new_marks w.put.at w.bytes
          w.marks_are set kept;
      count_is = omega (
        arith,
        counted,
        w.count_is,
        length-append (rows_of closed) (waiting ++ e ∷ []),
        length-append waiting (e ∷ []),
        length-append (rows_of closed) waiting,
      );
      summary_is = told ∙ ap (λ (x : Summary). joined_summary x (summary_of (e ∷ []))) w.summary_is
          ∙ sym (summary-append (rows_of closed ++ waiting) (e ∷ []))
          ∙ ap summary_of (append_assoc (rows_of closed) waiting (e ∷ []));
      filters_are = w.filters_are;
      open_holds = holds_more filter new_filter waiting e holds_on holds w.open_holds;
    }

-- a block that has a row is a piece
piece_some : (waiting : List Entry) → IsBlock waiting → piece waiting ≡ waiting ∷ []
piece_some [] b = absurd (omega (arith, ap length b.is, length-append b.rows (b.last ∷ [])))
piece_some (x ∷ waiting) b = refl

-- the open block, written
pub block_more : {summary : Summary} (s t : DiskState) (sink new_sink : Sink) (block written cleared : List ℕ)
    (marks : List Mark) (count : ℕ) (filters new_filters : List Filter) (filter new_filter : Filter)
    (closed : List (List Entry)) (waiting : List Entry)
    → WritesAs s sink block marks count summary filters filter closed waiting → IsBlock waiting
    → length block < 2 ^ 64
    → written ≡ field block
    → ((done : List ℕ) → IsPut s sink done → IsPut t new_sink (done ++ written)) → cleared ≡ []
    → new_filters ≡ filters ++ filter ∷ []
    → WritesAs t new_sink cleared marks count summary new_filters new_filter
    (closed ++ waiting ∷ []) []
unfolding block_bytes
block_more s t sink new_sink block written cleared marks count filters new_filters filter new_filter
    closed waiting w is small bytes puts none added =
    let here : written ≡ block_bytes waiting = bytes ∙ ap field w.bytes in
    let rows : rows_of (closed ++ waiting ∷ []) ++ [] ≡ rows_of closed ++ waiting =
    append-nil (rows_of (closed ++ waiting ∷ [])) ∙ rows_of-push closed waiting in
    record {
      put = subst (IsPut t new_sink) (ap (λ (l : List ℕ). front closed ++ l) here
          ∙ sym (front-push closed waiting)) (puts (front closed) w.put);
      blocks = all_append IsBlock closed (waiting ∷ []) w.blocks (is, tt);
      held = all_append IsHeldBlock closed (waiting ∷ []) w.held
          ((w.open_held, omega (arith, small, ap length w.bytes)), tt);
      opens = tt;
      open_held = tt;
      rising = subst (λ (l : List Entry). T (is_sorted key_cmp l)) (sym rows) w.rising;
      bytes = none;
      marks_are = w.marks_are
          ∙ ap (λ (p : List (List Entry)). marks_from 8 (closed ++ p)) (piece_some waiting is)
          ∙ ap (marks_from 8) (sym (append-nil (closed ++ waiting ∷ [])));
      count_is = w.count_is ∙ ap length (sym rows);
      summary_is = w.summary_is ∙ ap summary_of (sym rows);
      filters_are = subst (λ (l : List Filter). AreFilters l (closed ++ waiting ∷ [])) (sym added)
          (filters-push filters closed filter waiting w.filters_are w.open_holds);
      open_holds = tt;
    }

-- the open block may be the last, with less
pub are_blocks : (closed : List (List Entry)) (waiting : List Entry) → AllByRecursion IsBlock closed
    → AllByRecursion IsFull closed → IsOpenBlock waiting → AreBlocks (closed ++ piece waiting)
are_blocks [] [] blocks full opens = tt
are_blocks [] (x ∷ waiting) blocks full opens = opens
are_blocks (b ∷ []) [] blocks full opens = blocks.0
are_blocks (b ∷ []) (x ∷ waiting) blocks full opens = (blocks.0, full.0, opens)
are_blocks (b ∷ c ∷ closed) waiting blocks full opens =
    (blocks.0, full.0, are_blocks (c ∷ closed) waiting blocks.1 full.1 opens)

-- the rows of the open block stand behind those of the others
pub rows_of-piece : (closed : List (List Entry)) (waiting : List Entry)
    → rows_of (closed ++ piece waiting) ≡ rows_of closed ++ waiting
rows_of-piece closed [] = ap rows_of (append-nil closed) ∙ sym (append-nil (rows_of closed))
rows_of-piece closed (x ∷ waiting) = rows_of-push closed (x ∷ waiting)

-- what was empty was empty
pub nothing_waits : {summary : Summary} {filters : List Filter} {filter : Filter} (s t : DiskState)
    (sink : Sink) (block : List ℕ) (marks : List Mark) (count : ℕ)
    (closed : List (List Entry)) (waiting : List Entry)
    → WritesAs s sink block marks count summary filters filter closed waiting → length block ≡ 0
    → WritesAs s sink block marks count summary filters filter (closed ++ piece waiting) []
nothing_waits {summary} {filters} {filter} s t sink block marks count closed waiting w none =
    let empty : waiting ≡ [] = rows_none waiting (omega (arith, none, ap length w.bytes)) in
    let same : closed ++ piece waiting ≡ closed = ap (λ (r : List Entry). closed ++ piece r) empty
    ∙ append-nil closed in
    subst (λ (c : List (List Entry)). WritesAs s sink block marks count summary filters filter c [])
    (sym same) (subst (WritesAs s sink block marks count summary filters filter closed) empty w)

-- where the open block has bytes it has a row
pub something_waits : {summary : Summary} {filters : List Filter} {filter : Filter} (s : DiskState)
    (sink : Sink) (block : List ℕ) (marks : List Mark) (count : ℕ)
    (closed : List (List Entry)) (waiting : List Entry)
    → WritesAs s sink block marks count summary filters filter closed waiting → 0 < length block →
    IsBlock waiting
    × (piece waiting ≡ waiting ∷ [])
something_waits s sink block marks count closed [] w some =
    absurd (omega (arith, some, ap length w.bytes))
something_waits s sink block marks count closed (x ∷ waiting) w some = (w.opens, refl)

-- a file of blocks that lasts stands for its rows
pub stands_after : {summary : Summary} {filters : List Filter} {filter : Filter} (s t : DiskState)
    (sink : Sink) (block tail : List ℕ) (marks : List Mark)
    (count : ℕ) (closed : List (List Entry)) → WritesAs s sink block marks count summary filters
    filter closed []
    → AreBlocks closed
    → sink.at ≤ 2 ^ 62 → tail ≡ tail_bytes marks count sink.at
    → Lasts t sink.file ((front closed ++ tail) ++ sha256 (front closed ++ tail))
    → StandsAsRowFile t sink.file marks sink.at summary filters (rows_of closed)
stands_after s t sink block tail marks count closed w cut small is lasts =
    let here : marks ≡ marks_from 8 closed = w.marks_are ∙ ap (marks_from 8) (append-nil closed) in
    let rows : count ≡ length (rows_of closed) = w.count_is
    ∙ ap length (append-nil (rows_of closed)) in
    let whole : front closed ++ tail ≡ body closed =
    ap (λ (l : List ℕ). front closed ++ l) (is
    ∙ (λ i. tail_bytes (here i) (rows i) (w.put.at i))) in
    let all : (front closed ++ tail) ++ sha256 (front closed ++ tail) ≡ row_file_bytes closed =
    ap (λ (l : List ℕ). l ++ sha256 l) whole in
    record {
      reads = record {
        bytes = (front closed ++ tail) ++ sha256 (front closed ++ tail);
        there = lasts.file;
        as_file = record {
          blocks = closed;
          file = record {
            cut = cut;
            rising =
                subst (λ (l : List Entry). T (is_sorted key_cmp l))
                (append-nil (rows_of closed)) w.rising;
            held = w.held;
            place =
                omega (arith, small, w.put.at);
            is = all;
          };
          are = refl;
          marks_are = here;
          end_is = w.put.at;
          summary_is = w.summary_is ∙ ap summary_of (append-nil (rows_of closed));
          filters_are = w.filters_are;
        };
      };
      settled = synced_settled t sink.file
          ((front closed ++ tail) ++ sha256 (front closed ++ tail)) lasts.file lasts.kept;
    }

-- a row put down in two fields is its entry
pub two_put : (block one two key row_bytes : List ℕ) (row : RowCells) → row_bytes ≡ bytes_of_row row
    → one ≡ block ++ field key → two ≡ one ++ field row_bytes
    → two ≡ block ++ row_entry_bytes (key, row)
unfolding row_entry_bytes
two_put block one two key row_bytes row is first then =
    then ∙ ap (λ (l : List ℕ). l ++ field row_bytes) first
    ∙ append_assoc block (field key) (field row_bytes)
    ∙ ap (λ (r : List ℕ). block ++ (field key ++ field r)) is
