-- What work leaves, and how long the log in hand is.
use Rattle.std.proofs.Common.{◌≡◌, ◌<◌, ◌≤◌, ◌*◌, ⊎_elim, inl, inr, min, ℕ, List, [], ap, subst, ◌∙◌, arith}
use Rattle.std.specs.Prelude.{◌⊎◌, option_and_then}
use Rattle.std.specs.FinMap.{empty, get as row_of, get-empty}
use Rattle.alt_cells.specs.Keys.{key_cmp}
use Rattle.alt_cells.specs.Shown.{row_shown}
use Rattle.alt_disk.specs.Disk.{DiskState}
use Rattle.alt_disk.specs.Runs.{Spans}
use Rattle.alt_disk.proofs.Runs.{spans_weaker}
use Rattle.alt_layout.specs.Families.{flushed_of, with_later}
use Rattle.alt_layout.specs.Files.{all_of}
use Rattle.alt_layout.specs.Fresh.{versions_file}
use Rattle.alt_layout.specs.Layout.{Layout, RowMap}
use Rattle.alt_manifest.specs.InHand.{version_of}
use Rattle.alt_manifest.specs.declared.version.Version.{Version}
use Rattle.alt_manifest.proofs.OneVersion.{same_version}
use Rattle.alt_memtable.specs.Rows.{most_bytes}
use Rattle.alt_layout.specs.Sizes.{SegmentsAreSized}
use Rattle.alt_layout.proofs.SizeLaws.{none_in, one_size_of}
use Rattle.alt_families.specs.Families.{rows_in}
use Rattle.alt_hand.specs.Drafting.{Empties, EmptiedIn}
use Rattle.alt_hand.specs.InHand.{HandStandsForLayout, family_of, limits_of}
use Rattle.alt_hand.specs.Working.{HasEntries, IsLong, LogIsShort, Works, WorksIn, most_entries}
use Rattle.alt_hand.specs.declared.hand.Hand.{Hand}
use Rattle.alt_hand.proofs.HandLaws.{lies_of}

-- ---- the rows

-- A layout without the rows of families that aren't live shows what it showed, but for those.
pub works_of : (live : List ℕ) (l m : Layout) → Empties live l m → Works live l m
works_of live l m empties = record {
  number = empties.number;
  lives = λ family there key.
      ap (λ (rows : RowMap). option_and_then row_shown (row_of rows key)) (empties.lives family there);
  others = λ family. ⊎_elim
      (λ (same : m.rows family ≡ l.rows family). inl (λ key.
      ap (λ (rows : RowMap). option_and_then row_shown (row_of rows key)) same))
      (λ (none : m.rows family ≡ empty). inr (λ key.
      ap (λ (rows : RowMap). option_and_then row_shown (row_of rows key)) none
      ∙ ap (option_and_then row_shown) (get-empty key_cmp key))) (empties.others family);
}

-- So does each image on the way.
pub worked_in : (a b : DiskState) (live : List ℕ) (l : Layout)
    → Spans a b (λ g. Unit {0}) (EmptiedIn live l) → Spans a b (λ g. Unit {0}) (WorksIn live l)
worked_in a b live l spans =
    spans_weaker a b (λ g. Unit {0}) (λ g. Unit {0}) (WorksIn live l) (EmptiedIn live l) spans
    (λ g it. tt) (λ t image has. record {
      layout = has.layout;
      is = has.is;
      works = works_of live l has.layout has.empties;
    })

-- ---- the bytes of entries

-- The engine counts the bytes of the entries, up to 2^62.
pub entries_length : (s : DiskState) (e : Hand) (l : Layout) (n : ℕ) → HandStandsForLayout s e l
    → HasEntries s.file n → e.length ≡ min n most_bytes
entries_length s e l n stands has =
    let v = version_of e.manifest in
    let version : v ≡ has.version = same_version (s.file versions_file) v has.version
    (lies_of s e l stands).last has.last in
    let length = stands.reads.length in
    let same : length.bytes ≡ n = one_size_of s.file has.version.segments length.bytes n
    (subst (λ (u : Version). SegmentsAreSized s.file u.segments length.bytes) version length.sized)
    has.segments in
    length.is ∙ ap (λ k. min k most_bytes) same

-- And there are so many.
pub has_entries : (s : DiskState) (e : Hand) (l : Layout) → HandStandsForLayout s e l
    → (n : ℕ) × HasEntries s.file n
has_entries s e l stands = (
  stands.reads.length.bytes,
  record {
    version = version_of e.manifest;
    last = (lies_of s e l stands).last;
    segments = stands.reads.length.sized;
  },
)

-- ---- short and long

pub short_entries : (s : DiskState) (e : Hand) (l : Layout) → HandStandsForLayout s e l → LogIsShort e
    → (n : ℕ) → HasEntries s.file n → n < most_entries (limits_of e).flush
short_entries s e l stands short n has =
    let at = entries_length s e l n stands has in omega (arith, at, short)

pub long_entries : (s : DiskState) (e : Hand) (l : Layout) → HandStandsForLayout s e l → IsLong e
    → (n : ℕ) → HasEntries s.file n → most_entries (limits_of e).flush ≤ n
long_entries s e l stands long n has =
    let at = entries_length s e l n stands has in omega (arith, at, long)

pub no_entries : (s : DiskState) (e : Hand) (l : Layout) → HandStandsForLayout s e l → e.length ≡ 0
    → (n : ℕ) → HasEntries s.file n → n ≡ 0
no_entries s e l stands none n has =
    let at = entries_length s e l n stands has in omega (arith, at, none)

-- Where there are none, no family has rows in memory.
pub none_in_memory : (s : DiskState) (e : Hand) (l : Layout) → HandStandsForLayout s e l → e.length ≡ 0
    → (family : ℕ) → rows_in (family_of e family) ≡ empty
none_in_memory s e l stands none family =
    let length = stands.reads.length in
    let all : all_of stands.reads.parts ≡ [] = none_in s.file (version_of e.manifest).segments
    stands.reads.parts length.bytes stands.reads.stored.segments length.sized
    (let at = length.is in omega (arith, at, none)) in
    stands.reads.memory family ∙ ap (with_later (flushed_of (version_of e.manifest).families family)
    family empty) all

-- ---- a step

-- After it the log is short.
pub step_short : (s : DiskState) (e f : Hand) (m : Layout) → 0 < (limits_of e).flush
    → HandStandsForLayout s f m → (f.length ≡ 0) ⊎ (LogIsShort e × (f.length ≡ e.length)) → (n : ℕ)
    → HasEntries s.file n → n < 16 * (limits_of e).flush
step_short s e f m some stands bytes n has =
    let at = entries_length s f m n stands has in ⊎_elim
    (λ (none : f.length ≡ 0). omega (arith, at, none, some))
    (λ (same : LogIsShort e × (f.length ≡ e.length)). let short = same.0 in let eq = same.1 in
    omega (arith, at, short, eq)) bytes
