-- An engine in hand, by the store that lies on the disk.
use Rattle.std.proofs.Common.{◌≡◌, ◌≢◌, ◌+◌, ℕ, Bool, false, List, [], ◌∷◌, ◌++◌, length, min, Option, refl, sym, ap, subst, ◌∙◌, arith, inl, inr}
use Rattle.std.specs.Prelude.{◌⊎◌}
use Rattle.std.specs.BTreeMap.{get}
use Rattle.std.specs.FinMap.{empty}
use Rattle.std.specs.Ordering.{nat_cmp}
use Rattle.alt_cells.specs.declared.batch.RowChange.{RowChange}
use Rattle.alt_disk.specs.Disk.{DiskState, IsImage, IsSettled}
use Rattle.alt_disk.specs.Runs.{Quiet, Run, Spans}
use Rattle.alt_disk.proofs.Runs.{spans_weaker}
use Rattle.alt_gatelog.specs.InHand.{file_of_gate_log as log_file, form_of, StandsForEntries as LogStands}
use Rattle.alt_gatelog.specs.declared.form.Form.{Form}
use Rattle.alt_gatelog.specs.declared.gatelog.GateLog.{GateLog}
use Rattle.alt_gatelog.specs.Log.{BeforeOrAfter, IsLog}
use Rattle.alt_gatelog.proofs.Elsewhere.{reads_log, reads_stays}
use Rattle.alt_rowfile.specs.declared.rowfile.RowFile.{RowFile}
use Rattle.alt_layout.specs.Layout.{Layout, IsPast}
use Rattle.alt_writes.specs.Writes.{AreRising, Write, numbered}
use Rattle.alt_writes.proofs.PushLaws.{rising-numbered}
use Rattle.alt_memtable.specs.Rows.{most_bytes}
use Rattle.alt_layout.specs.Entries.{HoldWrites, IsEntry}
use Rattle.alt_layout.specs.Sizes.{SegmentsAreSized, bytes_in}
use Rattle.alt_layout.proofs.EntryLaws.{holds_push}
use Rattle.alt_layout.proofs.SizeLaws.{bytes_in-push, one_size, sized_last, sized_on, sized_with}
use Rattle.alt_layout.specs.Fresh.{versions_file}
use Rattle.alt_manifest.specs.InHand.{version_of}
use Rattle.alt_manifest.specs.Versions.{AreDistinct, HasVersion, IsIn, files_named, row_files, version_bytes}
use Rattle.alt_manifest.specs.declared.version.Version.{Version}
use Rattle.alt_manifest.proofs.AppendLaws.{has_version}
use Rattle.alt_layout.specs.Families.{Held, files_of, flushed_of, layout_of, next_after, with_later}
use Rattle.alt_layout.specs.Files.{IsLayout, all_of}
use Rattle.alt_layout.specs.Moments.{Lies, HasEither, IsIt}
use Rattle.alt_layout.proofs.FileLaws.{all_of-join, apart, distinct_front, last_named, layout_join, named_later, stored_on}
use Rattle.alt_layout.proofs.FamilyLaws.{flushed_below}
use Rattle.alt_layout.proofs.FlushedLayout.{unnamed}
use Rattle.alt_layout.proofs.RowLaws.{next_after-least, next_number-numbered, with_later-above, with_later-append}
use Rattle.alt_layout.proofs.MomentLaws.{in_each_image, lies_quiet, lies_writes, spans_writes}
use Rattle.alt_layout.proofs.PastLaws.{stored_past}
use Rattle.alt_layout.specs.Writes.{rows_with, with_writes}
use Rattle.alt_hand.specs.InHand.{HandReadsLayout, HandStandsForLayout, AreBelow, AreOpen, batch_writes, BeforeOrAll, IsLength, IsWritten, family_of}
use Rattle.alt_families.specs.Families.{Families, files_in, rows_in}
use Rattle.alt_families.specs.Memory.{AreWrittenTo}
use Rattle.alt_hand.specs.declared.hand.Hand.{Hand}
use Rattle.alt_drafts.proofs.MakesLaws.{in_row_files}
use Rattle.alt_hand.proofs.LogLaws.{holds_on, length_on}
use Rattle.alt_manifest.proofs.Among.{in_back}

-- the last version, as the disk reads
last_of : (s : DiskState) (e : Hand) (l : Layout) → HandReadsLayout s e l
    → HasVersion (version_of e.manifest) (s.file versions_file)
last_of s e l reads = subst (λ f. HasVersion (version_of e.manifest) (s.file f)) reads.first
    (has_version s e.manifest reads.versions)

-- no row is of the next number or a later one
pub reads_past : (s : DiskState) (e : Hand) (l : Layout) → HandReadsLayout s e l → IsPast l
reads_past s e l reads = subst IsPast (sym reads.is)
    (stored_past s.file (version_of e.manifest) reads.held reads.parts reads.versions.is reads.stored)

-- the files hold its rows
pub files_hold : (s : DiskState) (e : Hand) (l : Layout) → HandReadsLayout s e l → IsLayout s.file l
files_hold s e l reads = record {
  version = version_of e.manifest;
  last = last_of s e l reads;
  held = reads.held;
  parts = reads.parts;
  stored = reads.stored;
  is = reads.is;
}

-- a store lies on the disk where an engine stands
pub lies_of : (s : DiskState) (e : Hand) (l : Layout) (stands : HandStandsForLayout s e l)
    → Lies s (version_of e.manifest) stands.reads.held stands.reads.parts
lies_of s e l stands = record {
  last = last_of s e l stands.reads;
  stored = stands.reads.stored;
  settled = stands.settled;
}

-- each stop leaves its rows
pub each_image : (s : DiskState) (e : Hand) (l : Layout) → HandStandsForLayout s e l
    → (image : ℕ → Option (List ℕ)) → IsImage s s.moment image → IsLayout image l
each_image s e l stands image is_image = subst (IsLayout image) (sym stands.reads.is)
    (in_each_image s (version_of e.manifest) stands.reads.held stands.reads.parts
    (lies_of s e l stands) image is_image)

-- files in hand read as they read where all files do
open_on : (a b : DiskState) (held : Held) (gs : List ℕ) (fs : List RowFile)
    → ((f : ℕ) → b.file f ≡ a.file f) → AreOpen a held gs fs → AreOpen b held gs fs
open_on a b held [] [] same are = tt
open_on a b held [] (f ∷ fs) same are = absurd are
open_on a b held (g ∷ gs) [] same are = absurd are
open_on a b held (g ∷ gs) (f ∷ fs) same are = (
  are.0,
  record {
    bytes = are.1.bytes;
    there = same f.file ∙ are.1.there;
    as_file = are.1.as_file;
  },
  open_on a b held gs fs same are.2,
)

-- it reads as it read while calls leave every file
pub reads_quiet : (a b : DiskState) (e : Hand) (l : Layout) → HandReadsLayout a e l → Quiet a b
    → HandReadsLayout b e l
reads_quiet a b e l reads quiet = record {
  held = reads.held;
  parts = reads.parts;
  writes = reads.writes;
  versions = record {
    before = reads.versions.before;
    log = reads_stays a b e.manifest.log (reads.versions.before
        ++ version_bytes (version_of e.manifest) ∷ []) (quiet.file e.manifest.log.file)
        reads.versions.log;
    form = reads.versions.form;
    is = reads.versions.is;
  };
  first = reads.first;
  stored = stored_on a.file b.file (version_of e.manifest) reads.held reads.held reads.parts
      (λ g there. quiet.file g) (λ g there. refl) reads.stored;
  ends = reads.ends;
  log = holds_on a b e.log reads.writes (quiet.file e.log.file) reads.log;
  is = reads.is;
  next = reads.next;
  length = length_on a.file b.file (version_of e.manifest).segments e.length
      (λ g there. quiet.file g) reads.length;
  free = reads.free;
  fresh = λ f le. quiet.file f ∙ reads.fresh f le;
  memory = reads.memory;
  opened = λ family. open_on a b reads.held (files_of (version_of e.manifest).families family)
      (files_in (family_of e family)) quiet.file (reads.opened family);
  calm = reads.calm;
}

-- and stands as it stood
pub stays_quiet : (a b : DiskState) (e : Hand) (l : Layout) → HandStandsForLayout a e l → Quiet a b
    → HandStandsForLayout b e l
stays_quiet a b e l stands quiet = record {
  reads = reads_quiet a b e l stands.reads quiet;
  settled = (lies_quiet a b (version_of e.manifest) stands.reads.held stands.reads.parts
      (lies_of a e l stands) quiet).settled;
}

-- The writes of batches have numbers that rise from the next one of the log on.
pub rise_on : (s : DiskState) (e : Hand) (l : Layout) (batches : List (List RowChange))
    (reads : HandReadsLayout s e l)
    → AreRising (next_after (version_of e.manifest).next_number (all_of reads.parts))
    (batch_writes l batches)
rise_on s e l batches reads =
    subst (λ (n : ℕ). AreRising n (batch_writes l batches))
    (ap (λ (m : Layout). m.next_number) reads.is) (rising-numbered l.next_number batches)

-- While batches are added to the last segment each image has the rows before, or with all of them.
pub write_images : (a b : DiskState) (e : Hand) (l : Layout) (batches : List (List RowChange))
    (entry : List ℕ) (stands : HandStandsForLayout a e l)
    → IsEntry (form_of e.log) entry (batch_writes l batches)
    → Run a b (log_file e.log) (BeforeOrAfter (form_of e.log) stands.reads.log.entries entry)
    → Spans a b IsWritten (BeforeOrAll l batches)
write_images a b e l batches entry stands is run =
    let reads = stands.reads in
    let v = version_of e.manifest in
    let before : Layout = layout_of v reads.held (all_of reads.parts) in
    spans_weaker a b (IsIt (log_file e.log)) IsWritten (BeforeOrAll l batches)
    (HasEither before (with_writes before (batch_writes l batches)))
    (spans_writes a b v reads.held reads.parts (log_file e.log) reads.writes (form_of e.log)
    reads.log.entries entry (batch_writes l batches) (lies_of a e l stands) reads.ends
    reads.log.holds is (rise_on a e l batches reads) run)
    (λ g it first. named_later v (log_file e.log) reads.versions.is
    (last_named v reads.parts (log_file e.log) reads.writes reads.ends) (sym it ∙ first))
    (λ t image has. subst (λ (m : Layout). IsLayout image m
    ⊎ IsLayout image (with_writes m (batch_writes l batches))) (sym reads.is) has)

-- ---- batches more

-- files in hand read as they read where their files do
pub open_elsewhere : (a b : DiskState) (held : Held) (gs : List ℕ) (fs : List RowFile)
    → ((g : ℕ) → IsIn gs g → b.file g ≡ a.file g) → AreOpen a held gs fs → AreOpen b held gs fs
open_elsewhere a b held [] [] same are = tt
open_elsewhere a b held [] (f ∷ fs) same are = absurd are
open_elsewhere a b held (g ∷ gs) [] same are = absurd are
open_elsewhere a b held (g ∷ gs) (f ∷ fs) same are = (
  are.0,
  record {
    bytes = are.1.bytes;
    there = subst (λ n. b.file n ≡ a.file n) (sym are.0) (same g (inl refl)) ∙ are.1.there;
    as_file = are.1.as_file;
  },
  open_elsewhere a b held gs fs (λ h there. same h (inr there)) are.2,
)

module _ (a b : DiskState) (e : Hand) (l : Layout) (batches : List (List RowChange))
    (bytes : List ℕ) (stands : HandStandsForLayout a e l)
    (is_entry : IsEntry (form_of e.log) bytes (batch_writes l batches))
    (run : Run a b (log_file e.log)
    (BeforeOrAfter (form_of e.log) stands.reads.log.entries bytes)) where
  abbrev reads : HandReadsLayout a e l
  reads = stands.reads

  abbrev v : Version
  v = version_of e.manifest

  abbrev f : ℕ
  f = log_file e.log

  abbrev ws : List Write
  ws = batch_writes l batches

  abbrev before : Layout
  before = layout_of v reads.held (all_of reads.parts)

  abbrev parts : List (List Write)
  parts = reads.ends.fronts ++ (reads.writes ++ ws) ∷ []

  lies : Lies a v reads.held reads.parts
  lies = lies_of a e l stands

  named : IsIn (files_named v) f
  named = last_named v reads.parts f reads.writes reads.ends

  abbrev logged : List (List ℕ)
  logged = reads.log.entries

  later : AreRising (next_after v.next_number (all_of reads.parts)) ws
  later = rise_on a e l batches reads

  -- its writes, in a list
  all : all_of parts ≡ all_of reads.parts ++ ws
  all = all_of-join reads.ends.fronts reads.writes ws
      ∙ ap (λ x. all_of x ++ ws) (sym reads.ends.parts_are)

  -- the file of a row file is another than the segment
  other : (g : ℕ) → IsIn (row_files v.families) g → g ≢ f
  other g there same = apart v.segments (row_files v.families) f g reads.versions.is.differ
      (subst (λ xs. IsIn xs f) (sym reads.ends.segments)
      (in_back reads.ends.firsts (f ∷ []) f (inl refl))) there (sym same)

  -- and so is an earlier segment
  other_segment : (g : ℕ) → IsIn reads.ends.firsts g → g ≢ f
  other_segment g there = apart reads.ends.firsts (f ∷ []) g f
      (subst AreDistinct reads.ends.segments
      (distinct_front v.segments (row_files v.families) reads.versions.is.differ)) there (inl refl)

  module _ (log : GateLog) (size next : ℕ) (families : Families) (same_file : log_file log ≡ f)
      (same_form : form_of log ≡ form_of e.log) (added : LogStands b log (logged ++ bytes ∷ []))
      (size_is : size ≡ min (e.length + length bytes) most_bytes)
      (next_is : next ≡ e.next + length batches)
      (written : AreWrittenTo e.families families (numbered e.next batches)) (full : Bool)
      (calm : full ≡ false → AreBelow e.limits.flush families) where
    -- the segment is a log with the entry
    written_there : IsLog (form_of e.log) (logged ++ bytes ∷ []) (b.file f)
    written_there = subst (λ (x : Form). IsLog x (logged ++ bytes ∷ []) (b.file f)) same_form
        (subst (λ g. IsLog (form_of log) (logged ++ bytes ∷ []) (b.file g)) same_file
        (reads_log b log (logged ++ bytes ∷ []) added.reads))

    lies_after : Lies b v reads.held parts
    lies_after = lies_writes a b v reads.held reads.parts f reads.writes (form_of e.log) logged bytes
        ws lies reads.ends reads.log.holds is_entry later
        (BeforeOrAfter (form_of e.log) logged bytes) run written_there
        (subst (IsSettled b) same_file added.settled)

    -- and all segments have its bytes more
    size_after : IsLength b.file v.segments size
    size_after =
        let split = sized_last a.file reads.ends.firsts f reads.length.bytes
        (subst (λ fs. SegmentsAreSized a.file fs reads.length.bytes) reads.ends.segments
        reads.length.sized) in
        let own = one_size split.0 (bytes_in logged) (a.file f) split.2
        (record {
          form = form_of e.log;
          entries = logged;
          log = reads_log a e.log logged reads.log.reads;
          is = refl;
        }) in
        let front = sized_on a.file b.file reads.ends.firsts split.1
        (λ g there. run.file g (other_segment g there)) split.3 in
        let more = bytes_in-push logged bytes in
        let sum = split.4 in
        let old = reads.length.is in
        record {
          bytes = split.1 + bytes_in (logged ++ bytes ∷ []);
          sized = subst (λ fs. SegmentsAreSized b.file fs (split.1 + bytes_in (logged ++ bytes ∷ [])))
              (sym reads.ends.segments) (sized_with b.file reads.ends.firsts f split.1
              (bytes_in (logged ++ bytes ∷ [])) front (record {
                form = form_of e.log;
                entries = logged ++ bytes ∷ [];
                log = written_there;
                is = refl;
              }));
          is = size_is ∙ (let same : min (e.length + length bytes) most_bytes
              ≡ min (split.1 + bytes_in (logged ++ bytes ∷ [])) most_bytes =
              omega (arith, old, own, sum, more) in same);
        }

    memory : (family : ℕ) → rows_in (get nat_cmp families family)
        ≡ with_later (flushed_of v.families family) family empty (all_of parts)
    memory family =
        let flushed = flushed_of v.families family in
        written.rows family
        ∙ (λ i. rows_with family (reads.memory family i) (numbered (reads.next i) batches))
        ∙ sym (ap (with_later flushed family empty) all
        ∙ with_later-append flushed family empty (all_of reads.parts) ws
        ∙ with_later-above flushed family (next_after v.next_number (all_of reads.parts))
        (with_later flushed family empty (all_of reads.parts)) ws
        (let low = flushed_below v.next_number v.families family reads.versions.is.next_number.0
        reads.versions.is.families in
        let least = next_after-least v.next_number (all_of reads.parts) in
        omega (arith, low, least)) later)

    opened : (family : ℕ) → AreOpen b reads.held (files_of v.families family)
        (files_in (get nat_cmp families family))
    opened family = subst (AreOpen b reads.held (files_of v.families family))
        (sym (written.files family))
        (open_elsewhere a b reads.held (files_of v.families family) (files_in (family_of e family))
        (λ g there. run.file g (other g (in_row_files v.families family g there)))
        (reads.opened family))

    -- then the engine stands with the batches
    pub with_batches : HandStandsForLayout b (record e {
      log = log;
      length = size;
      next = next;
      families = families;
      full = full;
    }) (with_writes l ws)
    with_batches = record {
      reads = record {
        held = reads.held;
        parts = parts;
        writes = reads.writes ++ ws;
        versions = record {
          before = reads.versions.before;
          log = reads_stays a b e.manifest.log (reads.versions.before ++ version_bytes v ∷ [])
              (run.file e.manifest.log.file (λ same. named_later v f reads.versions.is named
              (sym same ∙ reads.first))) reads.versions.log;
          form = reads.versions.form;
          is = reads.versions.is;
        };
        first = reads.first;
        stored = lies_after.stored;
        ends = record {
          firsts = reads.ends.firsts;
          fronts = reads.ends.fronts;
          segments = reads.ends.segments ∙ ap (λ g. reads.ends.firsts ++ g ∷ []) (sym same_file);
          parts_are = refl;
        };
        log = record {
          entries = logged ++ bytes ∷ [];
          reads = added.reads;
          holds = subst (λ (x : Form). HoldWrites x (logged ++ bytes ∷ []) (reads.writes ++ ws))
              (sym same_form) (holds_push (form_of e.log) logged reads.writes bytes ws
              reads.log.holds is_entry);
        };
        is = ap (λ (m : Layout). with_writes m ws) reads.is
            ∙ sym (layout_join v reads.held reads.parts f reads.writes ws reads.versions.is
            reads.ends later);
        next = next_is ∙ ap (λ n. n + length batches) reads.next
            ∙ sym (next_number-numbered l l.next_number batches refl);
        length = size_after;
        free = reads.free;
        fresh = λ g le. run.file g (λ same. unnamed v g reads.versions.is
            (let low = reads.free in omega (arith, low, le)) (subst (IsIn (files_named v)) (sym same)
            named)) ∙ reads.fresh g le;
        memory = memory;
        opened = opened;
        calm = calm;
      };
      settled = lies_after.settled;
    }
