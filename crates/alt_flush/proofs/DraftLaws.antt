-- What each step makes of a draft, and of its layout.
use Rattle.std.proofs.Common.{◌≡◌, ◌≢◌, ◌<◌, ◌≤◌, ◌+◌, ◌-◌, ◌^◌, ⊎_elim, inr, ℕ, List, [], ◌∷◌, ◌++◌, length, Option, refl, sym, ap, subst, ◌∙◌, arith}
use Rattle.std.specs.FinMap.{empty, entries}
use Rattle.std.specs.List.{AllByRecursion}
use Rattle.alt_disk.specs.Disk.{DiskState, IsSettled}
use Rattle.alt_disk.specs.Fates.{Fates, Fits}
use Rattle.alt_disk.specs.Runs.{Run, Spans}
use Rattle.alt_disk.proofs.Staying.{settled_on}
use Rattle.alt_gatelog.specs.InHand.{file_of_gate_log as log_file, form_of, StandsForEntries as LogStands}
use Rattle.alt_gatelog.specs.declared.gatelog.GateLog.{GateLog}
use Rattle.alt_gatelog.proofs.Elsewhere.{reads_log, reads_stays}
use Rattle.alt_rowfile.specs.InHand.{StandsForRows as RowFileStands}
use Rattle.alt_rowfile.specs.declared.rowfile.RowFile.{RowFile}
use Rattle.alt_writes.specs.Writes.{Write}
use Rattle.alt_manifest.specs.InHand.{file_of_manifest, version_of, OldOrNew, StandsForVersion}
use Rattle.alt_manifest.specs.Versions.{HasVersion, IsFamily, IsIn, IsVersion, RiseFrom, files_named, row_files}
use Rattle.alt_manifest.specs.declared.manifest.Manifest.{Manifest}
use Rattle.alt_manifest.specs.declared.version.FamilyVersion.{FamilyVersion}
use Rattle.alt_manifest.specs.declared.version.Version.{Version}
use Rattle.alt_manifest.proofs.AppendLaws.{has_version}
use Rattle.alt_layout.specs.Families.{Held, IsMapBelow, flushed_of, layout_of, next_after, with_later}
use Rattle.alt_layout.specs.Files.{HoldsRows, IsOf, IsSegment, Stored, all_of}
use Rattle.alt_layout.specs.Flushes.{HasNext, with_rows}
use Rattle.alt_layout.specs.Fresh.{versions_file}
use Rattle.alt_layout.specs.Layout.{RowMap}
use Rattle.alt_layout.specs.Moments.{Has, HasEither, IsIt, Lies}
use Rattle.alt_layout.proofs.FamilyLaws.{same_layouts}
use Rattle.alt_layout.proofs.FileLaws.{stored_on}
use Rattle.alt_layout.proofs.FlushLaws.{above_all, all_later, stored_with, version_with_is}
use Rattle.alt_layout.proofs.FlushedLayout.{flush_same, named_with, next_after-stays}
use Rattle.alt_layout.proofs.MomentLaws.{layout_where, lies_on, lies_version, spans_version}
use Rattle.alt_layout.proofs.PastLaws.{none_below, with_later-past}
use Rattle.alt_flush.specs.Drafts.{Drafted, From, over_new_log, renumbered, with_flush, with_segment, without_family}
use Rattle.alt_flush.proofs.DropLaws.{named_without, without_is, without_stored}
use Rattle.alt_flush.proofs.NewLogLaws.{named_new_log, new_log_is, new_log_stored}
use Rattle.alt_flush.proofs.SegmentLaws.{all_of-none, in_inserted, with_segment_is, with_segment_stored}
use Rattle.alt_manifest.proofs.Among.{in_back}

-- ---- the first draft

-- the next file of a version is above that of the versions
pub next_above : (v : Version) → IsVersion v → 2 ≤ v.next_file
next_above v is = above_first v.segments is.segments is.below is.some
  where
    above_first : (fs : List ℕ) → RiseFrom 2 fs
        → AllByRecursion (λ f. f < v.next_file) (fs ++ row_files v.families) → 0 < length fs
        → 2 ≤ v.next_file
    above_first [] rise below some = absurd (let no = some in omega (arith, no))
    above_first (f ∷ fs) rise below some =
        let two = rise.0 in let low = below.0 in omega (arith, two, low)

-- a version with greater numbers is one
renumbered_is : (v : Version) (file next : ℕ) → IsVersion v → v.next_file ≤ file → file < 2 ^ 32
    → v.next_number ≤ next → next ≤ 2 ^ 62 - 1 → IsVersion (renumbered v file next)
renumbered_is v file next is free file_fits later fits = let first = is.next_number.0 in record {
  next_file = file_fits;
  next_number = (omega arith, fits);
  some = is.some;
  segments = is.segments;
  count = is.count;
  rising = is.rising;
  families = still v.families is.families;
  families_count = is.families_count;
  below = all_later (files_named v) v.next_file file free is.below;
  differ = is.differ;
}
  where
    still : (fs : List FamilyVersion) → AllByRecursion (IsFamily v.next_number) fs
        → AllByRecursion (IsFamily next) fs
    still [] are = tt
    still (f ∷ fs) are = (
      record {
        family = are.0.family;
        flushed = let low = are.0.flushed in omega arith;
        files = are.0.files;
        count = are.0.count;
      },
      still fs are.1,
    )

-- The last version, with the numbers of the next file and the next write, is a draft.
pub first_drafted : (s : DiskState) (v : Version) (held : Held) (parts : List (List Write))
    (file next : ℕ) → Lies s v held parts → ((f : ℕ) → file ≤ f → s.file f ≡ Option.None)
    → v.next_file ≤ file → file < 2 ^ 32 → next ≤ 2 ^ 62 - 1 → v.next_number ≤ next
    → next ≡ next_after v.next_number (all_of parts)
    → Drafted s (renumbered v file next) held parts
first_drafted s v held parts file next lies fresh free file_fits fits later top = record {
  is = renumbered_is v file next lies.last.is free file_fits later fits;
  stored = record {
    files = lies.stored.files;
    segments = lies.stored.segments;
    writes = lies.stored.writes;
    rising = lies.stored.rising;
  };
  settled = λ f there. lies.settled f (inr there);
  fresh = fresh;
  next = sym (next_after-stays v.next_number next (all_of parts) (omega (arith, top)));
}

-- It has the layout of the version.
pub first_same : (v : Version) (held : Held) (parts : List (List Write)) (file next : ℕ)
    → next ≡ next_after v.next_number (all_of parts)
    → layout_of (renumbered v file next) held (all_of parts) ≡ layout_of v held (all_of parts)
first_same v held parts file next top =
    same_layouts v (renumbered v file next) held held (all_of parts) (all_of parts) (λ family. refl)
    (next_after-stays v.next_number next (all_of parts) (omega (arith, top)) ∙ top)

-- ---- a family without files

pub without_drafted : (s : DiskState) (u : Version) (family : ℕ) (held : Held)
    (parts : List (List Write)) → Drafted s u held parts → family < 2 ^ 32
    → Drafted s (without_family u family) held parts
without_drafted s u family held parts drafted fits = record {
  is = without_is u family drafted.is fits;
  stored = without_stored s.file u family held parts drafted.stored;
  settled = λ f there. drafted.settled f (named_without u family f there);
  fresh = drafted.fresh;
  next = drafted.next;
}

-- ---- a file more

module _ (a b : DiskState) (u : Version) (held : Held) (parts : List (List Write))
    (P : ℕ → Option (List ℕ) → Type 0) (drafted : Drafted a u held parts)
    (run : Run a b u.next_file P) where
  -- a file that it names isn't the new one
  pub old_file : (g : ℕ) → IsIn (files_named u) g → g ≢ u.next_file
  old_file g there same = above_all (files_named u) u.next_file drafted.is.below
      (subst (IsIn (files_named u)) same there)

  -- what it names holds what it held
  pub stored_still : Stored b.file u held parts
  stored_still = stored_on a.file b.file u held held parts (λ g there. run.file g (old_file g there))
      (λ g there. refl) drafted.stored

  pub settled_still : (g : ℕ) → IsIn (files_named u) g → IsSettled b g
  settled_still g there =
      settled_on a b u.next_file g P run (old_file g there) (drafted.settled g there)

  -- no file is there from the one behind it on
  pub fresh_behind : (f : ℕ) → u.next_file + 1 ≤ f → b.file f ≡ Option.None
  fresh_behind f le = run.file f (λ same. omega (arith, le, same))
      ∙ drafted.fresh f (omega (arith, le))

-- ---- a family flushed

module _ (a : DiskState) (u : Version) (held : Held) (parts : List (List Write)) (family : ℕ)
    (rows : RowMap) (drafted : Drafted a u held parts) (family_fits : family < 2 ^ 32)
    (room : u.next_file + 1 < 2 ^ 32)
    (rows_are : rows ≡ with_later (flushed_of u.families family) family empty (all_of parts)) where
  -- numbers are left for it
  has : HasNext u family u.next_file u.next_number
  has = record {
    file_fits = room;
    free = omega arith;
    family_fits = family_fits;
    later = omega arith;
    number_fits = drafted.is.next_number.1;
  }

  -- The layout stays.
  pub flush_layout : layout_of (with_flush u family) (with_rows held u.next_file rows) (all_of parts)
      ≡ layout_of u held (all_of parts)
  flush_layout = flush_same u held parts family u.next_file u.next_number rows drafted.is has rows_are
      drafted.next

  -- no row in memory is of a later write
  rows_past : IsMapBelow u.next_number rows
  rows_past = subst (λ (n : ℕ). IsMapBelow n rows) (sym drafted.next)
      (subst (λ (r : RowMap). IsMapBelow (next_after u.next_number (all_of parts)) r)
      (sym rows_are) (with_later-past (flushed_of u.families family) family u.next_number
      empty (all_of parts) (none_below u.next_number)))

  -- The draft with the file of those rows is one, once the file lies there.
  pub flush_drafted : (b : DiskState) (P : ℕ → Option (List ℕ) → Type 0) (made : RowFile)
      → Run a b u.next_file P → made.file ≡ u.next_file → RowFileStands b made (entries rows)
      → Drafted b (with_flush u family) (with_rows held u.next_file rows) parts
  flush_drafted b P made run made_is stands = record {
    is = version_with_is u family u.next_file u.next_number drafted.is has (next_above u drafted.is);
    stored = stored_with b.file u held parts family u.next_file u.next_number rows drafted.is has holds
        (stored_still a b u held parts P drafted run);
    settled = λ g there. ⊎_elim
        (λ (e : g ≡ u.next_file). subst (IsSettled b) (made_is ∙ sym e) stands.settled)
        (λ (old : IsIn (files_named u) g). settled_still a b u held parts P drafted run g old)
        (named_with u family u.next_file u.next_number g there);
    fresh = fresh_behind a b u held parts P drafted run;
    next = drafted.next;
  }
    where
      holds : HoldsRows rows (u.next_number - 1) (b.file u.next_file)
      holds = record {
        bytes = stands.reads.bytes;
        there = ap b.file (sym made_is) ∙ stands.reads.there;
        rows = record {
          blocks = stands.reads.as_file.blocks;
          file = stands.reads.as_file.file;
          are = stands.reads.as_file.are;
        };
        past = subst (λ n. IsMapBelow n rows) (let first = drafted.is.next_number.0 in
            let same : u.next_number ≡ u.next_number - 1 + 1 = omega arith in same) rows_past;
      }

-- ---- a new segment

-- A log without entries is a segment without writes.
pub empty_segment : (s : DiskState) (f : ℕ) (log : GateLog) → log_file log ≡ f
    → LogStands s log [] → IsSegment [] (s.file f)
empty_segment s f log is stands = subst (λ g. IsSegment [] (s.file g)) is (record {
  form = form_of log;
  entries = [];
  log = reads_log s log [] stands.reads;
  holds = record { groups = []; each = tt; are = refl };
})

-- The draft over a new segment is one, once the segment lies there.
pub new_log_drafted : (a b : DiskState) (u : Version) (held : Held) (parts : List (List Write))
    (P : ℕ → Option (List ℕ) → Type 0) (log : GateLog) → Drafted a u held parts
    → u.next_file + 1 < 2 ^ 32 → Run a b u.next_file P → log_file log ≡ u.next_file
    → LogStands b log [] → Drafted b (over_new_log u) held ([] ∷ [])
new_log_drafted a b u held parts P log drafted room run log_is stands = record {
  is = new_log_is u drafted.is room (next_above u drafted.is);
  stored = new_log_stored b.file u held parts (stored_still a b u held parts P drafted run)
      (empty_segment b u.next_file log log_is stands);
  settled = λ g there. ⊎_elim
      (λ (e : g ≡ u.next_file). subst (IsSettled b) (log_is ∙ sym e) stands.settled)
      (λ (old : IsIn (row_files u.families) g). settled_still a b u held parts P drafted run g
      (in_back u.segments (row_files u.families) g old)) (named_new_log u g there);
  fresh = fresh_behind a b u held parts P drafted run;
  next = refl;
}

-- So is the draft with it behind the other segments.
pub with_segment_drafted : (a b : DiskState) (u : Version) (held : Held)
    (parts : List (List Write)) (P : ℕ → Option (List ℕ) → Type 0) (log : GateLog)
    → Drafted a u held parts → u.next_file + 1 < 2 ^ 32 → Run a b u.next_file P
    → log_file log ≡ u.next_file → LogStands b log []
    → Drafted b (with_segment u) held (parts ++ [] ∷ [])
with_segment_drafted a b u held parts P log drafted room run log_is stands = record {
  is = with_segment_is u drafted.is room (next_above u drafted.is);
  stored = with_segment_stored b.file u held parts
      (stored_still a b u held parts P drafted run)
      (empty_segment b u.next_file log log_is stands);
  settled = λ g there. ⊎_elim
      (λ (e : g ≡ u.next_file). subst (IsSettled b) (log_is ∙ sym e) stands.settled)
      (λ (old : IsIn (files_named u) g). settled_still a b u held parts P drafted run g old)
      (in_inserted u.segments (row_files u.families) u.next_file g there);
  fresh = fresh_behind a b u held parts P drafted run;
  next = drafted.next ∙ ap (next_after u.next_number) (sym (all_of-none parts));
}

-- ---- the last version, while other files are touched

-- calls from a file on that isn't below the next one touch none of the store's
pub from_untouched : (v : Version) (file : ℕ) → IsVersion v → v.next_file ≤ file → (g : ℕ)
    → IsOf v g → From file g → ⊥
from_untouched v file is free g of low = let two = next_above v is in ⊎_elim
    (λ (first : g ≡ versions_file). omega (arith, two, first, low, free))
    (λ (there : IsIn (files_named v) g). above_all (files_named v) g
    (all_later (files_named v) v.next_file g (omega (arith, low, free)) is.below) there) of

module _ (a b : DiskState) (v : Version) (held : Held) (parts : List (List Write))
    (touched : ℕ → Type 0) (P : ℕ → (ℕ → Option (List ℕ)) → Type 0) (lies : Lies a v held parts)
    (untouched : (g : ℕ) → IsOf v g → touched g → ⊥) (spans : Spans a b touched P) where
  -- the store lies as it lay
  pub lies_still : Lies b v held parts
  lies_still = lies_on a b v held parts lies (λ g of. spans.file g (untouched g of))
      (λ g of. spans.fates b.moment g (untouched g of) spans.later (omega arith))

  -- and each image on the way has its layout
  pub layout_still : Spans a b touched (Has (layout_of v held (all_of parts)))
  layout_still = record {
    later = spans.later;
    past = spans.past;
    file = spans.file;
    fates = spans.fates;
    each = λ t image low high is_image. layout_where a v held parts image lies (λ g of.
        lies.settled g of (image g) (subst (λ (x : Fates). Fits x (image g))
        (spans.fates t g (untouched g of) low high) (is_image g)));
  }

-- a file that isn't touched stays settled
pub settled_beside : (a b : DiskState) (touched : ℕ → Type 0)
    (P : ℕ → (ℕ → Option (List ℕ)) → Type 0) → Spans a b touched P → (g : ℕ) → (touched g → ⊥)
    → IsSettled a g → IsSettled b g
settled_beside a b touched P spans g not_it settled left fits =
    settled left (subst (λ (x : Fates). Fits x left)
    (spans.fates b.moment g not_it spans.later (omega arith)) fits) ∙ sym (spans.file g not_it)

-- the log of the versions stands as it stood
pub manifest_still : (a b : DiskState) (touched : ℕ → Type 0)
    (P : ℕ → (ℕ → Option (List ℕ)) → Type 0) → Spans a b touched P → (m : Manifest)
    → (touched (file_of_manifest m) → ⊥) → StandsForVersion a m → StandsForVersion b m
manifest_still a b touched P spans m not_it stands = record {
  reads = record {
    before = stands.reads.before;
    log = reads_stays a b m.log _ (spans.file (file_of_manifest m) not_it) stands.reads.log;
    form = stands.reads.form;
    is = stands.reads.is;
  };
  settled = settled_beside a b touched P spans (file_of_manifest m) not_it stands.settled;
}

-- ---- the version

-- While the draft is added as the next version each image has the layout of the last one, or its own.
pub adding : (a b : DiskState) (m : Manifest) (u : Version) (held more : Held)
    (parts us : List (List Write)) → Lies a (version_of m) held parts → Drafted a u more us
    → file_of_manifest m ≡ versions_file → Run a b (file_of_manifest m) (OldOrNew (version_of m) u)
    → Spans a b (IsIt versions_file) (HasEither (layout_of (version_of m) held (all_of parts))
    (layout_of u more (all_of us)))
adding a b m u held more parts us lies drafted first run =
    spans_version a b (version_of m) u held more parts us lies drafted.stored drafted.settled
    (subst (λ g. Run a b g (OldOrNew (version_of m) u)) first run)

-- And then the store lies by it.
pub added : (a b : DiskState) (m n : Manifest) (u : Version) (more : Held)
    (us : List (List Write)) → Drafted a u more us → file_of_manifest m ≡ versions_file
    → Run a b (file_of_manifest m) (OldOrNew (version_of m) u) → file_of_manifest n ≡ file_of_manifest m → version_of n ≡ u
    → StandsForVersion b n → Lies b u more us
added a b m n u more us drafted first run same_file same_version stands =
    lies_version a b u more us (OldOrNew (version_of m) u) drafted.stored drafted.settled
    (subst (λ g. Run a b g (OldOrNew (version_of m) u)) first run)
    (subst (HasVersion u) (ap b.file (same_file ∙ first))
    (subst (λ (w : Version). HasVersion w (b.file (file_of_manifest n))) same_version
    (has_version b n stands.reads)))
    (subst (IsSettled b) (same_file ∙ first) stands.settled)
