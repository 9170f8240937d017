-- The engine of what files hold, from its pieces, and why there is none.
use Rattle.std.proofs.Common.{◌≡◌, ◌<◌, ◌≤◌, ◌+◌, ◌-◌, ◌++◌, ◌∷◌, ⊎_elim, inl, inr, ℕ, List, [], take, drop, length, max, min, refl, sym, ap, subst, ◌∙◌, arith}
use Rattle.std.specs.Prelude.{◌⊎◌}
use Rattle.std.specs.BTreeMap.{BTreeMap, get}
use Rattle.std.specs.FinMap.{empty}
use Rattle.std.specs.Ordering.{nat_cmp}
use Rattle.sha2.specs.Sha256.{sha256}
use Rattle.alt_disk.specs.Disk.{DiskState, bytes_or_none}
use Rattle.alt_disk.specs.Runs.{Quiet}
use Rattle.alt_families.specs.Families.{Families, files_in, rows_in}
use Rattle.alt_gatelog.specs.Log.{IsLog, gate_place}
use Rattle.alt_gatelog.specs.declared.form.Form.{Form}
use Rattle.alt_gatelog.specs.InHand.{file_of_gate_log as log_file}
use Rattle.alt_gatelog.specs.declared.fault.LogFault.{LogFault}
use Rattle.alt_gatelog.specs.declared.fault.LogFault.TheVariants as log
use Rattle.alt_gatelog.specs.declared.gatelog.GateLog.{GateLog}
use Rattle.alt_gatelog.proofs.Elsewhere.{reads_stays}
use Rattle.alt_layout.specs.Families.{Held, files_of, flushed_of, layout_of, next_after, with_later}
use Rattle.alt_layout.specs.Files.{Image, Stored, all_of}
use Rattle.alt_layout.specs.Fresh.{versions_file}
use Rattle.alt_layout.specs.Layout.{Layout}
use Rattle.alt_layout.proofs.RowLaws.{next_after-least}
use Rattle.alt_manifest.proofs.AppendLaws.{has_version}
use Rattle.alt_manifest.specs.InHand.{file_of_manifest as manifest_file, version_of, ReadsVersion as ManifestReads}
use Rattle.alt_manifest.specs.Recovery.{ExplainsVersions, IsNoVersions}
use Rattle.alt_manifest.specs.Recovery.IsNoVersions.{no_last, no_log, other_form as is_other}
use Rattle.alt_manifest.specs.Versions.{HasVersion, IsIn, version_bytes}
use Rattle.alt_manifest.specs.declared.manifest.Manifest.{Manifest}
use Rattle.alt_manifest.specs.declared.version.Version.{Version}
use Rattle.alt_memtable.specs.Rows.{most_bytes}
use Rattle.alt_recovery.specs.Families.{AreOpenedFamilies, AreInHand, ExplainsFamilies, IsBadFamily}
use Rattle.alt_recovery.specs.Flushed.{flushed_in}
use Rattle.alt_recovery.specs.Opening.{ExplainsRows}
use Rattle.alt_recovery.specs.Replays.{ExplainsSegments, IsBadEntry, Replays, ReplaysLast}
use Rattle.alt_recovery.specs.declared.replay.Replay.{Replay}
use Rattle.alt_recovery.proofs.HeldLaws.{families_quiet}
use Rattle.alt_recovery.proofs.ReplayLaws.{next_after-append}
use Rattle.alt_rowfile.specs.Recovery.{HasDigest, NoRowFile}
use Rattle.alt_rowfile.specs.declared.fault.RowFileFault.{RowFileFault}
use Rattle.alt_rowfile.specs.declared.fault.RowFileFault.TheVariants as rows
use Rattle.alt_rowfile.specs.declared.rowfile.RowFile.{RowFile}
use Rattle.alt_layout.specs.Sizes.{SegmentsAreSized}
use Rattle.alt_layout.specs.Entries.{IsNoEntry}
use Rattle.alt_writes.specs.Writes.{Write}
use Rattle.alt_hand.specs.Found.{Found, log_fault, rows_fault}
use Rattle.alt_hand.specs.InHand.{AreOpen, LogHolds, family_of}
use Rattle.alt_hand.specs.Recovery.{ExplainsStore, IsBadFileAt, IsBadDigest, IsRowFileOf, late_rows, no_rows, no_segment, no_version, no_versions, no_write, other_form}
use Rattle.alt_hand.specs.declared.hand.Hand.{Hand}
use Rattle.alt_layout.proofs.FileLaws.{rising-join}
use Rattle.alt_writes.proofs.PushLaws.{held-join}

-- ---- the pieces

-- the next number from the version's on is the greater of it and the writes'
next_after-max : (first next : ℕ) (ws : List Write) → first ≤ next
    → next_after next ws ≡ max next (next_after first ws)
next_after-max first next [] le = omega (arith, le)
next_after-max first next (w ∷ ws) le =
    let rest = next_after-max (max first (w.number + 1)) (max next (w.number + 1)) ws
    (omega (arith, le)) in
    let least = next_after-least (max first (w.number + 1)) ws in
    omega (arith, le, rest, least)

-- files in hand are open
hand_open : (s : DiskState) (held : Held) (gs : List ℕ) (fs : List RowFile)
    → AreInHand s held gs fs → AreOpen s held gs fs
hand_open s held [] [] are = tt
hand_open s held [] (f ∷ fs) are = absurd are
hand_open s held (g ∷ gs) [] are = absurd are
hand_open s held (g ∷ gs) (f ∷ fs) are = (are.0, are.1, hand_open s held gs fs are.2)

-- a version in hand reads as it read while nothing changes
manifest_quiet : (a b : DiskState) (m : Manifest) → Quiet a b → ManifestReads a m
    → ManifestReads b m
manifest_quiet a b m quiet reads = record {
  before = reads.before;
  log = reads_stays a b m.log (reads.before ++ version_bytes (version_of m) ∷ [])
      (quiet.file m.log.file) reads.log;
  form = reads.form;
  is = reads.is;
}

-- the last version, as the disk reads
pub version_there : (s : DiskState) (m : Manifest) → ManifestReads s m
    → manifest_file m ≡ versions_file → HasVersion (version_of m) (s.file versions_file)
version_there s m reads first =
    subst (λ (f : ℕ). HasVersion (version_of m) (s.file f)) first (has_version s m reads)

-- The engine of a version, its families and the writes that were replayed.
module _ (a b d : DiskState) (m : Manifest) (families : Families) (flushed : BTreeMap ℕ ℕ)
    (start done : Replay) (log : GateLog) (held : Held) (reads : ManifestReads a m)
    (first : manifest_file m ≡ versions_file) (to_b : Quiet a b) (to_d : Quiet b d)
    (opened : AreOpenedFamilies b held (version_of m).families families)
    (numbers : (family : ℕ) → flushed_in flushed family ≡ flushed_of (version_of m).families family)
    (begun : start ≡ record { families = families; flushed = flushed; least = 1; length = 0 })
    (last : ReplaysLast d (version_of m).segments start done log) where
  abbrev v : Version
  v = version_of m

  abbrev parts : List (List Write)
  parts = last.fronts ++ last.writes ∷ []

  abbrev ws : List Write
  ws = all_of parts

  abbrev s : Replay
  s = record { families = families; flushed = flushed; least = 1; length = 0 }

  replays : Replays s done ws last.bytes
  replays = subst (λ (r : Replay). Replays r done ws last.bytes) begun last.replays

  open_d : AreOpenedFamilies d held v.families families
  open_d = families_quiet b d held v.families families to_d opened

  pub found_of : (e : Hand) → e.manifest ≡ m → e.log ≡ log → e.length ≡ done.length
      → e.next ≡ max v.next_number done.least → e.next_file ≡ v.next_file
      → e.families ≡ done.families → (l : Layout) × Found d e l
  found_of e manifest log_is length next file families_are = (
    layout_of v held ws,
    record {
      held = held;
      parts = parts;
      writes = last.writes;
      versions = subst (ManifestReads d) (sym manifest)
          (manifest_quiet b d m to_d (manifest_quiet a b m to_b reads));
      first = ap manifest_file manifest ∙ first;
      stored = subst (λ (n : Manifest). Stored d.file (version_of n) held parts) (sym manifest) (record {
        files = open_d.files;
        segments = last.are;
        writes = replays.held;
        rising = replays.rising;
      });
      ends = record {
        firsts = last.firsts;
        fronts = last.fronts;
        segments = ap (λ (n : Manifest). (version_of n).segments) manifest ∙ last.segments_are
            ∙ ap (λ (x : GateLog). last.firsts ++ log_file x ∷ []) (sym log_is);
        parts_are = refl;
      };
      log = subst (λ (x : GateLog). LogHolds d x last.writes) (sym log_is) (record {
        entries = last.entries;
        reads = last.reads;
        holds = last.holds;
      });
      is = ap (λ (n : Manifest). layout_of (version_of n) held ws) (sym manifest);
      next = next ∙ ap (max v.next_number) replays.least
          ∙ sym (next_after-max 1 v.next_number ws reads.is.next_number.0);
      length = record {
        bytes = last.bytes;
        sized = subst (λ (n : Manifest). SegmentsAreSized d.file (version_of n).segments last.bytes)
            (sym manifest) last.sized;
        is = length ∙ replays.length (omega arith)
            ∙ (let same : min (0 + last.bytes) most_bytes ≡ min last.bytes most_bytes = omega arith in
            same);
      };
      file = file ∙ ap (λ (n : Manifest). (version_of n).next_file) (sym manifest);
      memory = λ family. memory family
          ∙ ap (λ (n : Manifest). with_later (flushed_of (version_of n).families family) family empty ws)
          (sym manifest);
      opened = λ family. subst (λ (n : Manifest). AreOpen d held
          (files_of (version_of n).families family) (files_in (family_of e family))) (sym manifest)
          (subst (AreOpen d held (files_of v.families family)) (sym (ap (λ (x : Families).
          files_in (get nat_cmp x family)) families_are ∙ replays.files family))
          (hand_open d held (files_of v.families family) (files_in (get nat_cmp families family))
          (open_d.open_files family)));
    },
  )
    where
      memory : (family : ℕ) → rows_in (family_of e family)
          ≡ with_later (flushed_of v.families family) family empty ws
      memory family = ap (λ (x : Families). rows_in (get nat_cmp x family)) families_are
          ∙ replays.rows family
          ∙ (λ i. with_later (numbers family i) family (open_d.none family i) ws)

-- ---- why there is none

-- the log of the versions
pub versions_explain : (files : Image) (fault : LogFault)
    → ExplainsVersions versions_file (files versions_file) fault → ExplainsStore files (log_fault fault)
versions_explain files (log.Damaged f at) h = by_case h.1
  where
    by_case : IsNoVersions (files versions_file) at → IsBadFileAt files f at
    by_case (no_log bad) = no_versions h.0 bad
    by_case (is_other place es is) = other_form h.0 place es is
    by_case (no_last es is bad) = no_version h.0 es is bad
versions_explain files log.Failed h = tt
versions_explain files log.NoMemory h = tt

-- a row file
module _ (files : Image) (v : Version) (has : HasVersion v (files versions_file)) where
  rows_explain : (fault : RowFileFault) → IsBadFamily files v.families fault
      → ExplainsStore files (rows_fault fault)
  rows_explain (rows.Damaged g at) bad = by_rows bad.told.2
    where
      of : (g ≡ bad.told.0) → IsRowFileOf v g bad.family.flushed
      of same = record {
        before = bad.before;
        family = bad.family;
        behind = bad.behind;
        is = bad.is;
        files = subst (IsIn bad.family.files) (sym same) bad.told.1;
        flushed_is = refl;
      }

      by_rows : ExplainsRows bad.told.0 bad.family.flushed (files bad.told.0) (rows.Damaged g at)
          → IsBadFileAt files g at
      by_rows (inl h) = no_rows v has bad.family.flushed (of h.0) h.1
          (subst (λ (n : ℕ). (length (bytes_or_none (files n)) < 32)
          ⊎ (HasDigest (bytes_or_none (files n)) × NoRowFile (bytes_or_none (files n)))) (sym h.0) h.2)
      by_rows (inr h) = late_rows v has bad.family.flushed (of h.0) h.1 h.2.rows h.2.bytes
          (ap files h.0 ∙ h.2.there) h.2.are h.2.late
  rows_explain (rows.DigestDiffers g kept found) bad = by_rows bad.told.2
    where
      by_rows : ExplainsRows bad.told.0 bad.family.flushed (files bad.told.0)
          (rows.DigestDiffers g kept found) → IsBadDigest files g kept found
      by_rows (inl h) = record {
        version = v;
        last = has;
        flushed = bad.family.flushed;
        of_version = record {
          before = bad.before;
          family = bad.family;
          behind = bad.behind;
          is = bad.is;
          files = subst (IsIn bad.family.files) (sym h.0) bad.told.1;
          flushed_is = refl;
        };
        long = subst (λ (n : ℕ). 32 ≤ length (bytes_or_none (files n))) (sym h.0) h.1;
        kept_is = h.2 ∙ ap (λ (n : ℕ). drop (length (bytes_or_none (files n)) - 32)
            (bytes_or_none (files n))) (sym h.0);
        found_is = h.3 ∙ ap (λ (n : ℕ). sha256 (take (length (bytes_or_none (files n)) - 32)
            (bytes_or_none (files n)))) (sym h.0);
        differ = h.4;
      }
      by_rows (inr h) = absurd h
  rows_explain rows.Failed bad = tt
  rows_explain rows.NoMemory bad = tt

  pub families_explain : (fault : RowFileFault) → ExplainsFamilies files v.families fault
      → ExplainsStore files (rows_fault fault)
  families_explain (rows.Damaged g at) bad = rows_explain (rows.Damaged g at) bad
  families_explain (rows.DigestDiffers g kept found) bad =
      rows_explain (rows.DigestDiffers g kept found) bad
  families_explain rows.Failed bad = tt
  families_explain rows.NoMemory bad = tt

  -- a segment
  pub segments_explain : (fault : LogFault) → ExplainsSegments files v.segments 1 fault
      → ExplainsStore files (log_fault fault)
  segments_explain (log.Damaged f at) bad = ⊎_elim
      (λ damaged. no_segment v has bad.before (record { behind = bad.behind; is = bad.is }) damaged)
      (λ (entry : (form : Form) × (es : List (List ℕ)) × IsLog form es (files f)
      × IsBadEntry form es (next_after 1 (all_of bad.parts)) at).
      by_entry entry.0 entry.1 entry.2 entry.3) bad.bad
    where
      by_entry : (form : Form) (es : List (List ℕ)) → IsLog form es (files f)
          → IsBadEntry form es (next_after 1 (all_of bad.parts)) at → IsBadFileAt files f at
      by_entry form es is h = no_write v has bad.before
          (record { behind = bad.behind; is = bad.is })
          bad.parts bad.are form h.front h.writes h.entry h.behind
          (subst (λ (x : List (List ℕ)). IsLog form x (files f)) h.is is) h.holds
          (held-join (all_of bad.parts) h.writes bad.held h.held)
          (rising-join 1 1 (all_of bad.parts) h.writes (omega arith) bad.rising h.rising)
          (subst (λ (n : ℕ). IsNoEntry form n h.entry)
          (sym (next_after-append 1 (all_of bad.parts) h.writes)) h.none)
          (h.place ∙ ap (λ (x : List (List ℕ)). gate_place x (length h.front)) h.is)
  segments_explain log.Failed bad = tt
  segments_explain log.NoMemory bad = tt
