-- A draft with a new segment behind the others: the engine is ready for it, and its layout is the one before.
use Rattle.std.proofs.Common.{◌≡◌, ◌<◌, ◌+◌, ◌^◌, ⊎_elim, ℕ, List, [], ◌∷◌, ◌++◌, Option, refl, sym, ap, subst, ◌∙◌, min, arith}
use Rattle.std.proofs.lemmas.List.{append-nil}
use Rattle.std.specs.BTreeMap.{get}
use Rattle.std.specs.FinMap.{empty}
use Rattle.std.specs.Ordering.{nat_cmp}
use Rattle.alt_disk.specs.Disk.{DiskState}
use Rattle.alt_disk.specs.Runs.{Run, Spans}
use Rattle.alt_disk.proofs.Runs.{run_spans, spans_on, spans_weaker}
use Rattle.alt_flush.specs.Drafts.{From, renumbered, with_segment}
use Rattle.alt_flush.proofs.DraftLaws.{from_untouched, layout_still, old_file, with_segment_drafted}
use Rattle.alt_flush.proofs.SegmentLaws.{all_of-none, in_inserted, with_segment_same}
use Rattle.alt_gatelog.specs.InHand.{file_of_gate_log as log_file, form_of, StandsForEntries as LogStands}
use Rattle.alt_gatelog.specs.declared.gatelog.GateLog.{GateLog}
use Rattle.alt_gatelog.proofs.Elsewhere.{reads_log}
use Rattle.alt_layout.specs.Families.{files_of, flushed_of, layout_of, with_later}
use Rattle.alt_layout.specs.Files.{IsLayout, all_of}
use Rattle.alt_layout.specs.Layout.{Layout}
use Rattle.alt_layout.specs.Moments.{Has, HasEither}
use Rattle.alt_layout.specs.Sizes.{LogIsSized}
use Rattle.alt_memtable.specs.Rows.{most_bytes}
use Rattle.alt_layout.proofs.SizeLaws.{sized_on, sized_with}
use Rattle.alt_manifest.specs.InHand.{file_of_manifest as manifest_file, version_of, OldOrNew, StandsForVersion as ManifestStands}
use Rattle.alt_manifest.specs.declared.manifest.Manifest.{Manifest}
use Rattle.alt_manifest.specs.Versions.{IsIn, files_named, row_files}
use Rattle.alt_manifest.specs.declared.version.Version.{Version}
use Rattle.alt_writes.specs.Writes.{Write}
use Rattle.alt_families.specs.Families.{Families, files_in}
use Rattle.alt_hand.specs.Carrying.{AreStill, CarriesFamily, CarriesDraft}
use Rattle.alt_hand.specs.Drafting.{DraftIsReady, Makes}
use Rattle.alt_hand.specs.InHand.{HandStandsForLayout, family_of}
use Rattle.alt_hand.specs.declared.hand.Hand.{Hand}
use Rattle.alt_drafts.proofs.StillLaws.{each_on, may_end_on}
use Rattle.alt_hand.proofs.CarryLaws.{carries_published}
use Rattle.alt_hand.proofs.FlushesLaws.{lying, versions_still}
use Rattle.alt_hand.proofs.HandLaws.{lies_of}
use Rattle.alt_hand.proofs.LogLaws.{holds_empty}
use Rattle.alt_hand.proofs.EngineDrafts.{makes_first}
use Rattle.alt_drafts.proofs.MakesLaws.{named_of, open_still}
use Rattle.alt_hand.proofs.PublishLaws.{published, publishing}
use Rattle.alt_manifest.proofs.Among.{in_front}

-- The draft over it holds what the one before holds.
pub makes_segment : (a b : DiskState) (u : Version) (families : Families)
    (parts : List (List Write)) (l : Layout) (P : ℕ → Option (List ℕ) → Type 0) (log : GateLog)
    → Makes a u families parts l → u.next_file + 1 < 2 ^ 32 → Run a b u.next_file P
    → log_file log ≡ u.next_file → LogStands b log []
    → Makes b (with_segment u) families (parts ++ [] ∷ []) l
makes_segment a b u families parts l P log makes room run log_is stands = record {
  held = makes.held;
  drafted = with_segment_drafted a b u makes.held parts P log makes.drafted room run log_is stands;
  memory = λ family. makes.memory family
      ∙ ap (with_later (flushed_of u.families family) family empty) (sym (all_of-none parts));
  opened = λ family. open_still a b makes.held makes.held (files_of u.families family)
      (files_in (get nat_cmp families family)) (λ g there. run.file g
      (old_file a b u makes.held parts P makes.drafted run g (named_of u family g there)))
      (λ g there. refl) (makes.opened family);
  is = makes.is ∙ sym (with_segment_same u makes.held parts);
}

-- The engine is ready for it, where it is made of the version in hand.
pub ready_segment : (a b : DiskState) (e : Hand) (l : Layout) (live : List ℕ)
    (stands : HandStandsForLayout a e l) (P : ℕ → Option (List ℕ) → Type 0) (log : GateLog)
    → e.next_file + 1 < 2 ^ 32 → Run a b e.next_file P
    → Spans a b (From e.next_file) (λ t image. Unit {0}) → log_file log ≡ e.next_file
    → LogStands b log []
    → DraftIsReady b (record e { log = log })
    (with_segment (renumbered (version_of e.manifest) e.next_file e.next)) l
ready_segment a b e l live stands P log room run spans log_is log_stands =
    let v = version_of e.manifest in
    let u : Version = renumbered v e.next_file e.next in
    let length = stands.reads.length in
    let makes = makes_first a e l stands (omega (arith, room)) in
    record {
      parts = stands.reads.parts ++ [] ∷ [];
      writes = [];
      makes = makes_segment a b u e.families stands.reads.parts l P log makes room run log_is
          log_stands;
      manifest = versions_still a b e l live stands spans;
      first = stands.reads.first;
      ends = record {
        firsts = v.segments;
        fronts = stands.reads.parts;
        segments = ap (λ f. v.segments ++ f ∷ []) (sym log_is);
        parts_are = refl;
      };
      log = holds_empty b log log_stands;
      length = record {
        bytes = length.bytes + 0;
        sized = sized_with b.file v.segments e.next_file length.bytes 0
            (sized_on a.file b.file v.segments length.bytes (λ g there. run.file g
            (old_file a b u makes.held stands.reads.parts P makes.drafted run g
            (in_front v.segments (row_files v.families) g there))) length.sized)
            (subst (λ f. LogIsSized 0 (b.file f)) log_is (record {
              form = form_of log;
              entries = [];
              log = reads_log b log [] log_stands.reads;
              is = refl;
            }));
        is = length.is ∙ ap (λ n. min n most_bytes)
            (let same : length.bytes ≡ length.bytes + 0 = omega arith in same);
      };
      next = stands.reads.next;
    }

-- And it carries merges of any family.
pub carries_segment : (a b : DiskState) (u : Version) (families : Families)
    (parts : List (List Write)) (l : Layout) → Makes a u families parts l
    → (P : ℕ → Option (List ℕ) → Type 0) → Run a b u.next_file P → (family : ℕ)
    → CarriesDraft a b u (with_segment u) (get nat_cmp families family)
    (get nat_cmp families family) family
carries_segment a b u families parts l makes P run family =
    let o = get nat_cmp families family in
    let still : AreStill a b (files_in o) = each_on a b makes.held (files_of u.families family)
    (files_in o) (λ g there. run.file g
    (old_file a b u makes.held parts P makes.drafted run g (named_of u family g there)))
    (makes.opened family) in
    record {
      more = [];
      files = sym (append-nil (files_in o));
      still = still;
      merging = λ taken number file may.
          let on = may_end_on a b u (files_in o) family taken number file still may in
          let below = may.below in
          record {
            some = may.some;
            enough = may.enough;
            two = may.two;
            below = omega (arith, below);
            new = λ there. ⊎_elim (λ (e : file ≡ u.next_file). omega (arith, below, e))
                (λ (old : IsIn (files_named u) file). may.new old)
                (in_inserted u.segments (row_files u.families) u.next_file file there);
            older = on.older;
            later = on.later;
            reached = may.reached;
          };
    }

-- ---- moments

-- While files are made that no version names each image has the rows.
pub keeping : (a b : DiskState) (e : Hand) (l : Layout) (stands : HandStandsForLayout a e l)
    → Spans a b (From e.next_file) (λ t image. Unit {0}) → Spans a b (λ g. Unit {0}) (Has l)
keeping a b e l stands spans =
    let v = version_of e.manifest in
    spans_weaker a b (From e.next_file) (λ g. Unit {0}) (Has l)
    (Has (layout_of v stands.reads.held (all_of stands.reads.parts)))
    (layout_still a b v stands.reads.held stands.reads.parts (From e.next_file)
    (λ t image. Unit {0}) (lies_of a e l stands)
    (λ g of low. from_untouched v e.next_file stands.reads.versions.is stands.reads.free g of low)
    spans) (λ g it. tt) (λ t image has. subst (IsLayout image) (sym stands.reads.is) has)

-- And so while a version is added with the same rows.
pub keeping_on : (a b c : DiskState) (l : Layout) → Spans a b (λ g. Unit {0}) (Has l)
    → Spans b c (λ g. Unit {0}) (HasEither l l) → Spans a c (λ g. Unit {0}) (Has l)
keeping_on a b c l first later = spans_on a b c (λ g. Unit {0}) (Has l) first
    (spans_weaker b c (λ g. Unit {0}) (λ g. Unit {0}) (Has l) (HasEither l l) later (λ g it. tt)
    (λ t image has. ⊎_elim (λ (old : IsLayout image l). old) (λ (new : IsLayout image l). new) has))

-- ---- a new segment, and then the version that names it

-- calls on the file of the new segment touch files from the next one on
pub spans_of : (a b : DiskState) (f : ℕ) → Run a b f (λ t left. Unit {0})
    → Spans a b (From f) (λ t image. Unit {0})
spans_of a b f run = run_spans a b f (λ t left. Unit {0}) (From f) (λ t image. Unit {0}) run
    (omega arith) (λ t image here others. tt)

module _ (a d : DiskState) (e : Hand) (l : Layout) (stands : HandStandsForLayout a e l) (u : Version)
    (is : u ≡ with_segment (renumbered (version_of e.manifest) e.next_file e.next))
    (log : GateLog) (room : e.next_file + 1 < 2 ^ 32)
    (run : Run a d e.next_file (λ t left. Unit {0})) (log_is : log_file log ≡ e.next_file)
    (log_stands : LogStands d log []) where
  abbrev first : Version
  first = renumbered (version_of e.manifest) e.next_file e.next

  spans : Spans a d (From e.next_file) (λ t image. Unit {0})
  spans = spans_of a d e.next_file run

  -- once the segment is made the engine is ready for the version
  pub ready_by : DraftIsReady d (record e { log = log }) u l
  ready_by = subst (λ (v : Version). DraftIsReady d (record e { log = log }) v l) (sym is)
      (ready_segment a d e l [] stands (λ t left. Unit {0}) log room run spans log_is log_stands)

  module _ (z : DiskState)
      (added : Run d z (manifest_file e.manifest) (OldOrNew (version_of e.manifest) u)) where
    -- at each moment a stop leaves the rows
    pub renew_images : Spans a z (λ g. Unit {0}) (Has l)
    renew_images = keeping_on a d z l (keeping a d e l stands spans)
        (publishing d z (record e { log = log }) u l l (lying a d e l [] stands spans) ready_by added)

    module _ (n : Manifest) (same : manifest_file n ≡ manifest_file e.manifest)
        (version : version_of n ≡ u) (manifest : ManifestStands z n) where
      abbrev new : Hand
      new = record e { manifest = n; log = log; next_file = u.next_file }

      -- then the engine stands as it stood
      pub renewed : HandStandsForLayout z new l
      renewed = published d z (record e { log = log }) u l n (OldOrNew (version_of e.manifest) u)
          ready_by added same version manifest e.full stands.reads.calm

      -- and merges are carried
      pub renew_carries : (family : ℕ) → CarriesFamily a z e new family
      renew_carries family = carries_published a d z e new u e.families ready_by.parts l [] family
          spans
          (subst (λ (v : Version). CarriesDraft a d first v (family_of e family) (family_of e family)
          family) (sym is) (carries_segment a d first e.families stands.reads.parts l
          (makes_first a e l stands (omega (arith, room))) (λ t left. Unit {0}) run family))
          ready_by.makes (λ g there. absurd there)
          (λ g other left. added.file g (λ e. other (e ∙ stands.reads.first))) refl version refl
