-- An engine by its new version, and what calls on the way leave.
use Rattle.std.proofs.Common.{◌≡◌, ◌≤◌, ⊎_elim, inl, inr, ℕ, List, Option, refl, sym, subst, ◌∙◌, arith, Bool, false}
use Rattle.alt_disk.specs.Disk.{DiskState}
use Rattle.alt_disk.specs.Runs.{Run, Spans}
use Rattle.alt_disk.proofs.Runs.{spans_on, spans_weaker}
use Rattle.alt_flush.specs.Drafts.{IsLeftOver}
use Rattle.alt_flush.proofs.DraftLaws.{adding, layout_still, next_above, settled_beside}
use Rattle.alt_gatelog.specs.InHand.{file_of_gate_log as log_file}
use Rattle.alt_gatelog.proofs.Elsewhere.{reads_stays}
use Rattle.alt_layout.specs.Families.{files_of, layout_of}
use Rattle.alt_layout.specs.Files.{IsLayout, IsOf, all_of}
use Rattle.alt_layout.specs.Fresh.{versions_file}
use Rattle.alt_layout.specs.Layout.{Layout}
use Rattle.alt_layout.specs.Moments.{Has, HasEither, IsIt}
use Rattle.alt_layout.proofs.FileLaws.{last_named, stored_on}
use Rattle.alt_layout.proofs.FlushedLayout.{unnamed}
use Rattle.alt_manifest.specs.InHand.{file_of_manifest as manifest_file, version_of, OldOrNew, StandsForVersion as ManifestStands}
use Rattle.alt_manifest.specs.Versions.{IsIn, files_named, row_files}
use Rattle.alt_manifest.specs.declared.manifest.Manifest.{Manifest}
use Rattle.alt_manifest.specs.declared.version.Version.{Version}
use Rattle.alt_families.specs.Families.{files_in}
use Rattle.alt_hand.specs.Drafting.{IsLying, DraftIsReady}
use Rattle.alt_hand.specs.InHand.{AreBelow, HandStandsForLayout, family_of}
use Rattle.alt_hand.specs.declared.hand.Hand.{Hand}
use Rattle.alt_drafts.proofs.MakesLaws.{in_row_files, open_still}
use Rattle.alt_hand.proofs.HandLaws.{lies_of}
use Rattle.alt_hand.proofs.LogLaws.{holds_on, length_on}
use Rattle.alt_hand.proofs.EngineDrafts.{stands_by}
use Rattle.alt_manifest.proofs.Among.{in_back, in_front, in_or_not}

-- ---- files that are left over

module _ (a b : DiskState) (e : Hand) (l : Layout) (files : List ℕ) (stands : HandStandsForLayout a e l)
    (spans : Spans a b (IsLeftOver files (version_of e.manifest)) (λ t image. Unit {0})) where
  abbrev v : Version
  v = version_of e.manifest

  untouched : (g : ℕ) → IsOf v g → IsLeftOver files v g → ⊥
  untouched g of over = over.1 of

  on : (g : ℕ) → IsOf v g → b.file g ≡ a.file g
  on g of = spans.file g (untouched g of)

  -- while they are removed each image has the layout
  pub removing : Spans a b (λ g. Unit {0}) (Has l)
  removing = spans_weaker a b (IsLeftOver files v) (λ g. Unit {0}) (Has l)
      (Has (layout_of v stands.reads.held (all_of stands.reads.parts)))
      (layout_still a b v stands.reads.held stands.reads.parts (IsLeftOver files v)
      (λ t image. Unit {0}) (lies_of a e l stands) untouched spans) (λ g it. tt)
      (λ t image has. subst (IsLayout image) (sym stands.reads.is) has)

  -- and then the engine stands as it stood
  pub removed : ((f : ℕ) → IsLeftOver files v f → b.file f ≡ Option.None) → HandStandsForLayout b e l
  removed gone = record {
    reads = record {
      held = stands.reads.held;
      parts = stands.reads.parts;
      writes = stands.reads.writes;
      versions = record {
        before = stands.reads.versions.before;
        log = reads_stays a b e.manifest.log _
            (on (manifest_file e.manifest) (inl stands.reads.first)) stands.reads.versions.log;
        form = stands.reads.versions.form;
        is = stands.reads.versions.is;
      };
      first = stands.reads.first;
      stored = stored_on a.file b.file v stands.reads.held stands.reads.held stands.reads.parts
          (λ g there. on g (inr there)) (λ g there. refl) stands.reads.stored;
      ends = stands.reads.ends;
      log = holds_on a b e.log stands.reads.writes (on (log_file e.log)
          (inr (last_named v stands.reads.parts (log_file e.log) stands.reads.writes
          stands.reads.ends))) stands.reads.log;
      is = stands.reads.is;
      next = stands.reads.next;
      length = length_on a.file b.file v.segments e.length
          (λ g there. on g (inr (in_front v.segments (row_files v.families) g there)))
          stands.reads.length;
      free = stands.reads.free;
      fresh = λ f le. ⊎_elim
          (λ (there : IsIn files f). gone f (there, not_of f le))
          (λ (out : IsIn files f → ⊥). spans.file f (λ over. out over.0)
          ∙ stands.reads.fresh f le) (in_or_not files f);
      memory = stands.reads.memory;
      opened = λ family. open_still a b stands.reads.held stands.reads.held
          (files_of v.families family) (files_in (family_of e family))
          (λ g there. on g (inr (in_back v.segments (row_files v.families) g
          (in_row_files v.families family g there)))) (λ g there. refl) (stands.reads.opened family);
      calm = stands.reads.calm;
    };
    settled = λ f of. settled_beside a b (IsLeftOver files v) (λ t image. Unit {0}) spans f
        (untouched f of) (stands.settled f of);
  }
    where
      not_of : (f : ℕ) → e.next_file ≤ f → IsOf v f → ⊥
      not_of f le of = let free = stands.reads.free in
          let two = next_above v stands.reads.versions.is in ⊎_elim
          (λ (first : f ≡ versions_file). omega (arith, le, free, two, first))
          (λ (there : IsIn (files_named v) f). unnamed v f stands.reads.versions.is
          (omega (arith, le, free)) there) of

-- ---- the version

module _ (a b : DiskState) (e : Hand) (u : Version) (l m : Layout) (lying : IsLying a e.manifest l)
    (ready : DraftIsReady a e u m)
    (run : Run a b (manifest_file e.manifest) (OldOrNew (version_of e.manifest) u)) where
  -- while it is added each image has the layout before, or its own
  pub publishing : Spans a b (λ g. Unit {0}) (HasEither l m)
  publishing = spans_weaker a b (IsIt versions_file) (λ g. Unit {0}) (HasEither l m)
      (HasEither (layout_of (version_of e.manifest) lying.held (all_of lying.parts))
      (layout_of u ready.makes.held (all_of ready.parts)))
      (adding a b e.manifest u lying.held ready.makes.held lying.parts ready.parts lying.lies
      ready.makes.drafted ready.first run) (λ g it. tt)
      (λ t image has. ⊎_elim
      (λ (old : IsLayout image (layout_of (version_of e.manifest) lying.held (all_of lying.parts))).
      inl (subst (IsLayout image) (sym lying.is) old))
      (λ (new : IsLayout image (layout_of u ready.makes.held (all_of ready.parts))).
      inr (subst (IsLayout image) (sym ready.makes.is) new)) has)

-- And then the engine stands by it.
pub published : (a b : DiskState) (e : Hand) (u : Version) (m : Layout) (n : Manifest)
    (P : ℕ → Option (List ℕ) → Type 0) → DraftIsReady a e u m
    → Run a b (manifest_file e.manifest) P → manifest_file n ≡ manifest_file e.manifest
    → version_of n ≡ u → ManifestStands b n → (full : Bool)
    → (full ≡ false → AreBelow e.limits.flush e.families)
    → HandStandsForLayout b (record e { manifest = n; next_file = u.next_file; full = full }) m
published a b e u m n P ready run same version stands full calm =
    stands_by a b e u e.families ready.parts m P n e.log ready.writes e.length ready.makes
    (subst (λ g. Run a b g P) ready.first run) (same ∙ ready.first) version stands ready.ends ready.log
    ready.length ready.next full calm

-- Calls that leave one layout, behind calls that leave either.
pub then_second : (a b c : DiskState) (l m : Layout) → Spans a b (λ g. Unit {0}) (HasEither l m)
    → Spans b c (λ g. Unit {0}) (Has m) → Spans a c (λ g. Unit {0}) (HasEither l m)
then_second a b c l m first later = spans_on a b c (λ g. Unit {0}) (HasEither l m) first
    (spans_weaker b c (λ g. Unit {0}) (λ g. Unit {0}) (HasEither l m) (Has m) later (λ g it. tt)
    (λ t image has. inr has))
