-- The engine once the files are removed that its version doesn't name.
use Rattle.std.proofs.Common.{◌≡◌, ◌≢◌, ◌<◌, ◌≤◌, ◌+◌, ◌-◌, ◌^◌, ◌==◌, ◌++◌, ◌∷◌, ⊎_elim, inl, inr, ℕ, true, List, [], length, max, min, Option, Some, None, refl, sym, ap, subst, ◌∙◌, arith, Bool, false}
use Rattle.std.specs.Prelude.{◌⊎◌, ⊤, is_some}
use Rattle.std.specs.List.{AllByRecursion, list_any}
use Rattle.alt_disk.specs.Disk.{DiskState, IsNames}
use Rattle.alt_disk.specs.Runs.{Spans}
use Rattle.alt_disk.proofs.Settled.{synced_settled}
use Rattle.alt_families.specs.Families.{files_in}
use Rattle.alt_gatelog.specs.InHand.{file_of_gate_log as log_file}
use Rattle.alt_gatelog.proofs.Elsewhere.{reads_stays}
use Rattle.alt_layout.specs.Families.{Held, files_of}
use Rattle.alt_layout.specs.Files.{AreRowFiles, AreSegments, HoldsRows, Image, IsLayout, IsOf, Stored}
use Rattle.alt_layout.specs.Fresh.{versions_file}
use Rattle.alt_layout.specs.Layout.{Layout}
use Rattle.alt_layout.proofs.FileLaws.{in_either, last_named, stored_on}
use Rattle.alt_layout.proofs.FlushedLayout.{unnamed}
use Rattle.alt_layout.proofs.MomentLaws.{same_or_not}
use Rattle.alt_manifest.specs.Versions.{HasVersion, IsIn, IsVersion, RiseFrom, files_named, row_files, version_bytes}
use Rattle.alt_manifest.specs.declared.version.FamilyVersion.{FamilyVersion}
use Rattle.alt_manifest.specs.declared.version.Version.{Version}
use Rattle.alt_manifest.proofs.OneVersion.{same_version}
use Rattle.alt_recovery.specs.Others.{IsOther, next_past}
use Rattle.alt_writes.specs.Writes.{Write}
use Rattle.alt_hand.specs.Found.{Found, version_in}
use Rattle.alt_hand.specs.InHand.{AreBelow, HandReadsLayout, HandStandsForLayout, family_of}
use Rattle.alt_hand.specs.Syncing.{AllSynced}
use Rattle.alt_hand.specs.declared.hand.Hand.{Hand}
use Rattle.alt_hand.proofs.FoundLaws.{version_there}
use Rattle.alt_drafts.proofs.MakesLaws.{in_row_files}
use Rattle.alt_hand.proofs.HandLaws.{open_elsewhere}
use Rattle.alt_hand.proofs.LogLaws.{holds_on, length_on}
use Rattle.alt_manifest.proofs.Among.{in_back, in_front, in_or_not}

-- ---- numbers of files

-- a version's next file is above that of the versions
first_below : (segments rest : List ℕ) (next : ℕ) → RiseFrom 2 segments → 0 < length segments
    → AllByRecursion (λ f. f < next) (segments ++ rest) → 1 < next
first_below [] rest next rise some below = absurd (omega (arith, some))
first_below (x ∷ xs) rest next rise some below =
    let low = rise.0 in let high = below.0 in omega (arith, low, high)

-- a file from the next one on is none of the version's
pub later_other : (v : Version) (f : ℕ) → IsVersion v → v.next_file ≤ f → IsOther v f
later_other v f is le of = ⊎_elim
    (λ (first : f ≡ versions_file).
    let one = first_below v.segments (row_files v.families) v.next_file is.segments is.some is.below in
    absurd (omega (arith, one, le, first)))
    (λ (there : IsIn (files_named v) f). unnamed v f is le there) of

-- one past others isn't below the first
pub next_past-least : (next : ℕ) (fs : List ℕ) → next ≤ next_past next fs
next_past-least next [] = omega arith
next_past-least next (f ∷ fs) =
    let rest = next_past-least (max next (min (f + 1) (2 ^ 32 - 1))) fs in omega (arith, rest)

-- files that aren't there before aren't there after, and the others are listed
pub gone_named : (v : Version) (names : List ℕ) (before after : Image) → IsNames names before
    → ((f : ℕ) → list_any (λ g. f == g) names ≡ true → IsOther v f → after f ≡ None)
    → ((f : ℕ) → before f ≡ None → after f ≡ None) → (f : ℕ) → IsOther v f → after f ≡ None
gone_named v names before after named gone none f other = by_file (before f) refl
  where
    by_file : (o : Option (List ℕ)) → before f ≡ o → after f ≡ None
    by_file None is = none f is
    by_file (Some bytes) is = gone f (named.exact f ∙ ap is_some is) other

-- a file is one of the version's, or isn't
pub of_or_not : (v : Version) (f : ℕ) → IsOf v f ⊎ IsOther v f
of_or_not v f = by_first (same_or_not f versions_file) (in_or_not (files_named v) f)
  where
    by_first : (f ≡ versions_file) ⊎ (f ≢ versions_file)
        → IsIn (files_named v) f ⊎ (IsIn (files_named v) f → ⊥) → IsOf v f ⊎ IsOther v f
    by_first (inl same) rest = inl (inl same)
    by_first (inr apart) (inl there) = inl (inr there)
    by_first (inr apart) (inr none) = inr (λ of. ⊎_elim (λ (e : f ≡ versions_file). apart e) none of)

-- ---- the version's files are there

-- a file that is there
pub record IsThere (image : Image) (f : ℕ) : Type 0 where
  pub bytes : List ℕ
  pub there : image f ≡ Some bytes

segments_there : (image : Image) (fs : List ℕ) (parts : List (List Write)) (f : ℕ)
    → AreSegments image fs parts → IsIn fs f → IsThere image f
segments_there image [] parts f are there = absurd there
segments_there image (g ∷ fs) [] f are there = absurd are
segments_there image (g ∷ fs) (ws ∷ parts) f are (inl same) =
    record { bytes = _; there = ap image same ∙ are.0.log.is }
segments_there image (g ∷ fs) (ws ∷ parts) f are (inr later) =
    segments_there image fs parts f are.1 later

families_there : (image : Image) (held : Held) (fs : List FamilyVersion) (f : ℕ)
    → AllByRecursion (AreRowFiles image held) fs → IsIn (row_files fs) f → IsThere image f
families_there image held [] f are there = absurd there
families_there image held (x ∷ fs) f are there = in_either x.files (row_files fs) f
    (λ here. one x.files are.0 here) (λ later. families_there image held fs f are.1 later) there
  where
    one : (gs : List ℕ) → AllByRecursion (λ g. HoldsRows (held g) x.flushed (image g)) gs
        → IsIn gs f → IsThere image f
    one [] are there = absurd there
    one (g ∷ gs) are (inl same) = record { bytes = are.0.bytes; there = ap image same ∙ are.0.there }
    one (g ∷ gs) are (inr later) = one gs are.1 later

-- each of the version's files is there
pub of_there : (image : Image) (v : Version) (held : Held) (parts : List (List Write)) (f : ℕ)
    → HasVersion v (image versions_file) → Stored image v held parts → IsOf v f → IsThere image f
of_there image v held parts f has stored of = ⊎_elim
    (λ (first : f ≡ versions_file). record { bytes = _; there = ap image first ∙ has.log.is })
    (λ (named : IsIn (files_named v) f). in_either v.segments (row_files v.families) f
    (λ here. segments_there image v.segments parts f stored.segments here)
    (λ here. families_there image held v.families f stored.files here) named) of

-- ---- the engine

-- the last version of what was found
pub found_version : (s : DiskState) (e : Hand) (l : Layout) → Found s e l
    → HasVersion (version_in e) (s.file versions_file)
found_version s e l found = version_there s e.manifest found.versions found.first

-- the files hold what was found
pub found_layout : (s : DiskState) (e : Hand) (l : Layout) → Found s e l → IsLayout s.file l
found_layout s e l found = record {
  version = version_in e;
  last = found_version s e l found;
  held = found.held;
  parts = found.parts;
  stored = found.stored;
  is = found.is;
}

-- with its next file above all that are there, it reads as it
pub found_reads : (a b : DiskState) (e : Hand) (l : Layout) (n : ℕ) → Found a e l
    → ((f : ℕ) → IsOf (version_in e) f → b.file f ≡ a.file f) → e.next_file ≤ n
    → ((f : ℕ) → IsOther (version_in e) f → b.file f ≡ None) → (full : Bool)
    → (full ≡ false → AreBelow e.limits.flush e.families)
    → HandReadsLayout b (record e { next_file = n; full = full }) l
found_reads a b e l n found kept le gone full calm =
    let v = version_in e in
    let past : v.next_file ≤ n = (let file = found.file in omega (arith, le, file)) in
    record {
      held = found.held;
      parts = found.parts;
      writes = found.writes;
      versions = record {
        before = found.versions.before;
        log = reads_stays a b e.manifest.log (found.versions.before ++ version_bytes v ∷ [])
            (kept e.manifest.log.file (inl found.first)) found.versions.log;
        form = found.versions.form;
        is = found.versions.is;
      };
      first = found.first;
      stored = stored_on a.file b.file v found.held found.held found.parts
          (λ g there. kept g (inr there)) (λ g there. refl) found.stored;
      ends = found.ends;
      log = holds_on a b e.log found.writes
          (kept (log_file e.log) (inr (last_named v found.parts (log_file e.log) found.writes found.ends)))
          found.log;
      is = found.is;
      next = found.next;
      length = length_on a.file b.file v.segments e.length
          (λ g there. kept g (inr (in_front v.segments (row_files v.families) g there))) found.length;
      free = past;
      fresh = λ f above. gone f (later_other v f found.versions.is (omega (arith, past, above)));
      memory = found.memory;
      opened = λ family. open_elsewhere a b found.held (files_of v.families family)
          (files_in (family_of e family))
          (λ g there. kept g (inr (in_back v.segments (row_files v.families) g
          (in_row_files v.families family g there)))) (found.opened family);
      calm = calm;
    }

-- ---- what lasts

-- the version's files are settled where all files were synced
pub synced_stands : (s : DiskState) (e : Hand) (l : Layout) → AllSynced s → HandReadsLayout s e l
    → HandStandsForLayout s e l
synced_stands s e l all reads = record {
  reads = reads;
  settled = λ f of. let there = of_there s.file (version_in e) reads.held reads.parts f
      (version_there s e.manifest reads.versions reads.first) reads.stored of in
      synced_settled s f there.bytes there.there (all f there.bytes there.there);
}

-- files that were synced stay so where the version's files stay and the others go
pub synced_kept : (a b : DiskState) (v : Version) → AllSynced a
    → Spans a b (IsOther v) (λ _ _. ⊤) → ((f : ℕ) → IsOther v f → b.file f ≡ None) → AllSynced b
synced_kept a b v all spans gone f bytes there = ⊎_elim
    (λ (of : IsOf v f). spans.fates b.moment f (λ other. other of) spans.later (omega arith)
    ∙ all f bytes (sym (spans.file f (λ other. other of)) ∙ there))
    (λ (other : IsOther v f). let n : None ≡ Some bytes = sym (gone f other) ∙ there in cc n)
    (of_or_not v f)

-- files have the layout that they had where the version's files are as they were
pub layout_kept : (before after : Image) (v : Version) (l : Layout)
    → HasVersion v (before versions_file) → ((f : ℕ) → IsOf v f → after f ≡ before f)
    → IsLayout before l → IsLayout after l
layout_kept before after v l has kept layout =
    let same : layout.version ≡ v = same_version (before versions_file) layout.version v layout.last has
    in
    let on = λ (f : ℕ) (of : IsOf layout.version f). kept f (subst (λ (w : Version). IsOf w f) same of)
    in record {
      version = layout.version;
      last = subst (HasVersion layout.version) (sym (on versions_file (inl refl))) layout.last;
      held = layout.held;
      parts = layout.parts;
      stored = stored_on before after layout.version layout.held layout.held layout.parts
          (λ g there. on g (inr there)) (λ g there. refl) layout.stored;
      is = layout.is;
    }
