-- A version that is added: the files that it leaves, and the last version at each moment.
use Rattle.std.proofs.Common.{◌≡◌, ◌≢◌, ◌<◌, ◌++◌, ⊎_elim, inl, inr, ℕ, List, [], ◌∷◌, Option, Some, None, refl, sym, ap, subst, ◌∙◌}
use Rattle.std.specs.Prelude.{◌⊎◌}
use Rattle.alt_disk.specs.Disk.{DiskState, IsSettled}
use Rattle.alt_disk.specs.Fates.{Fates, Fits}
use Rattle.alt_disk.specs.Runs.{Run, Spans}
use Rattle.alt_disk.proofs.Runs.{run_spans, spans_on, spans_weaker}
use Rattle.alt_flush.specs.Drafts.{From, IsLeftOver, renumbered}
use Rattle.alt_flush.specs.Laws.{DropsOnly}
use Rattle.alt_flush.proofs.DraftLaws.{from_untouched}
use Rattle.alt_gatelog.specs.Log.{log_bytes}
use Rattle.alt_gatelog.specs.declared.form.Form.TheVariants.{One}
use Rattle.alt_layout.specs.Files.{IsOf}
use Rattle.alt_layout.specs.Fresh.{versions_file}
use Rattle.alt_layout.specs.Layout.{Layout}
use Rattle.alt_manifest.specs.InHand.{file_of_manifest as manifest_file, version_of, OldOrNew, StandsForVersion as ManifestStands}
use Rattle.alt_manifest.specs.Versions.{HasVersion, IsIn, files_named, version_bytes}
use Rattle.alt_manifest.specs.declared.manifest.Manifest.{Manifest}
use Rattle.alt_manifest.specs.declared.version.Version.{Version}
use Rattle.alt_manifest.proofs.AppendLaws.{has_version}
use Rattle.alt_hand.specs.Adding.{AddsVersion, HasLast, HasOneOf, MakesNone}
use Rattle.alt_hand.specs.Drafting.{DraftIsReady}
use Rattle.alt_hand.specs.InHand.{HandStandsForLayout}
use Rattle.alt_hand.specs.Merging.{version_in}
use Rattle.alt_hand.specs.declared.hand.Hand.{Hand}
use Rattle.alt_hand.proofs.HandLaws.{lies_of}

-- ---- files

-- from the last version on
pub drops_first : (e : Hand) (first u : Version) (left listed : List ℕ)
    → first ≡ renumbered (version_in e) e.next_file e.next → DropsOnly first u left
    → listed ≡ left → DropsOnly (version_in e) u listed
drops_first e first u left listed is drops same =
    subst (λ xs. DropsOnly (version_in e) u xs) (sym same)
    (subst (λ (v : Version). DropsOnly v u left) is drops)

-- a file with a version is there
some_versions : (v : Version) (file : Option (List ℕ)) → HasVersion v file → file ≡ None → ⊥
some_versions v file has none =
    let no : Some (log_bytes One (has.before ++ version_bytes v ∷ []) has.log.gate has.log.rest)
    ≡ None = sym has.log.is ∙ none in cc no

-- A draft that becomes the next version.
pub adds_draft : (z : DiskState) (e f : Hand) (u : Version) (left : List ℕ)
    → DropsOnly (version_in e) u left → ((g : ℕ) → IsLeftOver left u g → z.file g ≡ None)
    → version_in f ≡ u → f.next_file ≡ u.next_file → AddsVersion z e f
adds_draft z e f u left drops gone version next = record {
  next_file = ap (λ (v : Version). v.next_file) version ∙ sym next;
  removed = λ g of out. ⊎_elim (λ (first : g ≡ versions_file). absurd (out (inl first)))
      (λ (named : IsIn (files_named (version_in e)) g). ⊎_elim
      (λ (on : IsIn (files_named u) g).
      absurd (out (inr (subst (λ (v : Version). IsIn (files_named v) g) (sym version) on))))
      (λ (over : IsIn left g). gone g
      (over, λ of_u. out (subst (λ (v : Version). IsOf v g) (sym version) of_u))) (drops g named)) of;
}

-- Files below the next one stay until it is added, and then none is made.
pub makes_none : (a d z : DiskState) (e : Hand) (l : Layout) → HandStandsForLayout a e l
    → ((g : ℕ) → g < e.next_file → d.file g ≡ a.file g)
    → ((g : ℕ) → g ≢ versions_file → d.file g ≡ None → z.file g ≡ None) → MakesNone a z e.next_file
makes_none a d z e l stands same missing g low none = missing g
    (λ first. some_versions (version_of e.manifest) (a.file versions_file)
    (lies_of a e l stands).last (sym (ap a.file first) ∙ none)) (same g low ∙ none)

-- ---- the last version at each moment

-- calls that don't touch the versions leave it
pub keeps_last : (a b : DiskState) (touched : ℕ → Type 0)
    (P : ℕ → (ℕ → Option (List ℕ)) → Type 0) (v : Version) → HasVersion v (a.file versions_file)
    → IsSettled a versions_file → (touched versions_file → ⊥) → Spans a b touched P
    → Spans a b (λ g. Unit {0}) (HasLast v)
keeps_last a b touched P v last settled not_it spans = record {
  later = spans.later;
  past = spans.past;
  file = λ g out. absurd (out tt);
  fates = λ t g out low high. absurd (out tt);
  each = λ t image low high is_image. subst (HasVersion v)
      (sym (settled (image versions_file) (subst (λ (x : Fates). Fits x (image versions_file))
      (spans.fates t versions_file not_it low high) (is_image versions_file)))) last;
}

-- so it is that one, or any other
pub last_or : (a b : DiskState) (v w : Version) → Spans a b (λ g. Unit {0}) (HasLast v)
    → Spans a b (λ g. Unit {0}) (HasOneOf v w)
last_or a b v w spans = spans_weaker a b (λ g. Unit {0}) (λ g. Unit {0}) (HasOneOf v w) (HasLast v) spans
    (λ g it. it) (λ t image has. inl has)

or_last : (a b : DiskState) (v w : Version) → Spans a b (λ g. Unit {0}) (HasLast w)
    → Spans a b (λ g. Unit {0}) (HasOneOf v w)
or_last a b v w spans = spans_weaker a b (λ g. Unit {0}) (λ g. Unit {0}) (HasOneOf v w) (HasLast w) spans
    (λ g it. it) (λ t image has. inr has)

-- while a version is added it is the one before, or that one
pub adding_last : (a b : DiskState) (e : Hand) (u : Version) (m : Layout) → DraftIsReady a e u m
    → Run a b (manifest_file e.manifest) (OldOrNew (version_of e.manifest) u)
    → Spans a b (λ g. Unit {0}) (HasOneOf (version_in e) u)
adding_last a b e u m ready run = run_spans a b (manifest_file e.manifest)
    (OldOrNew (version_of e.manifest) u) (λ g. Unit {0}) (HasOneOf (version_in e) u) run tt
    (λ t image here others. subst (λ g. HasVersion (version_of e.manifest) (image g)
    ⊎ HasVersion u (image g)) ready.first here)

-- and so it is while files are removed behind it
pub added_last : (a b c : DiskState) (e : Hand) (n : Manifest) (u : Version) (m : Layout)
    (left : List ℕ) → DraftIsReady a e u m
    → Run a b (manifest_file e.manifest) (OldOrNew (version_of e.manifest) u)
    → manifest_file n ≡ manifest_file e.manifest → version_of n ≡ u → ManifestStands b n
    → Spans b c (IsLeftOver left u) (λ t image. Unit {0})
    → Spans a c (λ g. Unit {0}) (HasOneOf (version_in e) u)
added_last a b c e n u m left ready run same version stands spans =
    let first : manifest_file n ≡ versions_file = same ∙ ready.first in
    spans_on a b c (λ g. Unit {0}) (HasOneOf (version_in e) u) (adding_last a b e u m ready run)
    (or_last b c (version_in e) u (keeps_last b c (IsLeftOver left u) (λ t image. Unit {0}) u
    (subst (λ (v : Version). HasVersion v (b.file versions_file)) version
    (subst (λ g. HasVersion (version_of n) (b.file g)) first (has_version b n stands.reads)))
    (subst (IsSettled b) first stands.settled) (λ over. over.1 (inl refl)) spans))

module _ (a d : DiskState) (e : Hand) (l : Layout) (stands : HandStandsForLayout a e l)
    (spans : Spans a d (From e.next_file) (λ t image. Unit {0})) where
  -- while files are made that no version names it stays
  before_last : Spans a d (λ g. Unit {0}) (HasLast (version_in e))
  before_last = keeps_last a d (From e.next_file) (λ t image. Unit {0}) (version_of e.manifest)
      (lies_of a e l stands).last (stands.settled versions_file (inl refl))
      (λ low. from_untouched (version_of e.manifest) e.next_file stands.reads.versions.is
      stands.reads.free versions_file (inl refl) low) spans

  -- No version is added,
  pub no_version : (w : Version) × Spans a d (λ g. Unit {0}) (HasOneOf (version_in e) w)
  no_version = (version_in e, last_or a d (version_in e) (version_in e) before_last)

  -- or one, behind that.
  pub one_version : (z : DiskState) (w : Version)
      → Spans d z (λ g. Unit {0}) (HasOneOf (version_in e) w)
      → (w : Version) × Spans a z (λ g. Unit {0}) (HasOneOf (version_in e) w)
  one_version z w later = (
    w,
    spans_on a d z (λ g. Unit {0}) (HasOneOf (version_in e) w)
        (last_or a d (version_in e) w before_last) later,
  )
