-- A merge under way, carried over calls of its engine.
use Rattle.std.proofs.Common.{◌≡◌, ◌≢◌, ◌≤◌, ◌<◌, ⊎_elim, inl, inr, ℕ, Bool, List, [], ◌∷◌, ◌++◌, Option, refl, sym, ap, subst, ◌∙◌, arith, append_assoc}
use Rattle.std.proofs.lemmas.List.{append-nil}
use Rattle.std.specs.Prelude.{◌⊎◌, Result, Ok, Err, OnOk}
use Rattle.std.specs.BTreeMap.{get}
use Rattle.std.specs.List.{AllByRecursion}
use Rattle.std.specs.Ordering.{nat_cmp}
use Rattle.alt_disk.specs.Disk.{DiskState}
use Rattle.alt_disk.specs.Runs.{Run, Spans}
use Rattle.alt_fields.proofs.Apart.{all_front}
use Rattle.alt_flush.specs.Drafts.{From, IsLeftOver, renumbered}
use Rattle.alt_gatelog.specs.InHand.{file_of_gate_log as log_file}
use Rattle.alt_gatelog.specs.declared.gatelog.GateLog.{GateLog}
use Rattle.alt_layout.specs.Families.{files_of, flushed_of}
use Rattle.alt_layout.specs.Layout.{Layout}
use Rattle.alt_layout.specs.Fresh.{versions_file}
use Rattle.alt_layout.proofs.FileLaws.{apart, last_named, named_later}
use Rattle.alt_manifest.specs.InHand.{version_of}
use Rattle.alt_manifest.specs.Versions.{IsIn, files_named, row_files}
use Rattle.alt_manifest.specs.declared.version.Version.{Version}
use Rattle.alt_rowfile.specs.InHand.{file_of as row_file}
use Rattle.alt_rowfile.specs.declared.rowfile.RowFile.{RowFile}
use Rattle.alt_families.specs.Families.{Families, files_in}
use Rattle.alt_families.specs.Memory.{AreWrittenTo}
use Rattle.alt_writes.specs.Writes.{Write}
use Rattle.alt_hand.specs.Carrying.{AreStill, CarriesFamily, CarriesDraft}
use Rattle.alt_hand.specs.Drafting.{IsSameHand, Makes}
use Rattle.alt_hand.specs.InHand.{HandStandsForLayout, family_of}
use Rattle.alt_hand.specs.Merging.{MayEnd, files_at, version_in}
use Rattle.alt_hand.specs.declared.hand.Hand.{Hand}
use Rattle.alt_drafts.proofs.StillLaws.{each_on, may_end_on}
use Rattle.alt_drafts.proofs.CarryDrafts.{all_still, still_then}
use Rattle.alt_drafts.proofs.MakesLaws.{in_row_files, named_of}
use Rattle.alt_manifest.proofs.Among.{in_back, in_front}

-- ---- a write

-- a merge may end by any version with the same files
may_end_by : (s : DiskState) (u w : Version) (fs : List RowFile) (family taken number file : ℕ)
    → w.next_file ≡ u.next_file → w.segments ≡ u.segments → w.families ≡ u.families
    → MayEnd s u fs family taken number file → MayEnd s w fs family taken number file
may_end_by s u w fs family taken number file next segments families may = record {
  some = may.some;
  enough = may.enough;
  two = may.two;
  below = subst (λ n. file < n) (sym next) may.below;
  new = λ there. may.new (subst (λ gs. IsIn (gs ++ row_files u.families) file) segments
      (subst (λ hs. IsIn (w.segments ++ row_files hs) file) families there));
  older = may.older;
  later = may.later;
  reached = subst (λ hs. number ≤ flushed_of hs family)
      (sym families) may.reached;
}

module _ (a b : DiskState) (e : Hand) (l : Layout) (stands : HandStandsForLayout a e l)
    (P : ℕ → Option (List ℕ) → Type 0) (run : Run a b (log_file e.log) P) where
  abbrev v : Version
  v = version_of e.manifest

  -- the last segment is no row file
  not_log : (g : ℕ) → IsIn (row_files v.families) g → g ≢ log_file e.log
  not_log g there same = apart v.segments (row_files v.families) (log_file e.log) g
      stands.reads.versions.is.differ
      (subst (λ fs. IsIn fs (log_file e.log)) (sym stands.reads.ends.segments)
      (in_back stands.reads.ends.firsts (log_file e.log ∷ []) (log_file e.log) (inl refl))) there
      (sym same)

  -- so row files read as they read
  still : (family : ℕ)
      → AllByRecursion (λ f. b.file (row_file f) ≡ a.file (row_file f)) (files_at e family)
  still family = each_on a b stands.reads.held (files_of v.families family) (files_at e family)
      (λ g there. run.file g (not_log g (in_row_files v.families family g there)))
      (stands.reads.opened family)

  -- A write leaves a merge of any family one.
  pub carries_write : (log : GateLog) (size next : ℕ) (families : Families) (full : Bool)
      (ws : List Write) (family : ℕ) → AreWrittenTo e.families families ws
      → CarriesFamily a b e (record e {
        log = log;
        length = size;
        next = next;
        families = families;
        full = full;
      }) family
  carries_write log size next families full ws family written = record {
    more = [];
    files = written.files family ∙ sym (append-nil (files_at e family));
    still = still family;
    merging = λ taken number file may.
        subst (λ fs. MayEnd b (renumbered v e.next_file next) fs family
        taken number file) (sym (written.files family))
        (may_end_by b (renumbered v e.next_file e.next)
        (renumbered v e.next_file next) (files_at e family) family taken
        number file refl refl refl
        (may_end_on a b (renumbered v e.next_file e.next)
        (files_at e family) family taken number file (still family) may));
    beside = λ taken number file may. run.file file (λ same.
        may.new (subst (IsIn (files_named v)) (sym same)
        (last_named v stands.reads.parts (log_file e.log) stands.reads.writes stands.reads.ends)));
  }

-- ---- one call behind another

-- What is carried twice is carried.
pub carries_on : (a b c : DiskState) (e f g : Hand) (family : ℕ) → CarriesFamily a b e f family
    → CarriesFamily b c f g family → CarriesFamily a c e g family
carries_on a b c e f g family first later = record {
  more = first.more ++ later.more;
  files = later.files ∙ ap (λ fs. fs ++ later.more) first.files
      ∙ append_assoc (files_at e family) first.more later.more;
  still = still_then a b c (files_at e family) first.still
      (all_front (λ f. c.file (row_file f) ≡ b.file (row_file f)) (files_at e family) first.more
      (subst (AreStill b c) first.files later.still));
  merging = λ taken number file may.
      later.merging taken number file (first.merging taken number file may);
  beside = λ taken number file may.
      later.beside taken number file (first.merging taken number file may)
      ∙ first.beside taken number file may;
}

-- Memory that is taken leaves a merge one.
pub carries_prepared : (s : DiskState) (e f : Hand) (family : ℕ) → IsSameHand e f
    → CarriesFamily s s e f family
carries_prepared s e f family same =
    subst (λ (h : Hand). CarriesFamily s s e h family) (sym same.others) (record {
      more = [];
      files = sym (append-nil (files_at e family));
      still = all_still s (files_at e family);
      merging = λ taken number file may.
          may_end_by s (renumbered (version_in e) e.next_file e.next)
          (renumbered (version_of f.manifest) e.next_file e.next) (files_at e family) family taken
          number file refl (ap (λ (v : Version). v.segments) same.manifest.version)
          (ap (λ (v : Version). v.families) same.manifest.version) may;
      beside = λ taken number file may. refl;
    })

-- ---- a new version

-- Where no call is made all stays.
pub carries_none : (s : DiskState) (e : Hand) (family : ℕ) → CarriesFamily s s e e family
carries_none s e family = record {
  more = [];
  files = sym (append-nil (files_at e family));
  still = all_still s (files_at e family);
  merging = λ taken number file may. may;
  beside = λ taken number file may. refl;
}

-- What is left over was named, where it was a segment or a row file of the first draft.
pub left_named : (e : Hand) (first : Version) (before left : List ℕ)
    → first ≡ renumbered (version_in e) e.next_file e.next
    → ((f : ℕ) → IsIn before f → IsIn first.segments f)
    → ((f : ℕ) → IsIn left f → IsIn before f ⊎ IsIn (row_files first.families) f) → (g : ℕ)
    → IsIn left g → IsIn (files_named (version_in e)) g
left_named e first before left is segments are g there =
    let named : IsIn (first.segments ++ row_files first.families) g = ⊎_elim
    (λ (one : IsIn before g). in_front first.segments (row_files first.families) g (segments g one))
    (λ (row : IsIn (row_files first.families) g).
    in_back first.segments (row_files first.families) g row) (are g there) in
    subst (λ (v : Version). IsIn (v.segments ++ row_files v.families) g) is named

-- Two facts of an answer.
pub on_ok_both : {X E : Type 0} → (r : Result X E) {P Q R : Type 0} → (P → Q → R) → OnOk r P → OnOk r Q
    → OnOk r R
on_ok_both (Ok x) both p q = both p q
on_ok_both (Err fault) both p q = tt

-- Files in hand of a draft read as they read behind its version, as none of them is left over.
pub still_published : (d z : DiskState) (u : Version) (families : Families)
    (parts : List (List Write)) (m : Layout) (left : List ℕ) → Makes d u families parts m
    → ((g : ℕ) → g ≢ versions_file → (IsLeftOver left u g → ⊥) → z.file g ≡ d.file g)
    → (family : ℕ) → AreStill d z (files_in (get nat_cmp families family))
still_published d z u families parts m left makes others family =
    each_on d z makes.held (files_of u.families family) (files_in (get nat_cmp families family))
    (λ g there. others g (named_later u g makes.drafted.is (named_of u family g there))
    (λ over. over.1 (inr (named_of u family g there)))) (makes.opened family)

-- A merge is carried over a draft that becomes the next version, where what is left over was named.
pub carries_published : (a d z : DiskState) (e f : Hand) (u : Version) (families : Families)
    (parts : List (List Write)) (m : Layout) (left : List ℕ) (family : ℕ)
    → Spans a d (From e.next_file) (λ t image. Unit {0})
    → CarriesDraft a d (renumbered (version_in e) e.next_file e.next) u (family_of e family)
    (get nat_cmp families family) family → Makes d u families parts m
    → ((g : ℕ) → IsIn left g → IsIn (files_named (version_in e)) g)
    → ((g : ℕ) → g ≢ versions_file → (IsLeftOver left u g → ⊥) → z.file g ≡ d.file g)
    → f.families ≡ families → version_in f ≡ u → f.next_file ≡ u.next_file → CarriesFamily a z e f family
carries_published a d z e f u families parts m left family spans carries makes named others same
    version next =
    let o = get nat_cmp families family in
    let last = still_published d z u families parts m left makes others family in
    let first : AreStill d z (files_at e family) = all_front (λ g. z.file (row_file g) ≡ d.file (row_file g))
    (files_at e family) carries.more (subst (AreStill d z) carries.files last) in
    let own : files_at f family ≡ files_in o = ap (λ (fs : Families). files_in (get nat_cmp fs family)) same in
    record {
      more = carries.more;
      files = own ∙ carries.files;
      still = still_then a d z (files_at e family) carries.still first;
      merging = λ taken number file may. subst (λ fs. MayEnd z
          (renumbered (version_in f) f.next_file f.next) fs family taken number file) (sym own)
          (may_end_by z u (renumbered (version_in f) f.next_file f.next) (files_in o) family taken number
          file next (ap (λ (v : Version). v.segments) version) (ap (λ (v : Version). v.families) version)
          (may_end_on d z u (files_in o) family taken number file last
          (carries.merging taken number file may)));
      beside = λ taken number file may.
          others file (λ e. let two = may.two in omega (arith, two, e))
          (λ over. may.new (named file over.0))
          ∙ spans.file file (λ le. let low = may.below in omega (arith, le, low));
    }
