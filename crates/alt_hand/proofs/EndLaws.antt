-- A merge's end, from an engine to the draft that is to be its next version.
use Rattle.std.proofs.Common.{take, ◌≡◌, ◌≤◌, ◌<◌, ◌^◌, ⊎_elim, inl, inr, ℕ, List, [], ◌∷◌, Option, None, refl, sym, ap, subst, ◌∙◌}
use Rattle.std.specs.Prelude.{option_and_then}
use Rattle.std.specs.BTreeMap.{get}
use Rattle.std.specs.FinMap.{empty, get as get_row, get-empty}
use Rattle.std.specs.Ordering.{nat_cmp}
use Rattle.alt_cells.specs.Keys.{key_cmp}
use Rattle.alt_cells.specs.Shown.{row_shown}
use Rattle.alt_disk.specs.Disk.{DiskState}
use Rattle.alt_disk.specs.Runs.{Spans}
use Rattle.alt_disk.proofs.Runs.{quiet_spans, quiet_start, spans_weaker}
use Rattle.alt_flush.specs.Drafts.{renumbered, without_family}
use Rattle.alt_flush.proofs.DropLaws.{named_without}
use Rattle.alt_layout.specs.Files.{IsLayout}
use Rattle.alt_layout.specs.Layout.{Layout}
use Rattle.alt_layout.specs.Merged.{ShowsSame}
use Rattle.alt_layout.specs.Moments.{HasEither}
use Rattle.alt_manifest.specs.InHand.{file_of_manifest as manifest_file, version_of}
use Rattle.alt_manifest.specs.Versions.{IsIn, files_named}
use Rattle.alt_manifest.specs.declared.version.Version.{Version}
use Rattle.alt_rowfile.specs.InHand.{file_of as row_file}
use Rattle.alt_rowfile.specs.declared.rowfile.RowFile.{RowFile}
use Rattle.alt_writes.specs.Writes.{Write}
use Rattle.alt_families.specs.declared.family.Family.{Family}
use Rattle.alt_families.specs.Families.{Families, files_in}
use Rattle.alt_hand.specs.Drafting.{AreDead, Empties, IsLying, DraftIsReady, Makes, without_families}
use Rattle.alt_hand.specs.InHand.{IsLength, HandStandsForLayout}
use Rattle.alt_hand.specs.Merging.{IsMadeOf, MayEnd}
use Rattle.alt_hand.specs.Working.{Works, WorksIn}
use Rattle.alt_hand.specs.declared.hand.Hand.{Hand}
use Rattle.alt_drafts.proofs.DeadLaws.{without_all-file}
use Rattle.alt_hand.proofs.FlushesLaws.{begun}
use Rattle.alt_hand.proofs.HandLaws.{each_image, lies_of}
use Rattle.alt_drafts.proofs.LeftOutLaws.{flushed_others}

-- ---- families that aren't live

-- no file is named anew
named_others : (u : Version) (dead : List ℕ) (f : ℕ) → IsIn (files_named (without_families u dead)) f
    → IsIn (files_named u) f
named_others u [] f there = there
named_others u (d ∷ dead) f there = named_without u d f (named_others (without_family u d) dead f there)

-- A merge of a live family may end in a draft without some that aren't.
pub may_end_alive : (s : DiskState) (first alive : Version) (files : List RowFile)
    (family taken number file : ℕ) (live : List ℕ) → IsIn live family
    → (dead : List ℕ) × AreDead live dead × (alive ≡ without_families first dead)
    → MayEnd s first files family taken number file
    → MayEnd s alive files family taken number file
may_end_alive s first alive files family taken number file live there of may =
    subst (λ (u : Version). MayEnd s u files family taken number file) (sym of.2) (record {
      some = may.some;
      enough = may.enough;
      two = may.two;
      below = subst (λ n. file < n) (sym (without_all-file first of.0)) may.below;
      new = λ named. may.new (named_others first of.0 file named);
      older = may.older;
      later = may.later;
      reached = subst (λ n. number ≤ n)
          (sym (flushed_others first of.0 family (λ dead. of.1 family dead there))) may.reached;
    })

-- ---- what is left

-- a family without rows shows none
shows_none : (key : List ℕ) → option_and_then row_shown (get_row (empty {R = key_cmp}) key) ≡ None
shows_none key = ap (option_and_then row_shown) (get-empty key_cmp key)

-- Families left out, and then a layout that shows the same.
pub works_both : (live : List ℕ) (l m n : Layout) → Empties live l m → ShowsSame m n
    → Works live l n
works_both live l m n empties shows = record {
  number = shows.number ∙ empties.number;
  lives = λ family there key. shows.rows family key
      ∙ ap (λ rows. option_and_then row_shown (get_row rows key)) (empties.lives family there);
  others = λ family. ⊎_elim
      (λ (same : m.rows family ≡ l.rows family). inl (λ key. shows.rows family key
      ∙ ap (λ rows. option_and_then row_shown (get_row rows key)) same))
      (λ (none : m.rows family ≡ empty). inr (λ key. shows.rows family key
      ∙ ap (λ rows. option_and_then row_shown (get_row rows key)) none ∙ shows_none key))
      (empties.others family);
}

-- nothing done
pub works_same : (live : List ℕ) (l : Layout) → Works live l l
works_same live l = record {
  number = refl;
  lives = λ family there key. refl;
  others = λ family. inl (λ key. refl);
}

-- While no call is made each image has the layout.
pub works_still : (s : DiskState) (e : Hand) (l : Layout) (live : List ℕ) → HandStandsForLayout s e l
    → Spans s s (λ g. Unit {0}) (WorksIn live l)
works_still s e l live stands = quiet_spans s s (λ g. Unit {0}) (WorksIn live l) (quiet_start s)
    (λ t image fits. record {
      layout = l;
      is = each_image s e l stands image fits;
      works = works_same live l;
    })

-- So it has where calls leave one of two.
pub works_either : (a b : DiskState) (live : List ℕ) (l m : Layout) → Works live l m
    → Spans a b (λ g. Unit {0}) (HasEither l m) → Spans a b (λ g. Unit {0}) (WorksIn live l)
works_either a b live l m works spans =
    spans_weaker a b (λ g. Unit {0}) (λ g. Unit {0}) (WorksIn live l) (HasEither l m) spans
    (λ g it. it) (λ t image has. ⊎_elim
    (λ (old : IsLayout image l). record { layout = l; is = old; works = works_same live l })
    (λ (new : IsLayout image m). record { layout = m; is = new; works = works }) has)

-- ---- an engine before its next version

module _ (s : DiskState) (e : Hand) (l : Layout) (stands : HandStandsForLayout s e l) where
  pub lying_at : IsLying s e.manifest l
  lying_at = record {
    held = stands.reads.held;
    parts = stands.reads.parts;
    lies = lies_of s e l stands;
    is = stands.reads.is;
  }

  -- It is ready for a draft over its segments.
  pub ready_at : (u : Version) (families : Families) (m : Layout)
      → Makes s u families stands.reads.parts m → m.next_number ≡ l.next_number
      → u.segments ≡ (version_of e.manifest).segments
      → DraftIsReady s (record e { families = families }) u m
  ready_at u families m makes number segments = record {
    parts = stands.reads.parts;
    writes = stands.reads.writes;
    makes = makes;
    manifest = record {
      reads = stands.reads.versions;
      settled = stands.settled (manifest_file e.manifest) (inl stands.reads.first);
    };
    first = stands.reads.first;
    ends = record {
      firsts = stands.reads.ends.firsts;
      fronts = stands.reads.ends.fronts;
      segments = segments ∙ stands.reads.ends.segments;
      parts_are = stands.reads.ends.parts_are;
    };
    log = stands.reads.log;
    length = subst (λ fs. IsLength s.file fs e.length) (sym segments) stands.reads.length;
    next = stands.reads.next ∙ sym number;
  }

-- From an engine whose merge may end to the draft with what was made: the engine is ready for it, and its layout is one that work leaves.
pub merge_ended : (a : DiskState) (e : Hand) (l : Layout) (live : List ℕ) (stands : HandStandsForLayout a e l)
    (first alive draft : Version) (left after : Families) (family taken number file : ℕ)
    (made : RowFile) → e.next_file < 2 ^ 32
    → first ≡ renumbered (version_of e.manifest) e.next_file e.next → IsIn live family
    → ((s : DiskState) (parts : List (List Write)) (l : Layout) → Makes s first e.families parts l
    → (m : Layout) × Makes s alive left parts m × Empties live l m)
    → (dead : List ℕ) × AreDead live dead × (alive ≡ without_families first dead)
    → get nat_cmp left family ≡ get nat_cmp e.families family
    → alive.segments ≡ first.segments → draft.segments ≡ alive.segments
    → MayEnd a (renumbered (version_of e.manifest) e.next_file e.next)
    (files_in (get nat_cmp e.families family)) family taken number file
    → row_file made ≡ file
    → IsMadeOf a (take taken (files_in (get nat_cmp e.families family))) made
    → ((s : DiskState) (parts : List (List Write)) (l : Layout) (number : ℕ)
    → Makes s alive left parts l
    → MayEnd s alive (files_in (get nat_cmp left family)) family taken number file
    → row_file made ≡ file → IsMadeOf s (take taken (files_in (get nat_cmp left family))) made
    → (m : Layout) × Makes s draft after parts m × ShowsSame l m)
    → (m : Layout) × DraftIsReady a (record e { families = after }) draft m × Works live l m
merge_ended a e l live stands first alive draft left after family taken number file made fits is there
    leave version lives alive_segments draft_segments may file_is of merged =
    let begins = begun a e l live stands first alive left fits is leave in
    let may_first : MayEnd a first (files_in (get nat_cmp left family)) family taken number file =
    subst (λ (o : Option Family). MayEnd a first (files_in o) family taken number file) (sym lives)
    (subst (λ (u : Version). MayEnd a u (files_in (get nat_cmp e.families family)) family taken number
    file) (sym is) may) in
    let may_alive : MayEnd a alive (files_in (get nat_cmp left family)) family taken number file =
    may_end_alive a first alive (files_in (get nat_cmp left family)) family taken number file live there
    version may_first in
    let of_left : IsMadeOf a (take taken (files_in (get nat_cmp left family))) made =
    subst (λ (o : Option Family). IsMadeOf a (take taken (files_in o)) made) (sym lives) of in
    let ended = merged a stands.reads.parts begins.0 number begins.1 may_alive file_is of_left in
    let works : Works live l ended.0 = works_both live l begins.0 ended.0 begins.2 ended.2 in (
      ended.0,
      ready_at a e l stands draft after ended.0 ended.1 works.number
          (draft_segments ∙ alive_segments ∙ ap (λ (v : Version). v.segments) is),
      works,
    )
