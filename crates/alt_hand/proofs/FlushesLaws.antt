-- Flushes from their beginning to the draft that is to be the next version, and what a stop leaves on the way.
use Rattle.std.proofs.Common.{◌≡◌, ◌≤◌, ◌<◌, ◌+◌, ◌^◌, ⊎_elim, inl, inr, ℕ, List, [], ◌∷◌, Option, refl, sym, ap, subst, ◌∙◌, arith}
use Rattle.std.specs.Prelude.{◌⊎◌}
use Rattle.std.specs.BTreeMap.{get}
use Rattle.std.specs.FinMap.{empty}
use Rattle.std.specs.Ordering.{nat_cmp}
use Rattle.alt_disk.specs.Disk.{DiskState}
use Rattle.alt_disk.specs.Runs.{Run, Spans}
use Rattle.alt_disk.proofs.Runs.{run_spans, spans_on, spans_weaker}
use Rattle.alt_flush.specs.Drafts.{From, over_new_log, renumbered}
use Rattle.alt_flush.proofs.DraftLaws.{from_untouched, layout_still, lies_still, manifest_still}
use Rattle.alt_gatelog.specs.InHand.{file_of_gate_log as log_file, form_of, StandsForEntries as LogStands}
use Rattle.alt_gatelog.specs.declared.gatelog.GateLog.{GateLog}
use Rattle.alt_gatelog.proofs.Elsewhere.{reads_log}
use Rattle.alt_layout.specs.Families.{layout_of}
use Rattle.alt_layout.specs.Files.{IsLayout, IsOf, all_of}
use Rattle.alt_layout.specs.Layout.{Layout}
use Rattle.alt_layout.specs.Sizes.{LogIsSized}
use Rattle.alt_layout.specs.Moments.{Has, HasEither}
use Rattle.alt_layout.proofs.FileLaws.{last_named}
use Rattle.alt_layout.proofs.MomentLaws.{same_or_not}
use Rattle.alt_manifest.specs.InHand.{file_of_manifest as manifest_file, version_of, StandsForVersion as ManifestStands}
use Rattle.alt_manifest.specs.Versions.{IsIn, row_files}
use Rattle.alt_manifest.specs.declared.version.Version.{Version}
use Rattle.alt_writes.specs.Writes.{Write}
use Rattle.alt_families.specs.Families.{Families, rows_in}
use Rattle.alt_hand.specs.Drafting.{Empties, EmptiedIn, IsLying, DraftIsReady, Makes}
use Rattle.alt_hand.specs.InHand.{IsLength, HandStandsForLayout}
use Rattle.alt_hand.specs.declared.hand.Hand.{Hand}
use Rattle.alt_hand.proofs.HandLaws.{lies_of}
use Rattle.alt_hand.proofs.LogLaws.{holds_empty, holds_on, length_on}
use Rattle.alt_drafts.proofs.MakesLaws.{empties_same, makes_new_log}
use Rattle.alt_hand.proofs.EngineDrafts.{makes_first}
use Rattle.alt_manifest.proofs.Among.{in_front, in_or_not}

-- The families that aren't live are left out of the first draft.
pub begun : (a : DiskState) (e : Hand) (l : Layout) (live : List ℕ) (stands : HandStandsForLayout a e l)
    (first alive : Version) (families : Families) → e.next_file < 2 ^ 32
    → first ≡ renumbered (version_of e.manifest) e.next_file e.next
    → ((s : DiskState) (parts : List (List Write)) (l : Layout) → Makes s first e.families parts l
    → (m : Layout) × Makes s alive families parts m × Empties live l m)
    → (m : Layout) × Makes a alive families stands.reads.parts m × Empties live l m
begun a e l live stands first alive families fits is leave =
    leave a stands.reads.parts l (subst (λ (u : Version). Makes a u e.families stands.reads.parts l)
    (sym is) (makes_first a e l stands fits))

-- calls on one file from a number on, behind others from it on
pub run_later : (a b c : DiskState) (file f : ℕ) (P : ℕ → Option (List ℕ) → Type 0) → file ≤ f
    → Spans a b (From file) (λ t image. Unit {0}) → Run b c f P
    → Spans a c (From file) (λ t image. Unit {0})
run_later a b c file f P low first run =
    spans_on a b c (From file) (λ t image. Unit {0}) first
    (run_spans b c f P (From file) (λ t image. Unit {0}) run low (λ t image here others. tt))

module _ (a b : DiskState) (e : Hand) (l : Layout) (live : List ℕ) (stands : HandStandsForLayout a e l)
    (spans : Spans a b (From e.next_file) (λ t image. Unit {0})) where
  abbrev v : Version
  v = version_of e.manifest

  untouched : (g : ℕ) → IsOf v g → From e.next_file g → ⊥
  untouched g of low =
      from_untouched v e.next_file stands.reads.versions.is stands.reads.free g of low

  -- Each image has the layout, while files are made that no version names.
  pub making : Spans a b (λ g. Unit {0}) (EmptiedIn live l)
  making = spans_weaker a b (From e.next_file) (λ g. Unit {0}) (EmptiedIn live l)
      (Has (layout_of v stands.reads.held (all_of stands.reads.parts)))
      (layout_still a b v stands.reads.held stands.reads.parts (From e.next_file)
      (λ t image. Unit {0}) (lies_of a e l stands) untouched spans) (λ g it. tt)
      (λ t image has. record {
        layout = l;
        is = subst (IsLayout image) (sym stands.reads.is) has;
        empties = empties_same live l;
      })

  -- And the store lies as it lay.
  pub lying : IsLying b e.manifest l
  lying = record {
    held = stands.reads.held;
    parts = stands.reads.parts;
    lies = lies_still a b v stands.reads.held stands.reads.parts (From e.next_file)
        (λ t image. Unit {0}) (lies_of a e l stands) untouched spans;
    is = stands.reads.is;
  }

  pub versions_still : ManifestStands b e.manifest
  versions_still = manifest_still a b (From e.next_file) (λ t image. Unit {0}) spans e.manifest
      (untouched (manifest_file e.manifest) (inl stands.reads.first)) (record {
        reads = stands.reads.versions;
        settled = stands.settled (manifest_file e.manifest) (inl stands.reads.first);
      })

  -- Where the segments stay, the engine is ready for the draft.
  pub ready_same : (u : Version) (families : Families) (m : Layout)
      → Makes b u families stands.reads.parts m → Empties live l m → u.segments ≡ v.segments
      → DraftIsReady b (record e { families = families }) u m
  ready_same u families m makes empties segments = record {
    parts = stands.reads.parts;
    writes = stands.reads.writes;
    makes = makes;
    manifest = versions_still;
    first = stands.reads.first;
    ends = record {
      firsts = stands.reads.ends.firsts;
      fronts = stands.reads.ends.fronts;
      segments = segments ∙ stands.reads.ends.segments;
      parts_are = stands.reads.ends.parts_are;
    };
    log = holds_on a b e.log stands.reads.writes
        (spans.file (log_file e.log) (untouched (log_file e.log) (inr (last_named v stands.reads.parts
        (log_file e.log) stands.reads.writes stands.reads.ends)))) stands.reads.log;
    length = length_on a.file b.file u.segments e.length (λ g there.
        spans.file g (untouched g (inr (in_front v.segments (row_files v.families) g
        (subst (λ fs. IsIn fs g) segments there)))))
        (subst (λ fs. IsLength a.file fs e.length) (sym segments) stands.reads.length);
    next = stands.reads.next ∙ sym empties.number;
  }

  -- And so it is over a new segment.
  pub ready_new : (s : DiskState) (u : Version) (families : Families) (parts : List (List Write))
      (m : Layout) (P : ℕ → Option (List ℕ) → Type 0) (log : GateLog) → Makes s u families parts m
      → Empties live l m → u.next_file + 1 < 2 ^ 32
      → ((family : ℕ) → rows_in (get nat_cmp families family) ≡ empty) → Run s b u.next_file P
      → log_file log ≡ u.next_file → LogStands b log []
      → DraftIsReady b (record e { log = log; length = 0; families = families }) (over_new_log u) m
  ready_new s u families parts m P log makes empties room none run log_is log_stands = record {
    parts = [] ∷ [];
    writes = [];
    makes = makes_new_log s b u families parts m P log makes room none run log_is log_stands;
    manifest = versions_still;
    first = stands.reads.first;
    ends = record {
      firsts = [];
      fronts = [];
      segments = ap (λ f. f ∷ []) (sym log_is);
      parts_are = refl;
    };
    log = holds_empty b log log_stands;
    length = record {
      bytes = 0;
      sized = (
        0,
        0,
        subst (λ f. LogIsSized 0 (b.file f)) log_is (record {
          form = form_of log;
          entries = [];
          log = reads_log b log [] log_stands.reads;
          is = refl;
        }),
        refl,
        omega arith,
      );
      is = omega arith;
    };
    next = stands.reads.next ∙ sym empties.number;
  }

-- The version more, behind it.
pub made : (a b c : DiskState) (l m : Layout) (live : List ℕ) → Empties live l m
    → Spans a b (λ g. Unit {0}) (EmptiedIn live l) → Spans b c (λ g. Unit {0}) (HasEither l m)
    → Spans a c (λ g. Unit {0}) (EmptiedIn live l)
made a b c l m live empties first later =
    spans_on a b c (λ g. Unit {0}) (EmptiedIn live l) first
    (spans_weaker b c (λ g. Unit {0}) (λ g. Unit {0}) (EmptiedIn live l) (HasEither l m) later
    (λ g it. tt) (λ t image has. ⊎_elim
    (λ (old : IsLayout image l). record { layout = l; is = old; empties = empties_same live l })
    (λ (new : IsLayout image m). record { layout = m; is = new; empties = empties }) has))

-- Once those that are live have no rows in memory, and those that aren't had none before, no family has any.
pub all_empty : (old new : Families) (live : List ℕ) (family : ℕ)
    → ((f : ℕ) → IsIn live f → rows_in (get nat_cmp new f) ≡ empty)
    → ((f : ℕ) → (IsIn live f → ⊥) → get nat_cmp new f ≡ get nat_cmp old f)
    → IsIn live family ⊎ (rows_in (get nat_cmp old family) ≡ empty)
    → rows_in (get nat_cmp new family) ≡ empty
all_empty old new live family cleared others rest = ⊎_elim
    (λ (there : IsIn live family). cleared family there)
    (λ (out : IsIn live family → ⊥). ⊎_elim
    (λ (there : IsIn live family). cleared family there)
    (λ (none : rows_in (get nat_cmp old family) ≡ empty). ap rows_in (others family out) ∙ none) rest)
    (in_or_not live family)

-- So it is after a flush of one that is live, of those that aren't.
pub one_empty : (last new old : Families) (live : List ℕ) (family other : ℕ) → last ≡ new
    → IsIn live family
    → ((f : ℕ) → (f ≡ family → ⊥) → get nat_cmp new f ≡ get nat_cmp old f)
    → IsIn live other ⊎ (rows_in (get nat_cmp old other) ≡ empty)
    → IsIn live other ⊎ (rows_in (get nat_cmp last other) ≡ empty)
one_empty last new old live family other still lives others rest = ⊎_elim
    (λ (there : IsIn live other). inl there)
    (λ (none : rows_in (get nat_cmp old other) ≡ empty). ⊎_elim
    (λ (same : other ≡ family). inl (subst (IsIn live) (sym same) lives))
    (λ (apart : other ≡ family → ⊥).
    inr (ap (λ (fs : Families). rows_in (get nat_cmp fs other)) still
    ∙ ap rows_in (others other apart) ∙ none)) (same_or_not other family)) rest
