-- The end of a merge, from the draft before it to the one with what was made.
use Rattle.std.proofs.Common.{◌≡◌, ◌≢◌, ◌≤◌, ◌<◌, ◌+◌, ℕ, true, List, [], ◌∷◌, length, take, drop, zero, suc, Option, Some, None, rules, refl, sym, ap, subst, ◌∙◌, arith, inr, ⊎_elim}
use Rattle.std.specs.Prelude.{◌==◌, Bool, if◌then◌else◌, false}
use Rattle.std.specs.BTreeMap.{get}
use Rattle.std.specs.FinMap.{empty, entries, same_entries_map}
use Rattle.std.specs.List.{AllByRecursion}
use Rattle.std.specs.Option.{IsSome}
use Rattle.std.specs.Ordering.{nat_cmp}
use Rattle.alt_cells.specs.Compacted.{compacted}
use Rattle.alt_cells.specs.Joined.{joined_map}
use Rattle.alt_cells.specs.Rows.{join_row}
use Rattle.alt_disk.specs.Disk.{DiskState, IsSettled}
use Rattle.alt_flush.proofs.MergeDraftLaws.{merged_drafted}
use Rattle.alt_layout.specs.Families.{Held, IsMapBelow, files_of, flushed_of, joined_files, layout_of, with_later}
use Rattle.alt_layout.specs.Files.{HoldsRows, all_of}
use Rattle.alt_layout.specs.Flushes.{with_rows}
use Rattle.alt_layout.specs.Layout.{Layout, RowMap}
use Rattle.alt_layout.specs.Merged.{MayReplace, ShowsSame, version_made}
use Rattle.alt_layout.specs.Merges.{IsMapFrom, IsPurgedMap}
use Rattle.alt_layout.proofs.CompactionLaws.{compaction, compaction_is}
use Rattle.alt_layout.proofs.FlushLaws.{other_rows, own_rows}
use Rattle.alt_layout.proofs.MergedLaws.{files_made, files_made-other, flushed_made, shows_made}
use Rattle.alt_layout.proofs.MomentLaws.{same_or_not}
use Rattle.alt_layout.proofs.PastLaws.{files_past, map_later}
use Rattle.alt_layout.proofs.RowLaws.{none_behind}
use Rattle.alt_manifest.specs.Versions.{IsFamily, IsIn, RiseFrom, files_named}
use Rattle.alt_manifest.specs.declared.version.FamilyVersion.{FamilyVersion}
use Rattle.alt_manifest.specs.declared.version.Version.{Version}
use Rattle.alt_merge.specs.Merges.{Each2, all_rows}
use Rattle.alt_rowfile.specs.Format.{IsRowFile}
use Rattle.alt_rowfile.specs.InHand.{file_of as row_file, ReadsRows as RowReads, StandsForRows as RowFileStands}
use Rattle.alt_rowfile.specs.declared.rowfile.RowFile.{RowFile}
use Rattle.alt_rowfile.proofs.OneFile.{one_list}
use Rattle.alt_writes.specs.Writes.{Write}
use Rattle.alt_families.specs.declared.family.Family.{Family}
use Rattle.alt_families.specs.Families.{Families, files_in, rows_in}
use Rattle.alt_drafts.specs.Drafting.{Makes}
use Rattle.alt_drafts.specs.InHand.{AreOpen}
use Rattle.alt_drafts.specs.Merging.{IsLater, IsMadeOf, IsOlder, MayEnd}
use Rattle.alt_drafts.proofs.MakesLaws.{named_of, open_still}

-- ---- numbers

-- numbers that rise from one on rise from a lower one on
rise_lower : (high low : ℕ) (ns : List ℕ) → low ≤ high → RiseFrom high ns → RiseFrom low ns
rise_lower high low [] le rise = tt
rise_lower high low (n ∷ ns) le rise = (let first = rise.0 in omega arith, rise.1)

-- and so does their back
rise_drop : (n least : ℕ) (ns : List ℕ) → RiseFrom least ns → RiseFrom least (drop n ns)
rise_drop zero least ns rise = rise
rise_drop (suc n) least [] rise = tt
rise_drop (suc n) least (x ∷ ns) rise = rise_lower (x + 1) least (drop n ns)
    (let first = rise.0 in omega arith) (rise_drop n (x + 1) ns rise.1)

-- where all are behind a number they rise from there on
rise_behind : (least file : ℕ) (ns : List ℕ) → RiseFrom least ns
    → AllByRecursion (λ n. file < n) ns → RiseFrom (file + 1) ns
rise_behind least file [] rise all = tt
rise_behind least file (n ∷ ns) rise all = (let first = all.0 in omega arith, rise.1)

-- the files of a family rise
family_rise : (next : ℕ) (fs : List FamilyVersion) (family : ℕ)
    → AllByRecursion (IsFamily next) fs → RiseFrom 2 (files_of fs family)
family_rise next [] family are = tt
family_rise next (f ∷ fs) family are =
    by_test (f.family == family) (family_rise next fs family are.1)
  where
    by_test : (t : Bool) → RiseFrom 2 (files_of fs family)
        → RiseFrom 2 (if t then f.files else files_of fs family)
    by_test true rest = are.0.files
    by_test false rest = rest

-- what is in the back of a list is in it
in_drop : (n : ℕ) (xs : List ℕ) (x : ℕ) → IsIn (drop n xs) x → IsIn xs x
in_drop zero xs x there = there
in_drop (suc n) [] x there = there
in_drop (suc n) (y ∷ xs) x there = inr (in_drop n xs x there)

-- ---- files in hand

-- a file in hand reads as one map of rows
pub one_map : (s : DiskState) (f : RowFile) (m n : RowMap) → RowReads s f (entries m)
    → RowReads s f (entries n) → m ≡ n
one_map s f m n a b =
    let bytes : a.bytes ≡ b.bytes = inside a.bytes b.bytes (sym a.there ∙ b.there) in
    let first : IsRowFile (entries m) a.bytes = record {
      blocks = a.as_file.blocks;
      file = a.as_file.file;
      are = a.as_file.are;
    } in
    let second : IsRowFile (entries n) b.bytes = record {
      blocks = b.as_file.blocks;
      file = b.as_file.file;
      are = b.as_file.are;
    } in
    same_entries_map m n (one_list (entries m) (entries n) b.bytes
    (subst (IsRowFile (entries m)) bytes first) second)
  where
    inside : (x y : List ℕ) → Some x ≡ Some y → x ≡ y
    inside x y e = cc e

-- the first of them
open_take : (s : DiskState) (held : Held) (n : ℕ) (gs : List ℕ) (fs : List RowFile)
    → AreOpen s held gs fs → AreOpen s held (take n gs) (take n fs)
open_take s held zero gs fs are = tt
open_take s held (suc n) [] [] are = tt
open_take s held (suc n) [] (f ∷ fs) are = absurd are
open_take s held (suc n) (g ∷ gs) [] are = absurd are
open_take s held (suc n) (g ∷ gs) (f ∷ fs) are = (are.0, are.1, open_take s held n gs fs are.2)

-- the others
open_drop : (s : DiskState) (held : Held) (n : ℕ) (gs : List ℕ) (fs : List RowFile)
    → AreOpen s held gs fs → AreOpen s held (drop n gs) (drop n fs)
open_drop s held zero gs fs are = are
open_drop s held (suc n) [] [] are = tt
open_drop s held (suc n) [] (f ∷ fs) are = absurd are
open_drop s held (suc n) (g ∷ gs) [] are = absurd are
open_drop s held (suc n) (g ∷ gs) (f ∷ fs) are = open_drop s held n gs fs are.2

-- there are as many as numbers
pub open_count : (s : DiskState) (held : Held) (gs : List ℕ) (fs : List RowFile) → AreOpen s held gs fs
    → length gs ≡ length fs
open_count s held [] [] are = refl
open_count s held [] (f ∷ fs) are = absurd are
open_count s held (g ∷ gs) [] are = absurd are
open_count s held (g ∷ gs) (f ∷ fs) are = let rest = open_count s held gs fs are.2 in omega arith

-- what they read as is what they are said to hold, joined
open_joined : (s : DiskState) (held : Held) (gs : List ℕ) (fs : List RowFile) (maps : List RowMap)
    → AreOpen s held gs fs → Each2 (λ f m. RowReads s f (entries m)) fs maps
    → all_rows maps ≡ joined_files held gs
open_joined s held [] [] [] are reads = refl
open_joined s held [] [] (m ∷ maps) are reads = absurd reads
open_joined s held [] (f ∷ fs) maps are reads = absurd are
open_joined s held (g ∷ gs) [] maps are reads = absurd are
open_joined s held (g ∷ gs) (f ∷ fs) [] are reads = absurd reads
open_joined s held (g ∷ gs) (f ∷ fs) (m ∷ maps) are reads =
    let first : m ≡ held g = one_map s f m (held g) reads.0 are.1 in
    let rest : all_rows maps ≡ joined_files held gs = open_joined s held gs fs maps are.2 reads.1 in
    λ i. joined_map join_row (first i) (rest i)

-- a family with files is one
pub some_family : (o : Option Family) → 0 < length (files_in o) → IsSome o
some_family None some = absurd (omega (arith, some))
some_family (Some f) some = refl

-- older ones hold older rows
older_rows : (s : DiskState) (held : Held) (number file : ℕ) (gs : List ℕ) (fs : List RowFile)
    → AreOpen s held gs fs → AllByRecursion (IsOlder s number file) fs
    → AllByRecursion (λ g. IsMapBelow number (held g)) gs
older_rows s held number file [] fs are older = tt
older_rows s held number file (g ∷ gs) [] are older = absurd are
older_rows s held number file (g ∷ gs) (f ∷ fs) are older =
    (older.0.rows (held g) are.1, older_rows s held number file gs fs are.2 older.1)

-- later ones later rows
later_rows : (s : DiskState) (held : Held) (number file : ℕ) (gs : List ℕ) (fs : List RowFile)
    → AreOpen s held gs fs → AllByRecursion (IsLater s number file) fs
    → AllByRecursion (λ g. IsMapFrom number (held g)) gs
later_rows s held number file [] fs are later = tt
later_rows s held number file (g ∷ gs) [] are later = absurd are
later_rows s held number file (g ∷ gs) (f ∷ fs) are later =
    (later.0.rows (held g) are.1, later_rows s held number file gs fs are.2 later.1)

-- and lie behind the file
later_files : (s : DiskState) (held : Held) (number file : ℕ) (gs : List ℕ) (fs : List RowFile)
    → AreOpen s held gs fs → AllByRecursion (IsLater s number file) fs
    → AllByRecursion (λ g. file < g) gs
later_files s held number file [] fs are later = tt
later_files s held number file (g ∷ gs) [] are later = absurd are
later_files s held number file (g ∷ gs) (f ∷ fs) are later = (
  subst (λ k. file < k) are.0 later.0.behind,
  later_files s held number file gs fs are.2 later.1,
)

-- ---- the end

module _ (s : DiskState) (u : Version) (families : Families) (parts : List (List Write))
    (l : Layout) (makes : Makes s u families parts l) (family taken number file : ℕ)
    (may : MayEnd s u (files_in (get nat_cmp families family)) family taken number file)
    (made : RowFile) (made_is : row_file made ≡ file)
    (of : IsMadeOf s (take taken (files_in (get nat_cmp families family))) made) where
  abbrev gs : List ℕ
  gs = files_of u.families family

  abbrev fs : List RowFile
  fs = files_in (get nat_cmp families family)

  abbrev before : RowMap
  before = joined_files makes.held (take taken gs)

  abbrev more : Held
  more = with_rows makes.held file (compaction before)

  -- the file stands for what is left
  stands : RowFileStands s made (entries (compaction before))
  stands = subst (RowFileStands s made) (ap (λ (m : RowMap). compacted true (entries m))
      (open_joined s makes.held (take taken gs) (take taken fs) of.lists
      (open_take s makes.held taken gs fs (makes.opened family)) of.reads)
      ∙ sym (compaction_is before).are) of.stands

  -- all of it is older
  older : IsMapBelow (number + 1) before
  older = files_past makes.held (number + 1) (take taken gs)
      (older_rows s makes.held (number + 1) file (take taken gs) (take taken fs)
      (open_take s makes.held taken gs fs (makes.opened family)) may.older)

  holds : HoldsRows (more file) (flushed_of u.families family) (s.file file)
  holds = subst (λ (m : RowMap). HoldsRows m (flushed_of u.families family) (s.file file))
      (sym (own_rows makes.held file (compaction before))) (record {
        bytes = stands.reads.bytes;
        there = ap s.file (sym made_is) ∙ stands.reads.there;
        rows = record {
          blocks = stands.reads.as_file.blocks;
          file = stands.reads.as_file.file;
          are = stands.reads.as_file.are;
        };
        past = map_later (number + 1) (flushed_of u.families family + 1) (compaction before)
            (let reached = may.reached in omega arith)
            ((compaction_is before).below (number + 1) older);
      })

  -- a file that is named holds what it held
  same : (g : ℕ) → IsIn (files_named u) g → more g ≡ makes.held g
  same g there = other_rows makes.held file (compaction before) g
      (λ it. may.new (subst (IsIn (files_named u)) it there))

  -- It may take their place.
  pub may_replace : MayReplace u makes.held more family taken number (file ∷ [])
  may_replace =
      let opened = open_drop s makes.held taken gs fs (makes.opened family) in record {
        some = may.some;
        enough = let enough = may.enough in
            let count = open_count s makes.held gs fs (makes.opened family) in
            omega (arith, enough, count);
        rise = (
          may.two,
          rise_behind 2 file (drop taken gs)
              (rise_drop taken 2 gs (family_rise u.next_number u.families family makes.drafted.is.families))
              (later_files s makes.held (number + 1) file (drop taken gs) (drop taken fs) opened may.later),
        );
        below = (may.below, tt);
        new = (may.new, tt);
        same = same;
        purged = subst (IsPurgedMap before)
            (sym (none_behind (more file) ∙ own_rows makes.held file (compaction before)))
            (compaction_is before).purged;
        older = older;
        later = later_rows s makes.held (number + 1) file (drop taken gs) (drop taken fs) opened may.later;
        reached = may.reached;
      }

  abbrev after_merge : Layout
  after_merge = layout_of (version_made u family taken (file ∷ [])) more (all_of parts)

  -- Its layout shows what the one before shows.
  pub merge_shows : ShowsSame l after_merge
  merge_shows = subst (λ (m : Layout). ShowsSame m after_merge) (sym makes.is)
      (shows_made u makes.held more family taken number (file ∷ []) makes.drafted.is may_replace parts)

  module _ (after : Families)
      (rows : rows_in (get nat_cmp after family) ≡ rows_in (get nat_cmp families family))
      (files : files_in (get nat_cmp after family) ≡ made ∷ drop taken fs)
      (others : (other : ℕ) → other ≢ family → get nat_cmp after other ≡ get nat_cmp families other)
    where
      still : (other : ℕ) → AreOpen s more (files_of u.families other)
          (files_in (get nat_cmp families other))
      still other = open_still s s makes.held more (files_of u.families other)
          (files_in (get nat_cmp families other)) (λ g there. refl)
          (λ g there. same g (named_of u other g there)) (makes.opened other)

      own : AreOpen s more (files_of (version_made u family taken (file ∷ [])).families family)
          (files_in (get nat_cmp after family))
      own = subst (λ hs. AreOpen s more hs (files_in (get nat_cmp after family)))
          (sym (files_made family taken (file ∷ []) u.families
          (let some = may_replace.some in let enough = may_replace.enough in
          omega (arith, some, enough))))
          (subst (AreOpen s more (file ∷ drop taken gs)) (sym files) (
            made_is,
            subst (λ (m : RowMap). RowReads s made (entries m))
                (sym (own_rows makes.held file (compaction before))) stands.reads,
            open_drop s more taken gs fs (still family),
          ))

      opened_after : (other : ℕ)
          → AreOpen s more (files_of (version_made u family taken (file ∷ [])).families other)
          (files_in (get nat_cmp after other))
      opened_after other = ⊎_elim
          (λ (it : other ≡ family). subst (λ k. AreOpen s more
          (files_of (version_made u family taken (file ∷ [])).families k)
          (files_in (get nat_cmp after k))) (sym it) own)
          (λ (apart : other ≢ family).
          subst (λ hs. AreOpen s more hs (files_in (get nat_cmp after other)))
          (sym (files_made-other family taken (file ∷ []) u.families other apart))
          (subst (λ o. AreOpen s more (files_of u.families other) (files_in o)) (sym (others other apart))
          (still other))) (same_or_not other family)

      memory_after : (other : ℕ) → rows_in (get nat_cmp after other)
          ≡ with_later (flushed_of (version_made u family taken (file ∷ [])).families other) other
          empty (all_of parts)
      memory_after other = ⊎_elim
          (λ (it : other ≡ family). subst (λ k. rows_in (get nat_cmp after k)
          ≡ rows_in (get nat_cmp families k)) (sym it) rows)
          (λ (apart : other ≢ family). ap rows_in (others other apart)) (same_or_not other family)
          ∙ makes.memory other
          ∙ ap (λ k. with_later k other empty (all_of parts))
          (sym (flushed_made family taken (file ∷ []) u.families other))

      -- The draft with what was made, and the families in hand.
      pub makes_merge : Makes s (version_made u family taken (file ∷ [])) after parts after_merge
      makes_merge = record {
        held = more;
        drafted = merged_drafted s u makes.held more parts family taken number (file ∷ []) makes.drafted
            may_replace (holds, tt) (subst (IsSettled s) made_is stands.settled, tt);
        memory = memory_after;
        opened = opened_after;
        is = refl;
      }

-- Of a draft and families in hand the end of a merge makes a draft and families of a layout that shows the same.
pub merge_made : (s : DiskState) (u : Version) (families : Families) (parts : List (List Write))
    (l : Layout) → Makes s u families parts l → (family taken number file : ℕ)
    → MayEnd s u (files_in (get nat_cmp families family)) family taken number file
    → (made : RowFile) → row_file made ≡ file
    → IsMadeOf s (take taken (files_in (get nat_cmp families family))) made → (after : Families)
    → rows_in (get nat_cmp after family) ≡ rows_in (get nat_cmp families family)
    → files_in (get nat_cmp after family)
    ≡ made ∷ drop taken (files_in (get nat_cmp families family))
    → ((other : ℕ) → other ≢ family → get nat_cmp after other ≡ get nat_cmp families other)
    → (m : Layout) × Makes s (version_made u family taken (file ∷ [])) after parts m × ShowsSame l m
merge_made s u families parts l makes family taken number file may made made_is of after rows files
    others = (
      after_merge s u families parts l makes family taken number file may made made_is of,
      makes_merge s u families parts l makes family taken number file may made made_is of after rows files
          others,
      merge_shows s u families parts l makes family taken number file may made made_is of,
    )

-- a family with files is in hand
pub in_hand : (o : Option Family) → 0 < length (files_in o) → IsSome o
in_hand None some = absurd (omega (arith, some))
in_hand (Some f) some = search rules
