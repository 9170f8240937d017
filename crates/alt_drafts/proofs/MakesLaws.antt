-- A draft and the families in hand, step by step.
use Rattle.std.proofs.Common.{◌≡◌, ◌≢◌, ◌<◌, ◌+◌, ◌-◌, ◌^◌, ℕ, Option, List, [], ◌∷◌, ◌++◌, refl, sym, ap, subst, ◌∙◌, arith, inl, inr, ⊎_elim, ◌==◌, Bool, true, false}
use Rattle.std.specs.Prelude.{if◌then◌else◌}
use Rattle.std.specs.BTreeMap.{get}
use Rattle.std.specs.FinMap.{empty, entries}
use Rattle.std.specs.Ordering.{nat_cmp}
use Rattle.alt_disk.specs.Disk.{DiskState}
use Rattle.alt_disk.specs.Runs.{Run}
use Rattle.alt_flush.specs.Drafts.{over_new_log, with_flush, without_family}
use Rattle.alt_flush.proofs.DraftLaws.{flush_drafted, flush_layout, new_log_drafted, old_file, without_drafted}
use Rattle.alt_flush.proofs.DropLaws.{files_of-none, flushed_of-none, none-other, without_others, without_rows}
use Rattle.alt_flush.proofs.NewLogLaws.{files_of-with_files, new_log_same}
use Rattle.alt_gatelog.specs.InHand.{file_of_gate_log as log_file, StandsForEntries as LogStands}
use Rattle.alt_gatelog.specs.declared.gatelog.GateLog.{GateLog}
use Rattle.alt_layout.specs.Families.{Held, files_of, flushed_of, layout_of, with_later}
use Rattle.alt_layout.specs.Files.{all_of}
use Rattle.alt_layout.specs.Flushes.{with_rows}
use Rattle.alt_layout.specs.Layout.{Layout, RowMap}
use Rattle.alt_layout.proofs.FlushLaws.{other_rows, own_rows}
use Rattle.alt_layout.proofs.FlushedFiles.{files_of-own, flushed_of-own, of-other}
use Rattle.alt_layout.proofs.MomentLaws.{same_or_not}
use Rattle.alt_layout.proofs.RowLaws.{with_later-none}
use Rattle.alt_manifest.specs.Versions.{IsIn, files_named, row_files}
use Rattle.alt_manifest.specs.declared.version.FamilyVersion.{FamilyVersion}
use Rattle.alt_manifest.specs.declared.version.Version.{Version}
use Rattle.alt_rowfile.specs.InHand.{file_of as row_file, ReadsRows as RowReads, StandsForRows as RowFileStands}
use Rattle.alt_rowfile.specs.declared.rowfile.RowFile.{RowFile}
use Rattle.alt_writes.specs.Writes.{Write}
use Rattle.alt_families.specs.Families.{Families, files_in, rows_in}
use Rattle.alt_drafts.specs.Drafting.{Empties, Makes}
use Rattle.alt_drafts.specs.InHand.{AreOpen}
use Rattle.alt_manifest.proofs.Among.{in_back, in_front}

-- ---- files in hand

-- Files in hand read as they read where those files do and are said to hold the same.
pub open_still : (a b : DiskState) (held more : Held) (gs : List ℕ) (fs : List RowFile)
    → ((g : ℕ) → IsIn gs g → b.file g ≡ a.file g) → ((g : ℕ) → IsIn gs g → more g ≡ held g)
    → AreOpen a held gs fs → AreOpen b more gs fs
open_still a b held more [] [] same rows are = tt
open_still a b held more [] (f ∷ fs) same rows are = absurd are
open_still a b held more (g ∷ gs) [] same rows are = absurd are
open_still a b held more (g ∷ gs) (f ∷ fs) same rows are = (
  are.0,
  subst (λ (m : RowMap). RowReads b f (entries m)) (sym (rows g (inl refl))) (record {
    bytes = are.1.bytes;
    there = subst (λ k. b.file k ≡ a.file k) (sym are.0) (same g (inl refl)) ∙ are.1.there;
    as_file = are.1.as_file;
  }),
  open_still a b held more gs fs (λ h there. same h (inr there)) (λ h there. rows h (inr there)) are.2,
)

-- One file more behind them.
open_push : (b : DiskState) (held : Held) (file : ℕ) (made : RowFile) (gs : List ℕ)
    (fs : List RowFile) → row_file made ≡ file → RowReads b made (entries (held file))
    → AreOpen b held gs fs → AreOpen b held (gs ++ file ∷ []) (fs ++ made ∷ [])
open_push b held file made [] [] made_is reads are = (made_is, reads, tt)
open_push b held file made [] (f ∷ fs) made_is reads are = absurd are
open_push b held file made (g ∷ gs) [] made_is reads are = absurd are
open_push b held file made (g ∷ gs) (f ∷ fs) made_is reads are =
    (are.0, are.1, open_push b held file made gs fs made_is reads are.2)

-- a file of one family is one of the row files
pub in_row_files : (fs : List FamilyVersion) (family g : ℕ) → IsIn (files_of fs family) g
    → IsIn (row_files fs) g
in_row_files [] family g there = absurd there
in_row_files (f ∷ fs) family g there = by_test (f.family == family) (in_row_files fs family g) there
  where
    by_test : (t : Bool) → (IsIn (files_of fs family) g → IsIn (row_files fs) g)
        → IsIn (if t then f.files else files_of fs family) g → IsIn (f.files ++ row_files fs) g
    by_test true rest there = in_front f.files (row_files fs) g there
    by_test false rest there = in_back f.files (row_files fs) g (rest there)

-- a file of a family is one that the draft names
pub named_of : (u : Version) (family g : ℕ) → IsIn (files_of u.families family) g
    → IsIn (files_named u) g
named_of u family g there = in_back u.segments (row_files u.families) g
    (in_row_files u.families family g there)

-- ---- a family flushed

module _ (a b : DiskState) (u : Version) (families : Families) (parts : List (List Write))
    (l : Layout) (makes : Makes a u families parts l) (family : ℕ) (fits : family < 2 ^ 32)
    (room : u.next_file + 1 < 2 ^ 32) (P : ℕ → Option (List ℕ) → Type 0)
    (run : Run a b u.next_file P) (made : RowFile) (made_is : row_file made ≡ u.next_file)
    (stands : RowFileStands b made (entries (rows_in (get nat_cmp families family))))
    (after : Families) (cleared : rows_in (get nat_cmp after family) ≡ empty)
    (one_more : files_in (get nat_cmp after family)
    ≡ files_in (get nat_cmp families family) ++ made ∷ [])
    (others : (other : ℕ) → other ≢ family → get nat_cmp after other ≡ get nat_cmp families other)
  where
    abbrev rows : RowMap
    rows = rows_in (get nat_cmp families family)

    abbrev more : Held
    more = with_rows makes.held u.next_file rows

    old : (g : ℕ) → IsIn (files_named u) g → g ≢ u.next_file
    old g there = old_file a b u makes.held parts P makes.drafted run g there

    still : (other : ℕ) → AreOpen b more (files_of u.families other)
        (files_in (get nat_cmp families other))
    still other = open_still a b makes.held more (files_of u.families other)
        (files_in (get nat_cmp families other))
        (λ g there. run.file g (old g (named_of u other g there)))
        (λ g there. other_rows makes.held u.next_file rows g (old g (named_of u other g there)))
        (makes.opened other)

    opened : (other : ℕ) → AreOpen b more (files_of (with_flush u family).families other)
        (files_in (get nat_cmp after other))
    opened other = ⊎_elim
        (λ (same : other ≡ family). subst (λ k. AreOpen b more (files_of (with_flush u family).families k)
        (files_in (get nat_cmp after k))) (sym same)
        (subst (λ gs. AreOpen b more gs (files_in (get nat_cmp after family)))
        (sym (files_of-own family (u.next_number - 1) u.next_file u.families makes.drafted.is.rising))
        (subst (AreOpen b more (files_of u.families family ++ u.next_file ∷ [])) (sym one_more)
        (open_push b more u.next_file made (files_of u.families family)
        (files_in (get nat_cmp families family)) made_is
        (subst (λ (m : RowMap). RowReads b made (entries m))
        (sym (own_rows makes.held u.next_file rows)) stands.reads) (still family)))))
        (λ (apart : other ≢ family).
        subst (λ gs. AreOpen b more gs (files_in (get nat_cmp after other)))
        (sym (of-other (λ (f : FamilyVersion). f.files) family (u.next_number - 1) u.next_file other []
        (λ fs. files_of fs other) refl (λ f fs. refl) apart u.families))
        (subst (λ o. AreOpen b more (files_of u.families other) (files_in o)) (sym (others other apart))
        (still other))) (same_or_not other family)

    memory : (other : ℕ) → rows_in (get nat_cmp after other)
        ≡ with_later (flushed_of (with_flush u family).families other) other empty (all_of parts)
    memory other = ⊎_elim
        (λ (same : other ≡ family). subst (λ k. rows_in (get nat_cmp after k)
        ≡ with_later (flushed_of (with_flush u family).families k) k empty (all_of parts)) (sym same)
        (cleared ∙ sym (with_later-none (flushed_of (with_flush u family).families family) family
        u.next_number empty (all_of parts)
        (let own = flushed_of-own family (u.next_number - 1) u.next_file u.families in
        let top = makes.drafted.next in let first = makes.drafted.is.next_number.0 in
        omega (arith, own, top, first)))))
        (λ (apart : other ≢ family). ap rows_in (others other apart) ∙ makes.memory other
        ∙ ap (λ k. with_later k other empty (all_of parts))
        (sym (of-other (λ (f : FamilyVersion). f.flushed) family (u.next_number - 1) u.next_file other 0
        (λ fs. flushed_of fs other) refl (λ f fs. refl) apart u.families)))
        (same_or_not other family)

    -- The draft with the family's file has the same layout.
    pub makes_flush : Makes b (with_flush u family) after parts l
    makes_flush = record {
      held = more;
      drafted = flush_drafted a u makes.held parts family rows makes.drafted fits room
          (makes.memory family) b P made run made_is stands;
      memory = memory;
      opened = opened;
      is = makes.is ∙ sym (flush_layout a u makes.held parts family rows makes.drafted fits room
          (makes.memory family));
    }

-- ---- a family that is gone

module _ (a : DiskState) (u : Version) (families : Families) (parts : List (List Write))
    (l : Layout) (makes : Makes a u families parts l) (family : ℕ) (fits : family < 2 ^ 32)
    (after : Families) (none : get nat_cmp after family ≡ Option.None)
    (others : (other : ℕ) → other ≢ family → get nat_cmp after other ≡ get nat_cmp families other)
  where
    abbrev emptied : Layout
    emptied = layout_of (without_family u family) makes.held (all_of parts)

    opened_none : (other : ℕ) → AreOpen a makes.held (files_of (without_family u family).families other)
        (files_in (get nat_cmp after other))
    opened_none other = ⊎_elim
        (λ (same : other ≡ family). subst (λ k. AreOpen a makes.held
        (files_of (without_family u family).families k) (files_in (get nat_cmp after k))) (sym same)
        (subst (λ gs. AreOpen a makes.held gs (files_in (get nat_cmp after family)))
        (sym (files_of-none family (u.next_number - 1) u.families makes.drafted.is.rising))
        (subst (λ o. AreOpen a makes.held [] (files_in o)) (sym none) tt)))
        (λ (apart : other ≢ family).
        subst (λ gs. AreOpen a makes.held gs (files_in (get nat_cmp after other)))
        (sym (none-other (λ (f : FamilyVersion). f.files) family (u.next_number - 1) other []
        (λ fs. files_of fs other) refl (λ f fs. refl) apart u.families))
        (subst (λ o. AreOpen a makes.held (files_of u.families other) (files_in o))
        (sym (others other apart)) (makes.opened other))) (same_or_not other family)

    memory_none : (other : ℕ) → rows_in (get nat_cmp after other)
        ≡ with_later (flushed_of (without_family u family).families other) other empty (all_of parts)
    memory_none other = ⊎_elim
        (λ (same : other ≡ family). subst (λ k. rows_in (get nat_cmp after k)
        ≡ with_later (flushed_of (without_family u family).families k) k empty (all_of parts)) (sym same)
        (ap rows_in none ∙ sym (with_later-none (flushed_of (without_family u family).families family) family
        u.next_number empty (all_of parts)
        (let own = flushed_of-none family (u.next_number - 1) u.families in
        let top = makes.drafted.next in let first = makes.drafted.is.next_number.0 in
        omega (arith, own, top, first)))))
        (λ (apart : other ≢ family). ap rows_in (others other apart) ∙ makes.memory other
        ∙ ap (λ k. with_later k other empty (all_of parts))
        (sym (none-other (λ (f : FamilyVersion). f.flushed) family (u.next_number - 1) other 0
        (λ fs. flushed_of fs other) refl (λ f fs. refl) apart u.families)))
        (same_or_not other family)

    -- The draft without it has the layout without its rows.
    pub makes_none : Makes a (without_family u family) after parts emptied
    makes_none = record {
      held = makes.held;
      drafted = without_drafted a u family makes.held parts makes.drafted fits;
      memory = memory_none;
      opened = opened_none;
      is = refl;
    }

    rows_stay : (other : ℕ) → other ≢ family → emptied.rows other ≡ l.rows other
    rows_stay other apart = without_others u family other makes.held (all_of parts) apart
        ∙ sym (ap (λ (m : Layout). m.rows other) makes.is)

    -- which is the one before, but for a family that isn't live
    pub empties_none : (live : List ℕ) → (IsIn live family → ⊥) → Empties live l emptied
    empties_none live dead = record {
      number = sym (ap (λ (m : Layout). m.next_number) makes.is);
      lives = λ other there. rows_stay other (λ same. dead (subst (IsIn live) same there));
      others = λ other. ⊎_elim
          (λ (same : other ≡ family). inr (ap emptied.rows same
          ∙ without_rows u family makes.held (all_of parts) makes.drafted.is makes.drafted.next))
          (λ (apart : other ≢ family). inl (rows_stay other apart)) (same_or_not other family);
    }

-- Nothing left out.
pub empties_same : (live : List ℕ) (l : Layout) → Empties live l l
empties_same live l = record {
  number = refl;
  lives = λ family there. refl;
  others = λ family. inl refl;
}

-- First some, and then others.
pub empties_then : (live : List ℕ) (l m n : Layout) → Empties live l m → Empties live m n
    → Empties live l n
empties_then live l m n first later = record {
  number = later.number ∙ first.number;
  lives = λ family there. later.lives family there ∙ first.lives family there;
  others = λ family. ⊎_elim
      (λ (same : n.rows family ≡ m.rows family). ⊎_elim
      (λ (before : m.rows family ≡ l.rows family). inl (same ∙ before))
      (λ (none : m.rows family ≡ empty). inr (same ∙ none)) (first.others family))
      (λ (none : n.rows family ≡ empty). inr none) (later.others family);
}

-- ---- a new segment

-- The draft over it has the same layout, where memory has no rows.
pub makes_new_log : (a b : DiskState) (u : Version) (families : Families)
    (parts : List (List Write)) (l : Layout) (P : ℕ → Option (List ℕ) → Type 0) (log : GateLog)
    → Makes a u families parts l → u.next_file + 1 < 2 ^ 32
    → ((family : ℕ) → rows_in (get nat_cmp families family) ≡ empty) → Run a b u.next_file P
    → log_file log ≡ u.next_file → LogStands b log []
    → Makes b (over_new_log u) families ([] ∷ []) l
makes_new_log a b u families parts l P log makes room none run log_is stands = record {
  held = makes.held;
  drafted = new_log_drafted a b u makes.held parts P log makes.drafted room run log_is stands;
  memory = none;
  opened = λ family. subst (λ gs. AreOpen b makes.held gs (files_in (get nat_cmp families family)))
      (sym (files_of-with_files 0 family u.families makes.drafted.is.rising))
      (open_still a b makes.held makes.held (files_of u.families family)
      (files_in (get nat_cmp families family)) (λ g there. run.file g
      (old_file a b u makes.held parts P makes.drafted run g (named_of u family g there)))
      (λ g there. refl) (makes.opened family));
  is = makes.is ∙ sym (new_log_same u makes.held parts makes.drafted.is makes.drafted.next
      (λ family. sym (makes.memory family) ∙ none family));
}
