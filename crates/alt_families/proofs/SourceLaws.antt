-- The sources of a family hold what its table and its files hold.
use Rattle.std.proofs.Common.{◌≡◌, ◌<◌, ◌+◌, ℕ, List, [], ◌∷◌, ◌++◌, drop, drop-cons, map, suc, length, get_or, Some, refl, sym, ap, subst, ◌∙◌, arith, append_assoc, append-nil}
use Rattle.std.proofs.lemmas.List.{map-append}
use Rattle.alt_cells.specs.Walks.{RowMap}
use Rattle.alt_disk.specs.Disk.{DiskState}
use Rattle.alt_merge.specs.Merges.{Each2, MergeHolds}
use Rattle.alt_rowfile.specs.declared.rowfile.RowFile.{RowFile}
use Rattle.alt_families.specs.Opened.{FamilyReads, IsOpen}
use Rattle.alt_families.specs.declared.family.Family.{Family}
use Rattle.alt_families.specs.Sources.{source_holds, source_width}
use Rattle.alt_families.specs.declared.source.Source.{Source}

-- what a source holds where its file reads as a map
abbrev pub Holds : RowFile → Source → Type 0
Holds f x = (s : DiskState) (m : RowMap) → IsOpen s f m → source_holds s x m

-- sources of a table and of the files in front of these
pub record SourcesSoFar (table : RowMap) (sources : List Source) (files rest : List RowFile) : Type 0 where
  pub first : Source
  pub others : List Source
  pub front : List RowFile
  pub are : sources ≡ first ∷ others
  pub memory : (s : DiskState) → source_holds s first table
  pub parted : files ≡ front ++ rest
  pub each : Each2 Holds front others
  pub wide : source_width first ≡ 0
  pub widths : map source_width others ≡ map (λ _. 1) front

-- one more at the end of both
each2-push : (fs : List RowFile) (xs : List Source) (f : RowFile) (x : Source) → Each2 Holds fs xs
    → Holds f x → Each2 Holds (fs ++ f ∷ []) (xs ++ x ∷ [])
each2-push [] [] f x each holds = (holds, tt)
each2-push [] (y ∷ xs) f x each holds = absurd each
each2-push (h ∷ fs) [] f x each holds = absurd each
each2-push (h ∷ fs) (y ∷ xs) f x each holds = (each.0, each2-push fs xs f x each.1 holds)

pub sources_first : (table : RowMap) (files : List RowFile) (x : Source)
    → ((s : DiskState) → source_holds s x table) → source_width x ≡ 0
    → SourcesSoFar table (x ∷ []) files files
sources_first table files x holds wide = record {
  first = x;
  others = [];
  front = [];
  are = refl;
  memory = holds;
  parted = refl;
  each = tt;
  wide = wide;
  widths = refl;
}

pub sources_more : (table : RowMap) (sources more : List Source) (files : List RowFile) (i : ℕ)
    (f : RowFile) (x : Source) → SourcesSoFar table sources files (drop i files) → i < length files
    → f ≡ get_or files i f → more ≡ sources ++ x ∷ [] → Holds f x → source_width x ≡ 1
    → SourcesSoFar table more files (drop (i + 1) files)
sources_more table sources more files i f x so_far within at push holds wide = record {
  first = so_far.first;
  others = so_far.others ++ x ∷ [];
  front = so_far.front ++ f ∷ [];
  are = push ∙ ap (λ (l : List Source). l ++ x ∷ []) so_far.are;
  memory = so_far.memory;
  parted = so_far.parted
      ∙ ap (λ (l : List RowFile). so_far.front ++ l) (drop-cons files i f within
      ∙ (λ j. sym at j ∷ drop (one_more i j) files))
      ∙ sym (append_assoc so_far.front (f ∷ []) (drop (i + 1) files));
  each = each2-push so_far.front so_far.others f x so_far.each holds;
  wide = so_far.wide;
  widths = map-append source_width so_far.others (x ∷ [])
      ∙ (λ j. so_far.widths j ++ wide j ∷ []) ∙ sym (map-append (λ _. 1) so_far.front (f ∷ []));
}
  where
    one_more : (n : ℕ) → suc n ≡ n + 1
    one_more n = omega arith

-- then all hold the maps of the files
pub sources_all : (table : RowMap) (sources : List Source) (files rest : List RowFile)
    → SourcesSoFar table sources files rest → rest ≡ [] → (s : DiskState) (maps : List RowMap)
    → Each2 (IsOpen s) files maps → Each2 (source_holds s) sources (table ∷ maps)
sources_all table sources files rest so_far none s maps reads =
    subst (λ (l : List Source). Each2 (source_holds s) l (table ∷ maps)) (sym so_far.are) (
      so_far.memory s,
      all so_far.front so_far.others maps so_far.each
          (subst (λ (l : List RowFile). Each2 (IsOpen s) l maps)
          (so_far.parted ∙ ap (λ (l : List RowFile). so_far.front ++ l) none ∙ append-nil so_far.front)
          reads),
    )
  where
    all : (fs : List RowFile) (xs : List Source) (ms : List RowMap) → Each2 Holds fs xs
        → Each2 (IsOpen s) fs ms → Each2 (source_holds s) xs ms
    all [] [] [] each reads = tt
    all [] [] (m ∷ ms) each reads = absurd reads
    all [] (x ∷ xs) ms each reads = absurd each
    all (f ∷ fs) [] ms each reads = absurd each
    all (f ∷ fs) (x ∷ xs) [] each reads = absurd reads
    all (f ∷ fs) (x ∷ xs) (m ∷ ms) each reads = (each.0 s m reads.0, all fs xs ms each.1 reads.1)

-- and are so wide
pub sources_wide : (table : RowMap) (sources : List Source) (files rest : List RowFile)
    → SourcesSoFar table sources files rest → rest ≡ []
    → map source_width sources ≡ 0 ∷ map (λ _. 1) files
sources_wide table sources files rest so_far none =
    ap (map source_width) so_far.are ∙ (λ j. so_far.wide j ∷ so_far.widths j)
    ∙ ap (λ (l : List RowFile). 0 ∷ map (λ _. 1) l)
    (sym (so_far.parted ∙ ap (λ (l : List RowFile). so_far.front ++ l) none
    ∙ append-nil so_far.front))

-- so a walk over them holds the rows of the family
pub family_holds : (s : DiskState) (f : Family) (rows : RowMap) (sources of_walk : List Source)
    → of_walk ≡ sources
    → ((maps : List RowMap) → Each2 (IsOpen s) f.files.items maps
    → Each2 (source_holds s) sources (f.table.0 ∷ maps))
    → FamilyReads s (Some f) rows → MergeHolds (source_holds s) of_walk rows
family_holds s f rows sources of_walk same hold reads = record {
  maps = f.table.0 ∷ reads.maps;
  each = subst (λ (l : List Source). Each2 (source_holds s) l (f.table.0 ∷ reads.maps)) (sym same)
      (hold reads.maps reads.each);
  same = reads.is;
}
