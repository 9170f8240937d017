-- A block of a file in hand stands at its place, and a read of it is one of a block.
use Rattle.std.proofs.Common.{◌≡◌, ⊎_elim, inl, inr, sym, ap, subst, ◌∙◌, ℕ, ◌+◌, ◌<◌, List, [], ◌∷◌, length, take, drop, get_or, arith, T}
use Rattle.std.specs.List.{AllByRecursion}
use Rattle.alt_rowblocks.specs.Format.{Entry, Mark, block_bytes, IsHeldBlock, front, rows_of}
use Rattle.alt_rowfile.specs.InHand.{FileAs, ReadsAsRowFile, block_count, file_of}
use Rattle.alt_rowblocks.specs.Pieces.{ReadIs, ReadsOnce}
use Rattle.alt_rowfile.specs.Reading.{ReadsAtMostABlock, place_of_block, length_of_block}
use Rattle.alt_rowfile.specs.declared.rowfile.RowFile.{RowFile}
use Rattle.alt_rowblocks.specs.Loading.{place_at, next_place, LoadedAt}
use Rattle.alt_filter.specs.declared.filter.Filter.{Filter}
use Rattle.alt_rowblocks.specs.declared.summary.Summary.{Summary}
use Rattle.alt_fields.proofs.Apart.{all_back}
use Rattle.alt_cells.specs.Keys.{key_cmp}
use Rattle.alt_disk.specs.Disk.{DiskState, contents, bytes_or_none}
use Rattle.std.specs.FinMap.Entries.{is_sorted}
use Rattle.alt_rowblocks.proofs.PlaceLaws.{split_at, length-marks, place_is, next_is, block_there, all_at}

-- at the place that its mark tells, up to the next one, stands a block
pub loaded_at : {summary : Summary} {filters : List Filter} (bytes : List ℕ) (marks : List Mark)
    (end i : ℕ) (rows : List Entry)
    (is : FileAs bytes marks end summary filters rows) → i < length marks
    → LoadedAt bytes marks end i (get_or is.blocks i [])
loaded_at bytes marks end i rows is less =
    let s = split_at is.blocks i
    (omega (arith, less, ap length is.marks_are, length-marks 8 is.blocks)) in
    let place : place_at marks i ≡ length (front s.before) =
    ap (λ (m : List Mark). place_at m i) is.marks_are
    ∙ place_is is.blocks i s.before s.here s.behind s.is s.size in
    let next : next_place marks end i ≡ length (front s.before) + length (block_bytes s.here) =
    ap (λ (m : List Mark). next_place m end i) is.marks_are
    ∙ next_is is.blocks i end s.before s.here s.behind s.is s.size is.end_is in
    subst (LoadedAt bytes marks end i) (sym s.at) (record {
      size = omega (arith, place, next);
      there = ap (λ (n : ℕ). take (length (block_bytes s.here)) (drop n bytes)) place
          ∙ block_there bytes is.blocks s.before s.here s.behind is.file s.is;
      held = (all_back IsHeldBlock s.before (s.here ∷ s.behind)
          (subst (AllByRecursion IsHeldBlock) s.is is.file.held)).0;
      rising = all_at s.before s.here s.behind
          (subst (λ (l : List (List Entry)). T (is_sorted key_cmp (rows_of l)))
          s.is is.file.rising);
    })

-- ---- the block of a file in hand

module _ {summary : Summary} {filters : List Filter} (s : DiskState) (f : ℕ) (marks : List Mark)
    (end i : ℕ)
    (rows : List Entry) (reads : ReadsAsRowFile s f marks end summary filters rows)
    (less : i < length marks) where
  -- the block at hand
  abbrev pub here : List Entry
  here = get_or reads.as_file.blocks i []

  -- it stands at its place
  pub at_place : LoadedAt (contents s f) marks end i here
  at_place = subst (λ o. LoadedAt (bytes_or_none o) marks end i here) (sym reads.there)
      (loaded_at reads.bytes marks end i rows reads.as_file less)

-- a read from its place on, of its length, is of a block
pub asked : (s t : DiskState) (file : RowFile) (i at n : ℕ) → i < block_count file
    → at ≡ place_of_block file i → n ≡ length_of_block file i → ReadsOnce s t (file_of file) at n
    → ReadsAtMostABlock s t file
asked s t file i at n within is_at is_n one = ⊎_elim (λ none. inl none)
    (λ read. inr (record {
      block = i;
      within = within;
      read = subst (λ (p : ℕ). ReadIs s t (file_of file) p (length_of_block file i)) is_at
          (subst (λ (k : ℕ). ReadIs s t (file_of file) at k) is_n read);
    })) one
