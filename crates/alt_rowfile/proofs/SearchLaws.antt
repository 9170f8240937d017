-- A key is in the last block that begins at or below it, or nowhere.
use Rattle.std.proofs.Common.{◌≡◌, sym, ap, subst, ◌∙◌, ℕ, ◌+◌, List, [], ◌∷◌, ◌++◌, length, get_or, None, T, true, false, arith, append_assoc, length-append}
use Rattle.std.specs.Ordering.{is_gt}
use Rattle.std.specs.FinMap.Entries.{find, is_sorted}
use Rattle.alt_cells.specs.Keys.{key_cmp}
use Rattle.alt_rowblocks.specs.Format.{Entry, Mark, rows_of, first_key, IsBlock, AreBlocks}
use Rattle.alt_rowfile.specs.InHand.{FileAs}
use Rattle.alt_rowblocks.specs.Searching.{key_at, EndsAt}
use Rattle.alt_filter.specs.declared.filter.Filter.{Filter}
use Rattle.alt_rowblocks.specs.declared.summary.Summary.{Summary}
use Rattle.alt_rowblocks.proofs.BlockRuns.{block_within}
use Rattle.alt_rowblocks.proofs.PlaceLaws.{split_at, length-marks}
use Rattle.alt_rowblocks.proofs.SearchLaws.{key_is, none_behind, in_block, cut_behind}

-- the block at which a key is: it begins at or below the key, and those behind it above
pub record AtBlock (blocks : List (List Entry)) (i : ℕ) (q : List ℕ) : Type 0 where
  pub before : List (List Entry)
  pub here : List Entry
  pub behind : List (List Entry)
  pub is : blocks ≡ before ++ here ∷ behind
  pub size : length before ≡ i
  pub at : get_or blocks i [] ≡ here
  pub block : IsBlock here
  pub cut : AreBlocks behind
  pub rising : T (is_sorted key_cmp (rows_of (before ++ here ∷ behind)))
  pub low : is_gt (key_cmp (first_key here) q) ≡ false
  pub high : (y : List Entry) (more : List (List Entry)) → behind ≡ y ∷ more
      → is_gt (key_cmp (first_key y) q) ≡ true

-- where the search ended, the key is in the block before, or nowhere
pub at_block : {summary : Summary} {filters : List Filter} (bytes : List ℕ) (marks : List Mark)
    (end n i : ℕ) (rows : List Entry)
    (is : FileAs bytes marks end summary filters rows) (q : List ℕ) → EndsAt marks q n → n ≡ i + 1
    → AtBlock is.blocks i q
at_block bytes marks end n i rows is q ends place =
    let size : length marks ≡ length is.blocks = ap length is.marks_are
    ∙ length-marks 8 is.blocks in
    let s = split_at is.blocks i (omega (arith, ends.within, place, size)) in
    let low : is_gt (key_cmp (first_key s.here) q) ≡ false =
    ap (λ (k : List ℕ). is_gt (key_cmp k q))
    (sym (ap (λ (m : List Mark). key_at m i) is.marks_are
    ∙ key_is is.blocks i s.before s.here s.behind s.is s.size)) ∙ ends.low i place in
    let high : (y : List Entry) (more : List (List Entry)) → s.behind ≡ y ∷ more
    → is_gt (key_cmp (first_key y) q) ≡ true = λ y more same.
    let split : is.blocks ≡ (s.before ++ s.here ∷ []) ++ y ∷ more = s.is
    ∙ ap (λ (l : List (List Entry)). s.before ++ s.here ∷ l) same
    ∙ sym (append_assoc s.before (s.here ∷ []) (y ∷ more)) in
    let count : length (s.before ++ s.here ∷ []) ≡ n =
    omega (arith, length-append s.before (s.here ∷ []), s.size, place) in
    ap (λ (k : List ℕ). is_gt (key_cmp k q))
    (sym (ap (λ (m : List Mark). key_at m n) is.marks_are
    ∙ key_is is.blocks n (s.before ++ s.here ∷ []) y more split count))
    ∙ ends.high (omega
    (arith, size, ap length split, length-append (s.before ++ s.here ∷ []) (y ∷ more), count))
    in
    let cut : AreBlocks (s.before ++ s.here ∷ s.behind) = subst AreBlocks s.is is.file.cut in
    record {
      before = s.before;
      here = s.here;
      behind = s.behind;
      is = s.is;
      size = s.size;
      at = s.at;
      block = block_within s.before s.here s.behind cut;
      cut = cut_behind (s.here ∷ []) s.behind (cut_behind s.before (s.here ∷ s.behind) cut);
      rising = subst
          (λ (l : List (List Entry)). T (is_sorted key_cmp (rows_of l))) s.is is.file.rising;
      low = low;
      high = high;
    }

-- so a look into that block is one into the whole
pub found_in : {summary : Summary} {filters : List Filter} (bytes : List ℕ) (marks : List Mark)
    (end n i : ℕ) (rows : List Entry)
    (is : FileAs bytes marks end summary filters rows) (q : List ℕ) → EndsAt marks q n → n ≡ i + 1
    → find key_cmp q rows ≡ find key_cmp q (get_or is.blocks i [])
found_in bytes marks end n i rows is q ends place =
    let at = at_block bytes marks end n i rows is q ends place in
    ap (find key_cmp q) is.are ∙ ap (λ (l : List (List Entry)). find key_cmp q (rows_of l)) at.is
    ∙ in_block at.before at.here at.behind q at.block at.cut at.rising at.low at.high
    ∙ ap (find key_cmp q) (sym at.at)

-- where no block begins at or below the key, all begin above it
pub above_first : {summary : Summary} {filters : List Filter} (bytes : List ℕ) (marks : List Mark)
    (end n : ℕ) (rows : List Entry)
    (is : FileAs bytes marks end summary filters rows) (q : List ℕ) → EndsAt marks q n → n ≡ 0
    → (y : List Entry) (more : List (List Entry)) → is.blocks ≡ y ∷ more
    → is_gt (key_cmp (first_key y) q) ≡ true
above_first bytes marks end n rows is q ends none y more same =
    ap (λ (k : List ℕ). is_gt (key_cmp k q))
    (sym (ap (λ (m : List Mark). key_at m n) is.marks_are
    ∙ key_is is.blocks n [] y more same (sym none)))
    ∙ ends.high (omega
    (arith, none, ap length is.marks_are, length-marks 8 is.blocks, ap length same))

-- and there is nothing at the key
pub found_nowhere : {summary : Summary} {filters : List Filter} (bytes : List ℕ)
    (marks : List Mark) (end n : ℕ) (rows : List Entry)
    (is : FileAs bytes marks end summary filters rows) (q : List ℕ) → EndsAt marks q n → n ≡ 0
    → find key_cmp q rows ≡ None
found_nowhere bytes marks end n rows is q ends none =
    ap (find key_cmp q) is.are
    ∙ none_behind is.blocks q is.file.cut is.file.rising
    (above_first bytes marks end n rows is q ends none)
