-- Blocks read one behind another.
use Rattle.std.proofs.Common.{◌≡◌, refl, sym, ap, subst, ◌∙◌, ℕ, ◌+◌, ◌-◌, ◌<◌, ◌≤◌, ◌^◌, List, [], ◌∷◌, ◌++◌, length, Option, Some, None, T, arith, length-append, true, false, Bool, ◌⊎◌, inl, inr, ◌==◌}
use Rattle.std.specs.List.{AllByRecursion, flat_map}
use Rattle.std.specs.FinMap.Entries.{is_sorted}
use Rattle.std.proofs.lemmas.List.{append-nil}
use Rattle.std.proofs.lemmas.Grind.{flat_map-append}
use Rattle.alt_base.proofs.Numbers.{above_zero_is_told, above_zero_from_test}
use Rattle.alt_fields.specs.Field.{field}
use Rattle.alt_cells.specs.Keys.{key_cmp}
use Rattle.alt_cells.proofs.CellLaws.{key_total}
use Rattle.alt_cells.proofs.Rising.{sorted_front}
use Rattle.alt_fields.proofs.Apart.{field-apart, all_append, all_back, flat_map_snoc}
use Rattle.alt_rowblocks.specs.Format.{Entry, Mark, row_entry_bytes, rows_bytes, block_bytes, front, rows_of, first_key, marks_from, IsBlock, IsFull, AreBlocks, IsHeldBlock}
use Rattle.alt_filter.specs.declared.filter.Filter.{Filter}
use Rattle.alt_rowblocks.specs.Filtering.{AreFilters}
use Rattle.alt_rowblocks.specs.Blocks.{IsAbove, BeginsWithNextBlock, IsNextBlock, IsReadBlock, AreBlocksOf, IsFoundAs}
use Rattle.alt_rowblocks.specs.Summaries.{joined_summary, last_key, summary_of}
use Rattle.alt_rowblocks.specs.declared.summary.Summary.{Summary}
use Rattle.alt_rowblocks.proofs.FilterLaws.{filters-push}
use Rattle.alt_rowblocks.proofs.SummaryLaws.{summary-append}
use Rattle.alt_rowblocks.proofs.OneFile.{block-apart, block_some, length-block, length-entry}
use Rattle.alt_rowblocks.proofs.PushLaws.{rows_of-push, front-push, length-front, marks-push}
use Rattle.alt_rowblocks.proofs.DecodeLaws.{rest_of}
use Rattle.alt_rowblocks.proofs.BlockLaws.{last_key-append, sorted_join, above_join, sorted_back, no_block}

-- the rows of blocks behind others stand behind those of the others
pub rows_of-append : (xs ys : List (List Entry)) → rows_of (xs ++ ys) ≡ rows_of xs ++ rows_of ys
rows_of-append xs ys = flat_map-append (λ (b : List Entry). b) xs ys

-- The blocks so far, of bytes of which some are left.
pub record BlocksSoFar (bytes rest : List ℕ) (at : ℕ) (after : Option (List ℕ)) (marks : List Mark)
    (rows : ℕ) (summary : Summary) (filters : List Filter) : Type 0 where
  pub blocks : List (List Entry)
  pub is : bytes ≡ flat_map block_bytes blocks ++ rest
  pub each : AllByRecursion IsBlock blocks
  pub full : 0 < length rest → AllByRecursion IsFull blocks
  pub cut : AreBlocks blocks
  pub held : AllByRecursion IsHeldBlock blocks
  pub rising : T (is_sorted key_cmp (rows_of blocks))
  pub at_is : at ≡ length (front blocks)
  pub after_is : after ≡ last_key (rows_of blocks)
  pub found : IsFoundAs marks rows summary filters blocks

-- a block has a first row
pub block_key : (b : List Entry) → IsBlock b → (e : Entry) × (es : List Entry) × (b ≡ e ∷ es)
block_key [] is = absurd (no_block [] is refl)
block_key (e ∷ es) is = (e, es, refl)

-- a block behind full ones leaves them cut as blocks have to be
pub cut_push : (blocks : List (List Entry)) (b : List Entry) → AllByRecursion IsBlock blocks
    → AllByRecursion IsFull blocks → IsBlock b → AreBlocks (blocks ++ b ∷ [])
cut_push [] b each full is = is
cut_push (x ∷ []) b each full is = (each.0, full.0, is)
cut_push (x ∷ y ∷ blocks) b each full is =
    (each.0, full.0, cut_push (y ∷ blocks) b each.1 full.1 is)

-- a block of a file's blocks
pub block_within : (blocks : List (List Entry)) (b : List Entry) (more : List (List Entry))
    → AreBlocks (blocks ++ b ∷ more) → IsBlock b
block_within [] b [] cut = cut
block_within [] b (c ∷ more) cut = cut.0
block_within (x ∷ []) b more cut = block_within [] b more cut.2
block_within (x ∷ y ∷ blocks) b more cut = block_within (y ∷ blocks) b more cut.2

-- a block with another behind it is full
pub full_within : (blocks : List (List Entry)) (b c : List Entry) (more : List (List Entry))
    → AreBlocks (blocks ++ b ∷ c ∷ more) → IsFull b
full_within [] b c more cut = cut.1
full_within (x ∷ []) b c more cut = full_within [] b c more cut.2
full_within (x ∷ y ∷ blocks) b c more cut = full_within (y ∷ blocks) b c more cut.2

-- of two cases, the first holds where the second doesn't
pub full_from : {P : Type 0} (b : Bool) → ((b ≡ false) × P) ⊎ (b ≡ true) → b ≡ false → P
full_from b (inl p) is = p.1
full_from b (inr other) is = absurd (let f : true ≡ false = sym other ∙ is in cc f)

-- a block with its length
pub next_whole : (after : Option (List ℕ)) (is_last : Bool) (bytes block behind : List ℕ)
    (b : List Entry) → is_last ≡ (length behind == 0) → bytes ≡ field block ++ behind
    → IsNextBlock after is_last block b → BeginsWithNextBlock after bytes behind b
unfolding block_bytes
next_whole after is_last bytes block behind b last is n = record {
  block = n.block;
  full = λ some. n.full (last ∙ above_zero_is_told (length behind) some);
  held = n.held;
  rising = n.rising;
  above = n.above;
  is = is ∙ ap (λ (l : List ℕ). field l ++ behind) n.is;
}

-- where a field holds no block, no block is next
pub no_next_block : (after : Option (List ℕ)) (is_last : Bool) (bytes block behind : List ℕ)
    → is_last ≡ (length behind == 0) → length block < 2 ^ 64 → bytes ≡ field block ++ behind
    → ((b : List Entry) → IsNextBlock after is_last block b → ⊥) → (b : List Entry) (x : List ℕ)
    → BeginsWithNextBlock after bytes x b → ⊥
unfolding block_bytes
no_next_block after is_last bytes block behind last small is none b x n =
    let same = field-apart block (rows_bytes b) behind x small n.held.1 (sym is ∙ n.is) in
    none b (record {
      block = n.block;
      full = λ not_last. n.full
          (omega (
            arith,
            above_zero_from_test (length behind) (sym not_last ∙ last),
            ap length same.1,
          ));
      held = n.held;
      rising = n.rising;
      above = n.above;
      is = same.0;
    })

-- where there is no field, no block is next
pub no_next_field : (after : Option (List ℕ)) (bytes : List ℕ)
    → ((s x : List ℕ) → length s < 2 ^ 64 → bytes ≡ field s ++ x → ⊥)
    → (b : List Entry) (x : List ℕ) → BeginsWithNextBlock after bytes x b → ⊥
unfolding block_bytes
no_next_field after bytes none b x n = none (rows_bytes b) x n.held.1 n.is

-- how many rows blocks have at most
pub rows_few : (rows : List Entry) → length rows ≤ length (rows_bytes rows)
rows_few [] = omega arith
rows_few (e ∷ rows) =
    omega (arith, rows_few rows, length-append (row_entry_bytes e) (rows_bytes rows), length-entry e)

-- blocks have no more rows than bytes
pub blocks_few : (blocks : List (List Entry))
    → length (rows_of blocks) ≤ length (flat_map block_bytes blocks)
blocks_few [] = omega arith
blocks_few (b ∷ blocks) =
    omega (
      arith,
      blocks_few blocks,
      rows_few b,
      length-block b,
      length-append b (rows_of blocks),
      length-append (block_bytes b) (flat_map block_bytes blocks),
    )

-- before the first block none was read
pub no_blocks_yet : (bytes : List ℕ) (marks : List Mark) (summary : Summary)
    (filters : List Filter) → marks ≡ [] → summary ≡ summary_of [] → filters ≡ []
    → BlocksSoFar bytes bytes 8 None marks 0 summary filters
unfolding Rattle.alt_rowblocks.specs.Format.row_file_header
no_blocks_yet bytes marks summary filters none told unfiltered = record {
  blocks = [];
  is = refl;
  each = tt;
  full = λ some. tt;
  cut = tt;
  held = tt;
  rising = tt;
  at_is = refl;
  after_is = refl;
  found = record {
    marks_are = none;
    rows_is = refl;
    summary_is = told;
    filters_are = subst (λ (l : List Filter). AreFilters l []) (sym unfiltered) tt;
  };
}

-- one block more
pub one_block_more : (bytes rest behind : List ℕ) (at next : ℕ) (after : Option (List ℕ))
    (marks new : List Mark) (rows count : ℕ) (summary more joint : Summary)
    (filters new_filters : List Filter) (filter : Filter) (first last : List ℕ)
    (b : List Entry) → BlocksSoFar bytes rest at after marks rows summary filters
    → 0 < length rest → BeginsWithNextBlock after rest behind b → IsReadBlock first last count more filter b
    → next ≡ at + (length rest - length behind) → new ≡ marks ++ (at, first) ∷ []
    → joint ≡ joined_summary summary more → new_filters ≡ filters ++ filter ∷ []
    → BlocksSoFar bytes behind next (Some last) new (rows + count) joint new_filters
one_block_more bytes rest behind at next after marks new rows count summary more joint filters
    new_filters filter first last b so_far some n r place added told filtered =
    let key = block_key b n.block in
    let joined_rows : rows_of (so_far.blocks ++ b ∷ []) ≡ rows_of so_far.blocks ++ b =
    rows_of-push so_far.blocks b in
    let full = so_far.full some in
    let size : length rest ≡ length (block_bytes b) + length behind = ap length n.is
    ∙ length-append (block_bytes b) behind in
    record {
      blocks = so_far.blocks ++ b ∷ [];
      is = so_far.is ∙ ap (λ (l : List ℕ). flat_map block_bytes so_far.blocks ++ l) n.is
          ∙ flat_map_snoc block_bytes IsHeldBlock so_far.blocks b behind;
      each = all_append IsBlock so_far.blocks (b ∷ []) so_far.each (n.block, tt);
      full = λ more. all_append IsFull so_far.blocks (b ∷ []) full (n.full more, tt);
      cut = cut_push so_far.blocks b so_far.each full n.block;
      held = all_append IsHeldBlock so_far.blocks (b ∷ []) so_far.held (n.held, tt);
      rising = subst (λ (l : List Entry). T (is_sorted key_cmp l)) (sym joined_rows)
          (rises so_far.rising n.rising
          (subst (λ (k : Option (List ℕ)). IsAbove k (first_key b)) so_far.after_is n.above)
          key.0 key.1 key.2);
      at_is = omega (
        arith,
        place,
        size,
        so_far.at_is,
        ap length (front-push so_far.blocks b),
        length-append (front so_far.blocks) (block_bytes b),
      );
      after_is = r.last_is ∙ lasts key.0 key.1 key.2 ∙ ap last_key (sym joined_rows);
      found = record {
        marks_are = added ∙ (λ i. so_far.found.marks_are i ++ (so_far.at_is i, r.first_is i) ∷ [])
            ∙ ap (λ (k : ℕ). marks_from 8 so_far.blocks ++ (k, first_key b) ∷ [])
            (length-front so_far.blocks) ∙ sym (marks-push 8 so_far.blocks b);
        rows_is = omega (
          arith,
          so_far.found.rows_is,
          r.rows_is,
          ap length joined_rows,
          length-append (rows_of so_far.blocks) b,
        );
        summary_is = told ∙ (λ i. joined_summary (so_far.found.summary_is i) (r.summary_is i))
            ∙ sym (summary-append (rows_of so_far.blocks) b) ∙ ap summary_of (sym joined_rows);
        filters_are = subst (λ (l : List Filter). AreFilters l (so_far.blocks ++ b ∷ []))
            (sym filtered)
            (filters-push filters so_far.blocks filter b so_far.found.filters_are r.filter_is);
      };
    }
  where
    rises : T (is_sorted key_cmp (rows_of so_far.blocks)) → T (is_sorted key_cmp b)
        → IsAbove (last_key (rows_of so_far.blocks)) (first_key b) → (e : Entry) (es : List Entry)
        → b ≡ e ∷ es → T (is_sorted key_cmp (rows_of so_far.blocks ++ b))
    rises h k above e es same =
        subst (λ (l : List Entry). T (is_sorted key_cmp (rows_of so_far.blocks ++ l))) (sym same)
        (sorted_join (rows_of so_far.blocks) e es h
        (subst (λ (l : List Entry). T (is_sorted key_cmp l)) same k)
        (subst (λ (l : List Entry). IsAbove (last_key (rows_of so_far.blocks)) (first_key l))
        same above))

    lasts : (e : Entry) (es : List Entry) → b ≡ e ∷ es
        → last_key b ≡ last_key (rows_of so_far.blocks ++ b)
    lasts e es same = ap last_key same ∙ sym (last_key-append (rows_of so_far.blocks) e es)
        ∙ ap (λ (l : List Entry). last_key (rows_of so_far.blocks ++ l)) (sym same)

-- no block that could be the next, no blocks
pub no_more_blocks : {summary : Summary} {filters : List Filter} (bytes rest : List ℕ) (at : ℕ) (after : Option (List ℕ)) (marks : List Mark)
    (rows : ℕ) → BlocksSoFar bytes rest at after marks rows summary filters → 0 < length rest
    → ((b : List Entry) (behind : List ℕ) → BeginsWithNextBlock after rest behind b → ⊥)
    → (blocks : List (List Entry)) → AreBlocksOf blocks bytes → ⊥
no_more_blocks bytes rest at after marks rows so_far some none blocks are =
    let r = rest_of block_bytes IsHeldBlock block-apart block_some so_far.blocks blocks rest
    so_far.held are.held (sym so_far.is ∙ are.is) in
    refute r.0 r.2 (subst AreBlocks r.1 are.cut)
    (subst (λ (l : List (List Entry)). T (is_sorted key_cmp (rows_of l))) r.1 are.rising)
    (subst (AllByRecursion IsHeldBlock) r.1 are.held)
  where
    is_full : (b : List Entry) (more : List (List Entry)) → AreBlocks (so_far.blocks ++ b ∷ more)
        → 0 < length (flat_map block_bytes more) → IsFull b
    is_full b [] cut some = absurd (omega (arith, some))
    is_full b (c ∷ more) cut some = full_within so_far.blocks b c more cut

    refute : (more : List (List Entry)) → rest ≡ flat_map block_bytes more
        → AreBlocks (so_far.blocks ++ more)
        → T (is_sorted key_cmp (rows_of (so_far.blocks ++ more)))
        → AllByRecursion IsHeldBlock (so_far.blocks ++ more) → ⊥
    refute [] same cut rising held = omega (arith, some, ap length same)
    refute (b ∷ more) same cut rising held =
        let block = block_within so_far.blocks b more cut in
        let key = block_key b block in
        let whole : T (is_sorted key_cmp (rows_of so_far.blocks ++ (b ++ rows_of more))) =
        subst (λ (l : List Entry). T (is_sorted key_cmp l))
        (rows_of-append so_far.blocks (b ∷ more)) rising in
        let opened : T
        (is_sorted key_cmp (rows_of so_far.blocks ++ (key.0 ∷ (key.1 ++ rows_of more)))) =
        subst (λ (l : List Entry). T
        (is_sorted key_cmp (rows_of so_far.blocks ++ (l ++ rows_of more)))) key.2 whole in
        none b (flat_map block_bytes more) (record {
          block = block;
          full = λ some. is_full b more cut some;
          held = (all_back IsHeldBlock so_far.blocks (b ∷ more) held).0;
          rising = sorted_front key_cmp key_total b (rows_of more)
              (sorted_back (rows_of so_far.blocks) (b ++ rows_of more) whole);
          above = subst (λ (k : Option (List ℕ)). IsAbove k (first_key b)) (sym so_far.after_is)
              (subst (λ (l : List Entry). IsAbove (last_key (rows_of so_far.blocks)) (first_key l))
              (sym key.2) (above_join (rows_of so_far.blocks) key.0
              (key.1 ++ rows_of more) opened));
          is = same;
        })

-- all were read
pub blocks_read : {summary : Summary} {filters : List Filter} (bytes rest : List ℕ) (at : ℕ) (after : Option (List ℕ)) (marks : List Mark)
    (rows : ℕ) → BlocksSoFar bytes rest at after marks rows summary filters → length rest ≡ 0
    → (blocks : List (List Entry)) × AreBlocksOf blocks bytes
    × IsFoundAs marks rows summary filters blocks
blocks_read bytes rest at after marks rows so_far none = (
  so_far.blocks,
  record {
    cut = so_far.cut;
    rising = so_far.rising;
    held = so_far.held;
    is = so_far.is
        ∙ ap (λ (l : List ℕ). flat_map block_bytes so_far.blocks ++ l) (nil rest none)
        ∙ append-nil (flat_map block_bytes so_far.blocks);
  },
  so_far.found,
)
  where
    nil : (l : List ℕ) → length l ≡ 0 → l ≡ []
    nil [] e = refl
    nil (x ∷ l) e = absurd (omega (arith, e))

-- the counts stay within the bytes
pub counts_fit : {summary more : Summary} {filters : List Filter} {filter : Filter} (bytes rest behind : List ℕ) (at : ℕ) (after : Option (List ℕ)) (marks : List Mark)
    (rows count : ℕ) (first last : List ℕ) (b : List Entry)
    → BlocksSoFar bytes rest at after marks rows summary filters
    → BeginsWithNextBlock after rest behind b → IsReadBlock first last count more filter b → (rows + count ≤ length bytes)
    × (at + (length rest - length behind) ≤ 8 + length bytes) × (length behind < length rest)
counts_fit bytes rest behind at after marks rows count first last b so_far n r =
    let size : length rest ≡ length (block_bytes b) + length behind = ap length n.is
    ∙ length-append (block_bytes b) behind in
    let whole : length bytes ≡ length (flat_map block_bytes so_far.blocks) + length rest =
    ap length so_far.is ∙ length-append (flat_map block_bytes so_far.blocks) rest in (
      omega (
        arith,
        size,
        whole,
        so_far.found.rows_is,
        r.rows_is,
        blocks_few so_far.blocks,
        rows_few b,
        length-block b,
      ),
      omega (arith, size, whole, so_far.at_is, length-front so_far.blocks),
      omega (arith, size, length-block b),
    )
