-- A key cuts a sorted list in two, and so does the block at which it is.
use Rattle.std.proofs.Common.{◌≡◌, ◌≢◌, refl, sym, ap, subst, ◌∙◌, ℕ, ◌+◌, List, [], ◌∷◌, ◌++◌, length, take, drop, get_or, reverse, Some, None, T, true, false, Bool, arith, append_assoc, length-append}
use Rattle.std.specs.Prelude.{cond, not, ◌&&◌}
use Rattle.std.specs.List.{AllByRecursion, filter}
use Rattle.std.specs.declared.cmp.Ordering.{Ordering}
use Rattle.std.specs.declared.cmp.Ordering.TheVariants.{Less, Equal, Greater}
use Rattle.std.specs.declared.ops.Bound.TheVariants.{Included, Excluded, Unbounded}
use Rattle.std.specs.Ordering.{is_gt, is_le, ordering_reverse}
use Rattle.std.specs.BTreeMap.Range.{range_contains}
use Rattle.std.specs.FinMap.Entries.{is_sorted}
use Rattle.std.proofs.lemmas.List.{take_at, drop_at, reverse-append, append-nil, take_all}
use Rattle.std.proofs.lemmas.List.Elements.{filter-append}
use Rattle.alt_fields.proofs.Apart.{all_append}
use Rattle.alt_disk.specs.Disk.{DiskState}
use Rattle.alt_cells.specs.Keys.{key_cmp}
use Rattle.alt_cells.proofs.CellLaws.{key_total}
use Rattle.alt_rowblocks.specs.Format.{Entry, rows_of, first_key, AreBlocks, IsHeldEntry}
use Rattle.alt_rowfile.specs.InHand.{ReadsRows}
use Rattle.alt_rowblocks.specs.Cut.{IsBelowKey, IsFromKey}
use Rattle.alt_rowblocks.specs.Searching.{EndsAt}
use Rattle.alt_rowblocks.specs.Holding.{IsCutBlock, IsInHand}
use Rattle.alt_rowfile.specs.Walking.{list_from, LeftAs, RowsAreLeft}
use Rattle.alt_rowblocks.specs.declared.hand.Hand.{Hand}
use Rattle.alt_rowfile.specs.declared.rowfile.RowFile.{RowFile}
use Rattle.alt_rowblocks.proofs.BlockLaws.{sorted_back}
use Rattle.alt_rowblocks.proofs.BlockRuns.{rows_of-append, block_key}
use Rattle.alt_rowfile.proofs.SearchLaws.{above_first, AtBlock, at_block}
use Rattle.alt_rowblocks.proofs.CutLaws.{below_front, from_first}
use Rattle.alt_rowblocks.proofs.HandLaws.{from_cut, cut_in_hand}
use Rattle.alt_rowfile.proofs.WalkLaws.{reads_at, count_blocks}

-- ---- what passes a test

module _ {A : Type 0} (p : A → Bool) where
  -- where each passes, all stay
  pub filter_all : (xs : List A) → AllByRecursion (λ x. p x ≡ true) xs → filter p xs ≡ xs
  filter_all [] h = refl
  filter_all (x ∷ xs) h =
      ap (λ b. cond b (x ∷ filter p xs) (filter p xs)) h.0 ∙ ap (λ l. x ∷ l) (filter_all xs h.1)

  -- and where none does, none
  pub filter_none : (xs : List A) → AllByRecursion (λ x. p x ≡ false) xs → filter p xs ≡ []
  filter_none [] h = refl
  filter_none (x ∷ xs) h =
      ap (λ b. cond b (x ∷ filter p xs) (filter p xs)) h.0 ∙ filter_none xs h.1

  -- so a list in two such parts is cut
  pub filter_back : (xs ys : List A) → AllByRecursion (λ x. p x ≡ false) xs
      → AllByRecursion (λ x. p x ≡ true) ys
      → filter p (xs ++ ys) ≡ ys
  filter_back xs ys h k = filter-append p xs ys ∙ (λ i. filter_none xs h i ++ filter_all ys k i)

  -- where the test holds of all of a front and of none behind it, what passes is the front
  pub filter_front : (xs ys : List A) → AllByRecursion (λ x. p x ≡ true) xs
      → AllByRecursion (λ x. p x ≡ false) ys
      → filter p (xs ++ ys) ≡ xs
  filter_front xs ys h k =
      filter-append p xs ys ∙ (λ i. filter_all xs h i ++ filter_none ys k i) ∙ append-nil xs

-- what holds of each, where more is known of each
pub all_leads : {A : Type 0} (P Q : A → Type 0) → ((x : A) → P x → Q x) → (xs : List A)
    → AllByRecursion P xs → AllByRecursion Q xs
all_leads P Q leads [] h = tt
all_leads P Q leads (x ∷ xs) h = (leads x h.0, all_leads P Q leads xs h.1)

-- ---- the ranges of a walk

le_turned : (r : Ordering) → r ≢ Less → is_le (ordering_reverse r) ≡ true
le_turned Less n = absurd (n refl)
le_turned Equal n = refl
le_turned Greater n = refl

not_le_turned : (r : Ordering) → r ≡ Less → is_le (ordering_reverse r) ≡ false
not_le_turned Less e = refl
not_le_turned Equal e = absurd (cc e)
not_le_turned Greater e = absurd (cc e)

module _ (key : List ℕ) where
  from_le : (e : Entry) → IsFromKey key e → is_le (key_cmp key e.0) ≡ true
  from_le e h = ap is_le (key_total.antisymm key e.0) ∙ le_turned (key_cmp e.0 key) h

  below_le : (e : Entry) → IsBelowKey key e → is_le (key_cmp key e.0) ≡ false
  below_le e h = ap is_le (key_total.antisymm key e.0) ∙ not_le_turned (key_cmp e.0 key) h

  -- forward from a key are the rows that aren't below it
  pub cut_forward : (front back : List Entry) → AllByRecursion (IsBelowKey key) front
      → AllByRecursion (IsFromKey key) back
      → list_from (front ++ back) (Some key) true ≡ back
  cut_forward front back h k =
      let p = λ (e : Entry). range_contains key_cmp (Included key) Unbounded e.0 in
      filter_back p front back
      (all_leads (IsBelowKey key) (λ e. p e ≡ false)
      (λ e b. ap (λ t. t && not false) (below_le e b)) front h)
      (all_leads (IsFromKey key) (λ e. p e ≡ true)
      (λ e b. ap (λ t. t && not false) (from_le e b)) back k)

  -- and backward the rows below it
  pub cut_backward : (front back : List Entry) → AllByRecursion (IsBelowKey key) front
      → AllByRecursion (IsFromKey key) back
      → list_from (front ++ back) (Some key) false ≡ reverse front
  cut_backward front back h k =
      let p = λ (e : Entry). range_contains key_cmp Unbounded (Excluded key) e.0 in
      ap reverse (filter_front p front back
      (all_leads (IsBelowKey key) (λ e. p e ≡ true)
      (λ e b. ap (λ t. true && not t) (below_le e b)) front h)
      (all_leads (IsFromKey key) (λ e. p e ≡ false)
      (λ e b. ap (λ t. true && not t) (from_le e b)) back k))

-- with no bounds each row is in the range
all_true : (es : List Entry)
    → AllByRecursion (λ e. range_contains key_cmp Unbounded Unbounded e.0 ≡ true) es
all_true [] = tt
all_true (e ∷ es) = (refl, all_true es)

-- with no key all rows are
pub all_forward : (es : List Entry) → list_from es None true ≡ es
all_forward es =
    filter_all (λ (e : Entry). range_contains key_cmp Unbounded Unbounded e.0) es (all_true es)

-- with no key all rows are given, from the last to the first
pub all_backward : (es : List Entry) → list_from es None false ≡ reverse es
all_backward es =
    ap reverse (filter_all (λ (e : Entry). range_contains key_cmp Unbounded Unbounded e.0) es
    (all_true es))

-- ---- rows below a key, and from it on

module _ (key : List ℕ) where
  not_lower : (r : Ordering) → is_gt r ≡ true → r ≢ Less
  not_lower Less up e = absurd (let f : false ≡ true = up in cc f)
  not_lower Equal up e = cc e
  not_lower Greater up e = cc e

  -- blocks that begin above the key aren't below it
  pub from_blocks : (ys : List (List Entry)) → AreBlocks ys → T (is_sorted key_cmp (rows_of ys))
      → ((y : List Entry) (more : List (List Entry)) → ys ≡ y ∷ more
      → is_gt (key_cmp (first_key y) key) ≡ true)
      → AllByRecursion (IsFromKey key) (rows_of ys)
  from_blocks [] cut h up = tt
  from_blocks (y ∷ ys) cut h up =
      let k = block_key y (Rattle.alt_rowblocks.proofs.BlockRuns.block_within [] y ys cut) in
      let same : rows_of (y ∷ ys) ≡ k.0 ∷ (k.1 ++ rows_of ys) =
      ap (λ (l : List Entry). l ++ rows_of ys) k.2 in
      let above : is_gt (key_cmp k.0.0 key) ≡ true =
      subst (λ (l : List Entry). is_gt (key_cmp (first_key l) key) ≡ true) k.2 (up y ys refl) in
      subst (AllByRecursion (IsFromKey key)) (sym same)
      (from_first key k.0 (k.1 ++ rows_of ys)
      (subst (λ (l : List Entry). T (is_sorted key_cmp l)) same h)
      (not_lower (key_cmp k.0.0 key) above))

  -- the rows of a file in two parts, cut within a block
  pub record InTwo (rows front back : List Entry) : Type 0 where
    pub is : rows ≡ front ++ back
    pub below : AllByRecursion (IsBelowKey key) front
    pub from : AllByRecursion (IsFromKey key) back

  -- where a key cuts a block, it cuts all rows there
  pub cut_block : (blocks : List (List Entry)) (i : ℕ) (at : AtBlock blocks i key)
      → (front back : List Entry) → at.here ≡ front ++ back → AllByRecursion (IsBelowKey key) front
      → AllByRecursion (IsFromKey key) back
      → InTwo (rows_of blocks) (rows_of at.before ++ front) (back ++ rows_of at.behind)
  cut_block blocks i at front back parts below from =
      let b = at.here in
      let k = block_key b at.block in
      let whole : rows_of (at.before ++ b ∷ at.behind) ≡ rows_of at.before
      ++ (b ++ rows_of at.behind) = rows_of-append at.before (b ∷ at.behind) in
      let sorted : T (is_sorted key_cmp (rows_of at.before ++ (b ++ rows_of at.behind))) =
      subst (λ (l : List Entry). T (is_sorted key_cmp l)) whole at.rising in
      let opened : rows_of at.before ++ (b ++ rows_of at.behind) ≡ rows_of at.before ++ k.0
      ∷ (k.1 ++ rows_of at.behind) =
      ap (λ (l : List Entry). rows_of at.before ++ (l ++ rows_of at.behind)) k.2 in
      record {
        is = ap rows_of at.is ∙ whole
            ∙ ap (λ (l : List Entry). rows_of at.before ++ (l ++ rows_of at.behind)) parts
            ∙ regroup (rows_of at.before) front back (rows_of at.behind);
        below = all_append (IsBelowKey key) (rows_of at.before) front
            (below_front key (rows_of at.before) k.0 (k.1 ++ rows_of at.behind)
            (subst (λ (l : List Entry). T (is_sorted key_cmp l)) opened sorted)
            (subst (λ (l : List Entry). is_gt (key_cmp (first_key l) key) ≡ false) k.2 at.low))
            below;
        from = all_append (IsFromKey key) back (rows_of at.behind) from
            (from_blocks at.behind at.cut
            (sorted_back b (rows_of at.behind)
            (sorted_back (rows_of at.before) (b ++ rows_of at.behind) sorted)) at.high);
      }
    where
      regroup : (a x y z : List Entry) → a ++ ((x ++ y) ++ z) ≡ (a ++ x) ++ (y ++ z)
      regroup a x y z = simp append_assoc

-- ---- what is in hand then

drop_behind : (xs : List (List Entry)) (b : List Entry) (ys : List (List Entry)) (n : ℕ)
    → length xs + 1 ≡ n → drop n (xs ++ b ∷ ys) ≡ ys
drop_behind xs b ys n is =
    ap (drop n) (sym (append_assoc xs (b ∷ []) ys))
    ∙ drop_at (xs ++ b ∷ []) ys n (omega (arith, is, length-append xs (b ∷ [])))

module _ (s t : DiskState) (file : RowFile) (key : List ℕ) (rows : List Entry)
    (r : ReadsRows s file rows)
    (same : t.file file.file ≡ s.file file.file)
    (n i : ℕ) (ends : EndsAt file.marks.items key n) (place : n ≡ i + 1) where
  at : AtBlock r.as_file.blocks i key
  at = at_block r.bytes file.marks.items file.end n i rows r.as_file key ends place

  module _ (front back : List Entry) (parts : get_or r.as_file.blocks i [] ≡ front ++ back)
      (below : AllByRecursion (IsBelowKey key) front) (from : AllByRecursion (IsFromKey key) back) where
    two : InTwo key (rows_of r.as_file.blocks) (rows_of at.before ++ front)
        (back ++ rows_of at.behind)
    two = cut_block key r.as_file.blocks i at front back (sym at.at ∙ parts) below from

    -- in a direction the rows of the block from the key on, and the blocks that come then
    pub sought : (forward : Bool) (next : ℕ) → (forward ≡ true → next ≡ n)
        → (forward ≡ false → next ≡ i)
        → LeftAs t file forward next (from_cut forward front back)
        (list_from rows (Some key) forward)
    sought true next up down = record {
      all = rows;
      reads = reads_at s t file.file file.marks.items file.end rows same r;
      within = omega (arith, ends.within, up refl);
      is = ap (λ l. list_from l (Some key) true) (r.as_file.are ∙ two.is)
          ∙ cut_forward key (rows_of at.before ++ front) (back ++ rows_of at.behind) two.below
          two.from
          ∙ ap (λ (l : List (List Entry)). back ++ rows_of l) (sym behind)
          ∙ ap (λ (k : ℕ). back ++ rows_of (drop k r.as_file.blocks)) (sym (up refl));
    }
      where
        behind : drop n r.as_file.blocks ≡ at.behind
        behind = ap (drop n) at.is
            ∙ drop_behind at.before at.here at.behind n (omega (arith, at.size, place))
    sought false next up down = record {
      all = rows;
      reads = reads_at s t file.file file.marks.items file.end rows same r;
      within = omega (arith, ends.within, place, down refl);
      is = ap (λ l. list_from l (Some key) false) (r.as_file.are ∙ two.is)
          ∙ cut_backward key (rows_of at.before ++ front) (back ++ rows_of at.behind) two.below
          two.from
          ∙ reverse-append (rows_of at.before) front
          ∙ ap (λ (l : List (List Entry)). reverse front ++ reverse (rows_of l)) (sym before)
          ∙ ap (λ (k : ℕ). reverse front ++ reverse (rows_of (take k r.as_file.blocks)))
          (sym (down refl));
    }
      where
        before : take i r.as_file.blocks ≡ at.before
        before = ap (take i) at.is ∙ take_at at.before (at.here ∷ at.behind) i at.size

  -- with the block in hand, cut at the key, these are left
  pub sought_in : (hand : Hand) (forward : Bool) (next : ℕ)
      → IsCutBlock hand (Some key) forward (get_or r.as_file.blocks i [])
      → AllByRecursion IsHeldEntry (get_or r.as_file.blocks i [])
      → (forward ≡ true → next ≡ n) → (forward ≡ false → next ≡ i)
      → RowsAreLeft t file forward next hand (list_from rows (Some key) forward)
  sought_in hand forward next c held up down = record {
    held = from_cut forward c.front c.back;
    in_hand = cut_in_hand hand (Some key) forward (get_or r.as_file.blocks i []) c held;
    left = sought c.front c.back c.is c.cut.0 c.cut.1 forward next up down;
  }

-- with nothing in hand what is ahead is left
pub nothing_held : (s : DiskState) (file : RowFile) (forward : Bool) (next : ℕ) (hand : Hand)
    (rows : List Entry) → IsInHand hand forward [] → LeftAs s file forward next [] rows
    → RowsAreLeft s file forward next hand rows
nothing_held s file forward next hand rows h left =
    record { held = []; in_hand = h; left = left }

-- below the first block there is nothing, and all is from there on
module _ (s t : DiskState) (file : RowFile) (key : List ℕ) (rows : List Entry)
    (r : ReadsRows s file rows)
    (same : t.file file.file ≡ s.file file.file)
    (n : ℕ) (ends : EndsAt file.marks.items key n) (none : n ≡ 0) where
  all_from : AllByRecursion (IsFromKey key) (rows_of r.as_file.blocks)
  all_from = from_blocks key r.as_file.blocks r.as_file.file.cut r.as_file.file.rising
      (above_first r.bytes file.marks.items file.end n rows r.as_file key ends none)

  -- upwards all rows are left, and downwards none is
  pub sought_first : (forward : Bool)
      → LeftAs t file forward 0 [] (list_from rows (Some key) forward)
  sought_first true = record {
    all = rows;
    reads = reads_at s t file.file file.marks.items file.end rows same r;
    within = omega arith;
    is = ap (λ l. list_from l (Some key) true) r.as_file.are
        ∙ cut_forward key [] (rows_of r.as_file.blocks) tt all_from;
  }
  sought_first false = record {
    all = rows;
    reads = reads_at s t file.file file.marks.items file.end rows same r;
    within = omega arith;
    is = ap (λ l. list_from l (Some key) false) r.as_file.are
        ∙ cut_backward key [] (rows_of r.as_file.blocks) tt all_from;
  }

-- with no key all is left
module _ (s : DiskState) (file : RowFile) (rows : List Entry)
    (r : ReadsRows s file rows) where
  -- from the first block on, or down from the last one
  pub left_all : (forward : Bool) (n : ℕ) → (forward ≡ true → n ≡ 0)
      → (forward ≡ false → n ≡ length file.marks.items)
      → LeftAs s file forward n [] (list_from rows None forward)
  left_all true n up down = record {
    all = rows;
    reads = r;
    within = omega (arith, up refl);
    is = all_forward rows ∙ r.as_file.are
        ∙ ap (λ (k : ℕ). rows_of (drop k r.as_file.blocks)) (sym (up refl));
  }
  left_all false n up down = record {
    all = rows;
    reads = r;
    within = omega (arith, down refl);
    is = all_backward rows ∙ ap reverse r.as_file.are
        ∙ ap (λ l. reverse (rows_of l))
        (sym (take_all n r.as_file.blocks
        (omega (
          arith,
          down refl,
          count_blocks s file.file file.marks.items file.end rows r,
        ))));
  }
