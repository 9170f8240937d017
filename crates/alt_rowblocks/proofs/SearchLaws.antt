-- A key is in the last block that begins at or below it, or nowhere.
use Rattle.std.proofs.Common.{◌≡◌, refl, sym, ap, subst, ◌∙◌, ℕ, ◌+◌, ◌<◌, ◌≤◌, List, [], ◌∷◌, ◌++◌, length, Option, Some, None, T, true, false, arith}
use Rattle.std.specs.Prelude.{cond}
use Rattle.std.specs.List.{AllByRecursion, flat_map}
use Rattle.std.specs.declared.cmp.Ordering.{Ordering}
use Rattle.std.specs.declared.cmp.Ordering.TheVariants.{Less, Equal, Greater}
use Rattle.std.specs.Ordering.{is_gt, is_eq, eq_by_cmp}
use Rattle.std.specs.FinMap.Entries.{find, is_sorted, below_all}
use Rattle.std.proofs.lemmas.List.{get_or_at}
use Rattle.alt_base.proofs.Bools.{both_hold, first_holds, second_holds}
use Rattle.alt_base.proofs.Orderings.{less-holds, is_lt-holds as less}
use Rattle.alt_cells.specs.Keys.{key_cmp}
use Rattle.alt_cells.proofs.CellLaws.{key_total, key_exact}
use Rattle.alt_cells.proofs.Entries.{turned_less, turned_greater, find_below, below_less}
use Rattle.alt_rowblocks.specs.Format.{Entry, Mark, block_bytes, rows_of, first_key, marks_from, IsBlock, AreBlocks}
use Rattle.alt_rowblocks.specs.Searching.{key_at, EndsAt, EndsBelow}
use Rattle.alt_rowblocks.specs.Summaries.{last_key}
use Rattle.alt_rowblocks.proofs.BlockLaws.{sorted_back}
use Rattle.alt_rowblocks.proofs.BlockRuns.{rows_of-append, block_within, block_key}
use Rattle.alt_rowblocks.proofs.PlaceLaws.{length-marks, marks-append}

-- ---- halving

-- what is known between two marks: those before them aren't above the key, and those behind them are
pub record Halves (marks : List Mark) (key : List ℕ) (low high : ℕ) : Type 0 where
  pub order : low ≤ high
  pub within : high ≤ length marks
  pub below : (k : ℕ) → low ≡ k + 1 → is_gt (key_cmp (key_at marks k) key) ≡ false
  pub above : high < length marks → is_gt (key_cmp (key_at marks high) key) ≡ true

-- at first nothing is known
pub halves_start : (marks : List Mark) (key : List ℕ) → Halves marks key 0 (length marks)
halves_start marks key =
    record {
      order = omega arith;
      within = omega arith;
      below =
          λ k e. absurd (omega (arith, e));
      above = λ less. absurd (omega (arith, less));
    }

-- where both meet, the search ends there
pub halves_end : (marks : List Mark) (key : List ℕ) (low high : ℕ) → Halves marks key low high
    → high ≤ low → EndsAt marks key low
halves_end marks key low high h done =
    let same : high ≡ low = omega (arith, h.order, done) in
    record {
      within = omega (arith, h.within, same);
      low = h.below;
      high =
          λ less. ap (λ (n : ℕ). is_gt (key_cmp (key_at marks n) key)) (sym same)
          ∙ h.above (omega (arith, less, same));
    }

-- ---- what a walk to a key passes

-- a lower key in front doesn't count
pub find_past : {X : Type 0} (x : List ℕ × X) (es : List (List ℕ × X)) (q : List ℕ)
    → key_cmp x.0 q ≡ Less
    → find key_cmp q (x ∷ es) ≡ find key_cmp q es
find_past x es q lower =
    let greater : key_cmp q x.0 ≡ Greater = turned_greater key_cmp key_total x.0 q lower in
    ap (λ (r : Ordering). cond (is_eq r) (Some x.1) (find key_cmp q es)) greater

-- a key below one that isn't above another is below that
pub at_or_above : (x y q : List ℕ) → key_cmp x y ≡ Less → is_gt (key_cmp y q) ≡ false
    → key_cmp x q ≡ Less
at_or_above x y q lower up = by_cases (key_cmp y q) refl up
  where
    by_cases : (r : Ordering) → key_cmp y q ≡ r → is_gt r ≡ false → key_cmp x q ≡ Less
    by_cases Less is up = key_total.trans x y q lower is
    by_cases Equal is up = ap (key_cmp x) (sym (key_exact y q is)) ∙ lower
    by_cases Greater is up = absurd (let f : true ≡ false = up in cc f)

-- the first of rising rows is below each one behind it
pub first_below : {X : Type 0} (x : List ℕ × X) (xs : List (List ℕ × X)) (y : List ℕ × X)
    (ys : List (List ℕ × X))
    → T (is_sorted key_cmp (x ∷ (xs ++ y ∷ ys))) → key_cmp x.0 y.0 ≡ Less
first_below x [] y ys h = less _ (first_holds _ _ (first_holds _ _ h))
first_below x (z ∷ xs) y ys h =
    key_total.trans x.0 z.0 y.0 (less _ (first_holds _ _ (first_holds _ _ h)))
    (first_below z xs y ys (second_holds _ _ h))

-- rows before one at or below the key don't count
pub find_front : {X : Type 0} (xs : List (List ℕ × X)) (y : List ℕ × X) (ys : List (List ℕ × X))
    (q : List ℕ)
    → T (is_sorted key_cmp (xs ++ y ∷ ys)) → is_gt (key_cmp y.0 q) ≡ false
    → find key_cmp q (xs ++ y ∷ ys) ≡ find key_cmp q (y ∷ ys)
find_front [] y ys q h up = refl
find_front (x ∷ xs) y ys q h up =
    find_past x (xs ++ y ∷ ys) q (at_or_above x.0 y.0 q (first_below x xs y ys h) up)
    ∙ find_front xs y ys q (second_holds _ _ h) up

-- nor do rows above it
pub find_back : {X : Type 0} (xs ys : List (List ℕ × X)) (q : List ℕ) → find key_cmp q ys ≡ None
    → find key_cmp q (xs ++ ys) ≡ find key_cmp q xs
find_back [] ys q none = none
find_back (x ∷ xs) ys q none =
    ap (cond (eq_by_cmp key_cmp q x.0) (Some x.1)) (find_back xs ys q none)

-- where the first of rising rows is above a key, the key isn't among them
pub find_above : (y : Entry) (ys : List Entry) (q : List ℕ) → T (is_sorted key_cmp (y ∷ ys))
    → is_gt (key_cmp y.0 q) ≡ true → find key_cmp q (y ∷ ys) ≡ None
find_above y ys q h up =
    let lower : key_cmp q y.0 ≡ Less =
    turned_less key_cmp key_total y.0 q (greater (key_cmp y.0 q) up) in
    find_below key_cmp key_total q (y ∷ ys)
    (both_hold (Rattle.std.specs.Ordering.is_lt (key_cmp q y.0)) (below_all key_cmp q ys)
    (less-holds (key_cmp q y.0) lower)
    (below_less key_cmp key_total q y.0 ys lower (first_holds _ _ h)))
  where
    greater : (r : Ordering) → is_gt r ≡ true → r ≡ Greater
    greater Less e = absurd (let f : false ≡ true = e in cc f)
    greater Equal e = absurd (let f : false ≡ true = e in cc f)
    greater Greater e = refl

-- ---- the block

-- the first key of a block
pub key_is : (blocks : List (List Entry)) (i : ℕ) (xs : List (List Entry)) (b : List Entry)
    (ys : List (List Entry)) → blocks ≡ xs ++ b ∷ ys → length xs ≡ i
    → key_at (marks_from 8 blocks) i ≡ first_key b
key_is blocks i xs b ys is size =
    let marks = marks_from 8 xs in
    let rest = marks_from (8 + length (flat_map block_bytes xs) + length (block_bytes b)) ys in
    let whole : marks_from 8 blocks ≡ marks ++ (8 + length (flat_map block_bytes xs), first_key b)
    ∷ rest = ap (marks_from 8) is ∙ marks-append 8 xs b ys in
    ap (λ (l : List Mark). key_at l i) whole
    ∙ ap (λ (m : Mark). m.1)
    (get_or_at marks (8 + length (flat_map block_bytes xs), first_key b) rest (0, []) i
    (length-marks 8 xs ∙ size))

-- what stands behind the block is above the key
pub none_behind : (ys : List (List Entry)) (q : List ℕ) → AreBlocks ys
    → T (is_sorted key_cmp (rows_of ys))
    → ((y : List Entry) (more : List (List Entry)) → ys ≡ y ∷ more
    → is_gt (key_cmp (first_key y) q) ≡ true) → find key_cmp q (rows_of ys) ≡ None
none_behind [] q cut h up = refl
none_behind (y ∷ ys) q cut h up =
    let k = block_key y (block_within [] y ys cut) in
    let same : rows_of (y ∷ ys) ≡ k.0 ∷ (k.1 ++ rows_of ys) =
    ap (λ (l : List Entry). l ++ rows_of ys) k.2 in
    ap (find key_cmp q) same
    ∙ find_above k.0 (k.1 ++ rows_of ys) q
    (subst (λ (l : List Entry). T (is_sorted key_cmp l)) same h)
    (subst (λ (l : List Entry). is_gt (key_cmp (first_key l) q) ≡ true) k.2 (up y ys refl))

-- a key is in the block that begins at or below it, with the next one above it
pub in_block : (xs : List (List Entry)) (b : List Entry) (ys : List (List Entry)) (q : List ℕ)
    → IsBlock b → AreBlocks ys → T (is_sorted key_cmp (rows_of (xs ++ b ∷ ys)))
    → is_gt (key_cmp (first_key b) q) ≡ false
    → ((y : List Entry) (more : List (List Entry)) → ys ≡ y ∷ more
    → is_gt (key_cmp (first_key y) q) ≡ true)
    → find key_cmp q (rows_of (xs ++ b ∷ ys)) ≡ find key_cmp q b
in_block xs b ys q block cut h low high =
    let k = block_key b block in
    let whole : rows_of (xs ++ b ∷ ys) ≡ rows_of xs ++ (b ++ rows_of ys) =
    rows_of-append xs (b ∷ ys) in
    let opened : rows_of xs ++ (b ++ rows_of ys) ≡ rows_of xs ++ k.0 ∷ (k.1 ++ rows_of ys) =
    ap (λ (l : List Entry). rows_of xs ++ (l ++ rows_of ys)) k.2 in
    let sorted : T (is_sorted key_cmp (rows_of xs ++ (b ++ rows_of ys))) =
    subst (λ (l : List Entry). T (is_sorted key_cmp l)) whole h in
    let front = find_front (rows_of xs) k.0 (k.1 ++ rows_of ys) q
    (subst (λ (l : List Entry). T (is_sorted key_cmp l)) opened sorted)
    (subst (λ (l : List Entry). is_gt (key_cmp (first_key l) q) ≡ false) k.2 low) in
    let behind =
    none_behind ys q cut
    (sorted_back b (rows_of ys) (sorted_back (rows_of xs) (b ++ rows_of ys) sorted)) high in
    ap (find key_cmp q) (whole ∙ opened) ∙ front
    ∙ ap (λ (l : List Entry). find key_cmp q (l ++ rows_of ys)) (sym k.2)
    ∙ find_back b (rows_of ys) q behind

-- the blocks behind others are cut as blocks have to be
pub cut_behind : (xs ys : List (List Entry)) → AreBlocks (xs ++ ys) → AreBlocks ys
cut_behind [] ys cut = cut
cut_behind (x ∷ []) [] cut = tt
cut_behind (x ∷ []) (y ∷ ys) cut = cut.2
cut_behind (x ∷ z ∷ xs) ys cut = cut_behind (z ∷ xs) ys cut.2

-- ---- behind the last key

-- where the last of rising rows is below a key, all of them are
all_below : (rows : List Entry) (last key : List ℕ) → T (is_sorted key_cmp rows)
    → last_key rows ≡ Some last → key_cmp last key ≡ Less
    → AllByRecursion (λ (e : Entry). key_cmp e.0 key ≡ Less) rows
all_below [] last key h is low = tt
all_below (x ∷ []) last key h is low =
    let same : x.0 ≡ last = cc is in
    (ap (λ (k : List ℕ). key_cmp k key) same ∙ low, tt)
all_below (x ∷ y ∷ rows) last key h is low =
    let rest = all_below (y ∷ rows) last key (second_holds _ _ h) is low in
    (key_total.trans x.0 y.0 key (less _ (first_holds _ _ (first_holds _ _ h))) rest.0, rest)

-- and none of them is at it
none_below : (rows : List Entry) (key : List ℕ)
    → AllByRecursion (λ (e : Entry). key_cmp e.0 key ≡ Less) rows → find key_cmp key rows ≡ None
none_below [] key all = refl
none_below (x ∷ rows) key all = find_past x rows key all.0 ∙ none_below rows key all.1

-- so there is nothing at a key behind the last one
pub found_behind : (rows : List Entry) (last : Option (List ℕ)) (key : List ℕ)
    → T (is_sorted key_cmp rows) → last ≡ last_key rows → EndsBelow last key
    → None ≡ find key_cmp key rows
found_behind rows None key h is ends = absurd ends
found_behind rows (Some last) key h is ends =
    sym (none_below rows key (all_below rows last key h (sym is) ends))
