-- Where a block stands.
use Rattle.std.proofs.Common.{◌≡◌, refl, sym, ap, subst, ◌∙◌, ℕ, zero, suc, ◌+◌, ◌-◌, ◌<◌, ◌≤◌, ◌^◌, List, [], ◌∷◌, ◌++◌, length, take, drop, get_or, arith, append_assoc, length-append, T}
use Rattle.std.specs.Prelude.{Option, Some, None, IfNone, is_some, true}
use Rattle.std.specs.List.{flat_map}
use Rattle.std.proofs.lemmas.Grind.{flat_map-append}
use Rattle.std.proofs.lemmas.List.{get_or_at, take_at, drop_at, length-take, length-drop, append-nil}
use Rattle.alt_rowblocks.specs.Format.{Entry, Mark, block_bytes, rows_bytes, IsHeldBlock, row_file_header, front, rows_of, first_key, marks_from, tail_bytes, body, IsFileOf}
use Rattle.alt_rowblocks.specs.Loading.{place_at, next_place, LoadedAt}
use Rattle.alt_rowblocks.proofs.PushLaws.{length-front, front-push}
use Rattle.alt_rowblocks.proofs.OneFile.{block_some}
use Rattle.alt_rowblocks.proofs.BlockLaws.{sorted_back}
use Rattle.alt_rowblocks.proofs.BlockRuns.{rows_of-append}
use Rattle.alt_cells.proofs.Rising.{sorted_front}
use Rattle.alt_cells.proofs.CellLaws.{key_total}
use Rattle.alt_fields.proofs.Apart.{field-apart}
use Rattle.alt_cells.specs.Keys.{key_cmp}
use Rattle.alt_fields.specs.Field.{field}
use Rattle.std.specs.FinMap.Entries.{is_sorted}
use Rattle.alt_base.proofs.Numbers.{choice_by_equal}
use Rattle.sha2.specs.Sha256.{sha256}

-- blocks before one, that one, and those behind it
pub record SplitAt (blocks : List (List Entry)) (i : ℕ) : Type 0 where
  pub before : List (List Entry)
  pub here : List Entry
  pub behind : List (List Entry)
  pub is : blocks ≡ before ++ here ∷ behind
  pub size : length before ≡ i
  pub at : get_or blocks i [] ≡ here

-- blocks are split so at each of their places
pub split_at : (blocks : List (List Entry)) (i : ℕ) → i < length blocks → SplitAt blocks i
split_at [] i less = absurd (omega (arith, less))
split_at (b ∷ blocks) zero less =
    record { before = []; here = b; behind = blocks; is = refl; size = refl; at = refl }
split_at (b ∷ blocks) (suc i) less =
    let s = split_at blocks i (omega (arith, less)) in
    record {
      before = b ∷ s.before;
      here = s.here;
      behind = s.behind;
      is =
          ap (λ (l : List (List Entry)). b ∷ l) s.is;
      size = ap (λ (n : ℕ). suc n) s.size;
      at = s.at;
    }

-- there are as many marks as blocks
pub length-marks : (at : ℕ) (blocks : List (List Entry))
    → length (marks_from at blocks) ≡ length blocks
length-marks at [] = refl
length-marks at (b ∷ blocks) =
    ap (λ (n : ℕ). suc n) (length-marks (at + length (block_bytes b)) blocks)

-- the mark of a block has its place, behind the blocks before it, and its first key
pub marks-append : (at : ℕ) (xs : List (List Entry)) (b : List Entry) (ys : List (List Entry))
    → marks_from at (xs ++ b ∷ ys)
    ≡ marks_from at xs ++ (at + length (flat_map block_bytes xs), first_key b)
    ∷ marks_from (at + length (flat_map block_bytes xs) + length (block_bytes b)) ys
marks-append at [] b ys =
    let e : at ≡ at + 0 = omega arith in
    ap (λ (n : ℕ). (n, first_key b) ∷ marks_from (n + length (block_bytes b)) ys) e
marks-append at (x ∷ xs) b ys =
    let size : at + length (block_bytes x) + length (flat_map block_bytes xs)
    ≡ at + length (block_bytes x ++ flat_map block_bytes xs) =
    omega (arith, length-append (block_bytes x) (flat_map block_bytes xs)) in
    ap (λ (l : List Mark). (at, first_key x) ∷ l)
    (marks-append (at + length (block_bytes x)) xs b ys
    ∙ ap (λ (n : ℕ). marks_from (at + length (block_bytes x)) xs ++ (n, first_key b)
    ∷ marks_from (n + length (block_bytes b)) ys) size)

-- the place of a block
pub place_is : (blocks : List (List Entry)) (i : ℕ) (xs : List (List Entry)) (b : List Entry)
    (ys : List (List Entry)) → blocks ≡ xs ++ b ∷ ys → length xs ≡ i
    → place_at (marks_from 8 blocks) i ≡ length (front xs)
place_is blocks i xs b ys is size =
    let marks = marks_from 8 xs in
    let rest = marks_from (8 + length (flat_map block_bytes xs) + length (block_bytes b)) ys in
    let whole : marks_from 8 blocks ≡ marks ++ (8 + length (flat_map block_bytes xs), first_key b)
    ∷ rest = ap (marks_from 8) is ∙ marks-append 8 xs b ys in
    ap (λ (l : List Mark). place_at l i) whole
    ∙ ap (λ (m : Mark). m.0)
    (get_or_at marks (8 + length (flat_map block_bytes xs), first_key b) rest (0, []) i
    (length-marks 8 xs ∙ size)) ∙ sym (length-front xs)

front_split : (xs : List (List Entry)) (b : List Entry) (ys : List (List Entry))
    → front (xs ++ b ∷ ys) ≡ front xs ++ (block_bytes b ++ flat_map block_bytes ys)
front_split xs b ys = ap (λ (l : List ℕ). row_file_header ++ l) (flat_map-append block_bytes xs (b ∷ ys))
    ∙ sym (append_assoc row_file_header (flat_map block_bytes xs) (block_bytes b ++ flat_map block_bytes ys))

-- and the place behind it
pub next_is : (blocks : List (List Entry)) (i end : ℕ) (xs : List (List Entry)) (b : List Entry)
    (ys : List (List Entry)) → blocks ≡ xs ++ b ∷ ys → length xs ≡ i → end ≡ length (front blocks)
    → next_place (marks_from 8 blocks) end i ≡ length (front xs) + length (block_bytes b)
next_is blocks i end xs b [] is size is_end =
    choice_by_equal (i + 1) (length (marks_from 8 blocks)) end
    (place_at (marks_from 8 blocks) (i + 1))
    (length (front xs) + length (block_bytes b))
    (λ last. omega (
      arith,
      is_end,
      ap (λ (l : List (List Entry)). length (front l)) is,
      ap length (front_split xs b []),
      length-append (front xs) (block_bytes b ++ []),
      length-append (block_bytes b) [],
    ))
    (λ other. absurd
    (omega (
      arith,
      other,
      length-marks 8 blocks,
      ap length is,
      length-append xs (b ∷ []),
      size,
    )))
next_is blocks i end xs b (y ∷ ys) is size is_end =
    choice_by_equal (i + 1) (length (marks_from 8 blocks)) end
    (place_at (marks_from 8 blocks) (i + 1))
    (length (front xs) + length (block_bytes b))
    (λ last. absurd
    (omega (
      arith,
      last,
      length-marks 8 blocks,
      ap length is,
      length-append xs (b ∷ y ∷ ys),
      size,
    )))
    (λ other. place_is blocks (i + 1) (xs ++ b ∷ []) y ys (is
    ∙ sym (append_assoc xs (b ∷ []) (y ∷ ys))) (omega (arith, size, length-append xs (b ∷ [])))
    ∙ ap length (front-push xs b) ∙ length-append (front xs) (block_bytes b))

-- the bytes of a block stand at its place
pub block_there : (bytes : List ℕ) (blocks : List (List Entry)) (xs : List (List Entry))
    (b : List Entry) (ys : List (List Entry)) → IsFileOf blocks bytes → blocks ≡ xs ++ b ∷ ys
    → take (length (block_bytes b)) (drop (length (front xs)) bytes) ≡ block_bytes b
block_there bytes blocks xs b ys is split =
    let tail = tail_bytes (marks_from 8 blocks) (length (rows_of blocks)) (length (front blocks)) in
    let rest = flat_map block_bytes ys ++ (tail ++ sha256 (body blocks)) in
    let whole : bytes ≡ front xs ++ (block_bytes b ++ rest) =
    is.is ∙ append_assoc (front blocks) tail (sha256 (body blocks))
    ∙ ap (λ (l : List ℕ). l ++ (tail ++ sha256 (body blocks))) (ap front split
    ∙ front_split xs b ys)
    ∙ append_assoc (front xs) (block_bytes b ++ flat_map block_bytes ys)
    (tail ++ sha256 (body blocks))
    ∙ ap (λ (l : List ℕ). front xs ++ l)
    (append_assoc (block_bytes b) (flat_map block_bytes ys) (tail ++ sha256 (body blocks))) in
    ap (λ (l : List ℕ). take (length (block_bytes b)) (drop (length (front xs)) l)) whole
    ∙ ap (take (length (block_bytes b)))
    (drop_at (front xs) (block_bytes b ++ rest) (length (front xs)) refl)
    ∙ take_at (block_bytes b) rest (length (block_bytes b)) refl

-- the rows of each block rise
pub all_at : (xs : List (List Entry)) (b : List Entry) (ys : List (List Entry))
    → T (is_sorted key_cmp (rows_of (xs ++ b ∷ ys))) → T (is_sorted key_cmp b)
all_at xs b ys sorted =
    sorted_front key_cmp key_total b (rows_of ys)
    (sorted_back (rows_of xs) (b ++ rows_of ys)
    (subst (λ (l : List Entry). T (is_sorted key_cmp l)) (rows_of-append xs (b ∷ ys)) sorted))

-- ---- what was loaded

-- the bytes of a block are a field
pub no_block_field : (bytes : List ℕ) (b : List Entry) → IsHeldBlock b → bytes ≡ block_bytes b
    → ((s : List ℕ) → length s < 2 ^ 64 → bytes ≡ field s → ⊥) → ⊥
unfolding block_bytes
no_block_field bytes b held is none = none (rows_bytes b) held.1 is

-- what the field holds are the block's rows
pub block_content : (bytes block : List ℕ) (b : List Entry) → IsHeldBlock b
    → bytes ≡ block_bytes b → length block < 2 ^ 64 → bytes ≡ field block → block ≡ rows_bytes b
unfolding block_bytes
block_content bytes block b held is short there =
    (field-apart block (rows_bytes b) [] [] short held.1 (append-nil (field block) ∙ sym there ∙ is
    ∙ sym (append-nil (field (rows_bytes b))))).0

-- a block that stands at its place, where so many bytes are read there
module _ (bytes : List ℕ) (marks : List Mark) (end i : ℕ) (b : List Entry)
    (l : LoadedAt bytes marks end i b) (at n : ℕ) (is_at : at ≡ place_at marks i)
    (is_n : n ≡ next_place marks end i - at) where
  long : n ≡ length (block_bytes b)
  long = omega (arith, is_n, is_at, l.size)

  -- what stands at the block's place, as long as the block, are its bytes
  pub are_bytes : (v : List ℕ) → v ≡ take n (drop at bytes) → v ≡ block_bytes b
  are_bytes v is = is ∙ (λ j. take (long j) (drop (is_at j) bytes)) ∙ l.there

  -- and all of them are there
  pub has_bytes : at + n ≤ length bytes
  has_bytes =
      let some : 0 < length (block_bytes b) = block_some b in
      omega (
        arith,
        long,
        is_at,
        some,
        ap length l.there,
        length-take (length (block_bytes b)) (drop (place_at marks i) bytes),
        length-drop (place_at marks i) bytes,
      )

-- where what none would say is false, there is some
pub some_there : {V P : Type 0} (o : Option V) → (P → ⊥) → IfNone o P → is_some o ≡ true
some_there None never h = absurd (never h)
some_there (Some v) never h = refl
