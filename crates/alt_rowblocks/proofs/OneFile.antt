-- A row file is of one list of rows.
use Rattle.std.proofs.Common.{◌≡◌, refl, sym, ap, ◌∙◌, ℕ, ◌+◌, ◌<◌, ◌^◌, List, [], ◌++◌, length, drop, arith, append_assoc, length-append}
use Rattle.std.specs.List.{flat_map}
use Rattle.std.specs.Int.{w64, to_be_bytes}
use Rattle.sha2.specs.Sha256.{sha256}
use Rattle.sha2.proofs.Facts256.{length-sha256}
use Rattle.alt_fields.specs.Field.{field}
use Rattle.alt_cells.specs.Format.{bytes_of_row}
use Rattle.alt_cells.proofs.OneRow.{row-apart}
use Rattle.std.specs.List.{AllByRecursion}
use Rattle.alt_fields.proofs.Apart.{same_fronts, number-apart, field-apart, length-field, same_whole, all_map, IsApart}
use Rattle.alt_rowblocks.specs.Format.{Entry, row_entry_bytes, rows_bytes, block_bytes, front, rows_of, marks_from, tail_bytes, body, IsHeldEntry, IsHeldBlock, IsFileOf, IsRowFile}

-- how many bytes an entry has
pub length-entry : (e : Entry)
    → length (row_entry_bytes e) ≡ 16 + length e.0 + length (bytes_of_row e.1)
unfolding row_entry_bytes
length-entry e =
    omega (
      arith,
      length-append (field e.0) (field (bytes_of_row e.1)),
      length-field e.0,
      length-field (bytes_of_row e.1),
    )

-- how many bytes a block has
pub length-block : (b : List Entry) → length (block_bytes b) ≡ 8 + length (rows_bytes b)
unfolding block_bytes
length-block b = length-field (rows_bytes b)

-- an entry's bytes end at one place, whatever follows them, and are those of one entry
pub entry-apart : (a b : Entry) (x y : List ℕ) → IsHeldEntry a → IsHeldEntry b
    → row_entry_bytes a ++ x ≡ row_entry_bytes b ++ y → (a ≡ b) × (x ≡ y)
unfolding row_entry_bytes
entry-apart a b x y h k e =
    let ra = bytes_of_row a.1 in
    let rb = bytes_of_row b.1 in
    let key = field-apart a.0 b.0 (field ra ++ x) (field rb ++ y) h.0 k.0
    (sym (append_assoc (field a.0) (field ra) x) ∙ e ∙ append_assoc (field b.0) (field rb) y) in
    let row = field-apart ra rb x y h.2 k.2 key.1 in
    let same = row-apart a.1 b.1 [] [] h.1 k.1 (ap (λ l. l ++ []) row.0) in
    ((λ i. (key.0 i, same.0 i)), row.1)

-- an entry has bytes
pub entry_some : (e : Entry) → 0 < length (row_entry_bytes e)
entry_some e = omega (arith, length-entry e)

-- rows that fit their bytes are the only ones of these bytes
pub one_block : (a b : List Entry) → AllByRecursion IsHeldEntry a → AllByRecursion IsHeldEntry b
    → rows_bytes a ≡ rows_bytes b → a ≡ b
one_block a b h k e =
    same_whole row_entry_bytes IsHeldEntry entry_some a b
    (all_map IsHeldEntry (IsApart row_entry_bytes IsHeldEntry) a
    (λ x held y p q other same. entry-apart x y p q held other same) h) k e

-- a block has bytes
pub block_some : (b : List Entry) → 0 < length (block_bytes b)
block_some b = omega (arith, length-block b)

-- a block's bytes end at one place, whatever follows them, and are those of one block
pub block-apart : (a b : List Entry) (x y : List ℕ) → IsHeldBlock a → IsHeldBlock b
    → block_bytes a ++ x ≡ block_bytes b ++ y → (a ≡ b) × (x ≡ y)
unfolding block_bytes
block-apart a b x y h k e =
    let rows = field-apart (rows_bytes a) (rows_bytes b) x y h.1 k.1 e in
    (one_block a b h.0 k.0 rows.0, rows.1)

-- and so are blocks
pub one_front : (a b : List (List Entry)) → AllByRecursion IsHeldBlock a
    → AllByRecursion IsHeldBlock b → flat_map block_bytes a ≡ flat_map block_bytes b → a ≡ b
one_front a b h k e =
    same_whole block_bytes IsHeldBlock block_some a b
    (all_map IsHeldBlock (IsApart block_bytes IsHeldBlock) a
    (λ x held y p q other same. block-apart x y p q held other same) h) k e

-- lists of one length behind others
pub same_backs : {A : Type 0} (s t x y : List A) → length x ≡ length y → s ++ x ≡ t ++ y → (s ≡ t)
    × (x ≡ y)
same_backs s t x y n e =
    same_fronts s t x y (omega (arith, n, ap length e, length-append s x, length-append t y)) e

-- what stands before the digest
pub same_bodies : (a b : List ℕ) → a ++ sha256 a ≡ b ++ sha256 b → a ≡ b
same_bodies a b e =
    (same_backs a b (sha256 a) (sha256 b) (length-sha256 a ∙ sym (length-sha256 b)) e).0

-- the place of the index is the last number
pub tail_last : (f : List ℕ) (blocks : List (List Entry)) (rows at : ℕ)
    → f ++ tail_bytes (marks_from 8 blocks) rows at
    ≡ (f ++ tail_bytes (marks_from 8 blocks) rows at)
tail_last f blocks rows at = refl

-- bytes that end in the same eight bytes end in the same number
same_ends : (p q : List ℕ) (m n : ℕ) → m < 2 ^ 64 → n < 2 ^ 64
    → p ++ to_be_bytes w64 m ≡ q ++ to_be_bytes w64 n → m ≡ n
same_ends p q m n hm hn e =
    let last = same_backs p q (to_be_bytes w64 m) (to_be_bytes w64 n) refl e in
    (number-apart m n [] [] hm hn (ap (λ l. l ++ []) last.1)).0

regroup : (f a b c : List ℕ) → f ++ (a ++ (b ++ c)) ≡ (f ++ (a ++ b)) ++ c
regroup f a b c = simp append_assoc

-- two fronts with their tails are one
pub same_fronts_of : (a b : List (List Entry)) → length (front a) < 2 ^ 64
    → length (front b) < 2 ^ 64 → body a ≡ body b → front a ≡ front b
unfolding tail_bytes
same_fronts_of a b ha hb e =
    let index = λ (blocks : List (List Entry)). to_be_bytes w64 (length (marks_from 8 blocks))
    ++ flat_map Rattle.alt_rowblocks.specs.Format.mark_bytes (marks_from 8 blocks) in
    let count = λ (blocks : List (List Entry)). to_be_bytes w64 (length (rows_of blocks)) in
    let place = λ (blocks : List (List Entry)). to_be_bytes w64 (length (front blocks)) in
    let size = same_ends (front a ++ (index a ++ count a)) (front b ++ (index b ++ count b))
    (length (front a)) (length (front b)) ha hb
    (sym (regroup (front a) (index a) (count a) (place a)) ∙ e
    ∙ regroup (front b) (index b) (count b) (place b)) in
    (same_fronts (front a) (front b) (index a ++ (count a ++ place a))
    (index b ++ (count b ++ place b)) size e).0

-- the bytes are the file of one list of blocks
pub one_file : (a b : List (List Entry)) (bytes : List ℕ) → IsFileOf a bytes → IsFileOf b bytes
    → a ≡ b
unfolding Rattle.alt_rowblocks.specs.Format.row_file_header
one_file a b bytes first second =
    let fronts =
    same_fronts_of a b first.place second.place
    (same_bodies (body a) (body b) (sym first.is ∙ second.is)) in
    one_front a b first.held second.held (ap (drop 8) fronts)

-- and so of one list of rows
pub one_list : (a b : List Entry) (bytes : List ℕ) → IsRowFile a bytes → IsRowFile b bytes → a ≡ b
one_list a b bytes first second = first.are
    ∙ ap rows_of (one_file first.blocks second.blocks bytes first.file second.file) ∙ sym second.are
