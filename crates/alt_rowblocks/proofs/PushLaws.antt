-- What one row more and one block more make of the bytes of a row file.
use Rattle.std.proofs.Common.{◌≡◌, ℕ, ◌+◌, List, [], ◌∷◌, ◌++◌, length, sym, ap, ◌∙◌, arith, append_assoc, length-append}
use Rattle.std.specs.List.{flat_map}
use Rattle.std.proofs.lemmas.List.{append-nil}
use Rattle.std.proofs.lemmas.Grind.{flat_map-append}
use Rattle.alt_rowblocks.specs.Format.{Entry, Mark, row_entry_bytes, rows_bytes, block_bytes, row_file_header, front, rows_of, first_key, marks_from}

-- the bytes of rows with one more are theirs, and its own behind them
pub rows_bytes-push : (rows : List Entry) (e : Entry)
    → rows_bytes (rows ++ e ∷ []) ≡ rows_bytes rows ++ row_entry_bytes e
rows_bytes-push rows e = flat_map-append row_entry_bytes rows (e ∷ [])
    ∙ ap (λ (l : List ℕ). rows_bytes rows ++ l) (append-nil (row_entry_bytes e))

-- the rows of blocks with one more are theirs, and its own behind them
pub rows_of-push : (blocks : List (List Entry)) (b : List Entry)
    → rows_of (blocks ++ b ∷ []) ≡ rows_of blocks ++ b
rows_of-push blocks b = flat_map-append (λ (x : List Entry). x) blocks (b ∷ [])
    ∙ ap (λ (l : List Entry). rows_of blocks ++ l) (append-nil b)

-- the bytes of blocks with one more are theirs, and its own behind them
pub blocks_bytes-push : (blocks : List (List Entry)) (b : List Entry)
    → flat_map block_bytes (blocks ++ b ∷ []) ≡ flat_map block_bytes blocks ++ block_bytes b
blocks_bytes-push blocks b = flat_map-append block_bytes blocks (b ∷ [])
    ∙ ap (λ (l : List ℕ). flat_map block_bytes blocks ++ l) (append-nil (block_bytes b))

-- a file before its index, with one block more, has that block behind what it had
pub front-push : (blocks : List (List Entry)) (b : List Entry)
    → front (blocks ++ b ∷ []) ≡ front blocks ++ block_bytes b
front-push blocks b = ap (λ (l : List ℕ). row_file_header ++ l) (blocks_bytes-push blocks b)
    ∙ sym (append_assoc row_file_header (flat_map block_bytes blocks) (block_bytes b))

-- the header has eight bytes, and the blocks stand behind it
pub length-front : (blocks : List (List Entry))
    → length (front blocks) ≡ 8 + length (flat_map block_bytes blocks)
unfolding row_file_header
length-front blocks = omega arith

-- the mark of one block more
pub marks-push : (at : ℕ) (blocks : List (List Entry)) (b : List Entry)
    → marks_from at (blocks ++ b ∷ []) ≡ marks_from at blocks
    ++ (at + length (flat_map block_bytes blocks), first_key b) ∷ []
marks-push at [] b = ap (λ (n : ℕ). (n, first_key b) ∷ []) (let e : at ≡ at + 0 = omega arith in e)
marks-push at (c ∷ blocks) b =
    let size : at + length (block_bytes c) + length (flat_map block_bytes blocks)
    ≡ at + length (block_bytes c ++ flat_map block_bytes blocks) =
    omega (arith, length-append (block_bytes c) (flat_map block_bytes blocks)) in
    ap (λ (l : List Mark). (at, first_key c) ∷ l) (marks-push (at + length (block_bytes c)) blocks b
    ∙ ap (λ (n : ℕ). marks_from (at + length (block_bytes c)) blocks ++ (n, first_key b) ∷ [])
    size)
