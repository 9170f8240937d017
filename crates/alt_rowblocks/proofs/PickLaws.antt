-- Pieces read from bytes, and the rows that they are.
use Rattle.std.proofs.Common.{◌≡◌, refl, sym, ap, subst, ◌∙◌, ℕ, ◌+◌, ◌<◌, ◌^◌, List, [], ◌∷◌, ◌++◌, length, Option, Some, None, T, true, false, Bool, arith, append_assoc, length-append, map}
use Rattle.std.specs.Prelude.{cond, ◌&&◌, IfOk, IfNone, Result, Ok, Err}
use Rattle.std.specs.Option.{option_map}
use Rattle.std.specs.Ordering.{is_eq, is_lt, is_gt, eq_by_cmp}
use Rattle.std.specs.declared.cmp.Ordering.{Ordering}
use Rattle.std.specs.declared.cmp.Ordering.TheVariants.{Less, Equal, Greater}
use Rattle.std.specs.List.{AllByRecursion, flat_map}
use Rattle.std.specs.FinMap.Entries.{find, is_sorted, below_all}
use Rattle.alt_fields.specs.Field.{field}
use Rattle.alt_fields.proofs.Apart.{field-apart, length-field, same_whole, all_map, all_append, all_back, flat_map_snoc, IsApart}
use Rattle.alt_cells.specs.declared.row.RowCells.{RowCells}
use Rattle.alt_cells.specs.Format.{bytes_of_row, IsHeldRow}
use Rattle.alt_cells.specs.Places.{NoRow}
use Rattle.alt_cells.specs.Keys.{key_cmp}
use Rattle.alt_cells.proofs.CellLaws.{key_total}
use Rattle.alt_rowblocks.specs.Blocks.{IsAbove}
use Rattle.alt_rowblocks.specs.Summaries.{last_key}
use Rattle.alt_rowblocks.specs.Decoding.{AreRows, NoRows}
use Rattle.alt_rowblocks.specs.Format.{Entry, row_entry_bytes, rows_bytes, IsHeldEntry}
use Rattle.alt_rowblocks.specs.Picking.{Piece, piece_bytes, IsShortPiece, ArePieces, NoPieces, Picks}
use Rattle.alt_rowblocks.proofs.BlockLaws.{last_key-append, sorted_join, above_join}
use Rattle.alt_rowblocks.proofs.DecodeLaws.{rest_of}
use Rattle.alt_rowblocks.proofs.SearchLaws.{find_front, find_back}

-- how many bytes a piece has
pub length-piece : (p : Piece) → length (piece_bytes p) ≡ 16 + length p.0 + length p.1
length-piece p =
    omega (arith, length-append (field p.0) (field p.1), length-field p.0, length-field p.1)

-- a piece has bytes
pub piece_some : (p : Piece) → 0 < length (piece_bytes p)
piece_some p = omega (arith, length-piece p)

-- whatever follows them, the bytes of a piece are those of one piece
pub piece-apart : (a b : Piece) (x y : List ℕ) → IsShortPiece a → IsShortPiece b
    → piece_bytes a ++ x ≡ piece_bytes b ++ y → (a ≡ b) × (x ≡ y)
piece-apart a b x y h k e =
    let key = field-apart a.0 b.0 (field a.1 ++ x) (field b.1 ++ y) h.0 k.0
    (sym (append_assoc (field a.0) (field a.1) x) ∙ e ∙ append_assoc (field b.0) (field b.1) y) in
    let row = field-apart a.1 b.1 x y h.1 k.1 key.1 in
    ((λ i. (key.0 i, row.0 i)), row.1)

-- bytes are those of one list of pieces
pub one_pieces : (bytes : List ℕ) (a b : List Piece) → ArePieces bytes a → ArePieces bytes b → a ≡ b
one_pieces bytes a b h k =
    same_whole piece_bytes IsShortPiece piece_some a b
    (all_map IsShortPiece (IsApart piece_bytes IsShortPiece) a
    (λ p short q x y other same. piece-apart p q x y short other same) h.short) k.short
    (sym h.is ∙ k.is)

-- a key with a field behind it is a piece
pub piece_whole : (bytes key behind row rest : List ℕ) → bytes ≡ field key ++ behind
    → behind ≡ field row ++ rest → bytes ≡ piece_bytes (key, row) ++ rest
piece_whole bytes key behind row rest first then =
    first ∙ ap (λ (l : List ℕ). field key ++ l) then ∙ sym (append_assoc (field key) (field row) rest)

-- bytes that hold no field hold no piece
pub no_key_field : (bytes : List ℕ) → ((s x : List ℕ) → length s < 2 ^ 64 → bytes ≡ field s ++ x → ⊥)
    → (p : Piece) (x : List ℕ) → IsShortPiece p → bytes ≡ piece_bytes p ++ x → ⊥
no_key_field bytes none p x short is =
    none p.0 (field p.1 ++ x) short.0 (is ∙ append_assoc (field p.0) (field p.1) x)

-- nor does a key with no field behind it
pub no_row_field : (bytes key behind : List ℕ) → length key < 2 ^ 64 → bytes ≡ field key ++ behind
    → ((s x : List ℕ) → length s < 2 ^ 64 → behind ≡ field s ++ x → ⊥)
    → (p : Piece) (x : List ℕ) → IsShortPiece p → bytes ≡ piece_bytes p ++ x → ⊥
no_row_field bytes key behind small first none p x short is =
    let k = field-apart key p.0 behind (field p.1 ++ x) small short.0
    (sym first ∙ is ∙ append_assoc (field p.0) (field p.1) x) in
    none p.1 x short.1 k.1

-- ---- the loop

-- the pieces so far, of bytes of which some are left: the last key of them, and what they have at a key
pub record PiecesSoFar (bytes rest key : List ℕ) (last found : Option (List ℕ)) : Type 0 where
  pub pieces : List Piece
  pub short : AllByRecursion IsShortPiece pieces
  pub rising : T (is_sorted key_cmp pieces)
  pub is : bytes ≡ flat_map piece_bytes pieces ++ rest
  pub last_is : last ≡ last_key pieces
  pub found_is : found ≡ find key_cmp key pieces

-- at first there are none
pub no_pieces_yet : (bytes key : List ℕ) → PiecesSoFar bytes bytes key None None
no_pieces_yet bytes key = record {
  pieces = [];
  short = tt;
  rising = tt;
  is = refl;
  last_is = refl;
  found_is = refl;
}

-- what pieces have at a key, with one more behind them
find_more : (pieces : List Piece) (p : Piece) (key : List ℕ)
    → T (is_sorted key_cmp (pieces ++ p ∷ []))
    → find key_cmp key (pieces ++ p ∷ [])
    ≡ cond (is_eq (key_cmp key p.0)) (Some p.1) (find key_cmp key pieces)
find_more pieces p key rising = by_cases (key_cmp key p.0) refl
  where
    goal : Ordering → Type 0
    goal r = find key_cmp key (pieces ++ p ∷ [])
        ≡ cond (is_eq r) (Some p.1) (find key_cmp key pieces)

    alone : (r : Ordering) → key_cmp key p.0 ≡ r
        → find key_cmp key (p ∷ []) ≡ cond (is_eq r) (Some p.1) None
    alone r e = ap (λ (o : Ordering). cond (is_eq o) (Some p.1) None) e

    by_cases : (r : Ordering) → key_cmp key p.0 ≡ r
        → find key_cmp key (pieces ++ p ∷ [])
        ≡ cond (is_eq (key_cmp key p.0)) (Some p.1) (find key_cmp key pieces)
    by_cases Less e = subst goal (sym e) (find_back pieces (p ∷ []) key (alone Less e))
    by_cases Greater e = subst goal (sym e) (find_back pieces (p ∷ []) key (alone Greater e))
    by_cases Equal e =
        subst goal (sym e)
        (find_front pieces p [] key rising (ap is_gt (key_total.antisymm p.0 key ∙ ap Rattle.std.specs.Ordering.ordering_reverse e))
        ∙ alone Equal e)

-- one piece more was read, whose key is above the last one
pub one_piece_more : (bytes rest behind key : List ℕ) (last found new : Option (List ℕ)) (p : Piece)
    → PiecesSoFar bytes rest key last found → IsShortPiece p → rest ≡ piece_bytes p ++ behind
    → IsAbove last p.0 → new ≡ cond (is_eq (key_cmp key p.0)) (Some p.1) found
    → PiecesSoFar bytes behind key (Some p.0) new
one_piece_more bytes rest behind key last found new p so_far short is above put =
    let rising : T (is_sorted key_cmp (so_far.pieces ++ p ∷ [])) =
    sorted_join so_far.pieces p [] so_far.rising tt
    (subst (λ (l : Option (List ℕ)). IsAbove l p.0) so_far.last_is above) in
    record {
      pieces = so_far.pieces ++ p ∷ [];
      short = all_append IsShortPiece so_far.pieces (p ∷ []) so_far.short (short, tt);
      rising = rising;
      is = so_far.is ∙ ap (λ (l : List ℕ). flat_map piece_bytes so_far.pieces ++ l) is
          ∙ flat_map_snoc piece_bytes IsShortPiece so_far.pieces p behind;
      last_is = sym (last_key-append so_far.pieces p []);
      found_is = put
          ∙ ap (cond (is_eq (key_cmp key p.0)) (Some p.1)) so_far.found_is
          ∙ sym (find_more so_far.pieces p key rising);
    }

-- all were read
pub pieces_read : (bytes rest key : List ℕ) (last found : Option (List ℕ))
    → PiecesSoFar bytes rest key last found → rest ≡ [] → Picks bytes key found
pieces_read bytes rest key last found so_far none = record {
  pieces = so_far.pieces;
  are = record {
    short = so_far.short;
    rising = so_far.rising;
    is = so_far.is ∙ ap (λ (l : List ℕ). flat_map piece_bytes so_far.pieces ++ l) none
        ∙ Rattle.std.proofs.lemmas.List.append-nil (flat_map piece_bytes so_far.pieces);
  };
  found_is = so_far.found_is;
}

-- where no piece stands next, the bytes are of no pieces
pub no_piece_next : (bytes rest key : List ℕ) (last found : Option (List ℕ))
    → PiecesSoFar bytes rest key last found → 0 < length rest
    → ((p : Piece) (x : List ℕ) → IsShortPiece p → rest ≡ piece_bytes p ++ x → ⊥) → NoPieces bytes
no_piece_next bytes rest key last found so_far some none others are =
    let r = rest_of piece_bytes IsShortPiece piece-apart piece_some so_far.pieces others rest
    so_far.short are.short (sym so_far.is ∙ are.is) in
    refute r.0 r.2 (subst (AllByRecursion IsShortPiece) r.1 are.short)
  where
    refute : (more : List Piece) → rest ≡ flat_map piece_bytes more
        → AllByRecursion IsShortPiece (so_far.pieces ++ more) → ⊥
    refute [] same short = omega (arith, some, ap length same)
    refute (p ∷ more) same short =
        none p (flat_map piece_bytes more) (all_back IsShortPiece so_far.pieces (p ∷ more) short).0
        same

-- and where one stands next whose key isn't above the last one
pub no_key_next : (bytes rest behind key : List ℕ) (last found : Option (List ℕ)) (p : Piece)
    → PiecesSoFar bytes rest key last found → IsShortPiece p → rest ≡ piece_bytes p ++ behind
    → (IsAbove last p.0 → ⊥) → NoPieces bytes
no_key_next bytes rest behind key last found p so_far short there low others are =
    let r = rest_of piece_bytes IsShortPiece piece-apart piece_some so_far.pieces others rest
    so_far.short are.short (sym so_far.is ∙ are.is) in
    refute r.0 r.2 (subst (AllByRecursion IsShortPiece) r.1 are.short)
    (subst (λ (l : List Piece). T (is_sorted key_cmp l)) r.1 are.rising)
  where
    refute : (more : List Piece) → rest ≡ flat_map piece_bytes more
        → AllByRecursion IsShortPiece (so_far.pieces ++ more)
        → T (is_sorted key_cmp (so_far.pieces ++ more)) → ⊥
    refute [] same all rising =
        omega (
          arith,
          ap length same,
          ap length there,
          length-append (piece_bytes p) behind,
          length-piece p,
        )
    refute (q ∷ more) same all rising =
        let one = piece-apart p q behind (flat_map piece_bytes more) short
        (all_back IsShortPiece so_far.pieces (q ∷ more) all).0 (sym there ∙ same) in
        low (subst (λ (l : Option (List ℕ)). IsAbove l p.0) (sym so_far.last_is)
        (subst (λ (x : Piece). IsAbove (last_key so_far.pieces) x.0) (sym one.0)
        (above_join so_far.pieces q more rising)))

-- behind a piece fewer bytes are left
pub piece_shorter : (rest behind : List ℕ) (p : Piece) → rest ≡ piece_bytes p ++ behind
    → length behind < length rest
piece_shorter rest behind p is =
    omega (arith, ap length is, length-append (piece_bytes p) behind, length-piece p)

-- ---- rows as pieces

-- a row whose bytes aren't read
abbrev pub sealed : Entry → Piece
sealed e = (e.0, bytes_of_row e.1)

-- rows have the bytes of their pieces
pub sealed_bytes : (rows : List Entry) → rows_bytes rows ≡ flat_map piece_bytes (map sealed rows)
unfolding row_entry_bytes
sealed_bytes [] = refl
sealed_bytes (e ∷ rows) = ap (λ (l : List ℕ). row_entry_bytes e ++ l) (sealed_bytes rows)

-- their pieces are short
sealed_short : (rows : List Entry) → AllByRecursion IsHeldEntry rows
    → AllByRecursion IsShortPiece (map sealed rows)
sealed_short [] all = tt
sealed_short (e ∷ rows) all = ((all.0.0, all.0.2), sealed_short rows all.1)

-- their pieces stand in the same order
sealed_below : (x : List ℕ) (rows : List Entry)
    → below_all key_cmp x (map sealed rows) ≡ below_all key_cmp x rows
sealed_below x [] = refl
sealed_below x (e ∷ rows) =
    ap (λ (b : Bool). is_lt (key_cmp x e.0) && b) (sealed_below x rows)

sealed_sorted : (rows : List Entry) → is_sorted key_cmp (map sealed rows) ≡ is_sorted key_cmp rows
sealed_sorted [] = refl
sealed_sorted (e ∷ rows) =
    λ i. sealed_below e.0 rows i && sealed_sorted rows i

-- so the bytes of rows are those of pieces
pub sealed_rows : (bytes : List ℕ) (rows : List Entry) → AreRows rows → bytes ≡ rows_bytes rows
    → ArePieces bytes (map sealed rows)
sealed_rows bytes rows are is = record {
  short = sealed_short rows are.0;
  rising = subst T (sym (sealed_sorted rows)) are.1;
  is = is ∙ sealed_bytes rows;
}

-- what is found among them is the bytes of the row that is found
sealed_found : (key : List ℕ) (rows : List Entry)
    → find key_cmp key (map sealed rows) ≡ option_map bytes_of_row (find key_cmp key rows)
sealed_found key [] = refl
sealed_found key (e ∷ rows) =
    ap (cond (eq_by_cmp key_cmp key e.0) (Some (bytes_of_row e.1))) (sealed_found key rows)
    ∙ picked (eq_by_cmp key_cmp key e.0)
  where
    picked : (b : Bool) → cond b (Some (bytes_of_row e.1)) (option_map bytes_of_row (find key_cmp key rows))
        ≡ option_map bytes_of_row (cond b (Some e.1) (find key_cmp key rows))
    picked true = refl
    picked false = refl

-- a row that is found fits its bytes
found_held : (key : List ℕ) (rows : List Entry) (row : RowCells) → AllByRecursion IsHeldEntry rows
    → find key_cmp key rows ≡ Some row → IsHeldRow row
found_held key [] row all is = absurd (let f : None ≡ Some row = is in cc f)
found_held key (e ∷ rows) row all is =
    by_test (eq_by_cmp key_cmp key e.0) (found_held key rows row all.1) is
  where
    by_test : (b : Bool) → (find key_cmp key rows ≡ Some row → IsHeldRow row)
        → cond b (Some e.1) (find key_cmp key rows) ≡ Some row → IsHeldRow row
    by_test true behind is = let same : e.1 ≡ row = cc is in subst IsHeldRow same all.0.1
    by_test false behind is = behind is

-- what the pieces of rows have at a key is what the rows have there
found_sealed : (bytes key : List ℕ) (found : Option (List ℕ)) (rows : List Entry)
    → Picks bytes key found → AreRows rows → bytes ≡ rows_bytes rows
    → found ≡ option_map bytes_of_row (find key_cmp key rows)
found_sealed bytes key found rows picks are is =
    picks.found_is
    ∙ ap (find key_cmp key)
    (one_pieces bytes picks.pieces (map sealed rows) picks.are (sealed_rows bytes rows are is))
    ∙ sealed_found key rows

-- a row of rows, by its bytes
pub record RowAt (key row_bytes : List ℕ) (rows : List Entry) : Type 0 where
  pub row : RowCells
  pub held : IsHeldRow row
  pub is : row_bytes ≡ bytes_of_row row
  pub found : find key_cmp key rows ≡ Some row

-- where bytes are found, the rows have a row of them
pub picked_row : (bytes key row_bytes : List ℕ) (rows : List Entry)
    → Picks bytes key (Some row_bytes) → AreRows rows → bytes ≡ rows_bytes rows
    → RowAt key row_bytes rows
picked_row bytes key row_bytes rows picks are is =
    by_find (find key_cmp key rows) refl
    (found_sealed bytes key (Some row_bytes) rows picks are is)
  where
    by_find : (o : Option RowCells) → find key_cmp key rows ≡ o
        → Some row_bytes ≡ option_map bytes_of_row o → RowAt key row_bytes rows
    by_find None e f = absurd (let g : Some row_bytes ≡ None = f in cc g)
    by_find (Some row) e f = record {
      row = row;
      held = found_held key rows row are.0 e;
      is = cc f;
      found = e;
    }

-- so what these bytes are read as is what is found
pub picked_is : (bytes key row_bytes : List ℕ) (rows : List Entry)
    → Picks bytes key (Some row_bytes) → AreRows rows → bytes ≡ rows_bytes rows → (given : RowCells)
    → ((row : RowCells) → IsHeldRow row → row_bytes ≡ bytes_of_row row → given ≡ row)
    → Some given ≡ find key_cmp key rows
picked_is bytes key row_bytes rows picks are is given taken =
    let r = picked_row bytes key row_bytes rows picks are is in
    ap (λ (row : RowCells). Some row) (taken r.row r.held r.is) ∙ sym r.found

-- and where none are, they have none
pub picked_none : (bytes key : List ℕ) (rows : List Entry) → Picks bytes key None → AreRows rows
    → bytes ≡ rows_bytes rows → None ≡ find key_cmp key rows
picked_none bytes key rows picks are is =
    by_find (find key_cmp key rows) (found_sealed bytes key None rows picks are is)
  where
    by_find : (o : Option RowCells) → None ≡ option_map bytes_of_row o → None ≡ o
    by_find None f = refl
    by_find (Some row) f = absurd (let g : None ≡ Some (bytes_of_row row) = f in cc g)

-- bytes of no pieces are of no rows
pub no_pieces_no_rows : (bytes : List ℕ) → NoPieces bytes → NoRows bytes
no_pieces_no_rows bytes none rows are is = none (map sealed rows) (sealed_rows bytes rows are is)

-- and so are bytes where no row's bytes stand at a key
pub no_row_at_key : (bytes key row_bytes : List ℕ) → Picks bytes key (Some row_bytes)
    → NoRow row_bytes → NoRows bytes
no_row_at_key bytes key row_bytes picks none rows are is =
    let r = picked_row bytes key row_bytes rows picks are is in
    none r.row r.held r.is

-- where what none would say is false, there is none
pub none_missing : {V E P : Type 0} (r : Result (Option V) E) → (P → ⊥)
    → IfOk r (λ o. IfNone o P) → IfOk r (λ o. IfNone o ⊥)
none_missing (Ok None) never h = never h
none_missing (Ok (Some v)) never h = h
none_missing (Err e) never h = h
