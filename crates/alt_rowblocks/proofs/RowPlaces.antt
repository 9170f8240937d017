-- Where the rows of a block stand in its bytes: those that a walk passes, and the others.
use Rattle.std.proofs.Common.{◌≡◌, refl, sym, ap, subst, ◌∙◌, ℕ, zero, suc, ◌+◌, ◌-◌, ◌<◌, List, [], ◌∷◌, ◌++◌, length, take, drop, get_or, Option, Some, None, T, Bool, false, arith, append_assoc, length-append, map}
use Rattle.std.specs.List.{AllByRecursion, flat_map}
use Rattle.std.specs.FinMap.Entries.{is_sorted}
use Rattle.std.proofs.lemmas.List.{drop_at, drop_all}
use Rattle.alt_base.proofs.Lists.{length-zero}
use Rattle.alt_fields.proofs.Apart.{all_append, all_back, flat_map_snoc}
use Rattle.alt_cells.specs.Keys.{key_cmp}
use Rattle.alt_rowblocks.specs.Cut.{IsFromKey, IsCutAtKey, IsPassed}
use Rattle.alt_rowblocks.specs.Decoding.{AreRows, NoRows}
use Rattle.alt_rowblocks.specs.Format.{Entry, row_entry_bytes, rows_bytes, IsHeldEntry}
use Rattle.alt_rowblocks.specs.Taken.{IsPassedBy}
use Rattle.alt_rowblocks.specs.Taken.PassesNoMore.{at_end, stays}
use Rattle.alt_rowblocks.specs.Holding.{StandAt, IsCutIn}
use Rattle.alt_rowblocks.specs.Picking.{Piece, piece_bytes, IsShortPiece}
use Rattle.alt_rowblocks.proofs.BlockLaws.{sorted_back}
use Rattle.alt_rowblocks.proofs.CutLaws.{from_first}
use Rattle.alt_rowblocks.proofs.DecodeLaws.{rest_of}
use Rattle.alt_rowblocks.proofs.OneFile.{entry_some}
use Rattle.alt_rowblocks.proofs.PickLaws.{piece-apart, piece_some, length-piece, sealed, sealed_rows, sealed_bytes}

-- ---- places

module _ {K : Type 0} (spell : K → List ℕ) (bytes : List ℕ) where
  -- one more stands behind them
  pub stand_more : (ps : List ℕ) (ks : List K) (p : ℕ) (k : K) → StandAt spell bytes ps ks
      → StandAt spell bytes (p ∷ []) (k ∷ []) → StandAt spell bytes (ps ++ p ∷ []) (ks ++ k ∷ [])
  stand_more [] [] p k s t = t
  stand_more [] (l ∷ ks) p k s t = absurd s
  stand_more (q ∷ ps) [] p k s t = absurd s
  stand_more (q ∷ ps) (l ∷ ks) p k s t = (s.0, stand_more ps ks p k s.1 t)

  -- at no places nothing stands
  pub stand_none : (ps : List ℕ) (ks : List K) → length ps ≡ 0 → StandAt spell bytes ps ks → ks ≡ []
  stand_none [] [] none s = refl
  stand_none [] (k ∷ ks) none s = absurd s
  stand_none (p ∷ ps) ks none s = absurd (omega (arith, none))

  no_place : (ks : List K) (k : K) → StandAt spell bytes [] (ks ++ k ∷ []) → ⊥
  no_place [] k s = s
  no_place (l ∷ ks) k s = s

  -- the last one stands at the last place, and the others at the others
  pub stand_last : (ps : List ℕ) (ks : List K) (k : K) (n d : ℕ) → length ps ≡ n + 1
      → StandAt spell bytes ps (ks ++ k ∷ [])
      → StandAt spell bytes (take n ps) ks × StandAt spell bytes (get_or ps n d ∷ []) (k ∷ [])
  stand_last [] ks k n d size s = absurd (no_place ks k s)
  stand_last (p ∷ []) [] k zero d size s = (tt, s)
  stand_last (p ∷ []) [] k (suc n) d size s = absurd (omega (arith, size))
  stand_last (p ∷ q ∷ ps) [] k n d size s = absurd s.1
  stand_last (p ∷ []) (l ∷ ks) k n d size s = absurd (no_place ks k s.1)
  stand_last (p ∷ q ∷ ps) (l ∷ ks) k zero d size s = absurd (omega (arith, size))
  stand_last (p ∷ q ∷ ps) (l ∷ ks) k (suc n) d size s =
      let t = stand_last (q ∷ ps) ks k n d (omega (arith, size)) s.1 in
      ((s.0, t.0), t.1)

-- where the pieces of rows stand, the rows do
unsealed : (bytes places : List ℕ) (rows : List Entry)
    → StandAt piece_bytes bytes places (map sealed rows) → StandAt row_entry_bytes bytes places rows
unfolding row_entry_bytes
unsealed bytes [] [] s = tt
unsealed bytes [] (e ∷ rows) s = absurd s
unsealed bytes (p ∷ places) [] s = absurd s
unsealed bytes (p ∷ places) (e ∷ rows) s = (s.0, unsealed bytes places rows s.1)

-- rows of no bytes are none
pub no_rows : (rows : List Entry) → rows_bytes rows ≡ [] → rows ≡ []
no_rows [] none = refl
no_rows (e ∷ rows) none =
    absurd (omega (
      arith,
      entry_some e,
      ap length none,
      length-append (row_entry_bytes e) (rows_bytes rows),
    ))

-- ---- the rows that a walk passes

-- The pieces so far of the bytes at the end of these, of which some are left: they are passed, and stand at these places.
pub record PassedSoFar (bytes all rest : List ℕ) (to : Option (List ℕ)) (places : List ℕ)
    : Type 0 where
  pub pieces : List Piece
  pub short : AllByRecursion IsShortPiece pieces
  pub is : all ≡ flat_map piece_bytes pieces ++ rest
  pub passed : AllByRecursion (λ p. IsPassed to p.0) pieces
  pub at : (front : List ℕ) → bytes ≡ front ++ all → StandAt piece_bytes bytes places pieces

-- at first there are none
pub none_passed : (bytes all : List ℕ) (to : Option (List ℕ)) (places : List ℕ) → places ≡ []
    → PassedSoFar bytes all all to places
none_passed bytes all to places none = record {
  pieces = [];
  short = tt;
  is = refl;
  passed = tt;
  at = λ front whole. subst (λ (l : List ℕ). StandAt piece_bytes bytes l []) (sym none) tt;
}

-- where the rest begins
rest_at : (bytes all rest front : List ℕ) (pieces : List Piece) (place : ℕ)
    → all ≡ flat_map piece_bytes pieces ++ rest → bytes ≡ front ++ all
    → place ≡ length bytes - length rest → drop place bytes ≡ rest
rest_at bytes all rest front pieces place is whole at =
    let before = front ++ flat_map piece_bytes pieces in
    let split : bytes ≡ before ++ rest = whole ∙ ap (λ (l : List ℕ). front ++ l) is
    ∙ sym (append_assoc front (flat_map piece_bytes pieces) rest) in
    ap (drop place) split
    ∙ drop_at before rest place (omega (arith, at, ap length split, length-append before rest))

-- one more stands where the rest began
pub one_passed : (bytes all rest behind : List ℕ) (to : Option (List ℕ)) (p : Piece)
    (place : ℕ) (places new : List ℕ) → PassedSoFar bytes all rest to places → IsShortPiece p
    → rest ≡ piece_bytes p ++ behind → IsPassed to p.0 → place ≡ length bytes - length rest
    → new ≡ places ++ place ∷ [] → PassedSoFar bytes all behind to new
one_passed bytes all rest behind to p place places new so short is passes at added = record {
  pieces = so.pieces ++ p ∷ [];
  short = all_append IsShortPiece so.pieces (p ∷ []) so.short (short, tt);
  is = so.is ∙ ap (λ (l : List ℕ). flat_map piece_bytes so.pieces ++ l) is
      ∙ flat_map_snoc piece_bytes IsShortPiece so.pieces p behind;
  passed = all_append (λ (q : Piece). IsPassed to q.0) so.pieces (p ∷ []) so.passed (passes, tt);
  at = λ front whole.
      subst (λ (l : List ℕ). StandAt piece_bytes bytes l (so.pieces ++ p ∷ [])) (sym added)
      (stand_more piece_bytes bytes places so.pieces place p (so.at front whole)
      ((behind, rest_at bytes all rest front so.pieces place so.is whole at ∙ is), tt));
}

-- ---- and the others

-- rows whose pieces are two lists are two lists
record InParts (rows : List Entry) (xs ys : List Piece) : Type 0 where
  pub front : List Entry
  pub back : List Entry
  pub is : rows ≡ front ++ back
  pub fronts : map sealed front ≡ xs
  pub backs : map sealed back ≡ ys

in_parts : (rows : List Entry) (xs ys : List Piece) → map sealed rows ≡ xs ++ ys
    → InParts rows xs ys
in_parts rows [] ys e =
    record { front = []; back = rows; is = refl; fronts = refl; backs = e }
in_parts [] (x ∷ xs) ys e = absurd (let f : [] ≡ x ∷ (xs ++ ys) = e in cc f)
in_parts (r ∷ rows) (x ∷ xs) ys e =
    let first : sealed r ≡ x = Rattle.alt_base.proofs.Lists.cons_first (sealed r) x (map sealed rows)
    (xs ++ ys) e in
    let p = in_parts rows xs ys
    (Rattle.alt_base.proofs.Lists.cons_rest (sealed r) x (map sealed rows) (xs ++ ys) e) in
    record {
      front = r ∷ p.front;
      back = p.back;
      is = ap (λ (l : List Entry). r ∷ l) p.is;
      fronts = λ i. first i ∷ p.fronts i;
      backs = p.backs;
    }

-- the first of these rows has that key
record FirstIs (key : List ℕ) (rows : List Entry) : Type 0 where
  pub first : Entry
  pub others : List Entry
  pub is : rows ≡ first ∷ others
  pub key_is : first.0 ≡ key

module _ (bytes all rest : List ℕ) (to : Option (List ℕ)) (places : List ℕ)
    (so : PassedSoFar bytes all rest to places) where
  -- of rows with these bytes, those that were passed, and the others
  record Parts (rows : List Entry) : Type 0 where
    pub front : List Entry
    pub back : List Entry
    pub is : rows ≡ front ++ back
    pub passed : AllByRecursion (λ e. IsPassed to e.0) front
    pub fronts : map sealed front ≡ so.pieces
    pub rest_is : rest ≡ rows_bytes back

  passed_rows : (rows : List Entry) (pieces : List Piece) → map sealed rows ≡ pieces
      → AllByRecursion (λ p. IsPassed to p.0) pieces → AllByRecursion (λ e. IsPassed to e.0) rows
  passed_rows [] pieces e all_passed = tt
  passed_rows (r ∷ rows) [] e all_passed = absurd (let f : sealed r ∷ map sealed rows ≡ [] = e in cc f)
  passed_rows (r ∷ rows) (p ∷ pieces) e all_passed =
      let first : sealed r ≡ p =
      Rattle.alt_base.proofs.Lists.cons_first (sealed r) p (map sealed rows) pieces e in (
        subst (λ (q : Piece). IsPassed to q.0) (sym first) all_passed.0,
        passed_rows rows pieces
            (Rattle.alt_base.proofs.Lists.cons_rest (sealed r) p (map sealed rows) pieces e) all_passed.1,
      )

  parts : (rows : List Entry) → AreRows rows → all ≡ rows_bytes rows → Parts rows
  parts rows are is =
      let pieces = sealed_rows all rows are is in
      let r = rest_of piece_bytes IsShortPiece piece-apart piece_some so.pieces (map sealed rows) rest
      so.short pieces.short (sym so.is ∙ pieces.is) in
      let p = in_parts rows so.pieces r.0 r.1 in
      record {
        front = p.front;
        back = p.back;
        is = p.is;
        passed = passed_rows p.front so.pieces p.fronts so.passed;
        fronts = p.fronts;
        rest_is = r.2 ∙ ap (flat_map piece_bytes) (sym p.backs) ∙ sym (sealed_bytes p.back);
      }

  -- those that were passed stand at their places
  stand : (front : List ℕ) → bytes ≡ front ++ all → (rows : List Entry)
      → map sealed rows ≡ so.pieces → StandAt row_entry_bytes bytes places rows
  stand front whole rows e =
      unsealed bytes places rows
      (subst (StandAt piece_bytes bytes places) (sym e) (so.at front whole))

  -- where no piece stands next, the bytes are of no rows
  pub no_piece_there : 0 < length rest
      → ((p : Piece) (x : List ℕ) → IsShortPiece p → rest ≡ piece_bytes p ++ x → ⊥) → NoRows all
  unfolding row_entry_bytes
  no_piece_there some none rows are is =
      let p = parts rows are is in
      refute p.back p.rest_is
      (all_back IsHeldEntry p.front p.back (subst (AllByRecursion IsHeldEntry) p.is are.0))
    where
      refute : (back : List Entry) → rest ≡ rows_bytes back → AllByRecursion IsHeldEntry back → ⊥
      refute [] same held = omega (arith, some, ap length same)
      refute (e ∷ back) same held =
          none (sealed e) (rows_bytes back) (held.0.0, held.0.2) same

  -- where the next one isn't passed, the walk begins there
  pub cut_there : (front : List ℕ) (rows : List Entry) (p : Piece) (behind : List ℕ) (place : ℕ)
      (forward : Bool) → AreRows rows → all ≡ rows_bytes rows → bytes ≡ front ++ all
      → IsShortPiece p → rest ≡ piece_bytes p ++ behind → (IsPassed to p.0 → ⊥)
      → place ≡ length bytes - length rest → IsCutIn bytes places place to forward rows
  unfolding row_entry_bytes
  cut_there front rows p behind place forward are is whole short there kept at =
      let q = parts rows are is in
      record {
        front = q.front;
        back = q.back;
        is = q.is;
        cut = cut_of to q.front q.back kept q.passed
            (first_kept q.back q.rest_is
            (all_back IsHeldEntry q.front q.back (subst (AllByRecursion IsHeldEntry) q.is are.0)))
            (sorted_back q.front q.back
            (subst (λ (l : List Entry). T (is_sorted key_cmp l)) q.is are.1));
        before = stand front whole q.front q.fronts;
        behind = rest_at bytes all rest front so.pieces place so.is whole at ∙ q.rest_is;
      }
    where
      first_kept : (back : List Entry) → rest ≡ rows_bytes back → AllByRecursion IsHeldEntry back
          → FirstIs p.0 back
      first_kept [] same held =
          absurd (omega (
            arith,
            ap length same,
            ap length there,
            length-append (piece_bytes p) behind,
            length-piece p,
          ))
      first_kept (e ∷ back) same held =
          let one = piece-apart p (sealed e) behind (rows_bytes back) short (held.0.0, held.0.2)
          (sym there ∙ same) in
          record {
            first = e;
            others = back;
            is = refl;
            key_is = ap (λ (x : Piece). x.0) (sym one.0);
          }

      cut_of : (t : Option (List ℕ)) (xs ys : List Entry) → (IsPassed t p.0 → ⊥)
          → AllByRecursion (λ e. IsPassed t e.0) xs → FirstIs p.0 ys → T (is_sorted key_cmp ys)
          → IsCutAtKey t forward xs ys
      cut_of None xs ys never passed f sorted = absurd (never tt)
      cut_of (Some key) xs ys never passed f sorted = (
        passed,
        subst (AllByRecursion (IsFromKey key)) (sym f.is)
            (from_first key f.first f.others
            (subst (λ (l : List Entry). T (is_sorted key_cmp l)) f.is sorted)
            (λ lower. never (ap (λ (k : List ℕ). key_cmp k key) (sym f.key_is) ∙ lower))),
      )

  -- where none is left, it begins behind the last one
  pub cut_end : (front : List ℕ) (rows : List Entry) (place : ℕ) → AreRows rows
      → all ≡ rows_bytes rows → bytes ≡ front ++ all → length rest ≡ 0 → place ≡ length bytes
      → IsCutIn bytes places place to false rows
  cut_end front rows place are is whole none at =
      let q = parts rows are is in
      let end : rest ≡ [] = length-zero rest none in
      let last : q.back ≡ [] = no_rows q.back (sym q.rest_is ∙ end) in
      record {
        front = q.front;
        back = q.back;
        is = q.is;
        cut = cut_of to q.front q.back q.passed last;
        before = stand front whole q.front q.fronts;
        behind = drop_all place bytes (omega (arith, at)) ∙ sym end ∙ q.rest_is;
      }
    where
      cut_of : (t : Option (List ℕ)) (xs ys : List Entry)
          → AllByRecursion (λ e. IsPassed t e.0) xs → ys ≡ [] → IsCutAtKey t false xs ys
      cut_of None xs ys passed last = last
      cut_of (Some key) xs ys passed last =
          (passed, subst (AllByRecursion (IsFromKey key)) (sym last) tt)

  -- whatever the bytes are, a walk begins where the next one isn't passed
  pub begun_there : (front : List ℕ) (p : Piece) (behind : List ℕ) (place : ℕ)
      → bytes ≡ front ++ all → IsShortPiece p → rest ≡ piece_bytes p ++ behind
      → (IsPassed to p.0 → ⊥) → place ≡ length bytes - length rest
      → IsPassedBy bytes all to places place
  begun_there front p behind place whole short there ahead at = record {
    pieces = so.pieces;
    rest = rest;
    short = so.short;
    is = so.is;
    passed = so.passed;
    ahead = stays p behind short there ahead;
    before = so.at front whole;
    behind = rest_at bytes all rest front so.pieces place so.is whole at;
  }

  -- or where none is left
  pub begun_end : (front : List ℕ) (place : ℕ) → bytes ≡ front ++ all → length rest ≡ 0
      → place ≡ length bytes → IsPassedBy bytes all to places place
  begun_end front place whole none at = record {
    pieces = so.pieces;
    rest = rest;
    short = so.short;
    is = so.is;
    passed = so.passed;
    ahead = at_end (length-zero rest none);
    before = so.at front whole;
    behind = drop_all place bytes (omega (arith, at)) ∙ sym (length-zero rest none);
  }
