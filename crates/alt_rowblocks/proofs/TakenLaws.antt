-- What is taken of a block, from the calls below.
use Rattle.std.proofs.Common.{◌≡◌, ◌<◌, ◌+◌, ◌-◌, ◌∙◌, refl, sym, ap, ℕ, List, [], ◌∷◌, ◌++◌, length, take, drop, get_or, Option, Some, None, true, false, arith, length-append}
use Rattle.std.proofs.lemmas.List.{drop_at, drop-drop, length-drop, take_all, take_more}
use Rattle.std.specs.Prelude.{Result, Ok, Err, IfOk, IfSome}
use Rattle.alt_fields.specs.Field.{field}
use Rattle.alt_cells.specs.declared.row.RowCells.{RowCells}
use Rattle.alt_rowblocks.specs.Format.{Entry, row_entry_bytes, IsHeldEntry}
use Rattle.alt_rowblocks.specs.Taken.{IsFoundIn, IsTaken}
use Rattle.alt_rowblocks.specs.Holding.{IsInHand, StandAt}
use Rattle.alt_rowblocks.specs.Picking.{IsPicked}
use Rattle.alt_rowblocks.specs.declared.hand.Hand.{Hand}

-- what is picked of all that a field holds is found in the field
pub found_whole : {E : Type 0} (bytes rows key : List ℕ) → bytes ≡ field rows
    → (r : Result (Option (Option RowCells)) E)
    → IfOk r (λ o. IfSome o (IsPicked rows key)) → IfOk r (λ o. IfSome o (IsFoundIn bytes key))
found_whole bytes rows key is (Ok (Some row)) p = record { rows = rows; is = is; picked = p }
found_whole bytes rows key is (Ok None) p = p
found_whole bytes rows key is (Err e) p = p

-- ---- a row that was taken of what is in hand

-- behind the row that stands at a place lies what follows it
pub behind_row : (bytes rest behind : List ℕ) (row : Entry) (at next : ℕ) → rest ≡ drop at bytes
    → at < length bytes → rest ≡ row_entry_bytes row ++ behind → next ≡ length bytes - length behind
    → drop next bytes ≡ behind
behind_row bytes rest behind row at next is some taken goes =
    ap (λ (n : ℕ). drop n bytes) (omega (
      arith,
      goes,
      ap length is,
      ap length taken,
      some,
      length-append (row_entry_bytes row) behind,
      length-drop at bytes,
    ))
    ∙ sym (drop-drop (length (row_entry_bytes row)) at bytes)
    ∙ ap (drop (length (row_entry_bytes row))) (sym is ∙ taken)
    ∙ drop_at (row_entry_bytes row) behind (length (row_entry_bytes row)) refl

-- upwards the place moves behind it
pub taken_behind : (hand new : Hand) (rest behind : List ℕ) (row : Entry)
    → rest ≡ drop hand.at hand.bytes.items → hand.at < length hand.bytes.items → IsHeldEntry row
    → rest ≡ row_entry_bytes row ++ behind → new.bytes.items ≡ hand.bytes.items
    → new.at ≡ length hand.bytes.items - length behind → IsTaken hand true row new
taken_behind hand new rest behind row is some held taken same goes = record {
  held = held;
  bytes = same;
  at = sym is ∙ taken
      ∙ ap (λ (l : List ℕ). row_entry_bytes row ++ l)
      (sym (behind_row hand.bytes.items rest behind row hand.at new.at is some taken goes));
}

-- downwards the last place goes
pub taken_before : (hand new : Hand) (row : Entry) (n place : ℕ)
    → length hand.before.items ≡ n + 1 → place ≡ get_or hand.before.items n place
    → new.before.items ≡ take n hand.before.items → new.bytes.items ≡ hand.bytes.items
    → IsHeldEntry row × StandAt row_entry_bytes hand.bytes.items (place ∷ []) (row ∷ [])
    → IsTaken hand false row new
taken_before hand new row n place size is places same there = record {
  held = there.0;
  bytes = same;
  at = (
    place,
    sym (take_all (n + 1) hand.before.items (omega (arith, size)))
        ∙ take_more hand.before.items n place (omega (arith, size))
        ∙ (λ i. sym places i ++ sym is i ∷ []),
    there.1,
  );
}

-- downwards nothing is in hand where no place is left
pub none_before : (hand : Hand) → length hand.before.items ≡ 0 → IsInHand hand false []
none_before hand size = (tt, stands hand.before.items size)
  where
    stands : (places : List ℕ) → length places ≡ 0
        → StandAt row_entry_bytes hand.bytes.items places []
    stands [] size = tt
    stands (p ∷ places) size = absurd (omega (arith, size))
