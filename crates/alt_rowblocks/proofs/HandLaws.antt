-- The rows of a block that are in hand, and what one row more, upwards or downwards, makes of them.
use Rattle.std.proofs.Common.{◌≡◌, refl, sym, ap, subst, ◌∙◌, ℕ, ◌+◌, ◌-◌, ◌<◌, ◌≤◌, ◌^◌, List, [], ◌∷◌, ◌++◌, length, take, drop, get_or, reverse, Option, Some, None, Bool, true, false, arith, length-append}
use Rattle.std.specs.Prelude.{Result, Ok, Err, IfOk, IfSome}
use Rattle.std.specs.List.{AllByRecursion}
use Rattle.std.specs.Int.{w64, to_be_bytes}
use Rattle.std.proofs.lemmas.List.{append-nil, drop_at, drop_all, length-drop, reverse-append, reverse-reverse}
use Rattle.alt_fields.specs.Field.{field}
use Rattle.alt_fields.proofs.Apart.{all_back, all_front}
use Rattle.alt_cells.specs.Walks.{Gives, turned}
use Rattle.alt_rowblocks.specs.Format.{Entry, row_entry_bytes, rows_bytes, block_bytes, IsHeldEntry, IsHeldBlock}
use Rattle.alt_rowblocks.specs.Taken.{IsBegunAt, IsBegunIn}
use Rattle.alt_rowblocks.specs.Holding.{StandAt, AreRowsAt, IsCutIn, IsCutBlock, IsInHand}
use Rattle.alt_rowblocks.specs.declared.hand.Hand.{Hand}
use Rattle.alt_rowblocks.proofs.TakenLaws.{behind_row}
use Rattle.alt_rowblocks.proofs.PlaceLaws.{block_content}
use Rattle.alt_rowblocks.proofs.OneFile.{entry-apart, entry_some}
use Rattle.alt_rowblocks.proofs.RowPlaces.{stand_none, stand_last, no_rows}

-- ---- a block

-- upwards from no key it begins with all that the field holds
pub begun_front : (bytes all places : List ℕ) (place : ℕ) → bytes ≡ field all → places ≡ []
    → place ≡ length bytes - length all → IsBegunIn bytes places place None true
begun_front bytes all places place is none at =
    let front = to_be_bytes w64 (length all) in
    record {
      rows = all;
      is = is;
      begun = (
        none,
        ap (drop place) is
            ∙ drop_at front all place (omega (arith, at, ap length is, length-append front all)),
      );
    }

-- and else where pieces are passed
pub begun_by : {V E : Type 0} (r : Result (Option V) E) (places : V → List ℕ) (place : V → ℕ)
    (bytes all : List ℕ) (from : Option (List ℕ)) (forward : Bool) → bytes ≡ field all
    → IfOk r (λ o. IfSome o (λ v. IsBegunAt bytes all (places v) (place v) from forward))
    → IfOk r (λ o. IfSome o (λ v. IsBegunIn bytes (places v) (place v) from forward))
begun_by (Ok (Some v)) places place bytes all from forward is b =
    record { rows = all; is = is; begun = b }
begun_by (Ok None) places place bytes all from forward is b = b
begun_by (Err e) places place bytes all from forward is b = b

-- what the field of a block holds are its rows' bytes, and they stand at its end
pub block_front : (bytes block : List ℕ) (b : List Entry) → IsHeldBlock b
    → bytes ≡ block_bytes b → length block < 2 ^ 64 → bytes ≡ field block
    → (block ≡ rows_bytes b) × (bytes ≡ to_be_bytes w64 (length block) ++ block)
block_front bytes block b held is short there =
    (block_content bytes block b held is short there, there)

-- with no key upwards a walk begins at its front
pub cut_front : (bytes front all places : List ℕ) (place : ℕ) (b : List Entry) → places ≡ []
    → all ≡ rows_bytes b → bytes ≡ front ++ all → place ≡ length bytes - length all
    → IsCutIn bytes places place None true b
cut_front bytes front all places place b none is whole at = record {
  front = [];
  back = b;
  is = refl;
  cut = refl;
  before = subst (λ (l : List ℕ). StandAt row_entry_bytes bytes l []) (sym none) tt;
  behind = ap (drop place) whole
      ∙ drop_at front all place (omega (arith, at, ap length whole, length-append front all)) ∙ is;
}

-- with a key both directions begin at one place
pub cut_either : (bytes places : List ℕ) (place : ℕ) (key : List ℕ) (forward : Bool)
    (b : List Entry) → IsCutIn bytes places place (Some key) false b
    → IsCutIn bytes places place (Some key) forward b
cut_either bytes places place key forward b c = record {
  front = c.front;
  back = c.back;
  is = c.is;
  cut = c.cut;
  before = c.before;
  behind = c.behind;
}

-- so what was found for one is found for both
pub some_either : {V E : Type 0} (r : Result (Option V) E) (places : V → List ℕ) (place : V → ℕ)
    (bytes key : List ℕ) (forward : Bool) (b : List Entry)
    → IfOk r (λ o. IfSome o (λ v. IsCutIn bytes (places v) (place v) (Some key) false b))
    → IfOk r (λ o. IfSome o (λ v. IsCutIn bytes (places v) (place v) (Some key) forward b))
some_either (Ok (Some v)) places place bytes key forward b c =
    cut_either bytes (places v) (place v) key forward b c
some_either (Ok None) places place bytes key forward b c = c
some_either (Err e) places place bytes key forward b c = c

-- ---- what is in hand

-- the rows of a block from where a walk begins, in its direction
abbrev pub from_cut : Bool → List Entry → List Entry → List Entry
from_cut true front back = back
from_cut false front back = reverse front

pub cut_in_hand : (hand : Hand) (from : Option (List ℕ)) (forward : Bool) (b : List Entry)
    → (c : IsCutBlock hand from forward b) → AllByRecursion IsHeldEntry b
    → IsInHand hand forward (from_cut forward c.front c.back)
cut_in_hand hand from true b c held =
    (all_back IsHeldEntry c.front c.back (subst (AllByRecursion IsHeldEntry) c.is held), c.behind)
cut_in_hand hand from false b c held =
    subst (AreRowsAt hand.bytes.items hand.before.items) (sym (reverse-reverse c.front))
    (all_front IsHeldEntry c.front c.back (subst (AllByRecursion IsHeldEntry) c.is held), c.before)

-- with no key all of the block is
pub all_in_hand : (hand : Hand) (forward : Bool) (b : List Entry)
    → IsCutBlock hand None forward b → AllByRecursion IsHeldEntry b
    → IsInHand hand forward (turned forward b)
all_in_hand hand true b c held =
    subst (IsInHand hand true)
    (sym (c.is ∙ ap (λ (l : List Entry). l ++ c.back) c.cut))
    (cut_in_hand hand None true b c held)
all_in_hand hand false b c held =
    subst (IsInHand hand false)
    (sym (ap reverse (c.is ∙ ap (λ (l : List Entry). c.front ++ l) c.cut ∙ append-nil c.front)))
    (cut_in_hand hand None false b c held)

-- ---- one row upwards

module _ (hand new : Hand) (rows : List Entry) (h : IsInHand hand true rows) where
  -- none is left at the end
  pub behind_none : length hand.bytes.items ≤ hand.at → new ≡ hand
      → Gives (IsInHand new true) rows None
  behind_none past same =
      let none : rows ≡ [] = no_rows rows (sym h.1 ∙ drop_all hand.at hand.bytes.items past) in
      subst (λ (l : List Entry). Gives (IsInHand new true) l None) (sym none)
      (subst (λ (n : Hand). IsInHand n true []) (sym same) (subst (IsInHand hand true) none h))

  module _ (rest : List ℕ) (is : rest ≡ drop hand.at hand.bytes.items)
      (some : hand.at < length hand.bytes.items) where
    rest_is : rest ≡ rows_bytes rows
    rest_is = is ∙ h.1

    rest_some : 0 < length rest
    rest_some = omega (arith, some, ap length is, length-drop hand.at hand.bytes.items)

    -- the row that was taken is the first of them
    pub behind_next : (given : Entry) (behind : List ℕ) → IsHeldEntry given
        → rest ≡ row_entry_bytes given ++ behind → new.bytes.items ≡ hand.bytes.items
        → new.at ≡ length hand.bytes.items - length behind
        → Gives (IsInHand new true) rows (Some given)
    behind_next given behind fits taken same at = by_rows rows rest_is h.0
      where
        place : drop new.at new.bytes.items ≡ behind
        place =
            ap (drop new.at) same
            ∙ behind_row hand.bytes.items rest behind given hand.at new.at is some taken at

        by_rows : (rows : List Entry) → rest ≡ rows_bytes rows → AllByRecursion IsHeldEntry rows
            → Gives (IsInHand new true) rows (Some given)
        by_rows [] same held = absurd (omega (arith, rest_some, ap length same))
        by_rows (e ∷ es) same held =
            let one = entry-apart given e behind (rows_bytes es) fits held.0 (sym taken ∙ same) in
            (one.0, (held.1, place ∙ one.1))

    -- and one was
    pub behind_some : ((e : Entry) (x : List ℕ) → IsHeldEntry e → rest ≡ row_entry_bytes e ++ x → ⊥) → ⊥
    behind_some none = by_rows rows rest_is h.0
      where
        by_rows : (rows : List Entry) → rest ≡ rows_bytes rows → AllByRecursion IsHeldEntry rows → ⊥
        by_rows [] same held = omega (arith, rest_some, ap length same)
        by_rows (e ∷ es) same held = none e (rows_bytes es) held.0 same

-- ---- one row downwards

-- the row that stands at the last place
pub record IsBefore (bytes places : List ℕ) (rows : List Entry) (n d : ℕ) : Type 0 where
  pub first : Entry
  pub others : List Entry
  pub is : rows ≡ first ∷ others
  pub held : IsHeldEntry first
  pub here : StandAt row_entry_bytes bytes (get_or places n d ∷ []) (first ∷ [])
  pub left : AreRowsAt bytes (take n places) (reverse others)

module _ (hand : Hand) (rows : List Entry) (h : IsInHand hand false rows) where
  -- none stands before the first place
  pub before_none : length hand.before.items ≡ 0 → Gives (IsInHand hand false) rows None
  before_none size =
      let turned : reverse rows ≡ [] =
      stand_none row_entry_bytes hand.bytes.items hand.before.items (reverse rows) size h.1 in
      let none : rows ≡ [] = sym (reverse-reverse rows) ∙ ap reverse turned in
      subst (λ (l : List Entry). Gives (IsInHand hand false) l None) (sym none)
      (subst (IsInHand hand false) none h)

  pub before_last : (n d : ℕ) → length hand.before.items ≡ n + 1
      → IsBefore hand.bytes.items hand.before.items rows n d
  before_last n d size = by_rows rows h
    where
      by_rows : (rows : List Entry) → IsInHand hand false rows
          → IsBefore hand.bytes.items hand.before.items rows n d
      by_rows [] k =
          absurd (none_there hand.before.items size k.1)
        where
          none_there : (ps : List ℕ) → length ps ≡ n + 1
              → StandAt row_entry_bytes hand.bytes.items ps [] → ⊥
          none_there [] size s = omega (arith, size)
          none_there (p ∷ ps) size s = s
      by_rows (e ∷ es) k =
          let turned : reverse (e ∷ es) ≡ reverse es ++ e ∷ [] = reverse-append (e ∷ []) es in
          let both = subst (AreRowsAt hand.bytes.items hand.before.items) turned k in
          let s = stand_last row_entry_bytes hand.bytes.items hand.before.items (reverse es) e n d size
          both.1 in
          record {
            first = e;
            others = es;
            is = refl;
            held = (all_back IsHeldEntry (reverse es) (e ∷ []) both.0).0;
            here = s.1;
            left = (all_front IsHeldEntry (reverse es) (e ∷ []) both.0, s.0);
          }

  -- there it stands
  pub before_stands : (n place : ℕ) (b : IsBefore hand.bytes.items hand.before.items rows n place)
      (bytes : List ℕ) → bytes ≡ hand.bytes.items → place ≡ get_or hand.before.items n place
      → StandAt row_entry_bytes bytes (place ∷ []) (b.first ∷ [])
  before_stands n place b bytes same is =
      subst (λ (l : List ℕ). StandAt row_entry_bytes l (place ∷ []) (b.first ∷ [])) (sym same)
      (subst (λ (p : ℕ). StandAt row_entry_bytes hand.bytes.items (p ∷ []) (b.first ∷ [])) (sym is)
      b.here)

  -- it is given, where it was read
  pub before_next : (new : Hand) (n d : ℕ) (given : Entry)
      (b : IsBefore hand.bytes.items hand.before.items rows n d) → given ≡ b.first
      → new.bytes.items ≡ hand.bytes.items → new.before.items ≡ take n hand.before.items
      → Gives (IsInHand new false) rows (Some given)
  before_next new n d given b is same places =
      subst (λ (l : List Entry). Gives (IsInHand new false) l (Some given)) (sym b.is) (
        is,
        subst (λ (l : List ℕ). AreRowsAt l new.before.items (reverse b.others)) (sym same)
            (subst (λ (l : List ℕ). AreRowsAt hand.bytes.items l (reverse b.others)) (sym places)
            b.left),
      )

-- the row at a place

module _ (bytes : List ℕ) (place : ℕ) (e : Entry) (held : IsHeldEntry e)
    (at : StandAt row_entry_bytes bytes (place ∷ []) (e ∷ [])) where
  -- the place lies within the bytes
  pub place_within : place ≤ length bytes
  place_within =
      omega (
        arith,
        entry_some e,
        ap length at.0.1,
        length-append (row_entry_bytes e) at.0.0,
        length-drop place bytes,
      )

  -- what was taken there is the row
  pub entry_there : (given : Entry) (rest behind : List ℕ) → IsHeldEntry given
      → rest ≡ drop place bytes → rest ≡ row_entry_bytes given ++ behind → given ≡ e
  entry_there given rest behind fits is taken =
      (entry-apart given e behind at.0.0 fits held (sym taken ∙ is ∙ at.0.1)).0

  -- and some was
  pub entry_none : (rest : List ℕ) → rest ≡ drop place bytes
      → ((f : Entry) (x : List ℕ) → IsHeldEntry f → rest ≡ row_entry_bytes f ++ x → ⊥) → ⊥
  entry_none rest is none = none e at.0.0 held (is ∙ at.0.1)
