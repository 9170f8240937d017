-- The rows of a stream tell the number of the last change that was trimmed, and the changes that are kept, whatever is left over.
use Rattle.std.proofs.Common.{◌≡◌, ◌<◌, ◌^◌, ◌⊎◌, inl, inr, refl, sym, ap, subst, ◌∙◌, ℕ, Bool, true, false, cond, List, Option, Some, None, option_map, All, arith}
use Rattle.std.proofs.lemmas.Bool.{eqb-true, false≢true, lt-leb as above, leb-true, le-leb}
use Rattle.std.proofs.lemmas.Nat.{from_be_bytes-to_be_bytes_8}
use Rattle.std.specs.Cmp.{tied_itself}
use Rattle.std.specs.FinMap as finite
use Rattle.std.specs.Int.{w64, from_be_bytes, to_be_bytes}
use Rattle.std.specs.Option.{option_map_or}
use Rattle.std.specs.Ordering.{eq_by_cmp, is_eq}
use Rattle.std.specs.Prelude.{◌==◌, if◌then◌else◌, nat_le, codes}
use Rattle.alt_cells.specs.Changes.{Columns}
use Rattle.alt_cells.specs.Keys.{key_cmp}
use Rattle.alt_cells.proofs.CellLaws.{key_total}
use Rattle.alt_cells.proofs.SameKeys.{key_itself, one_key}
use Rattle.alt_tablerows.specs.ChangeRows.{change_columns, row_key}
use Rattle.alt_tablerows.specs.TrimRows.{number_told, trimmed_columns, trimmed_row, trimmed_told}
use Rattle.alt_machine.specs.State.{Change}
use Rattle.alt_machine.proofs.Trimming.{Above, Rise}
use Rattle.alt_opening.specs.StateRows.{IsLeftover, keyed_changes, stream_row}
use Rattle.alt_opening.proofs.StreamKeys.{IsKept, IsSmall, changes-one, found_keyed, get_keyed, key_one, keys_differ}

-- what a row shows of a stream
abbrev pub ShowsStream : (List ℕ → Option Columns) → ℕ → List Change → Type 0
ShowsStream rows trimmed cs =
    (key : List ℕ) → (IsLeftover trimmed key → ⊥) → rows key ≡ stream_row trimmed cs key

-- ---- keys that are left over

-- no row of number 0 is left over
pub zero_counts : (trimmed : ℕ) → trimmed < 2 ^ 64 → IsLeftover trimmed (row_key 0) → ⊥
zero_counts trimmed small left =
    let most = left.2 in
    let low = left.1 in
    let same : 0 ≡ left.0 = key_one 0 left.0 (omega arith) (omega (arith, most, small)) left.3 in
    omega (arith, same, low)

-- nor one of a number above
pub above_counts : (trimmed n : ℕ) → trimmed < n → n < 2 ^ 64 → IsLeftover trimmed (row_key n) → ⊥
above_counts trimmed n above small left =
    let most = left.2 in
    let same : n ≡ left.0 = key_one n left.0 small (omega (arith, most, above, small)) left.3 in
    omega (arith, same, most, above)

-- a key is left over or it isn't, as the number of its bytes says
leftover_by : (trimmed : ℕ) → trimmed < 2 ^ 64 → (key : List ℕ) (n : ℕ)
    → ((m : ℕ) → m < 2 ^ 64 → key ≡ row_key m → n ≡ m)
    → IsLeftover trimmed key ⊎ (IsLeftover trimmed key → ⊥)
leftover_by trimmed small key n only = by (eq_by_cmp key_cmp key (row_key n)) (nat_le 1 n)
    (nat_le n trimmed) refl refl refl
  where
    told : (left : IsLeftover trimmed key) → n ≡ left.0
    told left = let most = left.2 in only left.0 (omega (arith, most, small)) left.3

    by : (a b c : Bool) → eq_by_cmp key_cmp key (row_key n) ≡ a → nat_le 1 n ≡ b
        → nat_le n trimmed ≡ c → IsLeftover trimmed key ⊎ (IsLeftover trimmed key → ⊥)
    by true true true ea eb ec =
        inl (n, leb-true 1 n eb, leb-true n trimmed ec, one_key key (row_key n) ea)
    by false b c ea eb ec = inr (λ left. false≢true (sym ea
        ∙ ap (λ m. eq_by_cmp key_cmp key (row_key m)) (told left)
        ∙ ap (eq_by_cmp key_cmp key) (sym left.3) ∙ key_itself key))
    by true false c ea eb ec = inr (λ left. false≢true (sym eb ∙ ap (nat_le 1) (told left)
        ∙ le-leb 1 left.0 left.1))
    by true true false ea eb ec = inr (λ left. false≢true (sym ec
        ∙ ap (λ m. nat_le m trimmed) (told left) ∙ le-leb left.0 trimmed left.2))

-- so it can be told
pub leftover_or_not : (trimmed : ℕ) → trimmed < 2 ^ 64 → (key : List ℕ)
    → IsLeftover trimmed key ⊎ (IsLeftover trimmed key → ⊥)
leftover_or_not trimmed small key = leftover_by trimmed small key (from_be_bytes w64 key)
    (λ m fits at. ap (from_be_bytes w64) at ∙ from_be_bytes-to_be_bytes_8 m fits)

-- ---- what the row of number 0 tells

-- is read as that number
pub told-columns : (n : ℕ) → n < 2 ^ 64 → trimmed_told (Some (trimmed_columns n)) ≡ n
told-columns n small =
    ap (λ (o : Option (List ℕ)). option_map_or number_told o 0) there
    ∙ from_be_bytes-to_be_bytes_8 n small
  where
    there : finite.get (trimmed_columns n) (codes "x") ≡ Some (to_be_bytes w64 n)
    there = finite.get-insert key_total finite.empty (codes "x") (to_be_bytes w64 n) (codes "x")
        ∙ ap (λ r. cond (is_eq r) (Some (to_be_bytes w64 n))
        (finite.get (finite.empty {R = key_cmp}) (codes "x"))) (tied_itself key_total (codes "x"))

-- and so is the row of number 0
pub told-row : (n : ℕ) → n < 2 ^ 64 → trimmed_told (trimmed_row n) ≡ n
told-row n small = by (n == 0) refl
  where
    by : (b : Bool) → (n == 0) ≡ b
        → trimmed_told (if b then None else Some (trimmed_columns n)) ≡ n
    by true e = sym (eqb-true n 0 e)
    by false e = told-columns n small

-- at 0 stands the trimmed number
at_zero : (rows : List ℕ → Option Columns) (trimmed : ℕ) (cs : List Change) → trimmed < 2 ^ 64
    → ShowsStream rows trimmed cs → rows (row_key 0) ≡ trimmed_row trimmed
at_zero rows trimmed cs small shows = shows (row_key 0) (zero_counts trimmed small)
    ∙ ap (λ b. if b then trimmed_row trimmed
    else option_map change_columns (finite.get (keyed_changes cs) (row_key 0)))
    (key_itself (row_key 0))

-- so the rows tell it
pub told_shown : (rows : List ℕ → Option Columns) (trimmed : ℕ) (cs : List Change)
    → trimmed < 2 ^ 64 → ShowsStream rows trimmed cs → trimmed_told (rows (row_key 0)) ≡ trimmed
told_shown rows trimmed cs small shows =
    ap trimmed_told (at_zero rows trimmed cs small shows) ∙ told-row trimmed small

-- and it is one
pub one_trimmed : (rows : List ℕ → Option Columns) (m n : ℕ) (cs ds : List Change) → m < 2 ^ 64
    → n < 2 ^ 64 → ShowsStream rows m cs → ShowsStream rows n ds → m ≡ n
one_trimmed rows m n cs ds small_m small_n shows_m shows_n =
    sym (told_shown rows m cs small_m shows_m) ∙ told_shown rows n ds small_n shows_n

module _ (rows : List ℕ → Option Columns) (trimmed : ℕ) (cs ds : List Change)
    (kept_c : All IsKept cs) (kept_d : All IsKept ds) (small_c : All IsSmall cs)
    (small_d : All IsSmall ds) (rise_c : Rise cs) (rise_d : Rise ds) (above_c : Above trimmed cs)
    (above_d : Above trimmed ds) (shows_c : ShowsStream rows trimmed cs)
    (shows_d : ShowsStream rows trimmed ds) where
  -- at the key of a change above the trimmed number both lists show one row
  at_change : (n : ℕ) → trimmed < n → n < 2 ^ 64
      → option_map change_columns (finite.get (keyed_changes cs) (row_key n))
      ≡ option_map change_columns (finite.get (keyed_changes ds) (row_key n))
  at_change n above small =
      let counts = above_counts trimmed n above small in
      let off : eq_by_cmp key_cmp (row_key n) (row_key 0) ≡ false =
      keys_differ n 0 small (omega arith)
      (λ same. let none : n ≡ 0 = same in omega (arith, none, above)) in
      sym (ap (λ b. if b then trimmed_row trimmed
      else option_map change_columns (finite.get (keyed_changes cs) (row_key n))) off)
      ∙ sym (shows_c (row_key n) counts) ∙ shows_d (row_key n) counts
      ∙ ap (λ b. if b then trimmed_row trimmed
      else option_map change_columns (finite.get (keyed_changes ds) (row_key n))) off

  abbrev IsAbove : Change → Type 0
  IsAbove c = IsSmall c × (trimmed < c.number)

  -- what is found at a key in one of them stands at the key of a change above the trimmed number
  found_above : (es : List Change) → All IsSmall es → Rise es → Above trimmed es → (key : List ℕ)
      → (c : Change) → finite.get (keyed_changes es) key ≡ Some c
      → (key ≡ row_key c.number) × IsAbove c
  found_above es small rise above key c is = found_keyed IsAbove es key c
      (λ k x within. (small k x within, above k x within))
      (sym (get_keyed es small rise key) ∙ is)

  -- so the lists are one
  pub one_stream : cs ≡ ds
  one_stream = changes-one cs ds small_c small_d rise_c rise_d kept_c kept_d
      (λ key. by key (finite.get (keyed_changes cs) key) (finite.get (keyed_changes ds) key) refl refl)
    where
      by : (key : List ℕ) (o p : Option Change) → finite.get (keyed_changes cs) key ≡ o
          → finite.get (keyed_changes ds) key ≡ p
          → option_map change_columns (finite.get (keyed_changes cs) key)
          ≡ option_map change_columns (finite.get (keyed_changes ds) key)
      by key None None e f = ap (option_map change_columns) (e ∙ sym f)
      by key (Some c) p e f =
          let is = found_above cs small_c rise_c above_c key c e in
          subst (λ k. option_map change_columns (finite.get (keyed_changes cs) k)
          ≡ option_map change_columns (finite.get (keyed_changes ds) k)) (sym is.0)
          (at_change c.number is.1.1 is.1.0)
      by key None (Some d) e f =
          let is = found_above ds small_d rise_d above_d key d f in
          subst (λ k. option_map change_columns (finite.get (keyed_changes cs) k)
          ≡ option_map change_columns (finite.get (keyed_changes ds) k)) (sym is.0)
          (at_change d.number is.1.1 is.1.0)
