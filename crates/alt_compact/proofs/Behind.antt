-- The rows behind a key: those from the least key above it on.
use Rattle.std.proofs.Common.{◌≡◌, ℕ, Bool, true, false, cond, T, List, [], ◌∷◌, ◌++◌, Option, Some, None, refl, ap, subst, ◌∙◌, arith}
use Rattle.std.proofs.lemmas.Bool.Decides.{nat_tests}
use Rattle.std.specs.Prelude.{◌&&◌}
use Rattle.std.specs.List.{filter}
use Rattle.std.specs.BTreeMap.Range.{range_contains}
use Rattle.std.specs.Cmp.{nat_cmp_total, tied_itself}
use Rattle.std.specs.Ordering.{is_le, nat_cmp, ordering_then}
use Rattle.std.specs.Cmp.Lexicographic.{slice_cmp}
use Rattle.std.specs.declared.cmp.Ordering.{Ordering}
use Rattle.std.specs.declared.cmp.Ordering.TheVariants.{Less, Equal, Greater}
use Rattle.std.specs.declared.ops.Bound.TheVariants.{Included, Unbounded}
use Rattle.std.specs.FinMap.{entries, entries_sorted}
use Rattle.std.specs.FinMap.Entries.{is_sorted, below_all}
use Rattle.alt_base.proofs.Bools.{first_holds, second_holds}
use Rattle.alt_base.proofs.Orderings.{is_lt-holds}
use Rattle.alt_cells.specs.declared.row.RowCells.{RowCells}
use Rattle.alt_cells.specs.Keys.{key_cmp}
use Rattle.alt_cells.specs.Walks.{RowMap, RowList, rows_from}
use Rattle.alt_cells.proofs.Entries.{turned_less, turned_greater}
use Rattle.alt_cells.proofs.CellLaws.{key_total}
use Rattle.alt_compact.specs.Jobs.{last_key_from, last_row_key}

-- 0 is below each number, or ties with it
not_below : (n : ℕ) → nat_cmp 0 n ≡ Greater → ⊥
not_below n h = grind (arith, nat_tests)

zero_first : (n : ℕ) (r : Ordering) → is_le r ≡ true
    → is_le (ordering_then (nat_cmp 0 n) r) ≡ true
zero_first n r h =
    elim (nat_cmp 0 n) as (λ o. nat_cmp 0 n ≡ o → is_le (ordering_then o r) ≡ true) [
      | Less ↦ λ e. refl
      | Equal ↦ λ e. h
      | Greater ↦ λ e. absurd (not_below n e)
    ] refl

-- a key with one 0 more is up to each key above it
above_key : (k q : List ℕ) → key_cmp k q ≡ Less → is_le (key_cmp (k ++ 0 ∷ []) q) ≡ true
above_key [] [] h = absurd (cc)
above_key [] (y ∷ []) h = zero_first y Equal refl
above_key [] (y ∷ z ∷ q) h = zero_first y Less refl
above_key (x ∷ k) [] h = absurd (cc)
above_key (x ∷ k) (y ∷ q) h =
    elim (nat_cmp x y) as
    (λ o. ordering_then o (slice_cmp nat_cmp k q) ≡ Less
    → is_le (ordering_then o (slice_cmp nat_cmp (k ++ 0 ∷ []) q)) ≡ true) [
      | Less ↦ λ e. refl
      | Equal ↦ λ e. above_key k q e
      | Greater ↦ λ e. absurd (cc)
    ] h

-- above the key itself
at_key : (k : List ℕ) → is_le (key_cmp (k ++ 0 ∷ []) k) ≡ false
at_key [] = refl
at_key (x ∷ k) =
    ap (λ o. is_le (ordering_then o (slice_cmp nat_cmp (k ++ 0 ∷ []) k)))
    (tied_itself nat_cmp_total x) ∙ at_key k

is_greater : (o : Ordering) → is_le o ≡ false → o ≡ Greater
is_greater Less h = absurd (cc)
is_greater Equal h = absurd (cc)
is_greater Greater h = refl

-- and above what is below such a key
below_key : (k q e : List ℕ) → key_cmp q e ≡ Less → is_le (key_cmp k e) ≡ false
    → is_le (key_cmp k q) ≡ false
below_key k q e l h =
    let up = turned_less key_cmp key_total k e (is_greater _ h) in
    ap is_le (turned_greater key_cmp key_total q k (key_total.trans q e k l up))

-- from the least key above a key on
abbrev from_behind : List ℕ → List ℕ × RowCells → Bool
from_behind k e = range_contains key_cmp (Included (k ++ 0 ∷ [])) Unbounded e.0

-- of rows above the key that is each of them
all_behind : (k : List ℕ) (left : RowList) → T (below_all key_cmp k left)
    → filter (from_behind k) left ≡ left
all_behind k [] h = refl
all_behind k (e ∷ left) h =
    ap (λ b. cond (b && true) (e ∷ filter (from_behind k) left) (filter (from_behind k) left))
    (above_key k e.0 (is_lt-holds _ (first_holds _ _ h)))
    ∙ ap (λ l. e ∷ l) (all_behind k left (second_holds _ _ h))

-- and of rows behind others those
behind : (e : List ℕ × RowCells) (es left : RowList) → T (is_sorted key_cmp ((e ∷ es) ++ left))
    → (is_le (key_cmp (last_key_from e es ++ 0 ∷ []) e.0) ≡ false)
    × (filter (from_behind (last_key_from e es)) ((e ∷ es) ++ left) ≡ left)
behind e [] left h = (
  at_key e.0,
  ap (λ b. cond (b && true) (e ∷ filter (from_behind e.0) left) (filter (from_behind e.0) left))
      (at_key e.0) ∙ all_behind e.0 left (first_holds _ _ h),
)
behind e (f ∷ es) left h =
    let rest = behind f es left (second_holds _ _ h) in
    let k = last_key_from f es in
    let here = below_key (k ++ 0 ∷ []) e.0 f.0
    (is_lt-holds _ (first_holds _ _ (first_holds _ _ h))) rest.0 in
    let more = filter (from_behind k) ((f ∷ es) ++ left) in
    (here, ap (λ b. cond (b && true) (e ∷ more) more) here ∙ rest.1)

all_of : (es : RowList) → filter (λ e. true) es ≡ es
all_of [] = refl
all_of (e ∷ es) = ap (λ l. e ∷ l) (all_of es)

-- the least key above a key, where there is one
abbrev pub next_key : Option (List ℕ) → Option (List ℕ)
next_key None = None
next_key (Some k) = Some (k ++ 0 ∷ [])

-- so a walk from there, behind the rows that were taken, gives those that are left
pub rows_behind : (rows : RowMap) (taken left : RowList) → entries rows ≡ taken ++ left
    → rows_from rows (next_key (last_row_key taken)) true ≡ left
rows_behind rows [] left e = all_of (entries rows) ∙ e
rows_behind rows (f ∷ taken) left e =
    ap (filter (from_behind (last_key_from f taken))) e
    ∙ (behind f taken left (subst (λ es. T (is_sorted key_cmp es)) e (entries_sorted rows))).1
