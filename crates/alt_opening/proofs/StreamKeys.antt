-- The changes of a stream by the keys of their rows, which lie as the numbers do.
use Rattle.std.proofs.Common.{◌≡◌, ◌≢◌, ◌<◌, ◌^◌, refl, sym, ap, subst, ◌∙◌, ℕ, suc, Bool, true, false, cond, T, List, [], ◌∷◌, ◌++◌, map, Option, Some, None, All, inl, inr, append-nil, arith}
use Rattle.std.proofs.lemmas.Bool.{cases_order, lt-leb as above, le-leb}
use Rattle.std.proofs.lemmas.List.{map-append}
use Rattle.std.proofs.lemmas.List.Elements.{All-head, All-tail}
use Rattle.std.specs.BTreeMap.Range.{range_contains}
use Rattle.std.specs.FinMap as finite
use Rattle.std.specs.FinMap.Entries.{below_all, find, find-append, is_sorted}
use Rattle.std.specs.List.{filter}
use Rattle.std.specs.Ordering.{eq_by_cmp, is_eq, is_le, is_lt, nat_cmp, ordering_then}
use Rattle.std.specs.Prelude.{◌&&◌, nat_le, option_map}
use Rattle.std.specs.declared.cmp.Ordering.{Ordering}
use Rattle.std.specs.declared.cmp.Ordering.TheVariants.{Less, Equal, Greater}
use Rattle.std.specs.declared.ops.Bound.TheVariants.{Included, Unbounded}
use Rattle.alt_base.proofs.Bools.{both_hold}
use Rattle.alt_base.proofs.Orderings.{nat_cmp-equal, nat_cmp-greater, nat_cmp-less}
use Rattle.alt_cells.specs.Keys.{key_cmp}
use Rattle.alt_cells.proofs.CellLaws.{key_total, key_exact}
use Rattle.alt_cells.proofs.SameKeys.{one_key}
use Rattle.alt_tablerows.specs.ChangeRows.{IsReadChange, change_columns, row_key}
use Rattle.alt_tablerows.proofs.RowLaws.{change_columns-one}
use Rattle.alt_keyorder.specs.Place.{Place}
use Rattle.alt_keyorder.proofs.Places.{keys-lie}
use Rattle.alt_machine.specs.State.{Change}
use Rattle.alt_machine.proofs.Trimming.{Rise, rise_rest}
use Rattle.alt_opening.specs.StateRows.{keyed_changes}
pub use Rattle.alt_tablerows.proofs.NumberKeys.{key_one}
use Rattle.alt_value.specs.Members.{text_order}

-- ---- keys

then_equal : (o : Ordering) → ordering_then (ordering_then o Equal) Equal ≡ o
then_equal Less = refl
then_equal Equal = refl
then_equal Greater = refl

-- keys lie as their numbers do
pub key_order : (m n : ℕ) → m < 2 ^ 64 → n < 2 ^ 64
    → text_order (row_key m) (row_key n) ≡ nat_cmp m n
key_order m n small_m small_n =
    let p : Place = record { token = m; parts = [] } in
    let q : Place = record { token = n; parts = [] } in
    (λ i. text_order (sym (whole m) i) (sym (whole n) i))
    ∙ keys-lie p q (ordering_then (nat_cmp m n) Equal) [] []
    (record { token = small_m; parts = tt }) (record { token = small_n; parts = tt }) refl
    ∙ then_equal (nat_cmp m n)
  where
    whole : (n : ℕ) → (row_key n ++ []) ++ [] ≡ row_key n
    whole n = append-nil (row_key n ++ []) ∙ append-nil (row_key n)

-- those of two numbers don't tie
pub keys_differ : (m n : ℕ) → m < 2 ^ 64 → n < 2 ^ 64 → m ≢ n
    → eq_by_cmp key_cmp (row_key m) (row_key n) ≡ false
keys_differ m n small_m small_n differ = by (eq_by_cmp key_cmp (row_key m) (row_key n)) refl
  where
    by : (b : Bool) → eq_by_cmp key_cmp (row_key m) (row_key n) ≡ b → b ≡ false
    by true same =
        absurd (differ (key_one m n small_m small_n (one_key (row_key m) (row_key n) same)))
    by false same = refl

-- ---- changes at their keys

-- a change at its key
abbrev pub keyed : Change → List ℕ × Change
keyed c = (row_key c.number, c)

-- its number fits in 8 bytes
abbrev pub IsSmall : Change → Type 0
IsSmall c = c.number < 2 ^ 64

rise_first : (c : Change) (cs : List Change) → Rise (c ∷ cs)
    → All (λ (b : Change). c.number < b.number) cs
rise_first c cs rise k x within = rise 0 (suc k) x (omega arith) (omega (arith, within))

below_keys : (c : Change) (cs : List Change) → IsSmall c → All IsSmall cs
    → All (λ (b : Change). c.number < b.number) cs
    → T (below_all key_cmp (row_key c.number) (map keyed cs))
below_keys c [] small all above = tt
below_keys c (d ∷ ds) small all above =
    let next : d.number < 2 ^ 64 = All-head IsSmall d ds all in
    let less : c.number < d.number = All-head (λ (b : Change). c.number < b.number) d ds above in
    both_hold _ _ (subst (λ o. T (is_lt o))
    (sym (key_order c.number d.number small next ∙ nat_cmp-less c.number d.number less)) tt)
    (below_keys c ds small (All-tail IsSmall d ds all)
    (All-tail (λ (b : Change). c.number < b.number) d ds above))

-- their keys rise
pub sorted_keys : (cs : List Change) → All IsSmall cs → Rise cs
    → T (is_sorted key_cmp (map keyed cs))
sorted_keys [] small rise = tt
sorted_keys (c ∷ cs) small rise = both_hold _ _
    (below_keys c cs (All-head IsSmall c cs small) (All-tail IsSmall c cs small)
    (rise_first c cs rise))
    (sorted_keys cs (All-tail IsSmall c cs small) (rise_rest c cs rise))

-- what stands at a key
pub get_keyed : (cs : List Change) → All IsSmall cs → Rise cs → (key : List ℕ)
    → finite.get (keyed_changes cs) key ≡ find key_cmp key (map keyed cs)
get_keyed cs small rise key =
    finite.get-from_sorted key_cmp (map keyed cs) key (sorted_keys cs small rise)

-- and all of them
pub entries_keyed : (cs : List Change) → All IsSmall cs → Rise cs
    → finite.entries (keyed_changes cs) ≡ map keyed cs
entries_keyed cs small rise =
    finite.entries-from_sorted key_cmp (map keyed cs) (sorted_keys cs small rise)

-- ---- one change more

-- at a number above all others no change stands
not_found : (n : ℕ) (cs : List Change) → n < 2 ^ 64 → All (λ (c : Change). c.number < n) cs
    → find key_cmp (row_key n) (map keyed cs) ≡ None
not_found n [] small below = refl
not_found n (c ∷ cs) small below =
    let less : c.number < n = All-head (λ (c : Change). c.number < n) c cs below in
    ap (λ o. cond (is_eq o) (Some c) (find key_cmp (row_key n) (map keyed cs)))
    (key_order n c.number small (omega (arith, less, small)) ∙ nat_cmp-greater n c.number less)
    ∙ not_found n cs small (All-tail (λ (c : Change). c.number < n) c cs below)

-- behind the others a change stands at its own key
pub keyed_more : (cs : List Change) (c : Change) → All IsSmall cs → Rise cs
    → All IsSmall (cs ++ c ∷ []) → Rise (cs ++ c ∷ [])
    → c.number < 2 ^ 64 → All (λ (x : Change). x.number < c.number) cs → (key : List ℕ)
    → finite.get (keyed_changes (cs ++ c ∷ [])) key
    ≡ cond (eq_by_cmp key_cmp key (row_key c.number)) (Some c)
    (finite.get (keyed_changes cs) key)
keyed_more cs c small rise small_all rise_all fits below key =
    get_keyed (cs ++ c ∷ []) small_all rise_all key
    ∙ ap (find key_cmp key) (map-append keyed cs (c ∷ []))
    ∙ find-append key_cmp key_total (map keyed cs) (row_key c.number) c key
    (not_found c.number cs fits below)
    ∙ ap (cond (eq_by_cmp key_cmp key (row_key c.number)) (Some c))
    (sym (get_keyed cs small rise key))

-- ---- one list

-- what is found at a key is a change of that number
pub found_keyed : (P : Change → Type 0) (cs : List Change) (key : List ℕ) (c : Change) → All P cs
    → find key_cmp key (map keyed cs) ≡ Some c → (key ≡ row_key c.number) × P c
found_keyed P [] key c all found = absurd (let no : None ≡ Some c = found in cc no)
found_keyed P (d ∷ ds) key c all found =
    by (eq_by_cmp key_cmp key (row_key d.number)) refl
    (λ later. found_keyed P ds key c (All-tail P d ds all) later) found
  where
    by : (b : Bool) → eq_by_cmp key_cmp key (row_key d.number) ≡ b
        → (find key_cmp key (map keyed ds) ≡ Some c → (key ≡ row_key c.number) × P c)
        → cond b (Some d) (find key_cmp key (map keyed ds)) ≡ Some c
        → (key ≡ row_key c.number) × P c
    by true same behind found =
        let found_here : Some d ≡ Some c = found in
        let one : d ≡ c = cc found_here in (
          one_key key (row_key d.number) same ∙ ap (λ (x : Change). row_key x.number) one,
          subst P one (All-head P d ds all),
        )
    by false differs behind found = behind found

-- a change of a number from 1 on that is read back from its row
abbrev pub IsKept : Change → Type 0
IsKept c = IsSmall c × IsReadChange c × (0 < c.number)

-- the values of changes by their keys are the changes
values_keyed : (cs : List Change) → map (λ (e : List ℕ × Change). e.1) (map keyed cs) ≡ cs
values_keyed [] = refl
values_keyed (c ∷ cs) = ap (λ rest. c ∷ rest) (values_keyed cs)

-- Lists of changes whose rows are the same are the same.
pub changes-one : (es fs : List Change) → All IsSmall es → All IsSmall fs → Rise es → Rise fs
    → All IsKept es → All IsKept fs
    → ((key : List ℕ) → option_map change_columns (finite.get (keyed_changes es) key)
    ≡ option_map change_columns (finite.get (keyed_changes fs) key)) → es ≡ fs
changes-one es fs small_a small_b rise_a rise_b kept_a kept_b same =
    sym (values_keyed es)
    ∙ ap (map (λ (e : List ℕ × Change). e.1)) (sym (entries_keyed es small_a rise_a)
    ∙ ap finite.entries one ∙ entries_keyed fs small_b rise_b)
    ∙ values_keyed fs
  where
    at_key : (key : List ℕ) (o p : Option Change)
        → ((c : Change) → o ≡ Some c → (key ≡ row_key c.number) × IsKept c)
        → ((c : Change) → p ≡ Some c → (key ≡ row_key c.number) × IsKept c)
        → option_map change_columns o ≡ option_map change_columns p → o ≡ p
    at_key key None None h k e = refl
    at_key key None (Some b) h k e = let no : None ≡ Some (change_columns b) = e in cc no
    at_key key (Some a) None h k e = let no : Some (change_columns a) ≡ None = e in cc no
    at_key key (Some a) (Some b) h k e =
        let is_a = h a refl in
        let is_b = k b refl in
        ap (λ x. Some x) (change_columns-one a b is_a.1.1 is_b.1.1
        (key_one a.number b.number is_a.1.0 is_b.1.0 (sym is_a.0 ∙ is_b.0))
        (let rows : Some (change_columns a) ≡ Some (change_columns b) = e in cc rows))

    one : keyed_changes es ≡ keyed_changes fs
    one = finite.same_map key_total key_exact _ _ (λ key.
        at_key key (finite.get (keyed_changes es) key) (finite.get (keyed_changes fs) key)
        (λ c is. found_keyed IsKept es key c kept_a (sym (get_keyed es small_a rise_a key) ∙ is))
        (λ c is. found_keyed IsKept fs key c kept_b (sym (get_keyed fs small_b rise_b key) ∙ is))
        (same key))

-- ---- the changes from a number on

-- the order of numbers says which are up to another
pub is_le-nat : (m n : ℕ) → is_le (nat_cmp m n) ≡ nat_le m n
is_le-nat m n = elim (cases_order m n) [
  | inl same ↦ ap is_le (nat_cmp-equal m n same) ∙ sym (le-leb m n (omega (arith, same)))
  | inr other ↦ elim other [
    | inl less ↦ ap is_le (nat_cmp-less m n less) ∙ sym (le-leb m n (omega (arith, less)))
    | inr more ↦ ap is_le (nat_cmp-greater m n more) ∙ sym (above m n more)
  ]
]

-- those whose keys are from its key on
pub filter_keyed : (from : ℕ) (cs : List Change) → from < 2 ^ 64 → All IsSmall cs
    → filter (λ (e : List ℕ × Change). range_contains text_order (Included (row_key from))
    Unbounded e.0) (map keyed cs)
    ≡ map keyed (filter (λ (c : Change). nat_le from c.number) cs)
filter_keyed from [] small all = refl
filter_keyed from (c ∷ cs) small all =
    ap (λ b. cond b (keyed c ∷ filter (λ (e : List ℕ × Change). range_contains text_order
    (Included (row_key from)) Unbounded e.0) (map keyed cs))
    (filter (λ (e : List ℕ × Change). range_contains text_order (Included (row_key from))
    Unbounded e.0) (map keyed cs)))
    (ap (λ o. is_le o && true) (key_order from c.number small (All-head IsSmall c cs all))
    ∙ and_true (is_le (nat_cmp from c.number)) ∙ is_le-nat from c.number)
    ∙ by (nat_le from c.number) (filter_keyed from cs small (All-tail IsSmall c cs all))
  where
    and_true : (b : Bool) → (b && true) ≡ b
    and_true true = refl
    and_true false = refl

    by : (b : Bool)
        → filter (λ (e : List ℕ × Change). range_contains text_order (Included (row_key from))
        Unbounded e.0) (map keyed cs)
        ≡ map keyed (filter (λ (c : Change). nat_le from c.number) cs)
        → cond b (keyed c ∷ filter (λ (e : List ℕ × Change). range_contains text_order
        (Included (row_key from)) Unbounded e.0) (map keyed cs))
        (filter (λ (e : List ℕ × Change). range_contains text_order (Included (row_key from))
        Unbounded e.0) (map keyed cs))
        ≡ map keyed (cond b (c ∷ filter (λ (c : Change). nat_le from c.number) cs)
        (filter (λ (c : Change). nat_le from c.number) cs))
    by true rest = ap (λ rows. keyed c ∷ rows) rest
    by false rest = rest
