-- An object's members are put in one by one, in the order of the text, and the tree has them by rising names. What the members
-- stand for as fields grows by one pair with each, wherever its member stands.
use Rattle.std.proofs.Common.{◌≡◌, refl, ap, ℕ, ◌<◌, Bool, true, false, T, List, [], ◌∷◌, length, Ok, Err, Result, arith}
use Rattle.std.proofs.lemmas.Bool.{ne_eqb}
use Rattle.std.specs.Prelude.{◌&&◌, ◌==◌, if◌then◌else◌}
use Rattle.std.specs.declared.cmp.Ordering.{Ordering}
use Rattle.std.specs.declared.cmp.Ordering.TheVariants.{Less, Equal, Greater}
use Rattle.std.specs.Ordering.{is_lt, match_ordering}
use Rattle.std.specs.Cmp.{tied_itself}
use Rattle.std.specs.FinMap.Entries.{by_order}
use Rattle.alt_base.proofs.Bools.{both_hold, first_holds, second_holds}
use Rattle.alt_base.proofs.Orderings.{less-holds, is_lt-holds}
use Rattle.serde_json.specs.Data.{Data, Members, no_members, member, put}
use Rattle.alt_value.specs.Item.{with_pair}
use Rattle.alt_value.specs.Members.{text_order}
use Rattle.alt_value.specs.Tree.{Tree, Pair}
use Rattle.alt_value.proofs.Places.{less_tied, turned}
use Rattle.alt_value.proofs.Texts.{text_total, text_apart}
use Rattle.alt_codec.specs.declared.fault.ValueFault.{ValueFault}
use Rattle.alt_codec.specs.declared.fault.ValueFault.TheVariants as fault
use Rattle.alt_codec.specs.Reading.{value_in, fields_in}
use Rattle.alt_codec.specs.Steps.{and_then}

-- ---- rising names

-- a name is below that of each member
abbrev pub is_below_members : List ℕ → Members → Bool
is_below_members x no_members = true
is_below_members x (member l e ms) = is_lt (text_order x l) && is_below_members x ms

-- the name of each member is below those behind it
abbrev pub names_rise : Members → Bool
names_rise no_members = true
names_rise (member l e ms) = is_below_members l ms && names_rise ms

-- the names of an object's members rise
abbrev pub IsRising : Members → Type 0
IsRising ms = T (names_rise ms)

-- what is below one that is below each of them is below each
below_lower : (x y : List ℕ) (ms : Members) → text_order x y ≡ Less → T (is_below_members y ms)
    → T (is_below_members x ms)
below_lower x y no_members p h = tt
below_lower x y (member l e ms) p h =
    both_hold _ _ (less-holds _ (text_total.trans x y l p (is_lt-holds _ (first_holds _ _ h))))
    (below_lower x y ms p (second_holds _ _ h))

-- and below each of them after a put above it
below_put : (x k : List ℕ) (d : Data) (ms : Members) → text_order x k ≡ Less
    → T (is_below_members x ms) → T (is_below_members x (put k d ms))
below_put x k d no_members p h = both_hold _ _ (less-holds _ p) tt
below_put x k d (member l e ms) p h =
    elim (text_order k l) as (λ o. T (is_below_members x
    (match_ordering o (member k d (member l e ms)) (member l d ms) (member l e (put k d ms))))) [
      | Less ↦ both_hold _ _ (less-holds _ p) h
      | Equal ↦ h
      | Greater ↦ both_hold _ _ (first_holds _ _ h) (below_put x k d ms p (second_holds _ _ h))
    ]

-- an object without members
pub rising_none : IsRising no_members
rising_none = tt

-- a put leaves rising names
pub rising_put : (k : List ℕ) (d : Data) (ms : Members) → IsRising ms → IsRising (put k d ms)
rising_put k d no_members h = tt
rising_put k d (member l e ms) h =
    elim (text_order k l) as (λ o. text_order k l ≡ o → IsRising
    (match_ordering o (member k d (member l e ms)) (member l d ms) (member l e (put k d ms)))) [
      | Less ↦ λ p. both_hold _ _
          (both_hold _ _ (less-holds _ p) (below_lower k l ms p (first_holds _ _ h))) h
      | Equal ↦ λ p. h
      | Greater ↦ λ p. both_hold _ _
          (below_put l k d ms (turned text_order text_total k l Greater p) (first_holds _ _ h))
          (rising_put k d ms (second_holds _ _ h))
    ] refl

-- ---- two pairs put in

-- the pairs with one more, by how its name stands to the first name
abbrev placed : Ordering → List ℕ → Tree → Pair → List Pair → List Pair
placed o k t q qs = by_order o ((k, t) ∷ q ∷ qs) ((q.0, t) ∷ qs) (q ∷ with_pair k t qs)

-- the later of two values at a name is the one that stays
put_twice : (k : List ℕ) (t u : Tree) (ps : List Pair)
    → with_pair k t (with_pair k u ps) ≡ with_pair k t ps
put_twice k t u [] = rw (tied_itself text_total k) refl
put_twice k t u (q ∷ qs) =
    elim (text_order k q.0) as (λ o. text_order k q.0 ≡ o
    → with_pair k t (placed o k u q qs) ≡ placed o k t q qs) [
      | Less ↦ λ p. rw (tied_itself text_total k) refl
      | Equal ↦ λ p. rw p refl
      | Greater ↦ λ p. rw p (ap (λ l. q ∷ l) (put_twice k t u qs))
    ] refl

-- of two names in their order, the first may be put in before or after the second
put_lower : (k l : List ℕ) (t u : Tree) (ps : List Pair) → text_order k l ≡ Less
    → with_pair l u (with_pair k t ps) ≡ with_pair k t (with_pair l u ps)
put_lower k l t u [] p = rw (p, turned text_order text_total k l Less p) refl
put_lower k l t u (q ∷ qs) p =
    let back : text_order l k ≡ Greater = turned text_order text_total k l Less p in
    elim (text_order l q.0) as (λ o. text_order l q.0 ≡ o
    → with_pair l u (with_pair k t (q ∷ qs)) ≡ with_pair k t (placed o l u q qs)) [
      | Less ↦ λ below.
          let lower : text_order k q.0 ≡ Less = text_total.trans k l q.0 p below in
          rw (lower, back, below, p) refl
      | Equal ↦ λ same.
          let lower : text_order k q.0 ≡ Less = less_tied text_order text_total k l q.0 p same in
          rw (lower, back, same) refl
      | Greater ↦ λ above.
          elim (text_order k q.0) as (λ o.
          with_pair l u (placed o k t q qs) ≡ placed o k t q (with_pair l u qs)) [
            | Less ↦ rw (back, above) refl
            | Equal ↦ rw above refl
            | Greater ↦ rw above (ap (λ l. q ∷ l) (put_lower k l t u qs p))
          ]
    ] refl

-- ---- fields

-- what a member that was read says: its name isn't empty, its value was read, and so were the members behind it
record IsField (room : ℕ) (found : List Pair) (l : List ℕ) (e : Data) (ms : Members)
    (i : List Pair) : Type 0 where
  named : (length l == 0) ≡ false
  u : Tree
  value : value_in room e ≡ Ok u
  behind : fields_in room (with_pair l u found) ms ≡ Ok i

is_field : (room : ℕ) (found : List Pair) (l : List ℕ) (e : Data) (ms : Members) (i : List Pair)
    → fields_in room found (member l e ms) ≡ Ok i → IsField room found l e ms i
is_field room found l e ms i h =
    elim (length l == 0) as (λ b. (length l == 0) ≡ b
    → (if b then Err fault.EmptyName
    else and_then (λ t. fields_in room (with_pair l t found) ms) (value_in room e)) ≡ Ok i
    → IsField room found l e ms i) [
      | true ↦ λ z f. absurd (let g : ⊥ = cc in g)
      | false ↦ λ z f. by_value (value_in room e) refl z f
    ] refl h
  where
    by_value : (r : Result Tree ValueFault) → value_in room e ≡ r → (length l == 0) ≡ false
        → and_then (λ t. fields_in room (with_pair l t found) ms) r ≡ Ok i
        → IsField room found l e ms i
    by_value (Ok u) v z f = record { named = z; u = u; value = v; behind = f }
    by_value (Err x) v z f = absurd (let g : ⊥ = cc in g)

-- a pair whose name is below each member's may be put in before them
fields_above : (room : ℕ) (found : List Pair) (ms : Members) (k : List ℕ) (t : Tree)
    (i : List Pair) → T (is_below_members k ms) → fields_in room found ms ≡ Ok i
    → fields_in room (with_pair k t found) ms ≡ Ok (with_pair k t i)
fields_above room found no_members k t i below h =
    let same : found ≡ i = cc in rw same refl
fields_above room found (member l e ms) k t i below h =
    let f = is_field room found l e ms i h in
    let there : fields_in room (with_pair k t (with_pair l f.u found)) ms ≡ Ok (with_pair k t i) =
    fields_above room (with_pair l f.u found) ms k t i (second_holds _ _ below) f.behind in
    let lower : text_order k l ≡ Less = is_lt-holds _ (first_holds _ _ below) in
    rw (f.named, f.value, put_lower k l t f.u found lower) there

-- one member more among pairs that were found before
fields_put_behind : (room : ℕ) (found : List Pair) (ms : Members) (k : List ℕ) (d : Data) (t : Tree)
    (i : List Pair) → IsRising ms → (length k == 0) ≡ false → value_in room d ≡ Ok t
    → fields_in room found ms ≡ Ok i → fields_in room found (put k d ms) ≡ Ok (with_pair k t i)
fields_put_behind room found no_members k d t i rising some v h =
    rw (some, v) (fields_above room found no_members k t i tt h)
fields_put_behind room found (member l e ms) k d t i rising some v h =
    let f = is_field room found l e ms i h in
    elim (text_order k l) as (λ o. text_order k l ≡ o → fields_in room found
    (match_ordering o (member k d (member l e ms)) (member l d ms) (member l e (put k d ms)))
    ≡ Ok (with_pair k t i)) [
      | Less ↦ λ p. rw (some, v) (fields_above room found (member l e ms) k t i
          (both_hold _ _ (less-holds _ p) (below_lower k l ms p (first_holds _ _ rising))) h)
      | Equal ↦ λ p.
          let there : fields_in room (with_pair l t (with_pair l f.u found)) ms
          ≡ Ok (with_pair l t i) =
          fields_above room (with_pair l f.u found) ms l t i (first_holds _ _ rising) f.behind in
          rw (f.named, v, ← put_twice l t f.u found, text_apart k l p) there
      | Greater ↦ λ p. rw (f.named, f.value)
          (fields_put_behind room (with_pair l f.u found) ms k d t i
          (second_holds _ _ rising) some v
          f.behind)
    ] refl

-- one member more, wherever it stands, is one pair more
pub fields_put : (room : ℕ) (ms : Members) (k : List ℕ) (d : Data) (t : Tree) (i : List Pair)
    → IsRising ms → 0 < length k → value_in room d ≡ Ok t → fields_in room [] ms ≡ Ok i
    → fields_in room [] (put k d ms) ≡ Ok (with_pair k t i)
fields_put room ms k d t i rising some v h =
    fields_put_behind room [] ms k d t i rising
    (ne_eqb (length k) 0 (λ z. omega (arith, z, some))) v h
