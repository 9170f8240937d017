-- The loops over the elements of an array and the members of an object, a turn at a time.
use Rattle.std.proofs.Common.{◌≡◌, refl, ap, ◌∙◌, ℕ, ◌-◌, ◌<◌, ◌≤◌, List, [], ◌∷◌, ◌++◌, length, Option, Some, None, Result, Ok, arith}
use Rattle.json.specs.Json.{parse_map, after_end_array, read_key, items, members, value}
use Rattle.json.specs.Token.{Token}
use Rattle.json.proofs.Grammar.{read_key-shorter}
use Rattle.serde_json.specs.Data.{Data, Items, no_items, item, Members, no_members, put}
use Rattle.serde_json.specs.Read.{of_json, of_items, of_members, converted}
use Rattle.alt_named.proofs.Converted.{item_read, items_over, none_before, member_read, members_over}
use Rattle.alt_value.specs.Item.{with_pair}
use Rattle.alt_value.specs.Tree.{Tree, Pair}
use Rattle.alt_codec.specs.declared.fault.ValueFault.{ValueFault}
use Rattle.alt_codec.specs.Reading.{value_in, fields_in}
use Rattle.alt_readahead.specs.Payloads.{ReadsBy, AreReadBy, ReadsElements, ReadsFields}
use Rattle.alt_readahead.proofs.Payloads.{value_shorter}
use Rattle.alt_readahead.proofs.Putting.{IsRising, rising_none, rising_put, fields_put}

-- ---- the elements of an array

-- elements, and those behind them
abbrev pub joined : Items → Items → Items
joined no_items rest = rest
joined (item d ds) rest = item d (joined ds rest)

pub joined_none : (ds : Items) → joined ds no_items ≡ ds
joined_none no_items = refl
joined_none (item d ds) = ap (item d) (joined_none ds)

joined_one : (ds : Items) (d : Data) (rest : Items)
    → joined ds (item d rest) ≡ joined (joined ds (item d no_items)) rest
joined_one no_items d rest = refl
joined_one (item e ds) d rest = ap (item e) (joined_one ds d rest)

pub one_more : (ds : Items) (d : Data) (r : Option (Items × List Token))
    → parse_map (joined ds) (parse_map (item d) r)
    ≡ parse_map (joined (joined ds (item d no_items))) r
one_more ds d None = refl
one_more ds d (Some p) = ap (λ es. Some (es, p.1)) (joined_one ds d p.0)

module _ {A : Type 0} (f : Data → Result A ValueFault) where
  -- what is read is passed
  pub reads_shorter : (depth : ℕ) (now same next : List Token) (x : A) → same ≡ now
      → ReadsBy f depth same x next → length next < length now
  reads_shorter depth now same next x is r =
      omega (arith, value_shorter depth same next r.0 r.1, ap length is)

  -- one more of them
  one_read : (ds : Items) (xs : List A) (d : Data) (x : A) → AreReadBy f ds xs → f d ≡ Ok x
      → AreReadBy f (joined ds (item d no_items)) (xs ++ x ∷ [])
  one_read no_items [] d x h e = (e, tt)
  one_read no_items (y ∷ xs) d x h e = absurd h
  one_read (item c ds) [] d x h e = absurd h
  one_read (item c ds) (y ∷ xs) d x h e = (h.0, one_read ds xs d x h.1 e)

  module _ (depth : ℕ) (first : List Token) where
    -- of the elements of an array these were read, and those tokens come behind them
    abbrev pub ElementsSoFar : List Token → List A → Type 0
    ElementsSoFar now xs = (n : ℕ) × (ds : Items) × (length now ≤ n)
        × (converted of_items (items (value depth) (length first) first)
        ≡ parse_map (joined ds) (converted of_items (items (value depth) n now)))
        × AreReadBy f ds xs

    -- none yet
    pub elements_begin : (xs : List A) → xs ≡ [] → ElementsSoFar first xs
    elements_begin xs none = rw none (length first, no_items, omega arith, none_before _, tt)

    -- one more
    pub elements_turn : (now same next : List Token) (xs ys : List A) (x : A) → ElementsSoFar now xs
        → after_end_array now ≡ None → same ≡ now → ReadsBy f depth same x next
        → ys ≡ xs ++ x ∷ [] → ElementsSoFar next ys
    elements_turn now same next xs ys x s going is r more =
        let here : converted of_json (value depth now) ≡ Some (r.0, next) = rw (← is) r.1 in
        let less = value_shorter depth now next r.0 here in
        let enough = s.2 in
        let turn = item_read (value depth) s.0 now next r.0 (omega arith) going here in
        rw more (
          s.0 - 1,
          joined s.1 (item r.0 no_items),
          omega arith,
          s.3 ∙ ap (parse_map (joined s.1)) turn ∙ one_more s.1 r.0 _,
          one_read s.1 xs r.0 x s.4 r.2,
        )

    -- all of them
    pub elements_end : (now after : List Token) (xs : List A) → ElementsSoFar now xs
        → after_end_array now ≡ Some after → ReadsElements f depth first xs after
    elements_end now after xs s e = (
      s.1,
      s.3 ∙ ap (parse_map (joined s.1)) (items_over (value depth) s.0 now after s.2 e)
          ∙ ap (λ ds. Some (ds, after)) (joined_none s.1),
      s.4,
    )

-- ---- the members of an object

module _ (depth room : ℕ) (first : List Token) where
  -- the members of an object that were read so far stand for these pairs, and those tokens come behind them
  abbrev pub FieldsSoFar : List Token → List Pair → Type 0
  FieldsSoFar now i = (n : ℕ) × (found : Members) × (length now ≤ n)
      × (converted (λ os. of_members os no_members) (members (value depth) (length first) first)
      ≡ converted (λ os. of_members os found) (members (value depth) n now))
      × IsRising found × (fields_in room [] found ≡ Ok i)

  -- none yet
  pub fields_begin : (i : List Pair) → i ≡ [] → FieldsSoFar first i
  fields_begin i none = rw none (length first, no_members, omega arith, refl, rising_none, refl)

  -- one more
  pub fields_turn : (now inner next : List Token) (i j : List Pair) (name : List ℕ) (t : Tree)
      → FieldsSoFar now i → read_key now ≡ Some (Some name, inner) → 0 < length name
      → ReadsBy (value_in room) depth inner t next → j ≡ with_pair name t i → FieldsSoFar next j
  fields_turn now inner next i j name t s key some r more =
      let less = value_shorter depth inner next r.0 r.1 in
      let lesser = read_key-shorter now (Some name) inner key in
      let enough = s.2 in
      let turn = member_read (value depth) s.1 s.0 name now inner next r.0 (omega arith) key r.1 in
      rw more (
        s.0 - 1,
        put name r.0 s.1,
        omega arith,
        s.3 ∙ turn,
        rising_put name r.0 s.1 s.4,
        fields_put room s.1 name r.0 t i s.4 some r.2 s.5,
      )

  -- what is read is passed
  pub fields_less : (now inner next : List Token) (name : List ℕ) (t : Tree)
      → read_key now ≡ Some (Some name, inner) → ReadsBy (value_in room) depth inner t next
      → length next < length now
  fields_less now inner next name t key r =
      let lesser = read_key-shorter now (Some name) inner key in
      omega (arith, value_shorter depth inner next r.0 r.1)

  -- all of them
  pub fields_end : (now after : List Token) (i : List Pair) → FieldsSoFar now i
      → read_key now ≡ Some (None, after) → ReadsFields depth room first i after
  fields_end now after i s e =
      (s.1, s.3 ∙ members_over (value depth) s.1 s.0 now after s.2 e, s.5)
