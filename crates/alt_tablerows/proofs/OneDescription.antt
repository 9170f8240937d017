-- The row of a table is that of one description alone.
use Rattle.std.proofs.Common.{◌≡◌, ◌≢◌, refl, sym, ap, subst, ◌∙◌, ℕ, zero, suc, ◌<◌, ◌^◌, Bool, true, false, cond, not, List, [], ◌∷◌, ◌++◌, length, map as each, Option, Some, None, option_map, slice_get, take, drop, All, AllPairs, arith, is_some}
use Rattle.std.proofs.lemmas.Bool.{false≢true}
use Rattle.std.proofs.lemmas.List.Elements.{All-head, All-tail, All-nil, All-cons}
use Rattle.std.proofs.lemmas.List.Kept.{AllPairs-cons}
use Rattle.std.proofs.lemmas.Nat.{from_be_bytes-to_be_bytes_4}
use Rattle.std.proofs.lemmas.Option.{same_Some}
use Rattle.std.specs.Int.{w32, to_be_bytes, from_be_bytes}
use Rattle.std.specs.List.{AllByRecursion, find, list_all}
use Rattle.std.specs.Option.{option_map_or}
use Rattle.std.specs.Prelude.{unwrap_or, if◌then◌else◌, option_and_then, ◌&&◌}
use Rattle.alt_base.proofs.Lists.{all_at}
use Rattle.alt_machine.specs.Building.{IsBuilt, building_in, built_place, is_building, is_built_to}
use Rattle.alt_machine.proofs.Inserted.{head_pairs, tail_pairs}
use Rattle.alt_machine.specs.Lists.{start_beside, start_value}
use Rattle.alt_schema.specs.Bare.{as_whole, bare, is_whole}
use Rattle.alt_schema.specs.Described.{IsDescription}
use Rattle.alt_schemabytes.specs.Format.{description_bytes}
use Rattle.alt_schemabytes.specs.Held.{IsHeld, IsHeldBuilt, IsHeldIndex}
use Rattle.alt_schema.specs.Indexes.{indexes, is_key}
use Rattle.alt_schema.specs.declared.schema.Built.{Built}
use Rattle.alt_schema.specs.declared.schema.Built.TheVariants.{Whole, UpTo}
use Rattle.alt_schema.specs.declared.schema.IndexSchema.{IndexSchema}
use Rattle.alt_schema.specs.declared.schema.TableSchema.{TableSchema}
use Rattle.alt_schema.proofs.BareLaws.{all_whole, map-as_whole}
use Rattle.alt_schemabytes.proofs.WholeDescriptions.{one_spelling}
use Rattle.alt_tablerows.proofs.OneIndex.{behind_any, family_in, found_at, one_of_family, only_one}
use Rattle.alt_tablerows.specs.Families.{HasOwnFamilies}
use Rattle.alt_tablerows.specs.CatalogRows.{built_bytes, built_cell, table_row}
use Rattle.alt_tablerows.proofs.OneKey.{one_key}
use Rattle.alt_tablerows.proofs.TableRow.{all_told}
use Rattle.alt_value.specs.Tree.{Pair}
use Rattle.alt_keyorder.specs.Place.{place_bytes}

-- ---- lists of indexes

-- where the first that passes is none, none does
none_passes : {A : Type 0} (p : A → Bool) (xs : List A) → find p xs ≡ None
    → list_all (λ x. not (p x)) xs ≡ true
none_passes p [] e = refl
none_passes p (x ∷ xs) e = by (λ f. none_passes p xs f) (p x) refl e
  where
    by : (find p xs ≡ None → list_all (λ y. not (p y)) xs ≡ true) → (b : Bool) → p x ≡ b
        → cond b (Some x) (find p xs) ≡ None → list_all (λ y. not (p y)) (x ∷ xs) ≡ true
    by later true c f = absurd (let no : ⊥ = cc in no)
    by later false c f =
        ap (λ b. not b && list_all (λ y. not (p y)) xs) c ∙ later f

-- the first of a list, or another
abbrev first_of : IndexSchema → List IndexSchema → IndexSchema
first_of i [] = i
first_of i (z ∷ zs) = z

-- what is behind it
abbrev behind_first : List IndexSchema → List IndexSchema
behind_first [] = []
behind_first (z ∷ zs) = zs

-- two lists that are one as if whole are one, where each of one and that of the other at its place are
lists_one : (xs ys : List IndexSchema) → each as_whole xs ≡ each as_whole ys
    → ((n : ℕ) (x y : IndexSchema) → slice_get xs n ≡ Some x → slice_get ys n ≡ Some y
    → as_whole x ≡ as_whole y → x ≡ y) → xs ≡ ys
lists_one [] [] same one = refl
lists_one [] (y ∷ ys) same one = absurd (omega (arith, ap length same))
lists_one (x ∷ xs) [] same one = absurd (omega (arith, ap length same))
lists_one (x ∷ xs) (y ∷ ys) same one = λ j.
    one 0 x y refl refl (ap (first_of (as_whole x)) same) j
    ∷ lists_one xs ys (ap behind_first same) (λ n v w at_v at_w. one (suc n) v w at_v at_w) j

-- ---- what a cell tells

-- it tells the family
cell_family : (f g : ℕ) (v w : List ℕ) → f < 2 ^ 32 → g < 2 ^ 32
    → to_be_bytes w32 f ++ v ≡ to_be_bytes w32 g ++ w → f ≡ g
cell_family f g v w low high same =
    let four : to_be_bytes w32 f ≡ to_be_bytes w32 g = ap (take 4) same in
    sym (from_be_bytes-to_be_bytes_4 f low) ∙ ap (from_be_bytes w32) four
    ∙ from_be_bytes-to_be_bytes_4 g high

-- and what is behind it
cell_behind : (f g : ℕ) (v w : List ℕ) → to_be_bytes w32 f ++ v ≡ to_be_bytes w32 g ++ w → v ≡ w
cell_behind f g v w same = ap (drop 4) same

-- a place that is there
place_there : (o : Option (List ℕ)) → is_some o ≡ true → o ≡ Some (unwrap_or o [])
place_there None e = absurd (let no : ⊥ = cc in no)
place_there (Some p) e = refl

module _ (d e : TableSchema) (hash : e.hash ≡ d.hash) (range : e.range ≡ d.range)
    (same_place : (key : List Pair) → built_place e key ≡ built_place d key) where
  -- how far it is built, of an index that isn't whole
  built_one : (a b : Built) → is_whole a ≡ false → is_whole b ≡ false → is_built_to d a ≡ true
      → is_built_to e b ≡ true → IsHeldBuilt a → IsHeldBuilt b → built_bytes d a ≡ built_bytes e b
      → a ≡ b
  built_one Whole b not_a not_b to_a to_b held_a held_b same = absurd (let f : ⊥ = cc in f)
  built_one (UpTo x) Whole not_a not_b to_a to_b held_a held_b same = absurd (let f : ⊥ = cc in f)
  built_one (UpTo None) (UpTo None) not_a not_b to_a to_b held_a held_b same = refl
  built_one (UpTo None) (UpTo (Some l)) not_a not_b to_a to_b held_a held_b same =
      absurd (let f : ⊥ = cc in f)
  built_one (UpTo (Some k)) (UpTo None) not_a not_b to_a to_b held_a held_b same =
      absurd (let f : ⊥ = cc in f)
  built_one (UpTo (Some k)) (UpTo (Some l)) not_a not_b to_a to_b held_a held_b same =
      let place : unwrap_or (built_place d k) [] ≡ unwrap_or (built_place e l) [] = ap (drop 1) same in
      ap (λ key. UpTo (Some key)) (one_key d k l (unwrap_or (built_place d k) []) held_a held_b
      (place_there (built_place d k) to_a)
      (sym (same_place l) ∙ place_there (built_place e l) to_b ∙ ap Some (sym place)))

-- ---- descriptions

-- what holds of each of a list holds of one at a place
pub at_rec : {A : Type 0} (P : A → Type 0) (xs : List A) (n : ℕ) (x : A) → AllByRecursion P xs
    → slice_get xs n ≡ Some x → P x
at_rec P [] n x all at = absurd (let f : ⊥ = cc in f)
at_rec P (y ∷ ys) zero x all at = subst P (same_Some y x at) all.0
at_rec P (y ∷ ys) (suc n) x all at = at_rec P ys n x all.1 at

-- the families are those of the indexes as if whole
families_bare : (ls gs : List IndexSchema)
    → each family_in (each as_whole ls ++ each as_whole gs) ≡ each family_in (ls ++ gs)
families_bare [] [] = refl
families_bare [] (g ∷ gs) = ap (λ fs. g.family ∷ fs) (families_bare [] gs)
families_bare (l ∷ ls) gs = ap (λ fs. l.family ∷ fs) (families_bare ls gs)

-- those in front of others differ, where all do
pub pairs_front : (x : ℕ) (xs ys : List ℕ) → AllPairs (λ f g. f ≢ g) (x ∷ (xs ++ ys))
    → AllPairs (λ f g. f ≢ g) xs
pairs_front x xs ys apart = front xs (tail_pairs (λ f g. f ≢ g) x (xs ++ ys) apart)
  where
    front : (zs : List ℕ) → AllPairs (λ f g. f ≢ g) (zs ++ ys) → AllPairs (λ f g. f ≢ g) zs
    front [] h = λ i j x below within. absurd (omega (arith, within))
    front (z ∷ zs) h = AllPairs-cons (λ f g. f ≢ g) z zs
        (all_front zs (head_pairs (λ f g. f ≢ g) z (zs ++ ys) h))
        (front zs (tail_pairs (λ f g. f ≢ g) z (zs ++ ys) h))
      where
        all_front : (ws : List ℕ) → All (λ g. z ≢ g) (ws ++ ys) → All (λ g. z ≢ g) ws
        all_front [] all = All-nil (λ g. z ≢ g)
        all_front (w ∷ ws) all = All-cons (λ g. z ≢ g) w ws
            (All-head (λ g. z ≢ g) w (ws ++ ys) all)
            (all_front ws (All-tail (λ g. z ≢ g) w (ws ++ ys) all))

module _ (d e : TableSchema) (is_d : IsDescription d) (held_d : IsHeld d) (built_d : IsBuilt d)
    (own : HasOwnFamilies d) (is_e : IsDescription e) (held_e : IsHeld e) (built_e : IsBuilt e)
    (same : table_row d ≡ table_row e) where
  cells : (built_cell d ≡ built_cell e) × (d.ttl ≡ e.ttl)
      × (description_bytes d ≡ description_bytes e)
  cells = all_told (built_cell d) (built_cell e) d.ttl e.ttl (description_bytes d)
      (description_bytes e) same

  told : bare d ≡ bare e
  told = one_spelling d e is_d held_d is_e held_e cells.2

  locals : d.locals ≡ e.locals
  locals = sym (map-as_whole d.locals (all_whole d.locals built_d.locals))
      ∙ ap (λ (x : TableSchema). x.locals) told
      ∙ map-as_whole e.locals (all_whole e.locals built_e.locals)

  hash : e.hash ≡ d.hash
  hash = sym (ap (λ (x : TableSchema). x.hash) told)

  range : e.range ≡ d.range
  range = sym (ap (λ (x : TableSchema). x.range) told)

  same_place : (key : List Pair) → built_place e key ≡ built_place d key
  same_place key = λ j.
      if list_all (λ (p : Pair). is_key (hash j) (range j) p.0) key
      then option_map place_bytes
      (option_and_then (start_beside key (range j)) (start_value key (hash j)))
      else None

  -- no two indexes of either have one family
  apart_d : AllPairs (λ f g. f ≢ g) (each family_in (indexes d))
  apart_d = pairs_front d.family (each family_in (indexes d))
      (option_map_or (λ f. f ∷ []) d.stream_family []) own

  apart_e : AllPairs (λ f g. f ≢ g) (each family_in (indexes e))
  apart_e = subst (AllPairs (λ f g. f ≢ g))
      (sym (families_bare d.locals d.globals)
      ∙ ap (λ (x : TableSchema). each family_in (indexes x)) told
      ∙ families_bare e.locals e.globals) apart_d

  one_in_d : (n m : ℕ) (x y : IndexSchema) → slice_get d.globals n ≡ Some x
      → slice_get d.globals m ≡ Some y → x.family ≡ y.family → x ≡ y
  one_in_d n m x y at_x at_y alike =
      let a = behind_any d.locals d.globals n x at_x in
      let b = behind_any d.locals d.globals m y at_y in
      one_of_family (indexes d) apart_d a.0 b.0 x y a.1 b.1 alike

  one_in_e : (n m : ℕ) (x y : IndexSchema) → slice_get e.globals n ≡ Some x
      → slice_get e.globals m ≡ Some y → x.family ≡ y.family → x ≡ y
  one_in_e n m x y at_x at_y alike =
      let a = behind_any e.locals e.globals n x at_x in
      let b = behind_any e.locals e.globals m y at_y in
      one_of_family (indexes e) apart_e a.0 b.0 x y a.1 b.1 alike

  -- one that isn't being built is as if whole
  as_it_is : (x : IndexSchema) → is_building x ≡ false → as_whole x ≡ x
  as_it_is x isnt = by x.built refl isnt
    where
      by : (b : Built) → x.built ≡ b → not (is_whole b) ≡ false → as_whole x ≡ x
      by Whole is f = λ j. record x { built = sym is j }
      by (UpTo key) is f = absurd (let g : ⊥ = cc in g)

  both_whole : (x y : IndexSchema) → as_whole x ≡ as_whole y → is_building x ≡ false
      → is_building y ≡ false → x ≡ y
  both_whole x y alike no_x no_y = sym (as_it_is x no_x) ∙ alike ∙ as_it_is y no_y

  not_whole : (x : IndexSchema) → is_building x ≡ true → is_whole x.built ≡ false
  not_whole x is = by (is_whole x.built) is
    where
      by : (b : Bool) → not b ≡ true → b ≡ false
      by true f = absurd (let g : ⊥ = cc in g)
      by false f = refl

  -- those that are being built are one
  module _ (i j : IndexSchema) (in_d : building_in d ≡ Some i) (in_e : building_in e ≡ Some j) where
    at_d : (n : ℕ) × (slice_get d.globals n ≡ Some i) × (is_building i ≡ true)
    at_d = found_at is_building d.globals i in_d

    at_e : (n : ℕ) × (slice_get e.globals n ≡ Some j) × (is_building j ≡ true)
    at_e = found_at is_building e.globals j in_e

    bytes : to_be_bytes w32 i.family ++ built_bytes d i.built
        ≡ to_be_bytes w32 j.family ++ built_bytes e j.built
    bytes = same_Some _ _ (sym (ap (option_map (λ (x : IndexSchema). to_be_bytes w32 x.family
        ++ built_bytes d x.built)) in_d) ∙ cells.0
        ∙ ap (option_map (λ (x : IndexSchema). to_be_bytes w32 x.family
        ++ built_bytes e x.built)) in_e)

    is_held_i : IsHeldIndex i
    is_held_i = at_rec IsHeldIndex d.globals at_d.0 i held_d.globals.1 at_d.1

    is_held_j : IsHeldIndex j
    is_held_j = at_rec IsHeldIndex e.globals at_e.0 j held_e.globals.1 at_e.1

    one_family : i.family ≡ j.family
    one_family = cell_family i.family j.family _ _ is_held_i.family is_held_j.family bytes

    one_built : i.built ≡ j.built
    one_built = built_one d e hash range same_place i.built j.built (not_whole i at_d.2)
        (not_whole j at_e.2)
        (all_at (λ (x : IndexSchema). is_built_to d x.built) d.globals at_d.0 i built_d.keys at_d.1)
        (all_at (λ (x : IndexSchema). is_built_to e x.built) e.globals at_e.0 j built_e.keys at_e.1)
        is_held_i.built is_held_j.built
        (cell_behind i.family j.family (built_bytes d i.built) (built_bytes e j.built) bytes)

    -- so those at one place are
    one_at : (n : ℕ) (x y : IndexSchema) → slice_get d.globals n ≡ Some x
        → slice_get e.globals n ≡ Some y → as_whole x ≡ as_whole y → (a b : Bool)
        → is_building x ≡ a → is_building y ≡ b → x ≡ y
    one_at n x y at_x at_y alike false false is_x is_y = both_whole x y alike is_x is_y
    one_at n x y at_x at_y alike true true is_x is_y =
        let own_x : x ≡ i = only_one is_building d.globals built_d.one i in_d n x at_x is_x in
        let own_y : y ≡ j = only_one is_building e.globals built_e.one j in_e n y at_y is_y in
        let up_to : x.built ≡ y.built = ap (λ (z : IndexSchema). z.built) own_x ∙ one_built
        ∙ sym (ap (λ (z : IndexSchema). z.built) own_y) in
        λ k. record (alike k) { built = up_to k }
    one_at n x y at_x at_y alike true false is_x is_y =
        let own_x : x ≡ i = only_one is_building d.globals built_d.one i in_d n x at_x is_x in
        let own_y : y ≡ j = one_in_e n at_e.0 y j at_y at_e.1 (sym (ap family_in alike)
        ∙ ap family_in own_x ∙ one_family) in
        absurd (false≢true (sym is_y ∙ ap is_building own_y ∙ at_e.2))
    one_at n x y at_x at_y alike false true is_x is_y =
        let own_y : y ≡ j = only_one is_building e.globals built_e.one j in_e n y at_y is_y in
        let own_x : x ≡ i = one_in_d n at_d.0 x i at_x at_d.1 (ap family_in alike
        ∙ ap family_in own_y ∙ sym one_family) in
        absurd (false≢true (sym is_x ∙ ap is_building own_x ∙ at_d.2))

  none_built : (x : IndexSchema) (n : ℕ) (xs : List IndexSchema) → find is_building xs ≡ None
      → slice_get xs n ≡ Some x → is_building x ≡ false
  none_built x n xs none at = by (is_building x)
      (all_at (λ (z : IndexSchema). not (is_building z)) xs n x
      (none_passes is_building xs none) at)
    where
      by : (b : Bool) → not b ≡ true → b ≡ false
      by true f = absurd (let g : ⊥ = cc in g)
      by false f = refl

  globals : d.globals ≡ e.globals
  globals = lists_one d.globals e.globals (ap (λ (x : TableSchema). x.globals) told)
      (by (building_in d) (building_in e) refl refl)
    where
      by : (o p : Option IndexSchema) → building_in d ≡ o → building_in e ≡ p → (n : ℕ)
          (x y : IndexSchema) → slice_get d.globals n ≡ Some x → slice_get e.globals n ≡ Some y
          → as_whole x ≡ as_whole y → x ≡ y
      by None None in_d in_e n x y at_x at_y alike = both_whole x y alike
          (none_built x n d.globals in_d at_x) (none_built y n e.globals in_e at_y)
      by (Some i) (Some j) in_d in_e n x y at_x at_y alike =
          one_at i j in_d in_e n x y at_x at_y alike (is_building x) (is_building y) refl refl
      by None (Some j) in_d in_e n x y at_x at_y alike = absurd (told_not
          (sym (ap (option_map (λ (x : IndexSchema). to_be_bytes w32 x.family
          ++ built_bytes d x.built)) in_d) ∙ cells.0
          ∙ ap (option_map (λ (x : IndexSchema). to_be_bytes w32 x.family
          ++ built_bytes e x.built)) in_e))
        where
          told_not : {A : Type 0} {v : A} → None ≡ Some v → ⊥
          told_not f = let g : ⊥ = cc in g
      by (Some i) None in_d in_e n x y at_x at_y alike = absurd (told_not
          (sym (ap (option_map (λ (x : IndexSchema). to_be_bytes w32 x.family
          ++ built_bytes d x.built)) in_d) ∙ cells.0
          ∙ ap (option_map (λ (x : IndexSchema). to_be_bytes w32 x.family
          ++ built_bytes e x.built)) in_e))
        where
          told_not : {A : Type 0} {v : A} → Some v ≡ None → ⊥
          told_not f = let g : ⊥ = cc in g

  -- Descriptions whose rows are one are one, where no two families of a table are one.
  pub one_table_row : d ≡ e
  one_table_row =
      λ k. record (told k) { ttl = cells.1 k; locals = locals k; globals = globals k }
