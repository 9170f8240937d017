-- The description with an index of a family built so far, and what a cell tells of it.
use Rattle.std.proofs.Common.{◌≡◌, ◌≢◌, refl, sym, ap, subst, ◌∙◌, ℕ, zero, suc, ◌-◌, ◌≤◌, ◌<◌, ◌^◌, ◌==◌, ◌&&◌, Bool, true, false, cond, not, List, [], ◌∷◌, ◌++◌, length, map as each, Option, Some, None, option_map, is_some, Result, Ok, slice_get, take, drop, All, AllPairs, arith}
use Rattle.std.proofs.lemmas.Bool.{false≢true}
use Rattle.std.proofs.lemmas.Bool.Decides.{nat_tests}
use Rattle.std.proofs.lemmas.List.{length-drop, take-append-drop}
use Rattle.std.proofs.lemmas.List.Elements.{All-head, All-tail}
use Rattle.std.proofs.lemmas.List.Folds.{list_all-append}
use Rattle.std.proofs.lemmas.List.Sums.{length-filter}
use Rattle.std.proofs.lemmas.Option.{same_Some}
use Rattle.std.specs.Cmp.{first_so, second_so}
use Rattle.std.specs.Int.{w32, to_be_bytes}
use Rattle.std.specs.List.{count_by, filter, find, list_any, list_all}
use Rattle.std.specs.Option.{option_map_or}
use Rattle.std.specs.Prelude.{unwrap_or, if◌then◌else◌, option_and_then, ◌||◌}
use Rattle.alt_base.proofs.Lists.{all_at}
use Rattle.alt_fields.specs.Field.{StandsAt}
use Rattle.alt_keyorder.specs.Place.{place_bytes}
use Rattle.alt_machine.proofs.Inserted.{head_pairs, tail_pairs}
use Rattle.alt_machine.specs.Building.{IsBuilt, building_in, built_place, is_building, is_built_to}
use Rattle.alt_machine.specs.Lists.{start_beside, start_value}
use Rattle.alt_schema.specs.Bare.{as_whole, bare, is_whole}
use Rattle.alt_schemabytes.specs.Held.{IsHeld, IsHeldBuilt, IsHeldIndex}
use Rattle.alt_schema.specs.Indexes.{indexes, is_key}
use Rattle.alt_schema.specs.SoFar.{index_of_family, schema_of_family}
use Rattle.alt_schema.specs.declared.schema.Built.{Built}
use Rattle.alt_schema.specs.declared.schema.Built.TheVariants.{Whole, UpTo}
use Rattle.alt_schema.specs.declared.schema.IndexSchema.{IndexSchema}
use Rattle.alt_schema.specs.declared.schema.TableSchema.{TableSchema}
use Rattle.alt_schema.proofs.BareLaws.{whole_is}
use Rattle.alt_tablerows.specs.Families.{HasOwnFamilies}
use Rattle.alt_tablerows.specs.CatalogRows.{built_bytes, built_cell}
use Rattle.alt_tablerows.specs.private.Cells.{TellsBuilt}
use Rattle.alt_tablerows.proofs.OneDescription.{at_rec, pairs_front}
use Rattle.alt_tablerows.proofs.OneIndex.{family_in, found_at, passes_counted}
use Rattle.alt_value.specs.Tree.{Pair}

-- what is read is one
pub same_ok : {E : Type 0} (r : Result (ℕ × ℕ) E) (f g a b : ℕ) → r ≡ Ok (f, a) → r ≡ Ok (g, b)
    → f ≡ g
same_ok r f g a b x y = ap (λ (p : ℕ × ℕ). p.0) (inside (f, a) (g, b) r x y)
  where
    inside : {E : Type 0} (p q : ℕ × ℕ) (r : Result (ℕ × ℕ) E) → r ≡ Ok p → r ≡ Ok q → p ≡ q
    inside p q r x y = cc

-- the bytes from the fifth on
pub from_fifth : (bs : List ℕ) (at : ℕ) → at ≡ 4 → take (length bs - at) (drop at bs) ≡ drop 4 bs
from_fifth bs at is = ap (λ n. take (length bs - n) (drop n bs)) is
    ∙ take_all (length bs - 4) (drop 4 bs) (omega (arith, length-drop 4 bs))
  where
    take_all : (n : ℕ) (xs : List ℕ) → length xs ≤ n → take n xs ≡ xs
    take_all zero [] h = refl
    take_all zero (x ∷ xs) h = absurd (omega (arith, h))
    take_all (suc n) [] h = refl
    take_all (suc n) (x ∷ xs) h = ap (λ ys. x ∷ ys) (take_all n xs (omega (arith, h)))

-- an index has a family
abbrev pub of_family : ℕ → IndexSchema → Bool
of_family family i = i.family == family

-- ---- an index of a list is built so far

module _ (family : ℕ) (built : Built) (part : is_whole built ≡ false) where
  -- the one of the family is then being built
  record IsOf (i : IndexSchema) : Type 0 where
    has : i.family ≡ family
    so_far : i.built ≡ built

  -- the first that is being built is of the family
  first_built : (is : List IndexSchema) → list_all (λ i. is_whole i.built) is ≡ true
      → length (filter (of_family family) is) ≡ 1
      → (i : IndexSchema) × (find is_building (each (index_of_family family built) is) ≡ Some i)
      × IsOf i
  first_built [] whole one = absurd (omega (arith, one))
  first_built (x ∷ xs) whole one =
      by (λ h. first_built xs (second_so (is_whole x.built) _ whole) h)
      (x.family == family) refl one
    where
      by : (length (filter (of_family family) xs) ≡ 1 → (i : IndexSchema)
          × (find is_building (each (index_of_family family built) xs) ≡ Some i) × IsOf i)
          → (b : Bool) → (x.family == family) ≡ b
          → length (cond b (x ∷ filter (of_family family) xs) (filter (of_family family) xs)) ≡ 1
          → (i : IndexSchema)
          × (find is_building ((if b then record x { built = built } else x)
          ∷ each (index_of_family family built) xs) ≡ Some i) × IsOf i
      by later true c h = (
        record x { built = built },
        ap (λ b. cond (not b) (Some (record x { built = built }))
            (find is_building (each (index_of_family family built) xs))) part,
        record { has = grind (arith, nat_tests); so_far = refl },
      )
      by later false c h =
          let (i, found, of) = later h in (
            i,
            ap (λ b. cond (not b) (Some x)
                (find is_building (each (index_of_family family built) xs)))
                (first_so (is_whole x.built) _ whole) ∙ found,
            of,
          )

  -- as many are being built as have the family
  count_built : (is : List IndexSchema) → list_all (λ i. is_whole i.built) is ≡ true
      → length (filter is_building (each (index_of_family family built) is))
      ≡ length (filter (of_family family) is)
  count_built [] whole = refl
  count_built (x ∷ xs) whole =
      by (count_built xs (second_so (is_whole x.built) _ whole)) (x.family == family)
    where
      by : length (filter is_building (each (index_of_family family built) xs))
          ≡ length (filter (of_family family) xs) → (b : Bool)
          → length (filter is_building ((if b then record x { built = built } else x)
          ∷ each (index_of_family family built) xs))
          ≡ length (cond b (x ∷ filter (of_family family) xs) (filter (of_family family) xs))
      by rest true =
          ap (λ b. length (cond (not b)
          (record x { built = built } ∷ filter is_building (each (index_of_family family built) xs))
          (filter is_building (each (index_of_family family built) xs)))) part ∙ ap suc rest
      by rest false =
          ap (λ b. length (cond (not b)
          (x ∷ filter is_building (each (index_of_family family built) xs))
          (filter is_building (each (index_of_family family built) xs))))
          (first_so (is_whole x.built) _ whole) ∙ rest

  -- each is built to a key of the table, where this one is
  keys_built : (d : TableSchema) → is_built_to d built ≡ true → (is : List IndexSchema)
      → list_all (λ i. is_whole i.built) is ≡ true
      → list_all (λ i. is_built_to d i.built) (each (index_of_family family built) is) ≡ true
  keys_built d to [] whole = refl
  keys_built d to (x ∷ xs) whole =
      by (keys_built d to xs (second_so (is_whole x.built) _ whole)) (x.family == family)
    where
      by : list_all (λ i. is_built_to d i.built) (each (index_of_family family built) xs) ≡ true
          → (b : Bool) → (is_built_to d (if b then record x { built = built } else x).built
          && list_all (λ i. is_built_to d i.built) (each (index_of_family family built) xs)) ≡ true
      by rest true = ap (λ b. b
          && list_all (λ i. is_built_to d i.built) (each (index_of_family family built) xs)) to
          ∙ rest
      by rest false = ap (λ b. is_built_to d b
          && list_all (λ i. is_built_to d i.built) (each (index_of_family family built) xs))
          (whole_is x.built (first_so (is_whole x.built) _ whole)) ∙ rest

  -- as if they were whole, they are what they were
  as_they_were : (is : List IndexSchema) → each as_whole (each (index_of_family family built) is)
      ≡ each as_whole is
  as_they_were [] = refl
  as_they_were (x ∷ xs) = λ j. by (x.family == family) j ∷ as_they_were xs j
    where
      by : (b : Bool) → as_whole (if b then record x { built = built } else x) ≡ as_whole x
      by true = refl
      by false = refl

-- ---- of a table

-- the place of a key, and so the bytes, are those by the key attributes
pub same_place : (d e : TableSchema) → e.hash ≡ d.hash → e.range ≡ d.range → (key : List Pair)
    → built_place e key ≡ built_place d key
same_place d e hash range key = λ j.
    if list_all (λ (p : Pair). is_key (hash j) (range j) p.0) key
    then option_map place_bytes
    (option_and_then (start_beside key (range j)) (start_value key (hash j)))
    else None

same_bytes : (d e : TableSchema) → e.hash ≡ d.hash → e.range ≡ d.range → (b : Built)
    → built_bytes e b ≡ built_bytes d b
same_bytes d e hash range Whole = refl
same_bytes d e hash range (UpTo None) = refl
same_bytes d e hash range (UpTo (Some key)) =
    ap (λ o. 1 ∷ unwrap_or o []) (same_place d e hash range key)

same_to : (d e : TableSchema) → e.hash ≡ d.hash → e.range ≡ d.range → (b : Built)
    → is_built_to e b ≡ true → is_built_to d b ≡ true
same_to d e hash range Whole to = refl
same_to d e hash range (UpTo None) to = refl
same_to d e hash range (UpTo (Some key)) to =
    subst (λ o. is_some o ≡ true) (same_place d e hash range key) to

-- a cell is the bytes of a family, and what is behind them
cell_parts : (cell : List ℕ) (family : ℕ) → StandsAt cell 0 (to_be_bytes w32 family)
    → cell ≡ to_be_bytes w32 family ++ drop 4 cell
cell_parts cell family at = sym (take-append-drop 4 cell) ∙ ap (λ bs. bs ++ drop 4 cell) at

-- What is built so far as a cell tells.
pub record IsBuiltUp (d : TableSchema) (cell : List ℕ) (e : TableSchema) : Type 0 where
  pub is_built : IsBuilt e
  pub told : built_cell e ≡ Some cell
  pub same : bare e ≡ bare d
  pub time : e.ttl ≡ d.ttl

module _ (d : TableSchema) (cell : List ℕ) (family : ℕ) (built : Built)
    (whole : list_all (λ i. is_whole i.built) (indexes d) ≡ true)
    (at : StandsAt cell 0 (to_be_bytes w32 family))
    (counted : count_by (of_family family) d.globals ≡ 1)
    (tells : TellsBuilt d (drop 4 cell) built) where
  each_whole : (list_all (λ i. is_whole i.built) d.locals ≡ true)
      × (list_all (λ i. is_whole i.built) d.globals ≡ true)
  each_whole =
      let all = sym (list_all-append (λ (i : IndexSchema). is_whole i.built) d.locals d.globals)
      ∙ whole in (
        first_so (list_all (λ i. is_whole i.built) d.locals) _ all,
        second_so (list_all (λ i. is_whole i.built) d.locals) _ all,
      )

  globals : list_all (λ i. is_whole i.built) d.globals ≡ true
  globals = each_whole.1

  one : length (filter (of_family family) d.globals) ≡ 1
  one = length-filter (of_family family) d.globals ∙ counted

  is_built_up : IsBuiltUp d cell (schema_of_family family built d)
  is_built_up =
      let f = first_built family built tells.part d.globals globals one in
      record {
        is_built = record {
          locals = each_whole.0;
          one = omega (arith, count_built family built tells.part d.globals globals, one);
          keys = keys_built family built tells.part (schema_of_family family built d)
              (same_to (schema_of_family family built d) d refl refl built tells.to) d.globals
              globals;
        };
        told = ap (option_map (λ (i : IndexSchema). to_be_bytes w32 i.family
            ++ built_bytes (schema_of_family family built d) i.built)) f.1
            ∙ ap Some ((λ j. to_be_bytes w32 (f.2.has j)
            ++ built_bytes (schema_of_family family built d) (f.2.so_far j))
            ∙ ap (λ bs. to_be_bytes w32 family ++ bs)
            (same_bytes d (schema_of_family family built d) refl refl built ∙ sym tells.told)
            ∙ sym (cell_parts cell family at));
        same = λ j. record (bare d) { globals = as_they_were family built tells.part d.globals j };
        time = refl;
      }

  pub built_up : (e : TableSchema) → e ≡ schema_of_family family built d → IsBuiltUp d cell e
  built_up e is = subst (IsBuiltUp d cell) (sym is) is_built_up

-- ---- what a cell tells of a table

-- none has a family that each other is
count_none : (family : ℕ) (is : List IndexSchema) → All (λ g. family ≢ g) (each family_in is)
    → length (filter (of_family family) is) ≡ 0
count_none family [] apart = refl
count_none family (x ∷ xs) apart = by (count_none family xs
    (All-tail (λ g. family ≢ g) x.family (each family_in xs) apart)) (x.family == family) refl
  where
    by : length (filter (of_family family) xs) ≡ 0 → (b : Bool) → (x.family == family) ≡ b
        → length (cond b (x ∷ filter (of_family family) xs) (filter (of_family family) xs)) ≡ 0
    by rest true c = absurd (All-head (λ g. family ≢ g) x.family (each family_in xs) apart
        (grind (arith, nat_tests)))
    by rest false c = rest

-- where the families differ, at most one has one of them
count_few : (family : ℕ) (ls gs : List IndexSchema)
    → AllPairs (λ f g. f ≢ g) (each family_in (ls ++ gs))
    → length (filter (of_family family) gs) ≤ 1
count_few family (l ∷ ls) gs apart = count_few family ls gs
    (tail_pairs (λ f g. f ≢ g) l.family (each family_in (ls ++ gs)) apart)
count_few family [] [] apart = omega arith
count_few family [] (g ∷ gs) apart = by (count_few family [] gs
    (tail_pairs (λ f g. f ≢ g) g.family (each family_in gs) apart)) (g.family == family) refl
  where
    by : length (filter (of_family family) gs) ≤ 1 → (b : Bool) → (g.family == family) ≡ b
        → length (cond b (g ∷ filter (of_family family) gs) (filter (of_family family) gs)) ≤ 1
    by rest true c =
        let own : g.family ≡ family = grind (arith, nat_tests) in
        omega (
          arith,
          count_none family gs (subst (λ f. All (λ x. f ≢ x) (each family_in gs)) own
              (head_pairs (λ f g. f ≢ g) g.family (each family_in gs) apart)),
        )
    by rest false c = rest

-- as if they were whole, as many have it
count_bare : (family : ℕ) (is : List IndexSchema)
    → length (filter (of_family family) (each as_whole is)) ≡ length (filter (of_family family) is)
count_bare family [] = refl
count_bare family (x ∷ xs) = by (count_bare family xs) (x.family == family)
  where
    by : length (filter (of_family family) (each as_whole xs))
        ≡ length (filter (of_family family) xs) → (b : Bool)
        → length (cond b (as_whole x ∷ filter (of_family family) (each as_whole xs))
        (filter (of_family family) (each as_whole xs)))
        ≡ length (cond b (x ∷ filter (of_family family) xs) (filter (of_family family) xs))
    by rest true = ap suc rest
    by rest false = rest

-- where none passes, none is counted
none_counted : (family : ℕ) (is : List IndexSchema) → list_any (of_family family) is ≡ false
    → length (filter (of_family family) is) ≡ 0
none_counted family [] none = refl
none_counted family (x ∷ xs) none = by (none_counted family xs) (x.family == family) none
  where
    by : (list_any (of_family family) xs ≡ false → length (filter (of_family family) xs) ≡ 0)
        → (b : Bool) → (b || list_any (of_family family) xs) ≡ false
        → length (cond b (x ∷ filter (of_family family) xs) (filter (of_family family) xs)) ≡ 0
    by later true h = absurd (false≢true (sym h))
    by later false h = later h

-- so with_built finds the one that is counted
pub none_found : (family : ℕ) (is : List IndexSchema) → count_by (of_family family) is ≡ 1
    → list_any (of_family family) is ≡ false → ⊥
none_found family is one none =
    omega (arith, length-filter (of_family family) is, none_counted family is none, one)

-- The one that a cell tells is being built.
pub record IsTold (e : TableSchema) (cell : List ℕ) : Type 0 where
  pub index : IndexSchema
  pub number : ℕ
  pub stands : slice_get e.globals number ≡ Some index
  pub building : is_building index ≡ true
  pub bytes : cell ≡ to_be_bytes w32 index.family ++ built_bytes e index.built

is_told : (e : TableSchema) (cell : List ℕ) → built_cell e ≡ Some cell → IsTold e cell
is_told e cell told = by (building_in e) refl told
  where
    by : (o : Option IndexSchema) → building_in e ≡ o
        → option_map (λ (i : IndexSchema). to_be_bytes w32 i.family ++ built_bytes e i.built) o
        ≡ Some cell → IsTold e cell
    by None is h = absurd (let f : ⊥ = cc in f)
    by (Some i) is h =
        let (n, at, passes) = found_at is_building e.globals i is in
        record {
          index = i;
          number = n;
          stands = at;
          building = passes;
          bytes = sym (same_Some _ _ h);
        }

module _ (d e : TableSchema) (cell : List ℕ) (held : IsHeld e) (is : IsBuilt e)
    (own : HasOwnFamilies e) (same : bare e ≡ bare d) (told : built_cell e ≡ Some cell) where
  pub the_one : IsTold e cell
  the_one = is_told e cell told

  abbrev pub told_family : ℕ
  told_family = the_one.index.family

  index_held : IsHeldIndex the_one.index
  index_held = at_rec IsHeldIndex e.globals the_one.number the_one.index held.globals.1 the_one.stands

  hash : e.hash ≡ d.hash
  hash = ap (λ (x : TableSchema). x.hash) same

  range : e.range ≡ d.range
  range = ap (λ (x : TableSchema). x.range) same

  -- its family stands in the cell
  pub family_stands : (told_family < 2 ^ 32) × StandsAt cell 0 (to_be_bytes w32 told_family)
  family_stands = (index_held.family, ap (λ c. take 4 c) the_one.bytes)

  -- one index has it
  pub one_of : count_by (of_family told_family) d.globals ≡ 1
  one_of = sym (length-filter (of_family told_family) d.globals)
      ∙ sym (count_bare told_family d.globals)
      ∙ ap (λ (x : TableSchema). length (filter (of_family told_family) x.globals)) (sym same)
      ∙ count_bare told_family e.globals
      ∙ exactly
    where
      exactly : length (filter (of_family told_family) e.globals) ≡ 1
      exactly = omega (
        arith,
        count_few told_family e.locals e.globals (pairs_front e.family
            (each family_in (indexes e)) (option_map_or (λ f. f ∷ []) e.stream_family []) own),
        passes_counted (of_family told_family) e.globals the_one.number the_one.index the_one.stands
            (grind (arith, nat_tests)),
      )

  -- and what is behind it tells how far it is built
  pub rest_tells : IsHeldBuilt the_one.index.built × TellsBuilt d (drop 4 cell) the_one.index.built
  rest_tells = (
    index_held.built,
    record {
      part = not_whole the_one.index.built the_one.building;
      to = same_to d e hash range the_one.index.built
          (all_at (λ (x : IndexSchema). is_built_to e x.built) e.globals the_one.number
          the_one.index
          is.keys the_one.stands);
      told = ap (drop 4) the_one.bytes ∙ same_bytes d e hash range the_one.index.built;
    },
  )
    where
      not_whole : (b : Built) → not (is_whole b) ≡ true → is_whole b ≡ false
      not_whole Whole h = absurd (false≢true h)
      not_whole (UpTo key) h = refl
