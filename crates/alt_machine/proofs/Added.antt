-- A description with a global index more is as one is made, where nothing refuses it.
use Rattle.std.proofs.Common.{◌≡◌, ◌≢◌, ◌⊎◌, refl, sym, ap, subst, ◌∙◌, ℕ, ◌≤◌, Bool, true, false, cond, nat_le, ◌&&◌, ◌||◌, List, [], ◌∷◌, ◌++◌, map, length, Option, Some, None, All, AllPairs, Contains, arith, length-append}
use Rattle.std.specs.List.{filter, find, list_all, list_any}
use Rattle.std.specs.Option.{option_map_or}
use Rattle.std.specs.Str.{bytes_eq}
use Rattle.std.proofs.lemmas.List.{length-map}
use Rattle.std.proofs.lemmas.List.Folds.{list_any-append}
use Rattle.std.proofs.lemmas.Bool.{or_left, leb-true, and_from}
use Rattle.std.proofs.Math.Bool.{or-false}
use Rattle.std.specs.Cmp.{first_so, second_so}
use Rattle.alt_schema.specs.Described.{is_one_of, keys_defined, same_kind}
use Rattle.alt_schema.specs.Indexes.{indexes, is_key, is_used, of_range}
use Rattle.alt_schema.specs.Rules as rules
use Rattle.alt_schema.specs.Rules.{all_differ, is_name}
use Rattle.alt_schema.specs.declared.schema.IndexSchema.{IndexSchema}
use Rattle.alt_schema.specs.declared.schema.KeyAttr.{KeyAttr}
use Rattle.alt_schema.specs.declared.schema.TableSchema.{TableSchema}
use Rattle.alt_schema.specs.declared.stated.Stated.{Stated}
use Rattle.alt_schema.specs.declared.stated.StatedIndex.{StatedIndex}
use Rattle.alt_schema.proofs.NewDescriptions.{keys_found}
use Rattle.alt_schema.specs.Altered.{definitions_with, key_schema_elements, index_added, indexes_fit_with, keys_fit_with, stated_index, stated_with, with_index}
use Rattle.alt_machine.specs.Building.{IsBuilt, building_in, is_building, is_built_to}
use Rattle.alt_machine.specs.State.{families_of}
use Rattle.alt_machine.specs.Valid.{IsMade, is_pair, names_few}
use Rattle.alt_machine.proofs.Inserted.{all_inserted, differ_inserted, inserted_is, last_passes, names_differ, push_passes}
use Rattle.alt_machine.proofs.Made.{pair_kept, projection_kept, tests_alike, used_kept}
use Rattle.alt_machine.proofs.Redescribed.{IsAlike, keys_alike}

-- where none is being built, one is with one more at most
one_built : (gs : List IndexSchema) (x : IndexSchema) → find is_building gs ≡ None
    → length (filter is_building (gs ++ x ∷ [])) ≤ 1
one_built [] x none =
    elim (is_building x) as (λ c. length (cond c (x ∷ []) []) ≤ 1) [
      | true ↦ omega arith
      | false ↦ omega arith
    ]
one_built (g ∷ gs) x none = by (is_building g) none (λ h. one_built gs x h)
  where
    by : (c : Bool) → cond c (Some g) (find is_building gs) ≡ None
        → (find is_building gs ≡ None → length (filter is_building (gs ++ x ∷ [])) ≤ 1)
        → length (cond c (g ∷ filter is_building (gs ++ x ∷ []))
        (filter is_building (gs ++ x ∷ []))) ≤ 1
    by true h rest = absurd (let f : ⊥ = cc in f)
    by false h rest = rest h

-- what passes a test passes a weaker one
all_weaker : {A : Type 0} (p q : A → Bool) → ((x : A) → p x ≡ true → q x ≡ true) → (xs : List A)
    → list_all p xs ≡ true → list_all q xs ≡ true
all_weaker p q f [] h = refl
all_weaker p q f (x ∷ xs) h = and_from (q x) _ (f x (first_so (p x) _ h))
    (all_weaker p q f xs (second_so (p x) _ h))

module _ (d : TableSchema) (more : List KeyAttr) (family : ℕ) (i : StatedIndex) where
  abbrev e : TableSchema
  e = with_index d more family i

  abbrev ds : List KeyAttr
  ds = definitions_with d more

  abbrev new : IndexSchema
  new = index_added d more family i

  abbrev b : Stated
  b = stated_with d more i

  -- it is a description of the same table
  pub alike_added : IsAlike d e
  alike_added = record { name = refl; hash = refl; range = refl; stream = refl; number = refl }

  -- ---- definitions

  -- what is defined is still defined
  one_more : (k : KeyAttr) → is_one_of d.definitions k ≡ true → is_one_of ds k ≡ true
  one_more k h =
      list_any-append (λ (a : KeyAttr). bytes_eq a.name k.name && same_kind a.kind k.kind)
      d.definitions _
      ∙ or_left (is_one_of d.definitions k) _ h

  keys_more : (hash : KeyAttr) (range : Option KeyAttr)
      → keys_defined d.definitions hash range ≡ true → keys_defined ds hash range ≡ true
  keys_more hash range h = and_from (is_one_of ds hash) _
      (one_more hash (first_so (is_one_of d.definitions hash) _ h))
      (beside range (second_so (is_one_of d.definitions hash) _ h))
    where
      beside : (r : Option KeyAttr) → of_range (is_one_of d.definitions) true r ≡ true
          → of_range (is_one_of ds) true r ≡ true
      beside None g = refl
      beside (Some r) g = one_more r g

  -- ---- names that are used

  -- elements of a key use the names of the key
  of_elements : (hash : KeyAttr) (range : Option KeyAttr) (name : List ℕ)
      → rules.is_used_in name (key_schema_elements hash range) ≡ is_key hash range name
  of_elements hash None name = refl
  of_elements hash (Some r) name = ap (λ c. bytes_eq hash.name name || c)
      (or-false (bytes_eq r.name name))

  -- so do those of indexes before others
  any_stated : (name : List ℕ) (ls : List IndexSchema) (xs : List StatedIndex)
      (ys : List IndexSchema)
      → list_any (λ x. rules.is_used_in name x.keys) xs
      ≡ list_any (λ y. is_key y.hash y.range name) ys
      → list_any (λ x. rules.is_used_in name x.keys) (map stated_index ls ++ xs)
      ≡ list_any (λ y. is_key y.hash y.range name) (ls ++ ys)
  any_stated name [] xs ys h = h
  any_stated name (l ∷ ls) xs ys h = λ j. of_elements l.hash l.range name j
      || any_stated name ls xs ys h j

  -- the names of indexes before others are those stated
  names_stated : (ls : List IndexSchema) (xs : List StatedIndex) (ys : List IndexSchema)
      → map (λ (x : StatedIndex). x.name) xs ≡ map (λ (y : IndexSchema). y.name) ys
      → map (λ (x : StatedIndex). x.name) (map stated_index ls ++ xs)
      ≡ map (λ (y : IndexSchema). y.name) (ls ++ ys)
  names_stated [] xs ys h = h
  names_stated (l ∷ ls) xs ys h = ap (λ ns. l.name ∷ ns) (names_stated ls xs ys h)

  -- ---- families

  -- the new family stands behind those of the other indexes
  placed : (ls gs : List IndexSchema) (zs : List ℕ)
      → map (λ (x : IndexSchema). x.family) (ls ++ (gs ++ new ∷ [])) ++ zs
      ≡ map (λ (x : IndexSchema). x.family) (ls ++ gs) ++ family ∷ zs
  placed [] [] zs = refl
  placed [] (g ∷ gs) zs = ap (λ fs. g.family ∷ fs) (placed [] gs zs)
  placed (l ∷ ls) gs zs = ap (λ fs. l.family ∷ fs) (placed ls gs zs)

  abbrev front : List ℕ
  front = d.family ∷ map (λ (x : IndexSchema). x.family) (indexes d)

  abbrev stream : List ℕ
  stream = option_map_or (λ f. f ∷ []) d.stream_family []

  families_are : families_of e ≡ front ++ family ∷ stream
  families_are = ap (λ fs. d.family ∷ fs) (placed d.locals d.globals stream)

  -- what holds of the families of before and of the new one holds of all
  pub families_added : (P : ℕ → Type 0) → P family → All P (families_of d) → All P (families_of e)
  families_added P is h = subst (All P) (sym families_are) (all_inserted P front stream family is h)

  -- they differ, where the new one is none of those
  pub differ_added : All (λ f. f ≢ family) (families_of d)
      → AllPairs (λ f g. f ≢ g) (families_of d) → AllPairs (λ f g. f ≢ g) (families_of e)
  differ_added apart h = subst (AllPairs (λ f g. f ≢ g)) (sym families_are)
      (differ_inserted front stream family apart h)

  -- each is one of before, or the new one
  pub own_added : (f : ℕ) → Contains (families_of e) f
      → Contains (families_of d) f ⊎ (family ≡ f)
  own_added f at = inserted_is front stream family f (subst (λ fs. Contains fs f) families_are at)

  -- ---- as it is made

  module _ (made : IsMade d) (good : keys_fit_with d more i ≡ true)
      (fit : indexes_fit_with d more i ≡ true) (named : is_name i.name ≡ true)
      (none : building_in d ≡ None) where
    schema : rules.is_key_schema i.keys ≡ true
    schema = last_passes (λ (x : StatedIndex). rules.is_key_schema x.keys) (map stated_index d.locals)
        (map stated_index d.globals) i
        (second_so (rules.is_key_schema b.keys) _
        (first_so (rules.in_each_schema rules.is_key_schema b) _ good))

    exactly : rules.defines_exactly b ≡ true
    exactly = second_so (rules.in_each_schema rules.is_key_schema b) _ good

    once : all_differ (λ (a : KeyAttr). a.name) ds ≡ true
    once = first_so (all_differ (λ (a : KeyAttr). a.name) ds) _ exactly

    used_and_defined : (list_all (λ a. rules.is_used_in_any_schema b a.name) ds
        && rules.in_each_schema (list_all (λ x. rules.is_defined ds x.name)) b) ≡ true
    used_and_defined = second_so (all_differ (λ (a : KeyAttr). a.name) ds) _ exactly

    defined : list_all (λ x. rules.is_defined ds x.name) i.keys ≡ true
    defined = last_passes (λ (x : StatedIndex). list_all (λ y. rules.is_defined ds y.name) x.keys)
        (map stated_index d.locals) (map stated_index d.globals) i
        (second_so (list_all (λ x. rules.is_defined ds x.name) b.keys) _
        (second_so (list_all (λ a. rules.is_used_in_any_schema b a.name) ds) _ used_and_defined))

    -- a name is used as it is stated
    used_alike : (name : List ℕ) → rules.is_used_in_any_schema b name ≡ is_used e name
    used_alike name = λ j. of_elements d.hash d.range name j
        || any_stated name d.locals (map stated_index d.globals ++ i ∷ [])
        (d.globals ++ new ∷ []) (any_stated name d.globals (i ∷ []) (new ∷ [])
        (ap (λ c. c || false) (used_kept ds i.keys name schema))) j

    names_alike : map (λ (x : StatedIndex). x.name) (rules.stated_indexes b)
        ≡ map (λ (y : IndexSchema). y.name) (indexes e)
    names_alike = names_stated d.locals (map stated_index d.globals ++ i ∷ [])
        (d.globals ++ new ∷ []) (names_stated d.globals (i ∷ []) (new ∷ []) refl)

    few : nat_le (length b.globals) rules.most_globals ≡ true
    few = first_so (nat_le (length b.globals) rules.most_globals) _
        (second_so (nat_le (length b.locals) rules.most_locals) _ fit)

    behind : (all_differ (λ (x : StatedIndex). x.name) (rules.stated_indexes b)
        && (list_all (λ (x : StatedIndex). rules.is_local_to b.keys x.keys) b.locals
        && list_all (λ (x : StatedIndex). rules.is_projection x.projects x.includes)
        (rules.stated_indexes b))) ≡ true
    behind = second_so (nat_le (length b.globals) rules.most_globals) _
        (second_so (nat_le (length b.locals) rules.most_locals) _ fit)

    projected : rules.is_projection i.projects i.includes ≡ true
    projected = last_passes (λ (x : StatedIndex). rules.is_projection x.projects x.includes)
        (map stated_index d.locals) (map stated_index d.globals) i
        (second_so (list_all (λ (x : StatedIndex). rules.is_local_to b.keys x.keys) b.locals) _
        (second_so (all_differ (λ (x : StatedIndex). x.name) (rules.stated_indexes b)) _ behind))

    built_added : IsBuilt e
    built_added = record {
      locals = made.built.locals;
      one = one_built d.globals new none;
      keys = push_passes (λ (x : IndexSchema). is_built_to e x.built) [] d.globals new
          (keys_alike d e alike_added d.globals made.built.keys) refl;
    }

    -- the description is as one is made
    pub made_added : IsMade e
    made_added = record {
      spelled = made.spelled;
      indexes_spelled = push_passes (λ (x : IndexSchema). is_name x.name) d.locals d.globals new
          made.indexes_spelled named;
      indexes_differ = names_differ (λ (x : IndexSchema). x.name) (indexes e)
          ∙ sym (ap (all_differ (λ (n : List ℕ). n)) names_alike)
          ∙ sym (names_differ (λ (x : StatedIndex). x.name) (rules.stated_indexes b))
          ∙ first_so (all_differ (λ (x : StatedIndex). x.name) (rules.stated_indexes b)) _ behind;
      keys = made.keys;
      index_keys = push_passes (λ (x : IndexSchema). is_pair x.hash x.range) d.locals d.globals new
          made.index_keys (pair_kept ds i.keys schema);
      used = sym (tests_alike (rules.is_used_in_any_schema b) (is_used e) ds used_alike)
          ∙ first_so (list_all (λ a. rules.is_used_in_any_schema b a.name) ds) _ used_and_defined;
      locals = made.locals;
      projections = push_passes (λ (x : IndexSchema). names_few x.projection) d.locals d.globals new
          made.projections (projection_kept i.projects i.includes projected);
      locals_few = made.locals_few;
      globals_few = omega (
        arith,
        leb-true (length b.globals) rules.most_globals few,
        length-append (map stated_index d.globals) (i ∷ []),
        length-map d.globals stated_index,
        length-append d.globals (new ∷ []),
      );
      built = built_added;
      whole = record {
        stream = made.whole.stream;
        once = once;
        keys = keys_more d.hash d.range made.whole.keys;
        index_keys = push_passes (λ (x : IndexSchema). keys_defined ds x.hash x.range)
            d.locals d.globals new
            (all_weaker (λ (x : IndexSchema). keys_defined d.definitions x.hash x.range)
            (λ (x : IndexSchema). keys_defined ds x.hash x.range)
            (λ x h. keys_more x.hash x.range h) (indexes d) made.whole.index_keys)
            (keys_found ds i.keys schema defined);
      };
    }
