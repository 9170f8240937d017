-- A step in which an index is built further leads from a valid state to a valid one.
use Rattle.std.proofs.Common.{◌≡◌, ◌≢◌, ◌<◌, ◌≤◌, refl, sym, ap, subst, ◌∙◌, ℕ, suc, Bool, true, false, cond, List, [], ◌∷◌, ◌++◌, map, take, length, Option, Some, None, All, AllPairs, Contains, inl, is_some, nat_le, arith}
use Rattle.std.specs.FinMap as finite
use Rattle.std.specs.List.{AllByRecursion, filter, last_or, list_all, list_any}
use Rattle.std.specs.Option.{option_map_or}
use Rattle.std.specs.Prelude.{◌&&◌, ◌||◌, if◌then◌else◌, not}
use Rattle.std.specs.Str.{bytes_eq}
use Rattle.std.proofs.lemmas.List.{length-map}
use Rattle.std.proofs.lemmas.List.Elements.{All-filter, All-from_recursion, All-head, All-tail, All-take}
use Rattle.std.proofs.lemmas.Bool.{and_from}
use Rattle.std.specs.Cmp.{first_so, second_so}
use Rattle.alt_schema.specs.Described.{keys_defined}
use Rattle.alt_schema.specs.Indexes.{indexes, is_key, is_used}
use Rattle.alt_schema.specs.Rules.{all_differ, is_name}
use Rattle.alt_schema.specs.declared.schema.Built.{Built}
use Rattle.alt_schema.specs.declared.schema.Built.TheVariants.{Whole, UpTo}
use Rattle.alt_schema.specs.declared.schema.IndexSchema.{IndexSchema}
use Rattle.alt_schema.specs.declared.schema.KeyAttr.{KeyAttr}
use Rattle.alt_schema.specs.declared.schema.TableSchema.{TableSchema}
use Rattle.alt_value.specs.Tree.{Pair}
use Rattle.alt_machine.specs.declared.TheConstants.{BUILT_AT_ONCE, NUMBERS_END}
use Rattle.alt_machine.specs.Building.{IsBuilt, build, building_in, built_after, described_so_far, first_building, is_building, is_built_to, left_part, reaches, so_far, with_built}
use Rattle.alt_machine.specs.Laws.{BuildsKeepValid}
use Rattle.alt_machine.specs.Lists.{key_attributes}
use Rattle.alt_machine.specs.Outcomes.{a_number}
use Rattle.alt_machine.specs.State.{State, Table, families_of}
use Rattle.alt_machine.specs.Valid.{IsMade, IsStored, IsTable, IsValid, is_pair, names_few}
use Rattle.alt_machine.proofs.BuiltKeys.{key_there}
use Rattle.alt_machine.proofs.Chains.{IsStep, all_valid, no_steps, one_at_most, one_step}
use Rattle.alt_machine.proofs.Entries.{each_entry}
use Rattle.alt_machine.proofs.Lacks.{number_room}
use Rattle.alt_machine.proofs.Redescribed.{IsAlike, built_to-alike, with_description_valid}

-- ---- how far an index is built then

module _ (d : TableSchema) where
  abbrev Stands : List ℕ × List Pair → Type 0
  Stands e = IsStored d e.0 e.1

  -- the last of items that are stored has a key of the table
  last_built : (es : List (List ℕ × List Pair)) (o : Option (List Pair)) → All Stands es
      → is_built_to d (UpTo o) ≡ true
      → is_built_to d (UpTo (last_or o (map (λ e. key_attributes d None e.1) es))) ≡ true
  last_built [] o stored is = is
  last_built (e ∷ es) o stored is = last_built es (Some (key_attributes d None e.1))
      (All-tail Stands e es stored)
      (ap is_some (key_there d e.0 e.1 (All-head Stands e es stored).stands))

  -- so an index is built up to a key of the table after a step
  after_built : (most : ℕ) (items : List (List ℕ × List Pair)) → All Stands items
      → is_built_to d (built_after d most items) ≡ true
  after_built most items stored = by (nat_le (length items) most)
    where
      by : (b : Bool) → is_built_to d (if b then Whole
          else UpTo (last_or None (map (λ e. key_attributes d None e.1) (take most items)))) ≡ true
      by true = refl
      by false = last_built (take most items) None (All-take Stands most items stored) refl

module _ (b : Built) where
  -- an index that is built further is the same in all else
  same_of : {A : Type 0} (f : IndexSchema → A)
      → ((i : IndexSchema) → f (record i { built = b }) ≡ f i) → (i : IndexSchema)
      → f (so_far b i) ≡ f i
  same_of f same i = by (is_building i)
    where
      by : (c : Bool) → f (if c then record i { built = b } else i) ≡ f i
      by true = same i
      by false = refl

  module _ (d : TableSchema) where
    abbrev e : TableSchema
    e = described_so_far b d

    -- what is told of each index is told of it then
    all_of : (f : IndexSchema → Bool) → ((i : IndexSchema) → f (record i { built = b }) ≡ f i)
        → (is : List IndexSchema) → list_all f (map (so_far b) is) ≡ list_all f is
    all_of f same [] = refl
    all_of f same (i ∷ is) = (λ j. same_of f same i j && all_of f same is j)

    any_of : (f : IndexSchema → Bool) → ((i : IndexSchema) → f (record i { built = b }) ≡ f i)
        → (is : List IndexSchema) → list_any f (map (so_far b) is) ≡ list_any f is
    any_of f same [] = refl
    any_of f same (i ∷ is) = (λ j. same_of f same i j || any_of f same is j)

    all_indexes : (f : IndexSchema → Bool) → ((i : IndexSchema) → f (record i { built = b }) ≡ f i)
        → (ls gs : List IndexSchema)
        → list_all f (ls ++ map (so_far b) gs) ≡ list_all f (ls ++ gs)
    all_indexes f same [] gs = all_of f same gs
    all_indexes f same (l ∷ ls) gs = ap (λ c. f l && c) (all_indexes f same ls gs)

    any_indexes : (f : IndexSchema → Bool) → ((i : IndexSchema) → f (record i { built = b }) ≡ f i)
        → (ls gs : List IndexSchema)
        → list_any f (ls ++ map (so_far b) gs) ≡ list_any f (ls ++ gs)
    any_indexes f same [] gs = any_of f same gs
    any_indexes f same (l ∷ ls) gs = ap (λ c. f l || c) (any_indexes f same ls gs)

    map_globals : {A : Type 0} (f : IndexSchema → A)
        → ((i : IndexSchema) → f (record i { built = b }) ≡ f i) → (gs : List IndexSchema)
        → map f (map (so_far b) gs) ≡ map f gs
    map_globals f same [] = refl
    map_globals f same (i ∷ gs) = (λ j. same_of f same i j ∷ map_globals f same gs j)

    map_indexes : {A : Type 0} (f : IndexSchema → A)
        → ((i : IndexSchema) → f (record i { built = b }) ≡ f i) → (ls gs : List IndexSchema)
        → map f (ls ++ map (so_far b) gs) ≡ map f (ls ++ gs)
    map_indexes f same [] gs = map_globals f same gs
    map_indexes f same (l ∷ ls) gs = ap (λ xs. f l ∷ xs) (map_indexes f same ls gs)

    -- the families are the same
    pub families_same : families_of e ≡ families_of d
    families_same = ap (λ xs. d.family ∷ (xs ++ option_map_or (λ f. f ∷ []) d.stream_family []))
        (map_indexes (λ i. i.family) (λ i. refl) d.locals d.globals)

    -- names differ as they stand in a list
    names_any : (x : List ℕ) (is : List IndexSchema)
        → list_any (λ (i : IndexSchema). bytes_eq i.name x) is
        ≡ list_any (λ (n : List ℕ). bytes_eq n x) (map (λ (i : IndexSchema). i.name) is)
    names_any x [] = refl
    names_any x (i ∷ is) = ap (λ c. bytes_eq i.name x || c) (names_any x is)

    names_differ : (is : List IndexSchema) → all_differ (λ (i : IndexSchema). i.name) is
        ≡ all_differ (λ (n : List ℕ). n) (map (λ (i : IndexSchema). i.name) is)
    names_differ [] = refl
    names_differ (i ∷ is) = (λ j. not (names_any i.name is j) && names_differ is j)

    -- it is a description of the same table
    pub alike_so_far : IsAlike d e
    alike_so_far = record { name = refl; hash = refl; range = refl; stream = refl; number = refl }

    -- no more indexes are being built than before
    one_fewer : (g : IndexSchema) (xs ys : List IndexSchema) → length xs ≤ length ys
        → length (cond (is_building (so_far b g)) (so_far b g ∷ xs) xs)
        ≤ length (cond (is_building g) (g ∷ ys) ys)
    one_fewer g xs ys h = by (is_building g) refl
      where
        either : (c : Bool) (x : IndexSchema) → length (cond c (x ∷ xs) xs) ≤ suc (length ys)
        either true x = omega (arith, h)
        either false x = omega (arith, h)

        by : (c : Bool) → is_building g ≡ c
            → length (cond (is_building (if c then record g { built = b } else g))
            ((if c then record g { built = b } else g) ∷ xs) xs)
            ≤ length (cond c (g ∷ ys) ys)
        by true at = either (is_building (record g { built = b })) (record g { built = b })
        by false at = subst (λ c. length (cond c (g ∷ xs) xs) ≤ length ys) (sym at) h

    fewer_building : (gs : List IndexSchema)
        → length (filter is_building (map (so_far b) gs)) ≤ length (filter is_building gs)
    fewer_building [] = omega arith
    fewer_building (g ∷ gs) = one_fewer g (filter is_building (map (so_far b) gs))
        (filter is_building gs) (fewer_building gs)

    -- each is built up to a key of the table
    keys_built : is_built_to d b ≡ true → (gs : List IndexSchema)
        → list_all (λ i. is_built_to d i.built) gs ≡ true
        → list_all (λ i. is_built_to e i.built) (map (so_far b) gs) ≡ true
    keys_built to [] h = refl
    keys_built to (g ∷ gs) h = and_from _ _ (one (is_building g))
        (keys_built to gs (second_so (is_built_to d g.built) _ h))
      where
        one : (c : Bool)
            → is_built_to e (if c then record g { built = b } else g).built ≡ true
        one true = built_to-alike d e alike_so_far b ∙ to
        one false = built_to-alike d e alike_so_far g.built ∙ first_so (is_built_to d g.built) _ h

    built_so_far : is_built_to d b ≡ true → IsBuilt d → IsBuilt e
    built_so_far to is = record {
      locals = is.locals;
      one = omega (arith, fewer_building d.globals, is.one);
      keys = keys_built to d.globals is.keys;
    }

    -- and it is as one is made
    pub made_so_far : is_built_to d b ≡ true → IsMade d → IsMade e
    made_so_far to made = record {
      spelled = made.spelled;
      indexes_spelled = all_indexes (λ i. is_name i.name) (λ i. refl) d.locals d.globals
          ∙ made.indexes_spelled;
      indexes_differ = names_differ (indexes e)
          ∙ ap (all_differ (λ (n : List ℕ). n))
          (map_indexes (λ i. i.name) (λ i. refl) d.locals d.globals)
          ∙ sym (names_differ (indexes d)) ∙ made.indexes_differ;
      keys = made.keys;
      index_keys = all_indexes (λ i. is_pair i.hash i.range) (λ i. refl) d.locals d.globals
          ∙ made.index_keys;
      used = same_used d.definitions ∙ made.used;
      locals = made.locals;
      projections = all_indexes (λ i. names_few i.projection) (λ i. refl) d.locals d.globals
          ∙ made.projections;
      locals_few = made.locals_few;
      globals_few = omega (arith, length-map d.globals (so_far b), made.globals_few);
      built = built_so_far to made.built;
      whole = record {
        stream = made.whole.stream;
        once = made.whole.once;
        keys = made.whole.keys;
        index_keys = all_indexes (λ i. keys_defined d.definitions i.hash i.range) (λ i. refl)
            d.locals d.globals ∙ made.whole.index_keys;
      };
    }
      where
        same_used : (ks : List KeyAttr) → list_all (λ a. is_used e a.name) ks
            ≡ list_all (λ a. is_used d a.name) ks
        same_used [] = refl
        same_used (k ∷ ks) = (λ j. (is_key d.hash d.range k.name
            || any_indexes (λ i. is_key i.hash i.range k.name) (λ i. refl) d.locals d.globals j)
            && same_used ks j)

-- ---- the state

-- each of a table's items is stored
pub all_stored : (s : State) (name : List ℕ) (t : Table) → IsTable s name t
    → All (λ e. IsStored t.description e.0 e.1) (finite.entries t.items)
all_stored s name t is = All-from_recursion (λ e. IsStored t.description e.0 e.1)
    (finite.entries t.items) (each_entry (IsStored t.description) t.items is.items)

-- a valid state stays valid where an index of a table is built of so many items more
pub with_built_valid : (s : State) (most : ℕ) (name : List ℕ) (t : Table) (i : IndexSchema)
    → IsValid s → s.next_number < NUMBERS_END → finite.get s.tables name ≡ Some t
    → IsValid (with_built s most name t i)
with_built_valid s most name t i v room there =
    let is : IsTable s name t = v.tables name t there in
    let d : TableSchema = t.description in
    let more : List (List ℕ × List Pair) = left_part d i.built t.items in
    let b : Built = built_after d most more in
    let same : families_of (described_so_far b d) ≡ families_of d = families_same b d in
    with_description_valid s name t (described_so_far b d) s.next_family v room there (omega arith)
    v.next_family.1 (alike_so_far b d)
    (made_so_far b d (after_built d most more (All-filter (λ e. not (reaches d i.built e.0))
    (λ e. IsStored d e.0 e.1) (finite.entries t.items) (all_stored s name t is))) is.made)
    (subst (λ fs. All (λ f. (1 ≤ f) × (f < s.next_family)) fs) (sym same) is.families)
    (subst (λ fs. AllPairs (λ f g. f ≢ g) fs) (sym same) is.differ)
    (λ f h. inl (subst (λ fs. Contains fs f) same h))

-- the first table of which an index is being built is one of those
pub first_there : (P : List ℕ × Table → Type 0) (es : List (List ℕ × Table)) → AllByRecursion P es
    → (f : (List ℕ × Table) × IndexSchema) → first_building es ≡ Some f → P f.0
first_there P [] each f e = absurd (let g : ⊥ = cc in g)
first_there P (x ∷ xs) each f e = by (building_in x.1.description) e
    (λ h. first_there P xs each.1 f h)
  where
    by : (o : Option IndexSchema) → option_map_or (λ i. Some (x, i)) o (first_building xs) ≡ Some f
        → (first_building xs ≡ Some f → P f.0) → P f.0
    by None h rest = rest h
    by (Some i) h rest = subst P (let same : x ≡ f.0 = ap (λ o. first o) h in same) each.0
      where
        first : Option ((List ℕ × Table) × IndexSchema) → List ℕ × Table
        first None = x
        first (Some g) = g.0

-- a step of building is one write at most, from a valid state to a valid one
pub build_steps : (s : State) → IsStep a_number s (build s)
build_steps s = by (first_building (finite.entries s.tables)) refl
  where
    by : (o : Option ((List ℕ × Table) × IndexSchema))
        → first_building (finite.entries s.tables) ≡ o
        → IsStep a_number s (option_map_or
        (λ f. with_built s BUILT_AT_ONCE f.0.0 f.0.1 f.1 ∷ []) o [])
    by None e = no_steps a_number s
    by (Some f) e = one_step a_number s (with_built s BUILT_AT_ONCE f.0.0 f.0.1 f.1) (λ v enough.
        with_built_valid s BUILT_AT_ONCE f.0.0 f.0.1 f.1 v (number_room s enough)
        (first_there (λ e. finite.get s.tables e.0 ≡ Some e.1) (finite.entries s.tables)
        (each_entry (λ k x. finite.get s.tables k ≡ Some x) s.tables (λ k x at. at)) f e))

-- so it keeps what is valid
pub builds_keep_valid : BuildsKeepValid
builds_keep_valid = λ s. (
  one_at_most a_number s (build s) (build_steps s),
  λ v enough. all_valid a_number s (build s) (build_steps s) enough v,
)
