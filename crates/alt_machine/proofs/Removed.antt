-- A description with a global index less, and without the definitions that no key uses then, is as one is made.
use Rattle.std.proofs.Common.{◌≡◌, ◌≢◌, refl, ap, ◌∙◌, ℕ, Bool, true, false, cond, not, ◌&&◌, ◌||◌, List, [], ◌∷◌, Option, Some, None, All, AllPairs, Contains, arith}
use Rattle.std.specs.List.{filter, list_all, list_any}
use Rattle.std.specs.Option.{option_map_or}
use Rattle.std.specs.Str.{bytes_eq}
use Rattle.std.proofs.lemmas.List.Elements.{All-cons, All-head, All-tail, All-contains, All-contains_itself}
use Rattle.std.proofs.lemmas.List.Kept.{AllPairs-cons}
use Rattle.std.proofs.lemmas.Bool.{or_left, or_right, and_from}
use Rattle.std.specs.Cmp.{first_so, second_so}
use Rattle.alt_base.proofs.Lists.{length-filter, bytes_eq-true, bytes_eq-itself}
use Rattle.alt_schema.specs.Described.{is_one_of, keys_defined, same_kind}
use Rattle.alt_schema.specs.Indexes.{indexes, is_key, is_named, is_used, of_range}
use Rattle.alt_schema.specs.Rules.{is_name}
use Rattle.alt_schema.specs.declared.schema.IndexSchema.{IndexSchema}
use Rattle.alt_schema.specs.declared.schema.KeyAttr.{KeyAttr}
use Rattle.alt_schema.specs.declared.schema.TableSchema.{TableSchema}
use Rattle.alt_schema.specs.Altered.{without_index, without_named}
use Rattle.alt_machine.specs.Building.{IsBuilt, is_building, is_built_to}
use Rattle.alt_machine.specs.State.{families_of}
use Rattle.alt_machine.specs.Valid.{IsMade, is_pair, names_few}
use Rattle.alt_machine.proofs.Inserted.{all_left, behind_passes, differ_left, fewer_left, filter_pass, filter_passes, head_pairs, pairs_left, tail_pairs}
use Rattle.alt_machine.proofs.Redescribed.{IsAlike, keys_alike}

-- ---- definitions that are kept

-- those whose names pass
abbrev kept : (List ℕ → Bool) → List KeyAttr → List KeyAttr
kept used ds = filter (λ a. used a.name) ds

-- a key attribute that is used and defined stays so
one_kept : (used : List ℕ → Bool) (k : KeyAttr) → used k.name ≡ true → (ds : List KeyAttr)
    → is_one_of ds k ≡ true → is_one_of (kept used ds) k ≡ true
one_kept used k is [] h = h
one_kept used k is (a ∷ ds) h = by (bytes_eq a.name k.name && same_kind a.kind k.kind) refl h
    (λ g. one_kept used k is ds g)
  where
    by : (m : Bool) → (bytes_eq a.name k.name && same_kind a.kind k.kind) ≡ m
        → (m || is_one_of ds k) ≡ true → (is_one_of ds k ≡ true → is_one_of (kept used ds) k ≡ true)
        → is_one_of (cond (used a.name) (a ∷ kept used ds) (kept used ds)) k ≡ true
    by true same g rest = ap (λ c. is_one_of (cond c (a ∷ kept used ds) (kept used ds)) k)
        (ap used (bytes_eq-true a.name k.name (first_so (bytes_eq a.name k.name) _ same)) ∙ is)
        ∙ or_left (bytes_eq a.name k.name && same_kind a.kind k.kind) _ same
    by false same g rest =
        elim (used a.name) as (λ c.
        is_one_of (cond c (a ∷ kept used ds) (kept used ds)) k ≡ true) [
          | true ↦ or_right (bytes_eq a.name k.name && same_kind a.kind k.kind) _ (rest g)
          | false ↦ rest g
        ]

-- so does a key of which each is used
key_kept : (used : List ℕ → Bool) (ds : List KeyAttr) (hash : KeyAttr) (range : Option KeyAttr)
    → ((name : List ℕ) → is_key hash range name ≡ true → used name ≡ true)
    → keys_defined ds hash range ≡ true → keys_defined (kept used ds) hash range ≡ true
key_kept used ds hash range are h = and_from (is_one_of (kept used ds) hash) _
    (one_kept used hash (are hash.name (or_left (bytes_eq hash.name hash.name) _
    (bytes_eq-itself hash.name))) ds (first_so (is_one_of ds hash) _ h))
    (beside range are (second_so (is_one_of ds hash) _ h))
  where
    beside : (r : Option KeyAttr)
        → ((name : List ℕ) → is_key hash r name ≡ true → used name ≡ true)
        → of_range (is_one_of ds) true r ≡ true → of_range (is_one_of (kept used ds)) true r ≡ true
    beside None are g = refl
    beside (Some r) are g = one_kept used r (are r.name (or_right (bytes_eq hash.name r.name) _
        (bytes_eq-itself r.name))) ds g

-- and the keys of indexes
keys_kept : (used : List ℕ → Bool) (ds : List KeyAttr) (is : List IndexSchema)
    → ((name : List ℕ) → list_any (λ (x : IndexSchema). is_key x.hash x.range name) is ≡ true
    → used name ≡ true)
    → list_all (λ (x : IndexSchema). keys_defined ds x.hash x.range) is ≡ true
    → list_all (λ (x : IndexSchema). keys_defined (kept used ds) x.hash x.range) is ≡ true
keys_kept used ds [] are h = refl
keys_kept used ds (i ∷ is) are h = and_from (keys_defined (kept used ds) i.hash i.range) _
    (key_kept used ds i.hash i.range (λ name g. are name (or_left (is_key i.hash i.range name) _ g))
    (first_so (keys_defined ds i.hash i.range) _ h))
    (keys_kept used ds is (λ name g. are name (or_right (is_key i.hash i.range name) _ g))
    (second_so (keys_defined ds i.hash i.range) _ h))

module _ (d : TableSchema) (name : List ℕ) where
  abbrev u : TableSchema
  u = without_named d name

  abbrev e : TableSchema
  e = without_index d name

  abbrev stays : IndexSchema → Bool
  stays i = not (is_named name i)

  -- it is a description of the same table
  pub alike_removed : IsAlike d e
  alike_removed = record { name = refl; hash = refl; range = refl; stream = refl; number = refl }

  abbrev stream : List ℕ
  stream = option_map_or (λ f. f ∷ []) d.stream_family []

  -- what holds of all families holds of those that are left
  pub families_removed : (P : ℕ → Type 0) → All P (families_of d) → All P (families_of e)
  families_removed P h = All-cons P d.family _ (All-head P d.family _ h)
      (all_left (λ (x : IndexSchema). x.family) stays stream P d.locals d.globals
      (All-tail P d.family _ h))

  -- and they differ
  pub differ_removed : AllPairs (λ f g. f ≢ g) (families_of d) → AllPairs (λ f g. f ≢ g) (families_of e)
  differ_removed h = AllPairs-cons (λ f g. f ≢ g) d.family _
      (all_left (λ (x : IndexSchema). x.family) stays stream (λ g. d.family ≢ g) d.locals d.globals
      (head_pairs (λ f g. f ≢ g) d.family _ h))
      (pairs_left (λ (x : IndexSchema). x.family) stays stream (λ f g. f ≢ g) d.locals d.globals
      (tail_pairs (λ f g. f ≢ g) d.family _ h))

  -- each is one of before
  pub own_removed : (f : ℕ) → Contains (families_of e) f → Contains (families_of d) f
  own_removed f at = All-contains (Contains (families_of d)) (families_of e) f
      (families_removed (Contains (families_of d)) (All-contains_itself (families_of d))) at

  module _ (made : IsMade d) where
    built_removed : IsBuilt e
    built_removed = record {
      locals = made.built.locals;
      one = omega (arith, fewer_left is_building stays d.globals, made.built.one);
      keys = filter_passes (λ (x : IndexSchema). is_built_to e x.built) stays d.globals
          (keys_alike d e alike_removed d.globals made.built.keys);
    }

    -- the description is as one is made
    pub made_removed : IsMade e
    made_removed = record {
      spelled = made.spelled;
      indexes_spelled = behind_passes (λ (x : IndexSchema). is_name x.name) stays
          d.locals d.globals made.indexes_spelled;
      indexes_differ = differ_left (λ (x : IndexSchema). x.name) stays d.locals d.globals
          made.indexes_differ;
      keys = made.keys;
      index_keys = behind_passes (λ (x : IndexSchema). is_pair x.hash x.range) stays
          d.locals d.globals made.index_keys;
      used = filter_pass (λ (a : KeyAttr). is_used u a.name) d.definitions;
      locals = made.locals;
      projections = behind_passes (λ (x : IndexSchema). names_few x.projection) stays
          d.locals d.globals made.projections;
      locals_few = made.locals_few;
      globals_few = omega (arith, length-filter stays d.globals, made.globals_few);
      built = built_removed;
      whole = record {
        stream = made.whole.stream;
        once = differ_left (λ (a : KeyAttr). a.name) (λ a. is_used u a.name) [] d.definitions
            made.whole.once;
        keys = key_kept (is_used u) d.definitions d.hash d.range
            (λ n h. or_left (is_key d.hash d.range n) _ h) made.whole.keys;
        index_keys = keys_kept (is_used u) d.definitions (indexes u)
            (λ n h. or_right (is_key d.hash d.range n) _ h)
            (behind_passes (λ (x : IndexSchema). keys_defined d.definitions x.hash x.range) stays
            d.locals d.globals made.whole.index_keys);
      };
    }
