-- The description that the body of a CreateTable states is as a description has to be, where nothing refuses the body.
use Rattle.std.proofs.Common.{◌≡◌, refl, sym, ap, ◌∙◌, ℕ, suc, ◌+◌, Bool, true, false, not, nat_le, nat_lt, List, [], ◌∷◌, ◌++◌, length, Option, Some, None}
use Rattle.std.proofs.lemmas.Bool.{and_from}
use Rattle.std.proofs.Math.Bool.{or-false}
use Rattle.std.specs.Cmp.{first_so, second_so}
use Rattle.std.specs.Prelude.{◌&&◌, ◌||◌, codes, if◌then◌else◌}
use Rattle.std.specs.List.{list_all, list_any}
use Rattle.std.specs.Str.{bytes_eq}
use Rattle.serde_json.specs.Data.{Members}
use Rattle.alt_machine.specs.Valid.{is_pair, are_two, is_local, names_few, IsMade}
use Rattle.alt_schema.specs.Described.{description_of, described_by, hash_of_key_schema, range_of_key_schema, index_for, indexes_from, projection_for, IsNew}
use Rattle.alt_schema.specs.Indexes.{is_key, is_used}
use Rattle.alt_schema.specs.Rules as rules
use Rattle.alt_schema.specs.Rules.{is_name}
use Rattle.alt_schema.specs.Stated.{stated}
use Rattle.alt_schema.specs.declared.schema.IndexSchema.{IndexSchema}
use Rattle.alt_schema.specs.declared.schema.KeyAttr.{KeyAttr}
use Rattle.alt_schema.specs.declared.schema.Projection.TheVariants.{All, KeysOnly}
use Rattle.alt_schema.specs.declared.stated.Element.{Element}
use Rattle.alt_schema.specs.declared.stated.StatedIndex.{StatedIndex}
use Rattle.alt_machine.proofs.WholeBuilt.{whole_built}
use Rattle.alt_schema.proofs.NewDescriptions.{names_hold, keys_hold, indexes_hold, new_description}

-- what holds on both sides of a test holds of the one that is taken
if_either : {A : Type 0} (Q : A → Type 0) (b : Bool) (x y : A) → Q x → Q y → Q (if b then x else y)
if_either Q true x y p q = p
if_either Q false x y p q = q

-- what tests say of the stated indexes holds of those that are made
module _ (ds : List KeyAttr) (p : StatedIndex → Bool) (q : IndexSchema → Bool)
    (h : (f : ℕ) (i : StatedIndex) → p i ≡ true → q (index_for ds f i) ≡ true) where
  kept : (f : ℕ) (is : List StatedIndex) → list_all p is ≡ true
      → list_all q (indexes_from ds f is) ≡ true
  kept f [] e = refl
  kept f (i ∷ is) e = and_from (q (index_for ds f i)) _ (h f i (first_so (p i) _ e))
      (kept (suc f) is (second_so (p i) _ e))

  kept_both : (f g : ℕ) (ls gs : List StatedIndex) → list_all p (ls ++ gs) ≡ true
      → list_all q (indexes_from ds f ls ++ indexes_from ds g gs) ≡ true
  kept_both f g [] gs e = kept g gs e
  kept_both f g (l ∷ ls) gs e = and_from (q (index_for ds f l)) _ (h f l (first_so (p l) _ e))
      (kept_both (suc f) g ls gs (second_so (p l) _ e))

-- the key attributes of a good key schema are a pair: their names differ and have bytes
pub pair_kept : (ds : List KeyAttr) (keys : List Element) → rules.is_key_schema keys ≡ true
    → is_pair (hash_of_key_schema ds keys) (range_of_key_schema ds keys) ≡ true
pair_kept ds [] e = cc
pair_kept ds (h ∷ []) e = and_from (nat_lt 0 (length h.name)) true
    (second_so (bytes_eq h.role (codes "HASH")) _ e) refl
pair_kept ds (h ∷ r ∷ []) e =
    let second : (rules.plays (codes "RANGE") r && not (bytes_eq h.name r.name)) ≡ true =
    second_so (rules.plays (codes "HASH") h) _ e in
    and_from (nat_lt 0 (length h.name)) _ (second_so (bytes_eq h.role (codes "HASH")) _
    (first_so (rules.plays (codes "HASH") h) _ e))
    (and_from (nat_lt 0 (length r.name)) _ (second_so (bytes_eq r.role (codes "RANGE")) _
    (first_so (rules.plays (codes "RANGE") r) _ second))
    (second_so (rules.plays (codes "RANGE") r) _ second))
pair_kept ds (h ∷ r ∷ x ∷ xs) e = cc

-- a local index with good keys has the HASH key of its table and another RANGE key
local_kept : (ds : List KeyAttr) (table index : List Element) → rules.is_local_to table index ≡ true
    → (bytes_eq (hash_of_key_schema ds index).name (hash_of_key_schema ds table).name && are_two (range_of_key_schema ds table)
    (range_of_key_schema ds index)) ≡ true
local_kept ds [] index e = cc
local_kept ds (h ∷ []) index e = cc
local_kept ds (h ∷ r ∷ []) [] e = cc
local_kept ds (h ∷ r ∷ []) (i ∷ []) e = cc
local_kept ds (h ∷ r ∷ []) (i ∷ j ∷ []) e = e
local_kept ds (h ∷ r ∷ []) (i ∷ j ∷ x ∷ xs) e = cc
local_kept ds (h ∷ r ∷ y ∷ ys) index e = cc

-- an attribute is used in a key schema where it is one of the key
pub used_kept : (ds : List KeyAttr) (keys : List Element) (name : List ℕ)
    → rules.is_key_schema keys ≡ true
    → rules.is_used_in name keys ≡ is_key (hash_of_key_schema ds keys) (range_of_key_schema ds keys) name
used_kept ds [] name e = cc
used_kept ds (h ∷ []) name e = refl
used_kept ds (h ∷ r ∷ []) name e = ap (λ b. bytes_eq h.name name || b)
    (or-false (bytes_eq r.name name))
used_kept ds (h ∷ r ∷ x ∷ xs) name e = cc

-- the key schemas of stated indexes use a name exactly where the keys of the indexes that are made of them have it
used_by : (ds : List KeyAttr) (f : ℕ) (is : List StatedIndex) (name : List ℕ)
    → list_all (λ i. rules.is_key_schema i.keys) is ≡ true
    → list_any (λ i. rules.is_used_in name i.keys) is
    ≡ list_any (λ i. is_key i.hash i.range name) (indexes_from ds f is)
used_by ds f [] name e = refl
used_by ds f (i ∷ is) name e =
    λ j. used_kept ds i.keys name (first_so (rules.is_key_schema i.keys) _ e) j || used_by ds
    (suc f) is name (second_so (rules.is_key_schema i.keys) _ e) j

-- and those of local and of global indexes together
used_by_both : (ds : List KeyAttr) (f g : ℕ) (ls gs : List StatedIndex) (name : List ℕ)
    → list_all (λ i. rules.is_key_schema i.keys) (ls ++ gs) ≡ true
    → list_any (λ i. rules.is_used_in name i.keys) (ls ++ gs)
    ≡ list_any (λ i. is_key i.hash i.range name) (indexes_from ds f ls ++ indexes_from ds g gs)
used_by_both ds f g [] gs name e = used_by ds g gs name e
used_by_both ds f g (l ∷ ls) gs name e =
    λ j. used_kept ds l.keys name (first_so (rules.is_key_schema l.keys) _ e) j || used_by_both ds
    (suc f) g ls gs name (second_so (rules.is_key_schema l.keys) _ e) j

-- a test that is the same of each name
pub tests_alike : (p q : List ℕ → Bool) (ds : List KeyAttr) → ((name : List ℕ) → p name ≡ q name)
    → list_all (λ a. p a.name) ds ≡ list_all (λ a. q a.name) ds
tests_alike p q [] h = refl
tests_alike p q (d ∷ ds) h = λ j. h d.name j && tests_alike p q ds h j

-- a good projection that names attributes names 1 to 20, each with bytes
pub projection_kept : (word : List ℕ) (names : Option (List (List ℕ)))
    → rules.is_projection word names ≡ true → names_few (projection_for word names) ≡ true
projection_kept word None e = if_either (λ p. names_few p ≡ true)
    (bytes_eq word (codes "ALL")) All KeysOnly refl refl
projection_kept word (Some names) e = second_so (bytes_eq word (codes "INCLUDE")) _ e

module _ (ms : Members) (moment number family : ℕ) where
  -- the description has the number that it is made with
  pub made_number : (description_of ms moment number family).number ≡ number
  unfolding description_of described_by
  made_number = refl

  -- the description has the family that it is made with
  pub made_family : (description_of ms moment number family).family ≡ family
  unfolding description_of described_by
  made_family = refl

  module _ (taken : rules.create_table_refusal ms ≡ None) where
    names : rules.names_fit (stated ms) ≡ true
    unfolding rules.create_table_refusal
    names = names_hold (stated ms) taken

    schemas : rules.in_each_schema rules.is_key_schema (stated ms) ≡ true
    unfolding rules.create_table_refusal
    schemas = first_so (rules.in_each_schema rules.is_key_schema (stated ms)) _
        (keys_hold (stated ms) taken)

    -- the tests of local indexes and of projections, behind those of counts and of names
    index_tests : (list_all (λ i. rules.is_local_to (stated ms).keys i.keys) (stated ms).locals
        && list_all (λ i. rules.is_projection i.projects i.includes)
        (rules.stated_indexes (stated ms))) ≡ true
    unfolding rules.create_table_refusal
    index_tests =
        second_so (rules.all_differ (λ i. i.name) (rules.stated_indexes (stated ms))) _
        (second_so (nat_le (length (stated ms).globals) rules.most_globals) _
        (second_so (nat_le (length (stated ms).locals) rules.most_locals) _
        (indexes_hold (stated ms) taken)))

    -- each attribute that is defined is used
    all_used : list_all (λ a. rules.is_used_in_any_schema (stated ms) a.name) (stated ms).definitions ≡ true
    unfolding rules.create_table_refusal
    all_used =
        first_so (list_all (λ a. rules.is_used_in_any_schema (stated ms) a.name) (stated ms).definitions) _
        (second_so (rules.all_differ (λ a. a.name) (stated ms).definitions) _
        (second_so (rules.in_each_schema rules.is_key_schema (stated ms)) _
        (keys_hold (stated ms) taken)))

    -- as alt_schema has it
    pub made_new : IsNew (description_of ms moment number family)
    unfolding description_of rules.create_table_refusal
    made_new = new_description (stated ms) taken moment number family

    -- it is as the description of a table in a state has to be
    pub made_is : IsMade (description_of ms moment number family)
    unfolding description_of described_by rules.create_table_refusal
    made_is =
        let ds : List KeyAttr = (stated ms).definitions in
        let ls : List StatedIndex = (stated ms).locals in
        let gs : List StatedIndex = (stated ms).globals in
        record {
          spelled = first_so (is_name (stated ms).name) _ names;
          indexes_spelled = kept_both ds (λ i. is_name i.name) (λ i. is_name i.name)
              (λ f i e. e) _ _ ls gs (second_so (is_name (stated ms).name) _ names);
          keys = pair_kept ds (stated ms).keys
              (first_so (rules.is_key_schema (stated ms).keys) _ schemas);
          index_keys =
              kept_both ds (λ i. rules.is_key_schema i.keys) (λ i. is_pair i.hash i.range)
              (λ f i e. pair_kept ds i.keys e) _ _ ls gs
              (second_so (rules.is_key_schema (stated ms).keys) _ schemas);
          used =
              sym (tests_alike (rules.is_used_in_any_schema (stated ms))
              (is_used (described_by (stated ms) moment number family)) ds (λ name j.
              used_kept ds (stated ms).keys name
              (first_so (rules.is_key_schema (stated ms).keys) _ schemas) j
              || used_by_both ds (family + 1) (family + 1 + length ls) ls gs name
              (second_so (rules.is_key_schema (stated ms).keys) _ schemas) j))
              ∙ all_used;
          locals =
              kept ds (λ i. rules.is_local_to (stated ms).keys i.keys)
              (is_local (hash_of_key_schema ds (stated ms).keys) (range_of_key_schema ds (stated ms).keys))
              (λ f i e. local_kept ds (stated ms).keys i.keys e) _ ls
              (first_so (list_all (λ i. rules.is_local_to (stated ms).keys i.keys) ls) _
              index_tests);
          projections =
              kept_both ds (λ i. rules.is_projection i.projects i.includes)
              (λ i. names_few i.projection)
              (λ f i e. projection_kept i.projects i.includes e) _ _ ls gs
              (second_so (list_all (λ i. rules.is_local_to (stated ms).keys i.keys) ls) _
              index_tests);
          indexes_differ = made_new.names;
          locals_few = made_new.locals;
          globals_few = made_new.globals;
          built = whole_built (description_of ms moment number family) made_new.whole;
          whole = made_new.description;
        }
