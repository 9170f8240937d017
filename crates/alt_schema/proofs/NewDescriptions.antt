-- What the body of a CreateTable describes, where it isn't refused, is a new description.
use Rattle.std.proofs.Common.{◌≡◌, refl, sym, ap, subst, ◌∙◌, ℕ, suc, ◌+◌, ◌≤◌, Bool, true, false, not, cond, ◌&&◌, ◌||◌, nat_le, if◌then◌else◌, List, [], ◌∷◌, ◌++◌, map, length, Option, Some, None, option_map, is_some, arith, length-append}
use Rattle.std.specs.List.{list_any, list_all, find}
use Rattle.std.specs.Option.{option_map_or}
use Rattle.std.specs.Str.{bytes_eq}
use Rattle.std.proofs.lemmas.List.Folds.{list_all-append}
use Rattle.std.proofs.lemmas.Bool.{leb-true, and_from}
use Rattle.std.specs.Cmp.{first_so, second_so}
use Rattle.alt_shape.specs.Refusals.{bad_name, bad_key_schema, bad_index, IsKnown}
use Rattle.alt_shape.specs.declared.refusal.Refusal.{Refusal}
use Rattle.alt_value.specs.declared.kind.KeyKind.{KeyKind}
use Rattle.alt_value.specs.declared.kind.KeyKind.TheVariants.{S, N, B}
use Rattle.alt_description.specs.Bare.{is_whole}
use Rattle.alt_schema.specs.Described.{key_attr, hash_of_key_schema, range_of_key_schema, indexes_from, described_by, same_kind, is_one_of, keys_defined, from_on, IsNew}
use Rattle.alt_schema.specs.Rules.{names_fit, keys_fit_together, indexes_fit, refused_for, is_key_schema, in_each_schema, is_used_in_any_schema, is_defined, all_differ, defines_exactly, stated_indexes, most_locals, most_globals, is_projection, is_local_to}
use Rattle.alt_description.specs.declared.schema.KeyAttr.{KeyAttr}
use Rattle.alt_description.specs.declared.schema.View.{View}
use Rattle.alt_schema.specs.declared.stated.Element.{Element}
use Rattle.alt_schema.specs.declared.stated.StatedIndex.{StatedIndex}
use Rattle.alt_schema.specs.declared.stated.Stated.{Stated}

-- ---- tests

-- nothing is refused where the three tests pass
all_three : (x y z : Bool)
    → (if not x then Some bad_name else
    (if not y then Some bad_key_schema else (if not z then Some bad_index else None))) ≡ None
    → (x ≡ true) × (y ≡ true) × (z ≡ true)
all_three true true true h = (refl, refl, refl)
all_three true true false h = cc
all_three true false z h = cc
all_three false y z h = cc

-- what isn't refused has good names
pub names_hold : (b : Stated) → refused_for b ≡ None → names_fit b ≡ true
unfolding refused_for
names_hold b h = (all_three (names_fit b) (keys_fit_together b) (indexes_fit b) h).0

-- what isn't refused has good keys
pub keys_hold : (b : Stated) → refused_for b ≡ None → keys_fit_together b ≡ true
unfolding refused_for
keys_hold b h = (all_three (names_fit b) (keys_fit_together b) (indexes_fit b) h).1

-- what isn't refused has good indexes
pub indexes_hold : (b : Stated) → refused_for b ≡ None → indexes_fit b ≡ true
unfolding refused_for
indexes_hold b h = (all_three (names_fit b) (keys_fit_together b) (indexes_fit b) h).2

-- what is given is one refusal
some_same : (a b : Refusal) → Some a ≡ Some b → a ≡ b
some_same a b e = cc

-- each of the three has a message
known_by : (x y z : Bool) (r : Refusal)
    → (if not x then Some bad_name
    else (if not y then Some bad_key_schema else (if not z then Some bad_index else None)))
    ≡ Some r
    → IsKnown r
known_by false y z r e = subst IsKnown (some_same bad_name r e) (omega arith)
known_by true false z r e = subst IsKnown (some_same bad_key_schema r e) (omega arith)
known_by true true false r e = subst IsKnown (some_same bad_index r e) (omega arith)
known_by true true true r e = absurd (let f : ⊥ = cc in f)

-- each refusal for names, keys or indexes has a message
pub known : (b : Stated) (r : Refusal) → refused_for b ≡ Some r → IsKnown r
unfolding refused_for
known b r e = known_by (names_fit b) (keys_fit_together b) (indexes_fit b) r e

-- ---- kinds

same_kind-same : (k : KeyKind) → same_kind k k ≡ true
same_kind-same S = refl
same_kind-same N = refl
same_kind-same B = refl

-- a name that is defined has its kind
pub kind_found : (ds : List KeyAttr) (name : List ℕ) → is_defined ds name ≡ true
    → is_one_of ds (key_attr ds name) ≡ true
kind_found [] name h = cc
kind_found (d ∷ ds) name h =
    let kind : Bool → KeyKind = λ b. option_map_or (λ e. e.kind)
    (cond b (Some d) (find (λ e. bytes_eq e.name name) ds)) S in
    (elim (bytes_eq d.name name) as (λ b. (b || is_defined ds name) ≡ true
    → ((b && same_kind d.kind (kind b))
    || list_any (λ e. bytes_eq e.name name && same_kind e.kind (kind b)) ds) ≡ true) [
      | true ↦ λ g. rw (same_kind-same d.kind) refl
      | false ↦ λ g. kind_found ds name g
    ]) h

-- the keys of a good key schema are defined ones
pub keys_found : (ds : List KeyAttr) (keys : List Element) → is_key_schema keys ≡ true
    → list_all (λ e. is_defined ds e.name) keys ≡ true
    → keys_defined ds (hash_of_key_schema ds keys) (range_of_key_schema ds keys) ≡ true
keys_found ds [] s d = cc
keys_found ds (h ∷ []) s d = and_from _ true (kind_found ds h.name (first_so _ true d)) refl
keys_found ds (h ∷ r ∷ []) s d =
    and_from _ _ (kind_found ds h.name (first_so (is_defined ds h.name) _ d))
    (kind_found ds r.name
    (first_so (is_defined ds r.name) true (second_so (is_defined ds h.name) _ d)))
keys_found ds (h ∷ r ∷ e ∷ es) s d = cc

-- those of the indexes too
index_keys_found : (ds : List KeyAttr) (family : ℕ) (is : List StatedIndex)
    → list_all (λ i. is_key_schema i.keys) is ≡ true
    → list_all (λ i. list_all (λ e. is_defined ds e.name) i.keys) is ≡ true
    → list_all (λ i. keys_defined ds i.hash i.range) (indexes_from ds family is) ≡ true
index_keys_found ds family [] s d = refl
index_keys_found ds family (i ∷ is) s d =
    and_from _ _ (keys_found ds i.keys (first_so (is_key_schema i.keys) _ s)
    (first_so (list_all (λ e. is_defined ds e.name) i.keys) _ d))
    (index_keys_found ds (suc family) is (second_so (is_key_schema i.keys) _ s)
    (second_so (list_all (λ e. is_defined ds e.name) i.keys) _ d))

-- ---- names of indexes

-- the names of indexes are those stated
names_kept : (ds : List KeyAttr) (g : ℕ) (is : List StatedIndex) (x : List ℕ)
    → list_any (λ y. bytes_eq y.name x) (indexes_from ds g is)
    ≡ list_any (λ y. bytes_eq y.name x) is
names_kept ds g [] x = refl
names_kept ds g (i ∷ is) x = ap (λ b. bytes_eq i.name x || b) (names_kept ds (suc g) is x)

-- those of both lists
both_kept : (ds : List KeyAttr) (f g : ℕ) (ls gs : List StatedIndex) (x : List ℕ)
    → list_any (λ y. bytes_eq y.name x) (indexes_from ds f ls ++ indexes_from ds g gs)
    ≡ list_any (λ y. bytes_eq y.name x) (ls ++ gs)
both_kept ds f g [] gs x = names_kept ds g gs x
both_kept ds f g (l ∷ ls) gs x = ap (λ b. bytes_eq l.name x || b) (both_kept ds (suc f) g ls gs x)

-- so they differ where those stated do
differ_kept : (ds : List KeyAttr) (g : ℕ) (is : List StatedIndex)
    → all_differ (λ i. i.name) (indexes_from ds g is) ≡ all_differ (λ i. i.name) is
differ_kept ds g [] = refl
differ_kept ds g (i ∷ is) = λ j. not (names_kept ds (suc g) is i.name j)
    && differ_kept ds (suc g) is j

-- those of both lists too
both_differ : (ds : List KeyAttr) (f g : ℕ) (ls gs : List StatedIndex)
    → all_differ (λ i. i.name) (indexes_from ds f ls ++ indexes_from ds g gs)
    ≡ all_differ (λ i. i.name) (ls ++ gs)
both_differ ds f g [] gs = differ_kept ds g gs
both_differ ds f g (l ∷ ls) gs = λ j. not (both_kept ds (suc f) g ls gs l.name j)
    && both_differ ds (suc f) g ls gs j

-- ---- families and counts

length-indexes_from : (ds : List KeyAttr) (f : ℕ) (is : List StatedIndex)
    → length (indexes_from ds f is) ≡ length is
length-indexes_from ds f [] = refl
length-indexes_from ds f (i ∷ is) = ap suc (length-indexes_from ds (suc f) is)

-- families rise by one
families_rise : (ds : List KeyAttr) (f : ℕ) (is : List StatedIndex)
    → map (λ i. i.family) (indexes_from ds f is) ≡ from_on f (indexes_from ds f is)
families_rise ds f [] = refl
families_rise ds f (i ∷ is) = ap (λ ns. f ∷ ns) (families_rise ds (suc f) is)

-- and go on from the first list to the second
families_go_on : (ds : List KeyAttr) (f g : ℕ) (ls gs : List StatedIndex) → g ≡ f + length ls
    → map (λ i. i.family) (indexes_from ds f ls ++ indexes_from ds g gs)
    ≡ from_on f (indexes_from ds f ls ++ indexes_from ds g gs)
families_go_on ds f g [] gs e =
    let same : g ≡ f = omega arith in
    families_rise ds g gs ∙ ap (λ n. from_on n (indexes_from ds g gs)) same
families_go_on ds f g (l ∷ ls) gs e =
    ap (λ ns. f ∷ ns) (families_go_on ds (suc f) g ls gs (omega arith))

length-both : (ds : List KeyAttr) (f g : ℕ) (ls gs : List StatedIndex)
    → length (indexes_from ds f ls ++ indexes_from ds g gs) ≡ length ls + length gs
length-both ds f g ls gs =
    length-append (indexes_from ds f ls) (indexes_from ds g gs)
    ∙ (λ j. length-indexes_from ds f ls j + length-indexes_from ds g gs j)

-- the family of the stream is the last
stream_last : (v : Option View) (f a b n : ℕ) → n ≡ a + b
    → option_map (λ (w : View). f + 1 + a + b) v ≡ option_map (λ (w : View). f + 1 + n) v
stream_last None f a b n e = refl
stream_last (Some w) f a b n e = ap Some (omega arith)

-- it is there where the stream is
same_there : (v : Option View) (n : ℕ) → is_some (option_map (λ (w : View). n) v) ≡ is_some v
same_there None n = refl
same_there (Some w) n = refl

-- each is whole
whole_from : (ds : List KeyAttr) (f : ℕ) (is : List StatedIndex)
    → list_all (λ i. is_whole i.built) (indexes_from ds f is) ≡ true
whole_from ds f [] = refl
whole_from ds f (i ∷ is) = whole_from ds (suc f) is

-- ---- the whole

module _ (b : Stated) (taken : refused_for b ≡ None) where
  together : keys_fit_together b ≡ true
  together = keys_hold b taken

  schemas : in_each_schema is_key_schema b ≡ true
  schemas = first_so (in_each_schema is_key_schema b) (defines_exactly b) together

  exactly : defines_exactly b ≡ true
  exactly = second_so (in_each_schema is_key_schema b) (defines_exactly b) together

  used : (list_all (λ d. is_used_in_any_schema b d.name) b.definitions
      && in_each_schema (list_all (λ e. is_defined b.definitions e.name)) b) ≡ true
  used = second_so (all_differ (λ d. d.name) b.definitions) _ exactly

  defined : in_each_schema (list_all (λ e. is_defined b.definitions e.name)) b ≡ true
  defined = second_so (list_all (λ d. is_used_in_any_schema b d.name) b.definitions) _ used

  fit : indexes_fit b ≡ true
  fit = indexes_hold b taken

  -- what follows the two counts
  fit' : (nat_le (length b.globals) most_globals
      && (all_differ (λ i. i.name) (stated_indexes b)
      && (list_all (λ i. is_local_to b.keys i.keys) b.locals
      && list_all (λ i. is_projection i.projects i.includes) (stated_indexes b)))) ≡ true
  fit' = second_so (nat_le (length b.locals) most_locals) _ fit

  -- there are at most 5 local indexes
  pub few_locals : length b.locals ≤ 5
  few_locals = leb-true _ _ (first_so (nat_le (length b.locals) most_locals) _ fit)

  -- and at most 20 global ones
  pub few_globals : length b.globals ≤ 20
  few_globals = leb-true _ _ (first_so (nat_le (length b.globals) most_globals) _ fit')

  -- no two indexes have one name
  names : all_differ (λ i. i.name) (stated_indexes b) ≡ true
  names = first_so (all_differ (λ i. i.name) (stated_indexes b)) _
      (second_so (nat_le (length b.globals) most_globals) _ fit')

  -- a test of each index's key schema, of the two lists apart
  of_both : (test : List Element → Bool) → in_each_schema test b ≡ true
      → (list_all (λ i. test i.keys) b.locals && list_all (λ i. test i.keys) b.globals) ≡ true
  of_both test h =
      sym (list_all-append (λ i. test i.keys) b.locals b.globals)
      ∙ second_so (test b.keys) (list_all (λ i. test i.keys) (stated_indexes b)) h

  -- what such a body describes is a description as it is made
  pub new_description : (moment number family : ℕ) → IsNew (described_by b moment number family)
  unfolding described_by
  new_description moment number family = record {
    description = record {
      stream = same_there b.view (family + 1 + length b.locals + length b.globals);
      once = first_so (all_differ (λ d. d.name) b.definitions) _ exactly;
      keys =
          keys_found b.definitions b.keys (first_so (is_key_schema b.keys) _ schemas)
          (first_so (list_all (λ e. is_defined b.definitions e.name) b.keys) _ defined);
      index_keys =
          list_all-append (λ i. keys_defined b.definitions i.hash i.range)
          (indexes_from b.definitions (family + 1) b.locals)
          (indexes_from b.definitions (family + 1 + length b.locals) b.globals)
          ∙ and_from _ _ (index_keys_found b.definitions (family + 1) b.locals
          (first_so _ _ (of_both is_key_schema schemas))
          (first_so _ _ (of_both (list_all (λ e. is_defined b.definitions e.name)) defined)))
          (index_keys_found b.definitions (family + 1 + length b.locals) b.globals
          (second_so _ _ (of_both is_key_schema schemas))
          (second_so _ _ (of_both (list_all (λ e. is_defined b.definitions e.name)) defined)));
    };
    locals = omega (arith, few_locals, length-indexes_from b.definitions (family + 1) b.locals);
    globals = omega (
      arith,
      few_globals,
      length-indexes_from b.definitions
          (family + 1 + length b.locals) b.globals,
    );
    names = both_differ b.definitions (family + 1) (family + 1 + length b.locals) b.locals b.globals
        ∙ names;
    families = families_go_on b.definitions (family + 1)
        (family + 1 + length b.locals) b.locals b.globals refl;
    stream_family =
        stream_last b.view family (length b.locals) (length b.globals) _
        (length-both b.definitions (family + 1) (family + 1 + length b.locals) b.locals b.globals);
    whole =
        list_all-append (λ i. is_whole i.built) (indexes_from b.definitions (family + 1) b.locals)
        (indexes_from b.definitions (family + 1 + length b.locals) b.globals)
        ∙ and_from _ _ (whole_from b.definitions (family + 1) b.locals)
        (whole_from b.definitions (family + 1 + length b.locals) b.globals);
    no_time = refl;
  }
