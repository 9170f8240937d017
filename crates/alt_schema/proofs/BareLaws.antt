-- What stands beside the bytes of a description changes nothing of what they tell.
use Rattle.std.proofs.Common.{◌≡◌, refl, sym, ap, ◌∙◌, suc, Bool, true, ◌&&◌, List, [], ◌∷◌, ◌++◌, map, length, ℕ, Option, None}
use Rattle.std.specs.List.{list_all, AllByRecursion}
use Rattle.std.proofs.lemmas.List.Folds.{list_all-append}
use Rattle.std.specs.Cmp.{first_so, second_so}
use Rattle.alt_description.specs.Bare.{as_whole, bare, is_whole}
use Rattle.alt_schema.specs.Described.{IsDescription, keys_defined}
use Rattle.alt_description.specs.Indexes.{indexes}
use Rattle.alt_description.specs.declared.schema.Built.{Built}
use Rattle.alt_description.specs.declared.schema.Built.TheVariants.{Whole, UpTo}
use Rattle.alt_description.specs.declared.schema.IndexSchema.{IndexSchema}
use Rattle.alt_description.specs.declared.schema.TableSchema.{TableSchema}

-- ---- one index, and several

-- what is whole is Whole
pub whole_is : (b : Built) → is_whole b ≡ true → b ≡ Whole
whole_is Whole h = refl
whole_is (UpTo key) h = absurd (let f : ⊥ = cc in f)

-- an index that is whole stays as it is
pub as_whole-same : (i : IndexSchema) → i.built ≡ Whole → as_whole i ≡ i
as_whole-same i h = λ j. record i { built = sym h j }

-- so do several
pub map-as_whole : (is : List IndexSchema) → AllByRecursion (λ i. i.built ≡ Whole) is
    → map as_whole is ≡ is
map-as_whole [] h = refl
map-as_whole (i ∷ is) h = λ j. as_whole-same i h.0 j ∷ map-as_whole is h.1 j

-- those that are whole, as a test tells it
pub all_whole : (is : List IndexSchema) → list_all (λ i. is_whole i.built) is ≡ true
    → AllByRecursion (λ i. i.built ≡ Whole) is
all_whole [] h = tt
all_whole (i ∷ is) h = (
  whole_is i.built (first_so (is_whole i.built) _ h),
  all_whole is (second_so (is_whole i.built) _ h),
)

-- as if they were whole, they are
pub map_whole : (is : List IndexSchema) → AllByRecursion (λ i. i.built ≡ Whole) (map as_whole is)
map_whole [] = tt
map_whole (i ∷ is) = (refl, map_whole is)

-- so a test tells
all_as_whole : (is : List IndexSchema) → list_all (λ i. is_whole i.built) (map as_whole is) ≡ true
all_as_whole [] = refl
all_as_whole (i ∷ is) = all_as_whole is

-- how many there are
pub length-as_whole : (is : List IndexSchema) → length (map as_whole is) ≡ length is
length-as_whole [] = refl
length-as_whole (i ∷ is) = ap suc (length-as_whole is)

-- a test that doesn't look at how far an index is built
pub tests-as_whole : (test : IndexSchema → Bool) → ((i : IndexSchema) → test (as_whole i) ≡ test i)
    → (ls gs : List IndexSchema) → list_all test (map as_whole ls ++ map as_whole gs)
    ≡ list_all test (ls ++ gs)
tests-as_whole test same [] [] = refl
tests-as_whole test same [] (g ∷ gs) = λ j. same g j && tests-as_whole test same [] gs j
tests-as_whole test same (l ∷ ls) gs = λ j. same l j && tests-as_whole test same ls gs j

-- ---- the whole

module _ (d : TableSchema) where
  -- what they tell of a description is one
  pub bare_described : IsDescription d → IsDescription (bare d)
  bare_described is = record {
    stream = is.stream;
    once = is.once;
    keys = is.keys;
    index_keys = tests-as_whole (λ i. keys_defined d.definitions i.hash i.range) (λ i. refl)
        d.locals d.globals ∙ is.index_keys;
  }

  -- it has whole indexes
  pub bare_whole : list_all (λ i. is_whole i.built) (indexes (bare d)) ≡ true
  bare_whole = list_all-append (λ i. is_whole i.built) (map as_whole d.locals)
      (map as_whole d.globals) ∙ (λ j. all_as_whole d.locals j && all_as_whole d.globals j)

  -- with another time to live a description is one
  pub timed_described : (time : Option (List ℕ)) → IsDescription d
      → IsDescription (record d { ttl = time })
  timed_described time is = record {
    stream = is.stream;
    once = is.once;
    keys = is.keys;
    index_keys = is.index_keys;
  }

  -- what is as its bytes tell is what they tell
  pub bare-same : AllByRecursion (λ i. i.built ≡ Whole) d.locals
      → AllByRecursion (λ i. i.built ≡ Whole) d.globals → d.ttl ≡ None → bare d ≡ d
  bare-same ls gs none = λ j. record d {
    locals = map-as_whole d.locals ls j;
    globals = map-as_whole d.globals gs j;
    ttl = sym none j;
  }

  -- where each index is whole, a description is what its bytes tell, and its time to live
  pub bare_beside : list_all (λ i. is_whole i.built) (indexes d) ≡ true
      → record (bare d) { ttl = d.ttl } ≡ d
  bare_beside h =
      let both : (list_all (λ i. is_whole i.built) d.locals
      && list_all (λ i. is_whole i.built) d.globals) ≡ true =
      sym (list_all-append (λ i. is_whole i.built) d.locals d.globals) ∙ h in
      λ j. record d {
        locals = map-as_whole d.locals (all_whole d.locals (first_so _ _ both)) j;
        globals = map-as_whole d.globals (all_whole d.globals (second_so
            (list_all (λ i. is_whole i.built) d.locals) _ both)) j;
      }
