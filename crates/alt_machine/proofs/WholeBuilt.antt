-- A table whose indexes are all whole is built as one has to be.
use Rattle.std.proofs.Common.{◌≡◌, refl, sym, ◌∙◌, ◌≤◌, Bool, true, false, cond, not, ◌&&◌, List, [], ◌∷◌, length, arith}
use Rattle.std.specs.List.{filter, list_all}
use Rattle.std.proofs.lemmas.List.Folds.{list_all-append}
use Rattle.std.proofs.lemmas.Bool.{and_from}
use Rattle.std.specs.Cmp.{first_so, second_so}
use Rattle.alt_schema.specs.Bare.{is_whole}
use Rattle.alt_schema.specs.Indexes.{indexes}
use Rattle.alt_schema.specs.declared.schema.Built.{Built}
use Rattle.alt_schema.specs.declared.schema.Built.TheVariants.{Whole, UpTo}
use Rattle.alt_schema.specs.declared.schema.IndexSchema.{IndexSchema}
use Rattle.alt_schema.specs.declared.schema.TableSchema.{TableSchema}
use Rattle.alt_machine.specs.Building.{IsBuilt, is_building, is_built_to}

-- none of those that are whole is being built
none_building : (is : List IndexSchema) → list_all (λ i. is_whole i.built) is ≡ true
    → length (filter is_building is) ≤ 1
none_building [] h = omega arith
none_building (i ∷ is) h =
    subst_whole (is_whole i.built) (first_so (is_whole i.built) _ h)
    (none_building is (second_so (is_whole i.built) _ h))
  where
    subst_whole : (b : Bool) → b ≡ true → length (filter is_building is) ≤ 1
        → length (cond (not b) (i ∷ filter is_building is) (filter is_building is)) ≤ 1
    subst_whole true e rest = rest
    subst_whole false e rest = absurd (let f : ⊥ = cc in f)

module _ (d : TableSchema) where
  -- each is built up to a key of the table, since it is built of every item
  all_built : (is : List IndexSchema) → list_all (λ i. is_whole i.built) is ≡ true
      → list_all (λ i. is_built_to d i.built) is ≡ true
  all_built [] h = refl
  all_built (i ∷ is) h = and_from (is_built_to d i.built) _
      (one i.built (first_so (is_whole i.built) _ h))
      (all_built is (second_so (is_whole i.built) _ h))
    where
      one : (b : Built) → is_whole b ≡ true → is_built_to d b ≡ true
      one Whole e = refl
      one (UpTo key) e = absurd (let f : ⊥ = cc in f)

  -- so the table is built as it has to be
  pub whole_built : list_all (λ i. is_whole i.built) (indexes d) ≡ true → IsBuilt d
  whole_built h =
      let both_whole : (list_all (λ (i : IndexSchema). is_whole i.built) d.locals
      && list_all (λ (i : IndexSchema). is_whole i.built) d.globals) ≡ true =
      sym (list_all-append (λ (i : IndexSchema). is_whole i.built) d.locals d.globals) ∙ h in
      let globals : list_all (λ (i : IndexSchema). is_whole i.built) d.globals ≡ true =
      second_so (list_all (λ (i : IndexSchema). is_whole i.built) d.locals) _ both_whole in
      record {
        locals = first_so (list_all (λ (i : IndexSchema). is_whole i.built) d.locals) _ both_whole;
        one = none_building d.globals globals;
        keys = all_built d.globals globals;
      }
