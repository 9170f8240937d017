-- A description is as it is made exactly where the tests say so.
use Rattle.std.proofs.Common.{◌≡◌, sym, ◌∙◌, Bool, true, nat_le, length}
use Rattle.std.proofs.lemmas.Bool.{leb-true, le-leb, and_from}
use Rattle.std.proofs.lemmas.List.Folds.{list_all-append}
use Rattle.std.specs.Cmp.{first_so, second_so}
use Rattle.std.specs.List.{list_all}
use Rattle.std.specs.Prelude.{◌&&◌}
use Rattle.alt_machine.specs.Building.{IsBuilt}
use Rattle.alt_machine.specs.Valid.{IsMade, is_local, is_pair, names_few}
use Rattle.alt_schema.specs.Described.{IsDescription}
use Rattle.alt_schema.specs.Indexes.{indexes, is_used}
use Rattle.alt_schema.specs.Rules.{all_differ, is_name, most_locals, most_globals}
use Rattle.alt_schema.specs.declared.schema.IndexSchema.{IndexSchema}
use Rattle.alt_schema.specs.declared.schema.TableSchema.{TableSchema}
use Rattle.alt_tablerows.specs.private.Made.{all_indexes, are_few_indexes, are_keyed, are_named, are_shaped, is_as_made}

-- a test of all indexes is one of both lists
lists : (p : IndexSchema → Bool) (d : TableSchema) → list_all p (indexes d) ≡ all_indexes p d
lists p d = list_all-append p d.locals d.globals

module _ (d : TableSchema) where
  abbrev spelled : IndexSchema → Bool
  spelled i = is_name i.name

  abbrev paired : IndexSchema → Bool
  paired i = is_pair i.hash i.range

  abbrev named : IndexSchema → Bool
  named i = names_few i.projection

  -- a description that passes the test is as it is made
  pub as_made : is_as_made d ≡ true → IsDescription d
      → IsBuilt d → IsMade d
  as_made e whole built =
      let few : are_few_indexes d ≡ true = first_so (are_few_indexes d) _ e in
      let rest : (are_named d && (are_keyed d && are_shaped d)) ≡ true =
      second_so (are_few_indexes d) _ e in
      let names : are_named d ≡ true = first_so (are_named d) _ rest in
      let more : (are_keyed d && are_shaped d) ≡ true = second_so (are_named d) _ rest in
      let keys : are_keyed d ≡ true = first_so (are_keyed d) _ more in
      let shapes : are_shaped d ≡ true = second_so (are_keyed d) _ more in
      let behind : (all_indexes spelled d && all_differ (λ i. i.name) (indexes d)) ≡ true =
      second_so (is_name d.name) _ names in
      let also : (all_indexes paired d && list_all (λ a. is_used d a.name) d.definitions) ≡ true =
      second_so (is_pair d.hash d.range) _ keys in
      record {
        locals_few = leb-true (length d.locals) most_locals
            (first_so (nat_le (length d.locals) most_locals) _ few);
        globals_few = leb-true (length d.globals) most_globals
            (second_so (nat_le (length d.locals) most_locals) _ few);
        spelled = first_so (is_name d.name) _ names;
        indexes_spelled = lists spelled d ∙ first_so (all_indexes spelled d) _ behind;
        indexes_differ = second_so (all_indexes spelled d) _ behind;
        keys = first_so (is_pair d.hash d.range) _ keys;
        index_keys = lists paired d ∙ first_so (all_indexes paired d) _ also;
        used = second_so (all_indexes paired d) _ also;
        locals = first_so (list_all (is_local d.hash d.range) d.locals) _ shapes;
        projections =
            lists named d ∙ second_so (list_all (is_local d.hash d.range) d.locals) _ shapes;
        built = built;
        whole = whole;
      }

  -- and one that is as it is made passes
  pub made_as : IsMade d → is_as_made d ≡ true
  made_as m = and_from _ _ (and_from _ _ (le-leb (length d.locals) most_locals m.locals_few)
      (le-leb (length d.globals) most_globals m.globals_few))
      (and_from _ _
      (and_from _ _ m.spelled (and_from _ _ (sym (lists spelled d) ∙ m.indexes_spelled)
      m.indexes_differ))
      (and_from _ _
      (and_from _ _ m.keys (and_from _ _ (sym (lists paired d) ∙ m.index_keys) m.used))
      (and_from _ _ m.locals (sym (lists named d) ∙ m.projections))))
