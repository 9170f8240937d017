-- The tests of a description that is read, beside those of its bytes: it is as it is made (`IsMade` of the machine).
use Rattle.std.specs.Prelude.{Bool, ◌&&◌, nat_le, length}
use Rattle.std.specs.List.{list_all}
use Rattle.alt_machine.specs.Valid.{is_pair, is_local, names_few}
use Rattle.alt_schema.specs.Indexes.{indexes, is_used}
use Rattle.alt_schema.specs.Rules.{is_name, all_differ, most_locals, most_globals}
use Rattle.alt_schema.specs.declared.schema.IndexSchema.{IndexSchema}
use Rattle.alt_schema.specs.declared.schema.TableSchema.{TableSchema}

-- each index of both lists passes a test
abbrev pub all_indexes : (IndexSchema → Bool) → TableSchema → Bool
all_indexes p d = list_all p d.locals && list_all p d.globals

-- at most 5 local and 20 global indexes
abbrev pub are_few_indexes : TableSchema → Bool
are_few_indexes d = nat_le (length d.locals) most_locals && nat_le (length d.globals) most_globals

-- names are as they have to be, and those of indexes differ
abbrev pub are_named : TableSchema → Bool
are_named d = is_name d.name && (all_indexes (λ i. is_name i.name) d
    && all_differ (λ i. i.name) (indexes d))

-- so are keys, and exactly the key attributes are defined
abbrev pub are_keyed : TableSchema → Bool
are_keyed d = is_pair d.hash d.range && (all_indexes (λ i. is_pair i.hash i.range) d
    && list_all (λ a. is_used d a.name) d.definitions)

-- so are the keys of local indexes, and projections
abbrev pub are_shaped : TableSchema → Bool
are_shaped d = list_all (is_local d.hash d.range) d.locals
    && all_indexes (λ i. names_few i.projection) d

-- all of it
abbrev pub is_as_made : TableSchema → Bool
is_as_made d = are_few_indexes d && (are_named d && (are_keyed d && are_shaped d))
