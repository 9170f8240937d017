-- The next table is the first, or the first is behind it; behind the last there is none.
use Rattle.std.proofs.Common.{sym, ap, ◌∙◌, ℕ, List, Some}
use Rattle.std.specs.FinMap as map
use Rattle.alt_backfill.specs.private.Asked.{builds}
use Rattle.alt_backfill.proofs.Naming.{all_walked, first_of_those, found_there, is_behind, names_less, next_is, next_none, walk_end, walk_here, walk_next}
use Rattle.alt_backfill.proofs.building.first_building.Goals as goal
use Rattle.alt_request.specs.TablesStands.{catalog_of}

pub loop-schema-preserved : goal.loop-schema-preserved
loop-schema-preserved c = (
  c.as_str-last.utf8,
  ap (λ (k : List ℕ). first_of_those builds k (map.entries (catalog_of c.args.tables.now)))
      c.as_str-last.ensures.same
      ∙ sym (walk_next builds c.loop-schema.last.now (c.in-Some.schema.now.name, c.in-Some.schema.now)
      (map.entries (catalog_of c.args.tables.now))
      (map.entries_sorted (catalog_of c.args.tables.now))
      (next_is (catalog_of c.args.tables.now) c.loop-schema.last.now c.in-Some.schema.now
      c.in-Some.ensures.table c.in-Some.ensures.name)
      (sym c.is_building.ensures ∙ c.if-is_building.false))
      ∙ c.loop-schema.invariant.1,
)

pub loop-schema-smaller : goal.loop-schema-smaller
loop-schema-smaller c = names_less (catalog_of c.args.tables.now) c.loop-schema.last.now
    c.as_str-last.result.now
    (ap (λ (x : List ℕ). Some x) c.as_str-last.ensures.same ∙ c.in-Some.ensures.name)

pub returns-then-is_building : goal.returns-then-is_building
returns-then-is_building c =
    let found = next_is (catalog_of c.args.tables.now) c.loop-schema.last.now c.in-Some.schema.now
    c.in-Some.ensures.table c.in-Some.ensures.name in
    record {
      first = λ none.
          sym (walk_here builds c.loop-schema.last.now (c.in-Some.schema.now.name, c.in-Some.schema.now)
          (map.entries (catalog_of c.args.tables.now)) found
          (sym c.is_building.ensures ∙ c.if-is_building.true))
          ∙ c.loop-schema.invariant.1 ∙ all_walked (catalog_of c.args.tables.now) none;
      building = record {
        there = found_there (catalog_of c.args.tables.now) (is_behind c.loop-schema.last.now)
            c.in-Some.schema.now.name c.in-Some.schema.now found;
        builds = sym c.is_building.ensures ∙ c.if-is_building.true;
      };
    }

pub returns : goal.returns
returns c = record {
  first = λ none.
      sym (walk_end builds c.loop-schema.last.now (map.entries (catalog_of c.args.tables.now))
      (next_none (catalog_of c.args.tables.now) c.loop-schema.last.now c.in_default.ensures.table))
      ∙ c.loop-schema.invariant.1 ∙ all_walked (catalog_of c.args.tables.now) none;
  building = tt;
}
