-- One more table was looked through; at the end none is left.
use Rattle.std.proofs.Common.{◌≡◌, ◌++◌, ◌∷◌, [], true, sym, ap, subst, ◌∙◌, ℕ, List, take, length, arith}
use Rattle.std.specs.FinMap as map
use Rattle.std.specs.Vec.Iter.{into_iter_items}
use Rattle.alt_base.proofs.Lists.{length-zero}
use Rattle.alt_machine.specs.declared.TheConstants.{MOST_EXPIRED, MOST_TABLES}
use Rattle.alt_machine.specs.Ops.ListTables.{names_after}
use Rattle.alt_machine.specs.State.{Texts}
use Rattle.alt_schema.specs.declared.schema.TableSchema.{TableSchema}
use Rattle.alt_request.proofs.TablesLooking.{only_nothing, only_then, ready_only}
use Rattle.alt_request.specs.TablesSeveral.{Every}
use Rattle.alt_request.specs.TablesStands.{catalog_of}
use Rattle.alt_ttl.specs.private.Searched.{StandingTablesAreThere}
use Rattle.alt_ttl.proofs.Fronts.{take_step, take_whole}
use Rattle.alt_ttl.proofs.Searching.{IsThere, expired_at, expired_of, found_all, is_there, names_there}
use Rattle.alt_ttl.proofs.search.searched.Goals as goal

-- a name is one of a table
abbrev There : Texts TableSchema → List ℕ → Type 0
There catalog name = map.contains_key catalog name ≡ true

pub loop-name-init : goal.loop-name-init
loop-name-init g c = record {
  left = λ s stands.
      (λ i. take MOST_EXPIRED (c.new-out.ensures.items i
      ++ expired_of s c.args.moment (c.into_iter-name-iterator.ensures.into_iter_gives.0 i)))
      ∙ found_all s c.args.moment stands.valid c.in_ok-names.names.items
      (c.in_ok-names.ensures.names ∙ ap (λ (k : Texts TableSchema). take MOST_TABLES (names_after [] k)) stands.catalog);
  there = subst (Every (There (catalog_of c.args.tables.now)))
      (sym (c.into_iter-name-iterator.ensures.into_iter_gives.0 ∙ c.in_ok-names.ensures.names))
      (names_there (catalog_of c.args.tables.now));
  few = omega (arith, ap length c.new-out.ensures.items);
  named = subst (StandingTablesAreThere (catalog_of c.args.tables.now)) (sym c.new-out.ensures.items) tt;
  only = only_nothing (g.D.Disk.state c.args.disk.now) c.args.tables.now;
}

pub search_table-requires : goal.search_table-requires
search_table-requires g c =
    let so = c.loop-name.invariant in
    let there : Every (There (catalog_of c.args.tables.now))
    (c.in-Some.name ∷ into_iter_items c.next.new.self) =
    subst (Every (There (catalog_of c.args.tables.now))) c.in-Some.ensures.steps.0 so.there in
    record {
      ready = ready_only so.only c.requires.ready;
      there = subst (λ (k : Texts TableSchema). There k c.as_str.result.now) (sym so.only.catalog.catalog)
          (subst (There (catalog_of c.args.tables.now)) (sym c.as_str.ensures.same) there.0);
      few = so.few;
      named = subst (λ (k : Texts TableSchema). StandingTablesAreThere k c.loop-name.out.items)
          (sym so.only.catalog.catalog) so.named;
    }

pub loop-name-preserved : goal.loop-name-preserved
loop-name-preserved g c =
    let so = c.loop-name.invariant in
    let rest = into_iter_items c.next.new.self in
    let there : Every (There (catalog_of c.args.tables.now)) (c.in-Some.name ∷ rest) =
    subst (Every (There (catalog_of c.args.tables.now))) c.in-Some.ensures.steps.0 so.there in
    record {
      left = λ s stands.
          let t : IsThere s c.args.moment c.as_str.result.now =
          is_there s c.args.moment c.as_str.result.now (catalog_of c.args.tables.now) stands.catalog
          (subst (There (catalog_of c.args.tables.now)) (sym c.as_str.ensures.same) there.0) in
          take_step MOST_EXPIRED c.loop-name.out.items
          (expired_at s c.args.moment c.as_str.result.now)
          (expired_of s c.args.moment rest) c.search_table.new.out.items
          (c.in-Ok.ensures.found s t.table ((so.only.stays s).0 stands) t.there
          ∙ ap (λ l. take MOST_EXPIRED (c.loop-name.out.items ++ l)) (sym t.is))
          ∙ ap (λ (n : List ℕ). take MOST_EXPIRED (c.loop-name.out.items
          ++ (expired_at s c.args.moment n ++ expired_of s c.args.moment rest)))
          c.as_str.ensures.same
          ∙ ap (λ l. take MOST_EXPIRED (c.loop-name.out.items ++ expired_of s c.args.moment l))
          (sym c.in-Some.ensures.steps.0) ∙ so.left s stands;
      there = there.1;
      few = c.in-Ok.ensures.few;
      named = subst (λ (k : Texts TableSchema). StandingTablesAreThere k c.search_table.new.out.items)
          so.only.catalog.catalog c.in-Ok.ensures.named;
      only = only_then so.only c.search_table.ensures.only;
    }

pub returns-in-Err-clause-only : goal.returns-in-Err-clause-only
returns-in-Err-clause-only g c = only_then c.loop-name.invariant.only c.search_table.ensures.only

pub returns-clause-standings : goal.returns-clause-standings
returns-clause-standings g c s stands =
    let so = c.loop-name.invariant in
    sym (take_whole MOST_EXPIRED c.loop-name.out.items so.few)
    ∙ ap (λ l. take MOST_EXPIRED (c.loop-name.out.items ++ expired_of s c.args.moment l))
    (sym (length-zero (into_iter_items c.loop-name.name-iterator)
    (sym c.loop-name.name-iterator.rest.ok.0 ∙ c.in-None.ensures.steps.0)))
    ∙ so.left s stands
