-- A page more was looked through, or the last one; or the table's items have no time.
use Rattle.std.proofs.Common.{◌≡◌, ◌++◌, true, sym, ap, subst, ◌∙◌, None, Some, option_map, take}
use Rattle.std.specs.FinMap as map
use Rattle.alt_machine.specs.declared.TheConstants.{MOST_EXPIRED}
use Rattle.alt_machine.specs.State.{Table, Texts}
use Rattle.alt_machine.proofs.Descriptions.{get-descriptions}
use Rattle.alt_ops_query.proofs.Described.{stored_at}
use Rattle.alt_schema.specs.declared.schema.TableSchema.{TableSchema}
use Rattle.alt_request.proofs.TablesLooking.{only_nothing, only_then, ready_only}
use Rattle.alt_request.specs.TablesStands.{catalog_of}
use Rattle.alt_ttl.specs.private.Searched.{StandingTablesAreThere, left_in, standings_left}
use Rattle.alt_ttl.proofs.Fronts.{take_whole}
use Rattle.alt_ttl.proofs.Searching.{left_first, none_expired}
use Rattle.alt_ttl.proofs.search.search_table.Goals as goal

pub returns-then-not-has_time-clause-found : goal.returns-then-not-has_time-clause-found
returns-then-not-has_time-clause-found g c s t stands at =
    let name = c.args.name.now in
    let known : map.get (catalog_of c.args.tables.now) name ≡ Some t.description =
    ap (λ (k : Texts TableSchema). map.get k name) stands.catalog ∙ get-descriptions s.tables name
    ∙ ap (option_map (λ (u : Table). u.description)) at in
    sym (ap (λ l. take MOST_EXPIRED (c.args.out.now.items ++ l)) (none_expired name t c.args.moment
    (sym (c.has_time.ensures t.description known) ∙ c.if-not-has_time.true))
    ∙ take_whole MOST_EXPIRED c.args.out.now.items c.requires.few)

pub pages-init : goal.pages-init
pages-init g c = record {
  left = λ s t stands at.
      ap (left_in c.args.name.now t c.args.moment c.args.out.now.items) c.in_ok-from.ensures.copied
      ∙ left_first c.args.name.now t c.args.moment
      (stored_at (g.D.Disk.state c.args.disk.now) c.args.tables.now s stands c.args.name.now t at
      None (λ d e. tt)) c.args.out.now.items;
  few = c.requires.few;
  named = c.requires.named;
  only = only_nothing (g.D.Disk.state c.args.disk.now) c.args.tables.now;
}

pub search_page-requires : goal.search_page-requires
search_page-requires g c =
    let so = c.pages.invariant in record {
      ready = ready_only so.only c.requires.ready;
      there = subst (λ (k : Texts TableSchema). map.contains_key k c.args.name.now ≡ true)
          (sym so.only.catalog.catalog) c.requires.there;
      few = so.few;
      named = subst (λ (k : Texts TableSchema). StandingTablesAreThere k c.pages.out.items)
          (sym so.only.catalog.catalog) so.named;
    }

pub pages-preserved : goal.pages-preserved
pages-preserved g c =
    let so = c.pages.invariant in record {
      left = λ s t stands at.
          subst (λ o. standings_left c.args.name.now t c.args.moment c.search_page.new.out.items o
          ≡ left_in c.args.name.now t c.args.moment c.pages.out.items c.pages.from)
          c.in-Ok-Some.field-0-is
          (c.in-Ok-Some.ensures.left s t ((so.only.stays s).0 stands) at)
          ∙ so.left s t stands at;
      few = c.in-Ok-Some.ensures.few;
      named = subst (λ (k : Texts TableSchema). StandingTablesAreThere k c.search_page.new.out.items)
          so.only.catalog.catalog c.in-Ok-Some.ensures.named;
      only = only_then so.only c.search_page.ensures.only;
    }

pub returns-in-Ok-None-clause-found : goal.returns-in-Ok-None-clause-found
returns-in-Ok-None-clause-found g c s t stands at =
    let so = c.pages.invariant in
    subst (λ o. standings_left c.args.name.now t c.args.moment c.search_page.new.out.items o
    ≡ left_in c.args.name.now t c.args.moment c.pages.out.items c.pages.from)
    c.in-Ok-None.field-0-is (c.in-Ok-None.ensures.left s t ((so.only.stays s).0 stands) at)
    ∙ so.left s t stands at

pub returns-in-Err-clause-only : goal.returns-in-Err-clause-only
returns-in-Err-clause-only g c = only_then c.pages.invariant.only c.search_page.ensures.only

pub returns-in-Ok-None-clause-only : goal.returns-in-Ok-None-clause-only
returns-in-Ok-None-clause-only g c = only_then c.pages.invariant.only c.search_page.ensures.only
