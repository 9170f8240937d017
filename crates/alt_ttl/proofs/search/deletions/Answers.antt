-- What was found stands once, and is looked up.
use Rattle.std.proofs.Common.{sym, ap, subst, ◌∙◌, map}
use Rattle.alt_machine.specs.Expiry.{gone_at}
use Rattle.alt_machine.specs.State.{Texts}
use Rattle.alt_schema.specs.declared.schema.TableSchema.{TableSchema}
use Rattle.alt_request.proofs.TablesLooking.{fails_then, only_then, ready_only}
use Rattle.alt_request.specs.TablesSeveral.{AreAllApart, Every, MayWrite}
use Rattle.alt_request.specs.TablesStands.{catalog_of}
use Rattle.alt_ttl.specs.private.Searched.{StandingTablesAreThere, has_twice}
use Rattle.alt_ttl.proofs.Founds.{all_apart, may_go}
use Rattle.alt_ttl.proofs.search.deletions.Goals as goal

pub find_all-requires : goal.find_all-requires
find_all-requires g c = record {
  ready = ready_only c.in-Ok.ensures.only c.requires.ready;
  named = subst (λ (k : Texts TableSchema). StandingTablesAreThere k c.in-Ok.standings.items)
      (sym c.in-Ok.ensures.only.catalog.catalog) c.in-Ok.ensures.named;
}

pub returns-in-Ok-find_all-clause-written : goal.returns-in-Ok-find_all-clause-written
returns-in-Ok-find_all-clause-written g c s stands = c.in-Ok-find_all.ensures.written
    ∙ ap (map gone_at) (c.in-Ok.ensures.standings s stands)

pub returns-in-Ok-find_all-clause-may : goal.returns-in-Ok-find_all-clause-may
returns-in-Ok-find_all-clause-may g c =
    subst (Every (MayWrite (catalog_of c.args.tables.now))) (sym c.in-Ok-find_all.ensures.written)
    (may_go (catalog_of c.args.tables.now) c.in-Ok.standings.items c.in-Ok.ensures.named)

pub returns-in-Ok-find_all-clause-apart : goal.returns-in-Ok-find_all-clause-apart
returns-in-Ok-find_all-clause-apart g c =
    subst AreAllApart (sym c.in-Ok-find_all.ensures.written)
    (all_apart c.in-Ok.standings.items (ap has_twice (sym c.as_slice.ensures.value)
    ∙ sym c.has_twice.ensures ∙ c.if-has_twice.false))

pub returns-in-Ok-find_all-clause-found : goal.returns-in-Ok-find_all-clause-found
returns-in-Ok-find_all-clause-found g c s stands =
    c.in-Ok-find_all.ensures.found s ((c.in-Ok.ensures.only.stays s).0 stands)

pub returns-in-Err-find_all-clause-only : goal.returns-in-Err-find_all-clause-only
returns-in-Err-find_all-clause-only g c = only_then c.in-Ok.ensures.only c.find_all.ensures.only

pub returns-in-Err-find_all-clause-fails : goal.returns-in-Err-find_all-clause-fails
returns-in-Err-find_all-clause-fails g c = fails_then c.in-Ok.ensures.only
    c.in-Err-find_all.ensures.fails

pub returns-in-Ok-find_all-clause-only : goal.returns-in-Ok-find_all-clause-only
returns-in-Ok-find_all-clause-only g c = only_then c.in-Ok.ensures.only c.find_all.ensures.only
