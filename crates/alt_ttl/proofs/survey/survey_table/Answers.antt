-- A page more was noted, or the last one; or the table's items have no time.
use Rattle.std.proofs.Common.{◌≡◌, true, sym, subst, ◌∙◌, None}
use Rattle.std.specs.FinMap as map
use Rattle.alt_machine.specs.State.{Texts}
use Rattle.alt_ops_query.proofs.Described.{stored_at}
use Rattle.alt_schema.specs.declared.schema.TableSchema.{TableSchema}
use Rattle.alt_request.proofs.TablesLooking.{only_nothing, only_then, ready_only}
use Rattle.alt_request.proofs.TablesStanding.{known}
use Rattle.alt_ttl.specs.private.Foresight.{ForeseesRest, ForeseesFromNext}
use Rattle.alt_ttl.proofs.Surveying.{rest_all, table_untimed}
use Rattle.alt_ttl.proofs.survey.survey_table.Goals as goal

pub pages-init : goal.pages-init
pages-init g c = record {
  known = λ s t stands at later keeps h.
      subst (λ from. ForeseesRest c.args.name.now t from later) c.in_ok-from.ensures.copied h;
  keeps = λ moment spot knows. knows;
  only = only_nothing (g.D.Disk.state c.args.disk.now) c.args.tables.now;
}

pub survey_page-requires : goal.survey_page-requires
survey_page-requires g c =
    let so = c.pages.invariant in record {
      ready = ready_only so.only c.requires.ready;
      there = subst (λ (k : Texts TableSchema). map.contains_key k c.args.name.now ≡ true)
          (sym so.only.catalog.catalog) c.requires.there;
    }

pub pages-preserved : goal.pages-preserved
pages-preserved g c =
    let so = c.pages.invariant in record {
      known = λ s t stands at later keeps h. so.known s t stands at later
          (λ moment spot knows. keeps moment spot (c.survey_page.ensures.keeps moment spot knows))
          (subst (ForeseesFromNext c.args.name.now t c.pages.from c.survey_page.new.due)
          c.in-Ok-Some.field-0-is
          (c.in-Ok-Some.ensures.known s t ((so.only.stays s).0 stands) at) later keeps h);
      keeps = λ moment spot knows. c.survey_page.ensures.keeps moment spot
          (so.keeps moment spot knows);
      only = only_then so.only c.survey_page.ensures.only;
    }

pub returns-in-Ok-None-clause-known : goal.returns-in-Ok-None-clause-known
returns-in-Ok-None-clause-known g c s t stands at =
    let so = c.pages.invariant in
    rest_all c.args.name.now t (stored_at (g.D.Disk.state c.args.disk.now) c.args.tables.now s stands
    c.args.name.now t at None (λ d e. tt)) c.survey_page.new.due
    (so.known s t stands at c.survey_page.new.due c.survey_page.ensures.keeps
    (subst (ForeseesFromNext c.args.name.now t c.pages.from c.survey_page.new.due) c.in-Ok-None.field-0-is
    (c.in-Ok-None.ensures.known s t ((so.only.stays s).0 stands) at)))

pub returns-in-Ok-None-clause-keeps : goal.returns-in-Ok-None-clause-keeps
returns-in-Ok-None-clause-keeps g c moment spot knows = c.survey_page.ensures.keeps moment spot
    (c.pages.invariant.keeps moment spot knows)

pub returns-in-Err-clause-keeps : goal.returns-in-Err-clause-keeps
returns-in-Err-clause-keeps g c moment spot knows = c.survey_page.ensures.keeps moment spot
    (c.pages.invariant.keeps moment spot knows)

pub returns-in-Err-clause-only : goal.returns-in-Err-clause-only
returns-in-Err-clause-only g c = only_then c.pages.invariant.only c.survey_page.ensures.only

pub returns-in-Ok-None-clause-only : goal.returns-in-Ok-None-clause-only
returns-in-Ok-None-clause-only g c = only_then c.pages.invariant.only c.survey_page.ensures.only

pub returns-then-not-has_time-clause-known : goal.returns-then-not-has_time-clause-known
returns-then-not-has_time-clause-known g c s t stands at =
    table_untimed c.args.name.now t c.args.due.now
    (sym (c.has_time.ensures t.description (known (g.D.Disk.state c.args.disk.now)
    c.args.tables.now s c.args.name.now t stands at)) ∙ c.if-not-has_time.true)
