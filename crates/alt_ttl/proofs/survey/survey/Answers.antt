-- The items of one more table are noted; at the end none is left.
use Rattle.std.proofs.Common.{◌≡◌, ◌⊎◌, inl, inr, ◌∷◌, [], true, sym, ap, subst, ◌∙◌, ℕ, List, take}
use Rattle.std.specs.FinMap as map
use Rattle.std.specs.Vec.Iter.{into_iter_items}
use Rattle.alt_base.proofs.Lists.{length-zero}
use Rattle.alt_due.specs.declared.due.Due.{Due}
use Rattle.alt_machine.specs.declared.TheConstants.{MOST_TABLES}
use Rattle.alt_machine.specs.Ops.ListTables.{names_after}
use Rattle.alt_machine.specs.State.{Table, Texts}
use Rattle.alt_schema.specs.declared.schema.TableSchema.{TableSchema}
use Rattle.alt_request.proofs.TablesLooking.{only_nothing, only_then, ready_only}
use Rattle.alt_request.specs.TablesSeveral.{Every}
use Rattle.alt_request.specs.TablesStands.{catalog_of}
use Rattle.alt_ttl.specs.private.Foresight.{ForeseesTable}
use Rattle.alt_ttl.proofs.Searching.{all_names, names_there}
use Rattle.alt_ttl.proofs.Surveying.{Among, among_all, table_on}
use Rattle.alt_ttl.proofs.survey.survey.Goals as goal

-- a name is one of a table
abbrev There : Texts TableSchema → List ℕ → Type 0
There catalog name = map.contains_key catalog name ≡ true

pub loop-name-init : goal.loop-name-init
loop-name-init g c = record {
  known = λ s stands q t at. inl (subst (Among q)
      (sym (c.into_iter-name-iterator.ensures.into_iter_gives.0 ∙ c.in_ok-names.ensures.names
      ∙ ap (λ (k : Texts TableSchema). take MOST_TABLES (names_after [] k)) stands.catalog
      ∙ all_names s stands.valid)) (among_all s q t at));
  there = subst (Every (There (catalog_of c.args.tables.now)))
      (sym (c.into_iter-name-iterator.ensures.into_iter_gives.0 ∙ c.in_ok-names.ensures.names))
      (names_there (catalog_of c.args.tables.now));
  only = only_nothing (g.D.Disk.state c.args.disk.now) c.args.tables.now;
}

pub survey_table-requires : goal.survey_table-requires
survey_table-requires g c =
    let so = c.loop-name.invariant in
    let there : Every (There (catalog_of c.args.tables.now))
    (c.in-Some.name ∷ into_iter_items c.next.new.self) =
    subst (Every (There (catalog_of c.args.tables.now))) c.in-Some.ensures.steps.0 so.there in
    record {
      ready = ready_only so.only c.requires.ready;
      there = subst (λ (k : Texts TableSchema). There k c.as_str.result.now) (sym so.only.catalog.catalog)
          (subst (There (catalog_of c.args.tables.now)) (sym c.as_str.ensures.same) there.0);
    }

-- one more is known of
more : (q name : List ℕ) (rest : List (List ℕ)) (t : Table) (old new : Due)
    → Among q (name ∷ rest) ⊎ ForeseesTable q t old → (q ≡ name → ForeseesTable q t new)
    → (ForeseesTable q t old → ForeseesTable q t new) → Among q rest ⊎ ForeseesTable q t new
more q name rest t old new (inl (inl same)) own on = inr (own same)
more q name rest t old new (inl (inr other)) own on = inl other
more q name rest t old new (inr known) own on = inr (on known)

pub loop-name-preserved : goal.loop-name-preserved
loop-name-preserved g c =
    let so = c.loop-name.invariant in
    let rest = into_iter_items c.next.new.self in
    let there : Every (There (catalog_of c.args.tables.now)) (c.in-Some.name ∷ rest) =
    subst (Every (There (catalog_of c.args.tables.now))) c.in-Some.ensures.steps.0 so.there in
    record {
      known = λ s stands q t at. more q c.in-Some.name rest t c.loop-name.due
          c.survey_table.new.due
          (subst (λ ns. Among q ns ⊎ ForeseesTable q t c.loop-name.due) c.in-Some.ensures.steps.0
          (so.known s stands q t at))
          (λ same. subst (λ n. ForeseesTable n t c.survey_table.new.due)
          (c.as_str.ensures.same ∙ sym same)
          (c.in-Ok.ensures.known s t ((so.only.stays s).0 stands)
          (ap (map.get s.tables) (c.as_str.ensures.same ∙ sym same) ∙ at)))
          (table_on q t c.loop-name.due c.survey_table.new.due c.survey_table.ensures.keeps);
      there = there.1;
      only = only_then so.only c.survey_table.ensures.only;
    }

pub returns-in-Err-clause-only : goal.returns-in-Err-clause-only
returns-in-Err-clause-only g c = only_then c.loop-name.invariant.only c.survey_table.ensures.only

-- what is known of where no name is left
none_left : (q : List ℕ) (names : List (List ℕ)) (t : Table) (due : Due) → names ≡ []
    → Among q names ⊎ ForeseesTable q t due → ForeseesTable q t due
none_left q names t due none (inl among) = absurd (subst (Among q) none among)
none_left q names t due none (inr known) = known

pub returns-clause-known : goal.returns-clause-known
returns-clause-known g c s stands q place t item at =
    none_left q (into_iter_items c.loop-name.name-iterator) t c.loop-name.due
    (length-zero (into_iter_items c.loop-name.name-iterator)
    (sym c.loop-name.name-iterator.rest.ok.0 ∙ c.in-None.ensures.steps.0))
    (c.loop-name.invariant.known s stands q t at) place item
