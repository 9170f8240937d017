-- The refusals of an UpdateTable, step by step, and what it comes to.
use Rattle.std.proofs.Common.{◌≡◌, refl, sym, ap, subst, ◌∙◌, ℕ, Bool, true, false, [], ◌∷◌, Option, Some, None, Result, Ok, Err, arith}
use Rattle.std.specs.Prelude.{codes, if◌then◌else◌}
use Rattle.std.specs.FinMap as map
use Rattle.std.specs.List.{list_any}
use Rattle.serde_json.specs.Data.{Members}
use Rattle.alt_backfill.specs.declared.asked.Later.{Later}
use Rattle.alt_backfill.specs.private.Asked.{IsAlteringOrRefused, IsAskedOf, MayBeAltered, first_asked}
use Rattle.alt_backfill.proofs.Shapes.{acts_coming, acts_going}
use Rattle.alt_backfill.proofs.Tests.{staying_is}
use Rattle.alt_machine.specs.Members.{table_name}
use Rattle.alt_machine.specs.Ops.UpdateTable.{acts, altered, alters, changes, coming, described, of_body, of_indexes, state_altered, update_table, wanted_for}
use Rattle.alt_machine.specs.Outcomes.{Outcome, refuses, says, unless_refused}
use Rattle.alt_machine.specs.Refusals.{first_answer, or_refused}
use Rattle.alt_machine.specs.State.{State, Table, descriptions}
use Rattle.alt_machine.specs.Valid.{IsValid}
use Rattle.alt_machine.proofs.Targets.{table-missed, table-refused, table-target}
use Rattle.alt_machine.proofs.Tests.{passed}
use Rattle.alt_request.specs.Carried.{Carries, IfFailed}
use Rattle.alt_request.specs.Steps.{Tested}
use Rattle.alt_request.specs.declared.stop.Stop.{Stop}
use Rattle.alt_request.specs.declared.stop.Stop.TheVariants.{Refused, Fault}
use Rattle.alt_request.proofs.Carrying.{faulted, refused_so}
use Rattle.alt_request.proofs.Moving.{unfailed_fault}
use Rattle.alt_request.proofs.Named.{table_found, table_missed}
use Rattle.alt_disk.specs.Disk.{DiskState}
use Rattle.alt_schema.specs.declared.schema.TableSchema.{TableSchema}
use Rattle.alt_shape.specs.Refusals.{Answer, not_found, refused}
use Rattle.alt_request.specs.TablesStands.{Stands, catalog_of, next_family_of_tables}
use Rattle.alt_request.specs.TablesDeclaredTables.{Tables}

module _ (s : State) (ms : Members) where
  -- what it goes on with
  abbrev go : Table → Outcome
  go t = unless_refused (of_indexes t.description ms) (alters s ms t)

  -- the description changes, or it doesn't
  abbrev chosen : Table → Bool → Outcome
  chosen t b = if b then record {
    answer = described (altered t.description ms s.next_family) (codes "UPDATING");
    atoms = state_altered s ms t ∷ [];
    wants = wanted_for (coming ms);
  }
      else says (described t.description (codes "ACTIVE"))

  refused_by : (a : Answer) → first_answer (of_body ms) ≡ Some a → update_table s ms ≡ says a
  unfolding update_table
  refused_by a e = table-refused (of_body ms) s ms go a e

  missed_by : first_answer (of_body ms) ≡ None → map.get s.tables (table_name ms) ≡ None
      → update_table s ms ≡ refuses not_found
  unfolding update_table
  missed_by free none = table-missed (of_body ms) s ms go (refused not_found) free
      (ap (or_refused not_found) none)

  -- what it comes to in a table that is there
  pub at_table : (t : Table) → first_answer (of_body ms) ≡ None
      → map.get s.tables (table_name ms) ≡ Some t → update_table s ms ≡ go t
  unfolding update_table
  at_table t free there = table-target (of_body ms) s ms go t
      (record { body = free; there = there })

module _ (tables : Tables) (ms : Members) where
  -- the body is refused
  pub unfit_asked : (stop : Stop) → Tested {X = Unit {0}} (of_body ms) (Err stop)
      → IsAlteringOrRefused tables ms (Err stop)
  unfit_asked (Refused r) h = (h.1, λ s same valid. refused_by s ms (refused r) h.0)
  unfit_asked (Fault f) h = h

  module _ (free : first_answer (of_body ms) ≡ None) where
    -- there is no such table
    pub absent_asked : map.get (catalog_of tables) (table_name ms) ≡ None
        → IsAlteringOrRefused tables ms (Err (Refused not_found))
    absent_asked none = (
      tt,
      λ s same valid. missed_by s ms free (table_missed s (catalog_of tables) same (table_name ms) none),
    )

    module _ (d : TableSchema) (there : map.get (catalog_of tables) (table_name ms) ≡ Some d) where
      -- in a valid state it stands under its own name
      pub named_so : (s : State) → descriptions s.tables ≡ catalog_of tables → IsValid s
          → d.name ≡ table_name ms
      named_so s same valid =
          let found = table_found s (catalog_of tables) same (table_name ms) d there in
          ap (λ (x : TableSchema). x.name) (sym found.2)
          ∙ (valid.tables (table_name ms) found.0 found.1).named

      -- and so no valid state has one that doesn't
      pub misnamed_asked : (d.name ≡ table_name ms → ⊥) → IsAlteringOrRefused tables ms (Err (Refused not_found))
      misnamed_asked other = (tt, λ s same valid. absurd (other (named_so s same valid)))

      -- what is asked of the table that is named is asked
      pub here_asked : d.name ≡ table_name ms → (r : Result Later Stop)
          → IsAskedOf d ms (next_family_of_tables tables) r → IsAlteringOrRefused tables ms r
      here_asked named (Ok later) h = record {
        body = free;
        description = d;
        there = there;
        named = named;
        free = h.0;
        is = h.1;
        alters = h.2;
      }
      here_asked named (Err (Refused r)) h = (
        h.0,
        λ s same valid.
            let found = table_found s (catalog_of tables) same (table_name ms) d there in
            at_table s ms found.0 free found.1
            ∙ subst (λ (x : TableSchema). unless_refused (of_indexes x ms) (alters s ms found.0)
            ≡ refuses r) (sym found.2) (h.1 (alters s ms found.0)),
      )
      here_asked named (Err (Fault f)) h = h

  -- ---- what it comes to

  module _ (later : Later) (may : MayBeAltered tables ms later) (s : State)
      (same : descriptions s.tables ≡ catalog_of tables) where
    -- it goes on with the table
    pub reached : (t : Table) × (map.get s.tables (table_name ms) ≡ Some t)
        × (t.description ≡ may.description) × (update_table s ms ≡ alters s ms t)
    reached =
        let found = table_found s (catalog_of tables) same (table_name ms) may.description may.there in (
          found.0,
          found.1,
          found.2,
          at_table s ms found.0 may.body found.1
              ∙ passed (of_indexes found.0.description ms) (alters s ms found.0)
              (ap (λ (x : TableSchema). first_answer (of_indexes x ms)) found.2 ∙ may.free),
        )

    -- it answers what is there, where no index comes or goes
    pub comes_to_nothing : later.alters ≡ false
        → update_table s ms ≡ says (described later.schema (codes "ACTIVE"))
    comes_to_nothing none =
        let acts_none : list_any acts (changes ms) ≡ false = sym may.alters ∙ none in
        let found = reached in
        found.3
        ∙ ap (chosen s ms found.0) acts_none
        ∙ ap (λ (x : TableSchema). says (described x (codes "ACTIVE")))
        (found.2 ∙ staying_is may.description ms
        (unasked (first_asked (codes "Create") ms) refl acts_none)
        (unasked_gone (first_asked (codes "Delete") ms) refl acts_none) (next_family_of_tables tables)
        ∙ sym may.is)
      where
        unasked : (o : Option Members) → first_asked (codes "Create") ms ≡ o
            → list_any acts (changes ms) ≡ false → first_asked (codes "Create") ms ≡ None
        unasked None e h = e
        unasked (Some m) e h = absurd (let f : true ≡ false = sym (acts_coming ms m e) ∙ h in cc f)

        unasked_gone : (o : Option Members) → first_asked (codes "Delete") ms ≡ o
            → list_any acts (changes ms) ≡ false → first_asked (codes "Delete") ms ≡ None
        unasked_gone None e h = e
        unasked_gone (Some m) e h = absurd (let f : true ≡ false = sym (acts_going ms m e) ∙ h in cc f)

    -- and else the description changes
    pub comes_to : later.alters ≡ true → (t : Table) → t.description ≡ may.description
        → update_table s ms ≡ alters s ms t → update_table s ms ≡ record {
          answer = described (altered t.description ms s.next_family) (codes "UPDATING");
          atoms = state_altered s ms t ∷ [];
          wants = wanted_for (coming ms);
        }
    comes_to some t is e = e ∙ ap (chosen s ms t) (sym may.alters ∙ some)

-- ---- what stops it

-- what is asked stops the request
pub asked_stops : {file : ℕ} (tables : Tables) (disk : DiskState) (now : State → Type 0)
    (ms : Members) (stop : Stop) → IsAlteringOrRefused tables ms (Err stop)
    → ((s : State) → Stands disk tables s → now s)
    → Carries file (λ s. update_table s ms) (Stands disk tables) now (Err stop)
asked_stops tables disk now ms (Refused r) h stays =
    refused_so (λ s. update_table s ms) (Stands disk tables) now r h.0
    (λ s stands. h.1 s (sym stands.catalog) stands.valid) stays
asked_stops tables disk now ms (Fault f) h stays =
    faulted (λ s. update_table s ms) (Stands disk tables) now f h stays

-- no failure of the device is among what stops it
pub asked_unfailed : (P : Type 0) (tables : Tables) (ms : Members) (stop : Stop)
    → IsAlteringOrRefused tables ms (Err stop) → IfFailed (Err stop) P
asked_unfailed P tables ms (Refused r) h = tt
asked_unfailed P tables ms (Fault f) h = unfailed_fault f P h
