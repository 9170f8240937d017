-- Whether a list is reached, which the machine stops at the same step, and what is done there.
use Rattle.std.proofs.Common.{ℕ, ◌≡◌, sym, ap, subst, ◌∙◌, List, Option, Some, None, Result, Ok, Err, Bor}
use Rattle.std.specs.Result.{IsErr, IsErrAnd}
use Rattle.std.specs.FinMap as map
use Rattle.serde_json.specs.Data.{Members}
use Rattle.alt_disk.specs.Disk.{DiskState}
use Rattle.alt_expr.specs.Given as expr
use Rattle.alt_machine.specs.declared.Expressions.{Expressions}
use Rattle.alt_machine.specs.Expressions as machine
use Rattle.alt_machine.specs.Lists.{start_given, on_list, IsListed}
use Rattle.alt_machine.specs.Members.{table_name}
use Rattle.alt_machine.specs.Outcomes.{Outcome}
use Rattle.alt_machine.specs.Refusals.{first_answer, or_refused}
use Rattle.alt_machine.specs.Sources.{index_asked}
use Rattle.alt_machine.specs.State.{State, Table, Texts}
use Rattle.alt_machine.proofs.Chains.{found_is}
use Rattle.alt_machine.proofs.Lists.{list-refused, list-no_words, list-no_start, list-no_table, list-no_index, list-unsaid, list-target}
use Rattle.alt_request.specs.Carried.{Carries, IfFailed}
use Rattle.alt_request.specs.Steps.{Comes, Tested}
use Rattle.alt_request.specs.Targets.{OnList, IsListedAt}
use Rattle.alt_said.specs.Words.{given_of}
use Rattle.alt_said.specs.declared.words.Given.{Given}
use Rattle.alt_request.specs.declared.lists.ListTarget.{ListTarget}
use Rattle.alt_said.specs.declared.stop.Stop.{Stop}
use Rattle.alt_said.specs.declared.stop.Stop.TheVariants.{Refused, Fault}
use Rattle.alt_request.proofs.Carrying.{refused_so, faulted}
use Rattle.alt_request.proofs.Moving.{unfailed_fault}
use Rattle.alt_request.proofs.Named.{none_found, table_found, table_missed}
use Rattle.alt_request.proofs.Reaching.{err_is}
use Rattle.alt_schema.specs.declared.schema.TableSchema.{TableSchema}
use Rattle.alt_shape.specs.Refusals.{Answer, refused, not_found}
use Rattle.alt_shape.specs.declared.refusal.Reply.{Reply}
use Rattle.alt_said.specs.TablesStands.{Stands, catalog_of}
use Rattle.alt_said.specs.TablesDeclaredTables.{Tables}
use Rattle.alt_value.specs.Tree.{Pair}

-- ---- where it stops

-- the body is refused
pub list_untaken : (tests : List (Option Answer)) (texts : machine.Texts)
    (catalog : Texts TableSchema) (ms : Members) (e : Stop) → Tested {X = Unit {0}} tests (Err e)
    → OnList tests texts catalog ms (Err e)
list_untaken tests texts catalog ms (Refused q) h = (
  h.1,
  λ s go same. list-refused tests texts s ms go (refused q) h.0,
)
list_untaken tests texts catalog ms (Fault f) h = h

module _ (tests : List (Option Answer)) (texts : machine.Texts) (catalog : Texts TableSchema)
    (ms : Members) (free : first_answer tests ≡ None) where
  -- where no words are given, the list isn't reached
  pub list_no_words : (e : Stop) → Comes {X = Given} given_of (machine.given_at texts ms) (Err e)
      → OnList tests texts catalog ms (Err e)
  list_no_words (Refused q) h = (
    h.1,
    λ s go same. list-no_words tests texts s ms go free (refused q) h.0,
  )
  list_no_words (Fault f) h = h

  module _ (g : expr.Given) (words : machine.given_at texts ms ≡ Ok g) where
    pub list_no_start : (e : Stop)
        → Comes {X = Option (List Pair)} (λ key. key) (start_given texts ms) (Err e)
        → OnList tests texts catalog ms (Err e)
    list_no_start (Refused q) h = (
      h.1,
      λ s go same. list-no_start tests texts s ms go free g words (refused q) h.0,
    )
    list_no_start (Fault f) h = h

    module _ (start : Option (List Pair)) (read : start_given texts ms ≡ Ok start) where
      pub list_no_table : (e : Stop) → Comes {X = Bor TableSchema} (λ d. d.now)
          (or_refused not_found (map.get catalog (table_name ms))) (Err e)
          → OnList tests texts catalog ms (Err e)
      list_no_table (Refused q) h = (
        h.1,
        λ s go same.
            let none = none_found not_found (map.get catalog (table_name ms)) (refused q) h.0 in
            list-no_table tests texts s ms go free g words start read (refused q)
            (ap (or_refused not_found) (table_missed s catalog same (table_name ms) none.0)
            ∙ ap (λ a. Err a) (sym none.1)),
      )
      list_no_table (Fault f) h = h

      pub list_no_index : (d : TableSchema)
          → or_refused not_found (map.get catalog (table_name ms)) ≡ Ok d → (e : Stop)
          → Comes {X = Option ℕ} (λ number. number) (index_asked d ms) (Err e)
          → OnList tests texts catalog ms (Err e)
      list_no_index d there (Refused q) h = (
        h.1,
        λ s go same.
            let found = table_found s catalog same (table_name ms) d
            (found_is not_found (map.get catalog (table_name ms)) d there) in
            list-no_index tests texts s ms go free g words start read found.0 found.1
            (refused q) (ap (λ (x : TableSchema). index_asked x ms) found.2 ∙ h.0),
      )
      list_no_index d there (Fault f) h = h

      pub list_unsaid : (d : TableSchema)
          → or_refused not_found (map.get catalog (table_name ms)) ≡ Ok d → (index : Option ℕ)
          → index_asked d ms ≡ Ok index → (e : Stop)
          → Comes {X = Expressions} (λ x. x) (machine.expressions texts d ms g) (Err e)
          → OnList tests texts catalog ms (Err e)
      list_unsaid d there index asks (Refused q) h = (
        h.1,
        λ s go same.
            let found = table_found s catalog same (table_name ms) d
            (found_is not_found (map.get catalog (table_name ms)) d there) in
            list-unsaid tests texts s ms go free g words start read found.0 found.1 index
            (ap (λ (x : TableSchema). index_asked x ms) found.2 ∙ asks) (refused q)
            (ap (λ (x : TableSchema). machine.expressions texts x ms g) found.2 ∙ h.0),
      )
      list_unsaid d there index asks (Fault f) h = h

-- ---- behind it

-- an operation that stopped there never found the device failing
pub list_unfailed : (P : Type 0) (tests : List (Option Answer)) (texts : machine.Texts)
    (catalog : Texts TableSchema) (ms : Members) (stop : Stop)
    → OnList tests texts catalog ms (Err stop) → IfFailed (Err stop) P
list_unfailed P tests texts catalog ms (Refused r) h = tt
list_unfailed P tests texts catalog ms (Fault f) h = unfailed_fault f P h

module _ (disk : DiskState) (tables : Tables) (tests : List (Option Answer)) (ms : Members)
    (outcome : State → Outcome) (texts : machine.Texts)
    (go : State → Expressions → Option (List Pair) → Table → Option ℕ → Outcome)
    (is : (s : State) → outcome s ≡ on_list tests texts s ms (go s)) where
  -- a list that isn't reached is carried out as that says, and nothing is written
  list_stopped : {file : ℕ} (now : State → Type 0) (stop : Stop)
      → OnList tests texts (catalog_of tables) ms (Err stop)
      → ((s : State) → Stands disk tables s → now s)
      → Carries file outcome (Stands disk tables) now (Err stop)
  list_stopped now (Refused r) h stays = refused_so outcome (Stands disk tables) now r h.0
      (λ s stands. is s ∙ h.1 s (go s) (sym stands.catalog)) stays
  list_stopped now (Fault f) h stays = faulted outcome (Stands disk tables) now f h stays

  -- it isn't reached
  pub list_passed : {file : ℕ} (now : State → Type 0) (r : Result Reply Stop) (stop : Stop)
      → IsErr r × IsErrAnd r (λ e. e ≡ stop)
      → OnList tests texts (catalog_of tables) ms (Err stop)
      → ((s : State) → Stands disk tables s → now s)
      → Carries file outcome (Stands disk tables) now r
  list_passed {file = file} now r stop same h stays = subst (Carries file outcome (Stands disk tables) now)
      (sym (err_is r stop same)) (list_stopped now stop h stays)

  -- it is, and the operation goes on
  pub list_reached : (target : ListTarget) → IsListedAt tests texts (catalog_of tables) ms target
      → (s : State) → Stands disk tables s
      → (t : Table) × (map.get s.tables (table_name ms) ≡ Some t)
      × (t.description ≡ target.schema.now)
      × (outcome s ≡ go s target.said target.start t target.index)
  list_reached target h s stands =
      let found = table_found s (catalog_of tables) (sym stands.catalog)
      (table_name ms) target.schema.now h.there in (
        found.0,
        found.1,
        found.2,
        is s ∙ list-target tests texts s ms (go s) target.said target.start found.0 target.index
            found.1
            (subst (λ (d : TableSchema). IsListed tests texts ms d target.said
            target.start target.index)
            (sym found.2) h.listed),
      )
