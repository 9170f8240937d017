-- How an operation ends: refused, with a fault before it writes, with an answer, or as its write did.
use Rattle.std.proofs.Common.{◌≡◌, refl, sym, ap, subst, ◌∙◌, ℕ, false, List, Option, Some, Result, Ok, Err, IfOk, IfErr, Bor}
use Rattle.std.specs.Result.{IsErr, IsErrAnd}
use Rattle.std.specs.FinMap as map
use Rattle.serde_json.specs.Data.{Members}
use Rattle.serde_json.specs.Written.{has_float}
use Rattle.alt_disk.specs.Disk.{DiskState}
use Rattle.alt_machine.specs.declared.Expressions.{Expressions}
use Rattle.alt_machine.specs.declared.Sought.{Sought}
use Rattle.alt_machine.specs.Expressions as machine
use Rattle.alt_machine.specs.Members.{table_name}
use Rattle.alt_machine.specs.Outcomes.{Outcome, says, refuses, Wants}
use Rattle.alt_machine.specs.State.{State, Table}
use Rattle.alt_machine.specs.Targets.{on_table, on_item, IsPlaced}
use Rattle.alt_machine.proofs.Targets.{table-target, item-target}
use Rattle.alt_request.specs.Carried.{FollowsOutcome, Carries, SaysAnswer, IsPlainResult}
use Rattle.alt_machine.specs.Refusals.{first_answer}
use Rattle.alt_request.specs.Steps.{IsMemory, Tested}
use Rattle.alt_request.specs.Targets.{OnTable, OnItem, IsAt}
use Rattle.alt_request.specs.declared.targets.Target.{Target}
use Rattle.alt_request.proofs.Named.{table_found}
use Rattle.alt_request.proofs.Reaching.{err_is}
use Rattle.alt_said.specs.declared.stop.Stop.{Stop}
use Rattle.alt_said.specs.declared.stop.Stop.TheVariants.{Refused, Fault}
use Rattle.alt_shape.specs.Body.{body_json}
use Rattle.alt_shape.specs.Refusals.{Answer, answer_of, refused, IsKnown}
use Rattle.alt_shape.specs.declared.refusal.Refusal.{Refusal}
use Rattle.alt_shape.specs.declared.refusal.Reply.{Reply}
use Rattle.alt_said.specs.TablesFaults.{AreMade, BreakOff, IsReadFault, IsFindFault}
use Rattle.alt_said.specs.TablesStands.{Stands, catalog_of}
use Rattle.alt_said.specs.TablesDeclaredTables.{Tables}
use Rattle.alt_schema.specs.declared.schema.TableSchema.{TableSchema}
use Rattle.alt_value.specs.Tree.{Pair}
use Rattle.alt_said.specs.TablesDeclaredTableFault.{TableFault}
use Rattle.alt_said.specs.TablesDeclaredTableFault.TheVariants.{Spent, Damaged, BadRow, Failed, NoMemory}

-- an answer without a write that may be a refusal, or want of memory for it
pub does_say : (file : ℕ) (now : State → Type 0) (answer : Answer) (s : State) (r : Result Reply Stop)
    → SaysAnswer answer r → now s → FollowsOutcome file now s (says answer) r
does_say file now answer s (Ok reply) h stands = record { reply = h.0; state = stands; enough = refl }
does_say file now answer s (Err (Refused q)) h stands = record {
  answered = record { reply = h.0; state = stands; enough = refl };
  unwritten = refl;
}
does_say file now answer s (Err (Fault f)) h stands =
    subst (λ g. FollowsOutcome file now s (says answer) (Err (Fault g))) (sym h) tt

-- a fault before anything was written
pub unread : (file : ℕ) (now : State → Type 0) (s : State) (outcome : Outcome) (f : TableFault)
    → IsFindFault f → now s → FollowsOutcome file now s outcome (Err (Fault f))
unread file now s outcome (Spent n) known stands = absurd known
unread file now s outcome (Damaged number at) known stands = absurd known
unread file now s outcome (BadRow family key) known stands = absurd known
unread file now s outcome Failed known stands = tt
unread file now s outcome NoMemory known stands = tt

-- a reply with an answer, or want of memory for it, says that answer
pub says_so : (a : Answer) (r : Result Reply Stop) → IfOk r (λ reply. answer_of reply ≡ a)
    → IfOk r (λ reply. has_float (body_json reply.body) ≡ false) → IfErr r IsMemory → SaysAnswer a r
says_so a (Ok reply) told plain cause = (told, plain)
says_so a (Err stop) told plain cause = subst (λ e. SaysAnswer a (Err e)) (sym cause) refl

-- and is plain
pub plain_so : (r : Result Reply Stop) → IfOk r (λ reply. has_float (body_json reply.body) ≡ false)
    → IfErr r IsMemory → IsPlainResult r
plain_so (Ok reply) plain cause = plain
plain_so (Err stop) plain cause = subst (λ e. IsPlainResult (Err e)) (sym cause) tt

module _ {file : ℕ} (outcome : State → Outcome) (old now : State → Type 0) where
  -- a refusal, which leaves the state
  pub refused_so : (r : Refusal) → IsKnown r → ((s : State) → old s → outcome s ≡ refuses r)
      → ((s : State) → old s → now s) → Carries file outcome old now (Err (Refused r))
  refused_so r known is stays = record {
    does = λ s stands. subst (λ o. FollowsOutcome file now s o (Err (Refused r))) (sym (is s stands)) (record {
      answered = record { reply = refl; state = stays s stands; enough = refl };
      unwritten = refl;
    });
    plain = known;
  }

  -- want of memory before a write
  pub faulted : (f : TableFault) → IsReadFault f → ((s : State) → old s → now s)
      → Carries file outcome old now (Err (Fault f))
  faulted (Spent n) known stays = absurd known
  faulted (Damaged file at) known stays = absurd known
  faulted (BadRow family key) known stays = absurd known
  faulted Failed known stays = absurd known
  faulted NoMemory known stays = record {
    does = λ s stands. tt;
    plain = tt;
  }

  -- a read of the tables that failed, or want of memory for it
  pub unfound : (f : TableFault) → ((s : State) → old s → IsFindFault f)
      → ((s : State) → old s → now s) → Carries file outcome old now (Err (Fault f))
  unfound (Spent n) known stays = record { does = λ s stands. absurd (known s stands); plain = tt }
  unfound (Damaged file at) known stays = record {
    does = λ s stands. absurd (known s stands);
    plain = tt;
  }
  unfound (BadRow family key) known stays = record {
    does = λ s stands. absurd (known s stands);
    plain = tt;
  }
  unfound Failed known stays = record { does = λ s stands. tt; plain = tt }
  unfound NoMemory known stays = record {
    does = λ s stands. tt;
    plain = tt;
  }

  -- an answer without a write
  pub said : (reply : Reply) → has_float (body_json reply.body) ≡ false
      → ((s : State) → old s → outcome s ≡ says (answer_of reply)) → ((s : State) → old s → now s)
      → Carries file outcome old now (Ok reply)
  said reply plain is stays = record {
    does = λ s stands. subst (λ o. FollowsOutcome file now s o (Ok reply)) (sym (is s stands))
        (record { reply = refl; state = stays s stands; enough = refl });
    plain = plain;
  }

  -- a request that its body's tests refuse
  pub untested : (tests : List (Option Answer)) (stop : Stop)
      → Tested {X = Unit {0}} tests (Err stop)
      → ((s : State) → old s → (r : Refusal) → first_answer tests ≡ Some (refused r)
      → outcome s ≡ refuses r) → ((s : State) → old s → now s)
      → Carries file outcome old now (Err stop)
  untested tests (Refused r) h is stays = refused_so r h.1 (λ s stands. is s stands r h.0) stays
  untested tests (Fault f) h is stays = faulted f h stays

  -- want of memory before anything was written
  pub faulted_as : (stop : Stop) → IsMemory stop → ((s : State) → old s → now s)
      → Carries file outcome old now (Err stop)
  faulted_as stop cause stays = subst (λ e. Carries file outcome old now (Err e)) (sym cause)
      (faulted NoMemory tt stays)

  -- writes broke off
  pub broke_off : (f : TableFault) (wants : Wants)
      → ((s : State) → old s → (atoms : List State) × (answer : Answer)
      × (outcome s ≡ record { answer = answer; atoms = atoms; wants = wants })
      × BreakOff file now wants s atoms f) → Carries file outcome old now (Err (Fault f))
  broke_off f wants h = record {
    does = λ s stands. let (atoms, answer, is, broke) = h s stands in
        subst (λ o. FollowsOutcome file now s o (Err (Fault f))) (sym is) broke;
    plain = tt;
  }

  -- writes were made, and answered
  pub wrote : (reply : Reply) → has_float (body_json reply.body) ≡ false → (wants : Wants)
      → ((s : State) → old s → (atoms : List State)
      × (outcome s ≡ record { answer = answer_of reply; atoms = atoms; wants = wants })
      × AreMade now wants s atoms) → Carries file outcome old now (Ok reply)
  wrote reply plain wants h = record {
    does = λ s stands. let (atoms, is, made) = h s stands in
        subst (λ o. FollowsOutcome file now s o (Ok reply)) (sym is)
        (record { reply = refl; state = made.state; enough = made.enough });
    plain = plain;
  }

  -- an answer without a write, or want of memory for it
  pub said_or_not : (r : Result Reply Stop) (a : Answer) → IfOk r (λ reply. answer_of reply ≡ a)
      → IfOk r (λ reply. has_float (body_json reply.body) ≡ false)
      → IfErr r IsMemory → ((s : State) → old s → outcome s ≡ says a)
      → ((s : State) → old s → now s) → Carries file outcome old now r
  said_or_not (Ok reply) a told plain cause is stays =
      said reply plain (λ s stands. is s stands ∙ ap says (sym told)) stays
  said_or_not (Err stop) a told plain cause is stays =
      subst (λ e. Carries file outcome old now (Err e)) (sym cause) (faulted NoMemory tt stays)

-- ---- behind a table, or an item and its place

module _ (disk : DiskState) (tables : Tables) (tests : List (Option Answer)) (ms : Members)
    (outcome : State → Outcome) where
  module _ (go : State → Table → Outcome) (is : (s : State)
      → outcome s ≡ on_table tests s ms (go s)) where
    -- it isn't reached
    pub table_stopped : {file : ℕ} (now : State → Type 0) (stop : Stop)
        → OnTable tests (catalog_of tables) ms (Err stop)
        → ((s : State) → Stands disk tables s → now s)
        → Carries file outcome (Stands disk tables) now (Err stop)
    table_stopped now (Refused r) h stays = refused_so outcome (Stands disk tables) now r h.0
        (λ s stands. is s ∙ h.1 s (go s) (sym stands.catalog)) stays
    table_stopped now (Fault f) h stays = faulted outcome (Stands disk tables) now f h stays

    -- as it is passed on
    pub table_passed : {file : ℕ} (now : State → Type 0) (r : Result Reply Stop) (stop : Stop)
        → IsErr r × IsErrAnd r (λ e. e ≡ stop)
        → OnTable tests (catalog_of tables) ms (Err stop)
        → ((s : State) → Stands disk tables s → now s)
        → Carries file outcome (Stands disk tables) now r
    table_passed {file = file} now r stop same h stays = subst (Carries file outcome (Stands disk tables) now)
        (sym (err_is r stop same)) (table_stopped now stop h stays)

    -- it is, and the operation goes on
    pub table_reached : (d : Bor TableSchema) → OnTable tests (catalog_of tables) ms (Ok d)
        → (s : State) → Stands disk tables s
        → (t : Table) × (map.get s.tables (table_name ms) ≡ Some t) × (t.description ≡ d.now)
        × (outcome s ≡ go s t)
    table_reached d h s stands =
        let found = table_found s (catalog_of tables) (sym stands.catalog)
        (table_name ms) d.now h.1 in (
          found.0,
          found.1,
          found.2,
          is s ∙ table-target tests s ms (go s) found.0
              (record { body = h.0; there = found.1 }),
        )

  module _ (sought : Sought) (texts : machine.Texts)
      (go : State → Expressions → List Pair → Table → List ℕ → Outcome)
      (is : (s : State) → outcome s ≡ on_item tests sought texts s ms (go s)) where
    pub item_stopped : {file : ℕ} (now : State → Type 0) (stop : Stop)
        → OnItem tests sought texts (catalog_of tables) ms (Err stop)
        → ((s : State) → Stands disk tables s → now s)
        → Carries file outcome (Stands disk tables) now (Err stop)
    item_stopped now (Refused r) h stays = refused_so outcome (Stands disk tables) now r h.0
        (λ s stands. is s ∙ h.1 s (go s) (sym stands.catalog)) stays
    item_stopped now (Fault f) h stays = faulted outcome (Stands disk tables) now f h stays

    pub item_passed : {file : ℕ} (now : State → Type 0) (r : Result Reply Stop) (stop : Stop)
        → IsErr r × IsErrAnd r (λ e. e ≡ stop)
        → OnItem tests sought texts (catalog_of tables) ms (Err stop)
        → ((s : State) → Stands disk tables s → now s)
        → Carries file outcome (Stands disk tables) now r
    item_passed {file = file} now r stop same h stays = subst (Carries file outcome (Stands disk tables) now)
        (sym (err_is r stop same)) (item_stopped now stop h stays)

    pub item_reached : (target : Target) → IsAt tests sought texts (catalog_of tables) ms target
        → (s : State) → Stands disk tables s
        → (t : Table) × (map.get s.tables (table_name ms) ≡ Some t)
        × (t.description ≡ target.schema.now)
        × (outcome s ≡ go s target.said target.item t target.place)
    item_reached target h s stands =
        let found = table_found s (catalog_of tables) (sym stands.catalog)
        (table_name ms) target.schema.now h.there in (
          found.0,
          found.1,
          found.2,
          is s ∙ item-target tests sought texts s ms (go s) target.said target.item found.0
              target.place found.1
              (subst (λ (d : TableSchema).
              IsPlaced tests sought texts ms d target.said target.item target.place)
              (sym found.2) h.placed),
        )

    -- what is done there is done for the whole request
    pub item_done : {file : ℕ} (now : State → Type 0) (target : Target)
        → IsAt tests sought texts (catalog_of tables) ms target
        → (r : Result Reply Stop) → IsPlainResult r
        → ((s : State) (t : Table) → Stands disk tables s
        → map.get s.tables (table_name ms) ≡ Some t → t.description ≡ target.schema.now
        → FollowsOutcome file now s (go s target.said target.item t target.place) r)
        → Carries file outcome (Stands disk tables) now r
    item_done {file = file} now target h r plain does = record {
      does = λ s stands. let at = item_reached target h s stands in
          subst (λ o. FollowsOutcome file now s o r) (sym at.3) (does s at.0 stands at.1 at.2);
      plain = plain;
    }
