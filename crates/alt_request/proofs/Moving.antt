-- What calls do to the disk that read, or that write behind what was read.
use Rattle.std.proofs.Common.{◌≡◌, ℕ, List, Option, Some, IsTrue, Result, Ok, Err, IfErr, refl, sym, subst, ◌∙◌, arith}
use Rattle.std.specs.Result.{IsErr, IsErrAnd, IsErrOf}
use Rattle.std.specs.FinMap as map
use Rattle.serde_json.specs.Data.{Members}
use Rattle.alt_base.specs.Counts.{Rose}
use Rattle.alt_disk.specs.Disk.{DiskState, Goes}
use Rattle.alt_disk.specs.Runs.{Quiet}
use Rattle.alt_disk.proofs.Calls.{goes_on}
use Rattle.alt_machine.specs.declared.Expressions.{Expressions}
use Rattle.alt_machine.specs.declared.Sought.{Sought}
use Rattle.alt_machine.specs.Expressions as machine
use Rattle.alt_machine.specs.Members.{table_name}
use Rattle.alt_machine.specs.Outcomes.{Outcome, Wants}
use Rattle.alt_machine.specs.State.{State, Table, Texts, new_table}
use Rattle.alt_machine.specs.Targets.{on_item}
use Rattle.alt_request.specs.Carried.{IfRefused, IfFailed, IfWanting, WhereFailed, WhereWanting, Moves}
use Rattle.alt_request.specs.Steps.{IsMemory, Tested}
use Rattle.alt_request.specs.Targets.{OnTable, OnItem, IsAt}
use Rattle.alt_request.proofs.Carrying.{item_reached}
use Rattle.alt_request.proofs.Reaching.{err_is}
use Rattle.alt_said.specs.declared.stop.Stop.{Stop}
use Rattle.alt_said.specs.declared.stop.Stop.TheVariants.{Refused, Fault}
use Rattle.alt_request.specs.declared.targets.Target.{Target}
use Rattle.alt_schema.specs.declared.schema.TableSchema.{TableSchema}
use Rattle.alt_shape.specs.Refusals.{Answer}
use Rattle.alt_shape.specs.declared.refusal.Reply.{Reply}
use Rattle.alt_faults.proofs.Telling.{memory-else, outside-by, outside-more}
use Rattle.alt_said.specs.TablesFaults.{IsReadFault, WantsMemory, told_by_tables}
use Rattle.alt_said.specs.TablesDeclaredTableFault.{TableFault}
use Rattle.alt_said.specs.TablesDeclaredTableFault.TheVariants.{Spent, Damaged, BadRow, Failed, NoMemory}
use Rattle.alt_said.specs.TablesImages.{Leaves}
use Rattle.alt_said.specs.TablesStands.{Stands, Reads, catalog_of}
use Rattle.alt_said.specs.TablesDeclaredTables.{Tables}
use Rattle.alt_value.specs.Tree.{Pair}
use Rattle.alt_said.proofs.TablesBehind.{wants_none}
use Rattle.alt_said.proofs.TablesLeft.{reads_nothing, leaves_reads, leaves_after, reads_lasts}
use Rattle.alt_said.proofs.TablesLooking.{rose_on}

-- ---- what didn't fail

-- a fault that is want of memory is no failure of the device
pub unfailed_fault : (f : TableFault) (P : Type 0) → IsReadFault f → WhereFailed f P
unfailed_fault f P h = memory-else P (Unit {0}) (told_by_tables f) h tt

-- a call whose failure has its cause
pub failed_fault : {A : Type 0} (f : TableFault) (P : Type 0)
    → (IsErrOf {T = A} (Err f) Failed → P) → WhereFailed f P
failed_fault (Spent n) P h = tt
failed_fault (Damaged file at) P h = tt
failed_fault (BadRow family key) P h = tt
failed_fault Failed P h = h refl
failed_fault NoMemory P h = tt

module _ (P : Type 0) where
  -- the tests of a body, of its table, of its item never fail
  pub tested_unfailed : (tests : List (Option Answer)) (stop : Stop)
      → Tested {X = Unit {0}} tests (Err stop) → IfFailed (Err stop) P
  tested_unfailed tests (Refused r) h = tt
  tested_unfailed tests (Fault f) h = unfailed_fault f P h

  -- a table that isn't reached is no failure of the device
  pub table_unfailed : (tests : List (Option Answer)) (catalog : Texts TableSchema) (ms : Members)
      (stop : Stop) → OnTable tests catalog ms (Err stop) → IfFailed (Err stop) P
  table_unfailed tests catalog ms (Refused r) h = tt
  table_unfailed tests catalog ms (Fault f) h = unfailed_fault f P h

  -- nor is an item that isn't
  pub item_unfailed : (tests : List (Option Answer)) (sought : Sought) (texts : machine.Texts)
      (catalog : Texts TableSchema) (ms : Members)
      (stop : Stop) → OnItem tests sought texts catalog ms (Err stop) → IfFailed (Err stop) P
  item_unfailed tests sought texts catalog ms (Refused r) h = tt
  item_unfailed tests sought texts catalog ms (Fault f) h = unfailed_fault f P h

  -- nor does want of memory
  pub memory_unfailed : (stop : Stop) → IsMemory stop → IfFailed (Err stop) P
  memory_unfailed stop h = subst (λ e. IfFailed (Err e) P) (sym h) tt

  -- nor is a reply for which memory was wanting
  pub reply_unfailed : (r : Result Reply Stop) → IfErr r IsMemory → IfFailed r P
  reply_unfailed (Ok reply) h = tt
  reply_unfailed (Err stop) h = memory_unfailed stop h

-- what holds of a failure may be weakened
failed_in : (f : TableFault) (P Q : Type 0) → (P → Q) → WhereFailed f P → WhereFailed f Q
failed_in f P Q leads h =
    outside-more P Q (Unit {0}) (Unit {0}) leads (λ u. u) (told_by_tables f) h

-- and so may what holds where a result is a failure
pub failed_on : (r : Result Reply Stop) (P Q : Type 0) → (P → Q) → IfFailed r P → IfFailed r Q
failed_on (Ok reply) P Q leads h = tt
failed_on (Err (Refused r)) P Q leads h = tt
failed_on (Err (Fault f)) P Q leads h = failed_in f P Q leads h

-- ---- what is left

-- every result allows what is true
pub refused_by : (r : Result Reply Stop) (P : Type 0) → P → IfRefused r P
refused_by (Ok reply) P p = λ told. p
refused_by (Err (Refused r)) P p = p
refused_by (Err (Fault f)) P p = tt

-- and a reply that tells no refusal allows all
pub unrefused : (reply : Reply) (P : Type 0) → reply.status ≡ 200 → IfRefused (Ok reply) P
unrefused reply P well = λ told. absurd (omega (arith, well, told))

-- ---- what is left where memory was wanting

wanting_in : (f : TableFault) (P : Type 0) → P → WhereWanting f P
wanting_in f P p = outside-by (Unit {0}) P (told_by_tables f) tt p

-- every result allows what is true
pub wanting_by : (r : Result Reply Stop) (P : Type 0) → P → IfWanting r P
wanting_by (Ok reply) P p = tt
wanting_by (Err (Refused r)) P p = tt
wanting_by (Err (Fault f)) P p = wanting_in f P p

-- and a fault what is true where memory was wanting
pub wanting_fault : {A : Type 0} (f : TableFault) (P : Type 0)
    → (IsErrOf {T = A} (Err f) NoMemory → P) → WhereWanting f P
wanting_fault (Spent n) P h = tt
wanting_fault (Damaged file at) P h = tt
wanting_fault (BadRow family key) P h = tt
wanting_fault Failed P h = tt
wanting_fault NoMemory P h = h refl

-- a write that wanted memory made no call of the disk, and so the disk stands for what it stood for before it
pub unwritten_wants : (before read after : DiskState) (tables : Tables) (s : State) (wants : Wants)
    (atoms : List State) → Reads before read → Stands before tables s → after ≡ read
    → WantsMemory after wants s atoms
unwritten_wants before read after tables s wants atoms reads stands same =
    subst (λ (d : DiskState). WantsMemory d wants s atoms) (sym same)
    (wants_none read wants s atoms (reads_lasts before read tables s reads stands))

-- and so it does where only calls that read were made
pub read_wants : (before after : DiskState) (tables : Tables) (s : State) (wants : Wants)
    (atoms : List State) → Reads before after → Stands before tables s
    → WantsMemory after wants s atoms
read_wants before after tables s wants atoms reads stands =
    wants_none after wants s atoms (reads_lasts before after tables s reads stands)

module _ (outcome : State → Outcome) (old : State → Type 0) (tables : Tables) (before : DiskState)
    (stood : (s : State) → old s → Stands before tables s) where
  -- calls that read alone
  pub reads_move : (after : DiskState) (r : Result Reply Stop) → Reads before after
      → IfFailed r (Rose before.faults after.faults) → Moves outcome old before after r
  reads_move after r reads failed = record {
    goes = reads.goes;
    leaves = λ s h. leaves_reads before after tables s (outcome s).atoms reads (stood s h);
    refused = refused_by r _ reads.quiet;
    failed = failed;
    wanting = λ s h. wanting_by r _ (wants_none after (outcome s).wants s (outcome s).atoms
        (reads_lasts before after tables s reads (stood s h)));
  }

  -- writes behind calls that read
  pub writes_move : (read after : DiskState) (r : Result Reply Stop) → Reads before read
      → Goes read after → ((s : State) → old s → Leaves read after s (outcome s).atoms)
      → IfRefused r (IsTrue before.tells → Quiet before after)
      → IfFailed r (Rose read.faults after.faults)
      → ((s : State) → old s
      → IfWanting r (WantsMemory after (outcome s).wants s (outcome s).atoms))
      → Moves outcome old before after r
  writes_move read after r reads goes leaves refused failed wanting = record {
    goes = goes_on before read after reads.goes goes;
    leaves = λ s h. leaves_after before read after tables s (outcome s).atoms reads (stood s h)
        (leaves s h);
    refused = refused;
    failed = failed_on r _ _ (rose_on before read after reads.goes) failed;
    wanting = wanting;
  }

module _ (outcome : State → Outcome) (tables : Tables) (before : DiskState) where
  -- calls that read alone
  pub moves_reads : (after : DiskState) (r : Result Reply Stop) → Reads before after
      → IfFailed r (Rose before.faults after.faults)
      → Moves outcome (Stands before tables) before after r
  moves_reads = reads_move outcome (Stands before tables) tables before (λ s stands. stands)

  -- no call at all
  pub moves_nothing : (r : Result Reply Stop) → IfFailed r (Rose before.faults before.faults)
      → Moves outcome (Stands before tables) before before r
  moves_nothing r failed = moves_reads before r (reads_nothing before) failed

  -- no call before an operation stopped
  pub moves_stopped : (r : Result Reply Stop) (stop : Stop) → IsErr r × IsErrAnd r (λ e. e ≡ stop)
      → IfFailed (Err stop) (Rose before.faults before.faults)
      → Moves outcome (Stands before tables) before before r
  moves_stopped r stop same failed =
      subst (Moves outcome (Stands before tables) before before) (sym (err_is r stop same))
      (moves_nothing (Err stop) failed)

  -- what is left of a disk on which no call was made
  pub leaves_nothing : (after : DiskState) (s : State) (atoms : List State) → after ≡ before
      → Stands before tables s → Leaves before after s atoms
  leaves_nothing after s atoms same stands =
      subst (λ (d : DiskState). Leaves before d s atoms) (sym same)
      (leaves_reads before before tables s atoms (reads_nothing before) stands)

-- What is done at the place of an item or a key is done for the whole request. It is told of each table that may have its name.
module _ (before after : DiskState) (tables : Tables) (tests : List (Option Answer)) (ms : Members)
    (outcome : State → Outcome) (sought : Sought) (texts : machine.Texts)
    (go : State → Expressions → List Pair → Table → List ℕ → Outcome)
    (is : (s : State) → outcome s ≡ on_item tests sought texts s ms (go s)) where
  -- where an item is reached, what moves as its outcome says moves as the operation's does
  pub item_moved : (target : Target) → IsAt tests sought texts (catalog_of tables) ms target
      → (does : State → Table → Outcome)
      → ((s : State) (t : Table) → t.description ≡ target.schema.now
      → go s target.said target.item t target.place ≡ does s t) → (r : Result Reply Stop)
      → ((t : Table) → Moves (λ s. does s t)
      (λ s. Stands before tables s × (map.get s.tables (table_name ms) ≡ Some t)) before after r)
      → Moves outcome (Stands before tables) before after r
  item_moved target h does so r moves =
      let any = moves (new_table target.schema.now) in
      record {
        goes = any.goes;
        leaves = λ s stands.
            let at = item_reached before tables tests ms outcome sought texts go is target h s
            stands in
            subst (λ (o : Outcome). Leaves before after s o.atoms)
            (sym (at.3 ∙ so s at.0 at.2)) ((moves at.0).leaves s (stands, at.1));
        refused = any.refused;
        failed = any.failed;
        wanting = λ s stands.
            let at = item_reached before tables tests ms outcome sought texts go is target h s
            stands in
            subst (λ (o : Outcome). IfWanting r (WantsMemory after o.wants s o.atoms))
            (sym (at.3 ∙ so s at.0 at.2)) ((moves at.0).wanting s (stands, at.1));
      }
