-- A BatchGetItem behind the tests of its members, and how its reads stop.
use Rattle.std.proofs.Common.{ℕ, ◌≡◌, refl, true, List, [], ◌∷◌, map, Ok, Err, Vec, Global}
use Rattle.std.specs.Prelude.{fold}
use Rattle.std.specs.FinMap as finite
use Rattle.serde_json.specs.Data.{Members}
use Rattle.alt_machine.specs.declared.PlacedMember.{PlacedMember}
use Rattle.alt_machine.specs.Ops.BatchGetItem.{KeyReads, Shown, batch_get_item, nothing_read, read_answer, reads_asked, with_reads}
use Rattle.alt_machine.specs.Outcomes.{Outcome, says, with_found}
use Rattle.alt_machine.specs.State.{State, Texts, descriptions}
use Rattle.alt_machine.proofs.Batches as machine
use Rattle.alt_ops_batch.specs.private.Readings.{KeyTablesAreThere, AreAllKnown, IsFault, IfErrFailed}
use Rattle.alt_ops_batch.specs.private.Batches.{reads_of}
use Rattle.alt_request.specs.Carried.{Carries, IfFailed}
use Rattle.alt_ops_batch.specs.declared.asked_reads.TableReads.{TableReads}
use Rattle.alt_request.specs.declared.stop.Stop.{Stop}
use Rattle.alt_request.specs.declared.stop.Stop.TheVariants.{Refused, Fault}
use Rattle.alt_request.proofs.Carrying.{unfound}
use Rattle.alt_schema.specs.declared.schema.TableSchema.{TableSchema}

-- what it goes on with
abbrev pub go : State → List (KeyReads Shown PlacedMember) → Outcome
go s tables = says (read_answer (fold (with_reads s) nothing_read tables))

-- a BatchGetItem looks for the reads that are asked for, and goes on with them
pub get_is : (ms : Members) (s : State) → batch_get_item s ms
    ≡ with_found (reads_asked (descriptions s.tables) ms) (go s)
unfolding batch_get_item
get_is ms s = refl

-- what is asked for
abbrev pub asked_of : Vec TableReads Global → List (KeyReads Shown PlacedMember)
asked_of v = map reads_of v.items

-- the tables of all keys are there
keys_known : (catalog : Texts TableSchema) (ks : List PlacedMember)
    → machine.Every (λ (m : PlacedMember). finite.contains_key catalog m.table ≡ true) ks
    → KeyTablesAreThere catalog ks
keys_known catalog [] h = tt
keys_known catalog (k ∷ ks) h = (h.0, keys_known catalog ks h.1)

-- so are those of all keys of each read
all_known : (catalog : Texts TableSchema) (asked : List TableReads)
    → machine.Every (λ (r : KeyReads Shown PlacedMember).
    machine.Every (λ (m : PlacedMember). finite.contains_key catalog m.table ≡ true) r.keys)
    (map reads_of asked) → AreAllKnown catalog asked
all_known catalog [] h = tt
all_known catalog (r ∷ rs) h = (keys_known catalog r.keys.items h.0, all_known catalog rs h.1)

-- and so it is with the reads that a request asks for
pub asked_known : (catalog : Texts TableSchema) (ms : Members) (asked : List TableReads)
    → reads_asked catalog ms ≡ Ok (map reads_of asked) → AreAllKnown catalog asked
asked_known catalog ms asked e = all_known catalog asked
    (machine.reads_named catalog ms (map reads_of asked) e)

-- a read that stopped
pub read_stopped : {file : ℕ} (outcome : State → Outcome) (old now : State → Type 0) (P : Type 0) (stop : Stop)
    → ((s : State) → old s → IsFault stop) → IfErrFailed {A = Unit {0}} (Err stop) P
    → ((s : State) → old s → now s) → Carries file outcome old now (Err stop)
read_stopped outcome old now P (Refused r) fault failed stays = absurd failed
read_stopped outcome old now P (Fault f) fault failed stays = unfound outcome old now f fault stays

-- and it is a failure of the device only where that failed
pub read_failed : (P : Type 0) (stop : Stop) → IfErrFailed {A = Unit {0}} (Err stop) P
    → IfFailed (Err stop) P
read_failed P (Refused r) failed = tt
read_failed P (Fault f) failed = failed
