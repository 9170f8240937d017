-- Whether the stream of a request is reached: the machine stops at the same step.
use Rattle.std.proofs.Common.{◌≡◌, refl, sym, ap, subst, ◌∙◌, ℕ, List, Option, Some, None, option_map, Result, Ok, Err, Bor}
use Rattle.std.proofs.lemmas.Option.{same_Some}
use Rattle.std.specs.Result.{IsErr, IsErrAnd}
use Rattle.alt_disk.specs.Disk.{DiskState}
use Rattle.alt_machine.specs.Outcomes.{Outcome, refuses, with_found}
use Rattle.alt_machine.specs.State.{State, Table}
use Rattle.alt_machine.specs.Streams.{stream_at, table_of_stream}
use Rattle.alt_machine.proofs.Tests.{found_some, found_none}
use Rattle.alt_request.specs.Carried.{Carries, IfFailed}
use Rattle.alt_request.specs.declared.stop.Stop.{Stop}
use Rattle.alt_request.specs.declared.stop.Stop.TheVariants.{Refused, Fault}
use Rattle.alt_request.proofs.Carrying.{refused_so, faulted}
use Rattle.alt_request.proofs.Moving.{unfailed_fault}
use Rattle.alt_request.proofs.Reaching.{err_is}
use Rattle.alt_schema.specs.declared.schema.TableSchema.{TableSchema}
use Rattle.alt_shape.specs.Refusals.{IsKnown, not_found}
use Rattle.alt_shape.specs.declared.refusal.Reply.{Reply}
use Rattle.alt_streams.specs.private.Named.{OnStream}
use Rattle.alt_request.specs.TablesStands.{Stands, catalog_of}
use Rattle.alt_request.specs.TablesDeclaredTables.{Tables}

-- what has no description isn't there
pub nothing : (o : Option Table) → option_map (λ t. t.description) o ≡ None → o ≡ None
nothing None e = refl
nothing (Some t) e = absurd (let f : ⊥ = cc in f)

-- and what has one is there
pub something : (o : Option Table) (d : TableSchema) → option_map (λ t. t.description) o ≡ Some d
    → (t : Table) × (o ≡ Some t) × (t.description ≡ d)
something None d e = absurd (let f : ⊥ = cc in f)
something (Some t) d e = (t, refl, same_Some t.description d e)

module _ (disk : DiskState) (tables : Tables) (arn : List ℕ) (outcome : State → Outcome)
    (go : State → Table → Outcome)
    (is : (s : State) → outcome s ≡ with_found (stream_at s arn) (go s)) where
  -- it isn't reached
  stream_stopped : {file : ℕ} (now : State → Type 0) (stop : Stop)
      → OnStream (catalog_of tables) arn (Err stop)
      → ((s : State) → Stands disk tables s → now s)
      → Carries file outcome (Stands disk tables) now (Err stop)
  stream_stopped now (Refused r) h stays = refused_so outcome (Stands disk tables) now r
      (subst IsKnown (sym h.0) tt)
      (λ s stands. is s ∙ found_none not_found (table_of_stream s arn) (go s)
      (nothing (table_of_stream s arn) (h.1 s stands.valid (sym stands.catalog)))
      ∙ ap (λ q. refuses q) (sym h.0)) stays
  stream_stopped now (Fault f) h stays = faulted outcome (Stands disk tables) now f h stays

  -- as it is passed on
  pub stream_passed : {file : ℕ} (now : State → Type 0) (r : Result Reply Stop) (stop : Stop)
      → IsErr r × IsErrAnd r (λ e. e ≡ stop) → OnStream (catalog_of tables) arn (Err stop)
      → ((s : State) → Stands disk tables s → now s)
      → Carries file outcome (Stands disk tables) now r
  stream_passed {file = file} now r stop same h stays = subst
      (Carries file outcome (Stands disk tables) now)
      (sym (err_is r stop same)) (stream_stopped now stop h stays)

  -- it is, and the operation goes on
  pub stream_reached : (d : Bor TableSchema) → OnStream (catalog_of tables) arn (Ok d)
      → (s : State) → Stands disk tables s
      → (t : Table) × (t.description ≡ d.now) × (outcome s ≡ go s t)
  stream_reached d h s stands =
      let found = something (table_of_stream s arn) d.now
      (h s stands.valid (sym stands.catalog)) in (
        found.0,
        found.2,
        is s ∙ found_some not_found (table_of_stream s arn) (go s) found.0 found.1,
      )

-- no failure of the device is among what stops it
pub stream_unfailed : (P : Type 0) (tables : Tables) (arn : List ℕ) (stop : Stop)
    → OnStream (catalog_of tables) arn (Err stop) → IfFailed (Err stop) P
stream_unfailed P tables arn (Refused r) h = tt
stream_unfailed P tables arn (Fault f) h = unfailed_fault f P h
