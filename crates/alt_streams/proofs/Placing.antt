-- Where a GetRecords reads, and why it stops before.
use Rattle.std.proofs.Common.{◌≡◌, sym, ap, subst, ◌∙◌, ℕ, true, false, List, [], ◌∷◌, Some, None, codes, Result, Ok, Err, arith}
use Rattle.std.specs.Result.{IsErr, IsErrAnd}
use Rattle.serde_json.specs.Data.{Members}
use Rattle.alt_disk.specs.Disk.{DiskState}
use Rattle.alt_machine.specs.Body.{of_shape}
use Rattle.alt_machine.specs.Ops.GetRecords.{get_records}
use Rattle.alt_machine.specs.Outcomes.{refuses}
use Rattle.alt_machine.specs.Refusals.{first_answer}
use Rattle.alt_machine.specs.State.{Texts}
use Rattle.alt_machine.specs.Streams.{Iterator, iterator_of}
use Rattle.alt_request.specs.Carried.{Carries, IfFailed}
use Rattle.alt_request.specs.declared.stop.Stop.{Stop}
use Rattle.alt_request.specs.declared.stop.Stop.TheVariants.{Refused, Fault}
use Rattle.alt_request.proofs.Carrying.{refused_so, faulted}
use Rattle.alt_request.proofs.Moving.{unfailed_fault}
use Rattle.alt_request.proofs.Reaching.{err_is}
use Rattle.alt_schema.specs.Stated.{text_of}
use Rattle.alt_schema.specs.declared.schema.TableSchema.{TableSchema}
use Rattle.alt_shape.specs.Bodies as bodies
use Rattle.alt_shape.specs.Refusals.{IsKnown, refused, refusal_of, bad_stream_argument, change_records_trimmed}
use Rattle.alt_shape.specs.declared.refusal.Refusal.{Refusal}
use Rattle.alt_shape.specs.declared.refusal.Reply.{Reply}
use Rattle.alt_shape.specs.declared.rule.Broken.{Broken}
use Rattle.alt_shape.specs.declared.rule.Broken.TheVariants.{WrongKind, Missing, OutOfRange}
use Rattle.alt_streams.specs.private.Placed.{OnPlace, OnStreaming}
use Rattle.alt_streams.specs.declared.records.Place.{Place}
use Rattle.alt_streams.proofs.Reached.{records_broken, records_unread, records_missed, records_trimmed}
use Rattle.alt_request.specs.TablesOpeningTrimmed.{number_at}
use Rattle.alt_request.specs.TablesOpeningDeclaredTrimmed.{Trimmed}
use Rattle.alt_machine.specs.Trimming.{is_trimmed}
use Rattle.alt_request.specs.TablesStands.{Stands, catalog_of, trimmed_of}
use Rattle.alt_request.specs.TablesDeclaredTables.{Tables}

known_broken : (b : Broken) → IsKnown (refusal_of b)
known_broken WrongKind = tt
known_broken Missing = omega arith
known_broken OutOfRange = omega arith

known_argument : IsKnown bad_stream_argument
known_argument = omega arith

module _ (catalog : Texts TableSchema) (known : List Trimmed) (ms : Members) where
  -- the body is refused
  pub place_broken : (b : Broken) → Some b ≡ bodies.get_records ms → (r : Refusal)
      → r ≡ refusal_of b → OnPlace catalog known ms (Err (Refused r))
  place_broken b e r told = (
    subst IsKnown (sym told) (known_broken b),
    λ s valid same trimmed_so. records_broken ms s (refused r)
        (ap (λ o. first_answer (of_shape o ∷ [])) (sym e) ∙ ap (λ q. Some (refused q)) (sym told)),
  )

  module _ (fits : None ≡ bodies.get_records ms) where
    free : first_answer (of_shape (bodies.get_records ms) ∷ []) ≡ None
    free = ap (λ o. first_answer (of_shape o ∷ [])) (sym fits)

    -- its iterator is
    pub place_unread : iterator_of (text_of (codes "ShardIterator") ms) ≡ None
        → OnPlace catalog known ms (Err (Refused bad_stream_argument))
    place_unread e = (known_argument, λ s valid same trimmed_so. records_unread ms free s e)

    module _ (i : Iterator)
        (reads : iterator_of (text_of (codes "ShardIterator") ms) ≡ Some i) where
      -- its stream isn't there
      pub place_missed : (stop : Stop) → OnStreaming catalog i.arn (Err stop)
          → OnPlace catalog known ms (Err stop)
      place_missed (Refused r) h = (
        subst IsKnown (sym h.0) tt,
        λ s valid same trimmed_so. records_missed ms free i reads catalog h.1 s valid same
            ∙ ap (λ q. refuses q) (sym h.0),
      )
      place_missed (Fault f) h = h

      -- what it stands for was trimmed
      pub place_trimmed : (name : List ℕ) → OnStreaming catalog i.arn (Ok name)
          → is_trimmed (number_at name known) i.from ≡ true
          → OnPlace catalog known ms (Err (Refused change_records_trimmed))
      place_trimmed name h e = (
        tt,
        λ s valid same trimmed_so. records_trimmed ms free i reads catalog known name h.0 h.1 s
            valid same trimmed_so e,
      )

      -- or it stands there
      pub place_found : (place : Place) → place.from ≡ i.from
          → OnStreaming catalog i.arn (Ok place.table)
          → is_trimmed (number_at place.table known) place.from ≡ false
          → OnPlace catalog known ms (Ok place)
      place_found place from h kept = record {
        body = free;
        iterator = i;
        reads = reads;
        from = from;
        stream = h.0;
        named = h.1;
        kept = kept;
      }

-- ---- the request stops

module _ (disk : DiskState) (tables : Tables) (ms : Members) where
  place_stops : {file : ℕ} (stop : Stop) → OnPlace (catalog_of tables) (trimmed_of tables) ms (Err stop)
      → Carries file (λ s. get_records s ms) (Stands disk tables) (Stands disk tables) (Err stop)
  place_stops (Refused r) h = refused_so (λ s. get_records s ms) (Stands disk tables)
      (Stands disk tables) r h.0 (λ s stands. h.1 s stands.valid (sym stands.catalog) stands.trimmed)
      (λ s stands. stands)
  place_stops (Fault f) h = faulted (λ s. get_records s ms) (Stands disk tables)
      (Stands disk tables) f h (λ s stands. stands)

  -- where no place is reached, a GetRecords changes nothing and passes that on
  pub place_passed : {file : ℕ} (r : Result Reply Stop) (stop : Stop) → IsErr r × IsErrAnd r (λ e. e ≡ stop)
      → OnPlace (catalog_of tables) (trimmed_of tables) ms (Err stop)
      → Carries file (λ s. get_records s ms) (Stands disk tables) (Stands disk tables) r
  place_passed {file = file} r stop same h = subst
      (Carries file (λ s. get_records s ms) (Stands disk tables) (Stands disk tables))
      (sym (err_is r stop same)) (place_stops stop h)

  -- nor did the device fail then
  pub place_unfailed : (P : Type 0) (stop : Stop)
      → OnPlace (catalog_of tables) (trimmed_of tables) ms (Err stop) → IfFailed (Err stop) P
  place_unfailed P (Refused r) h = tt
  place_unfailed P (Fault f) h = unfailed_fault f P h
