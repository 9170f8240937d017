-- Where a GetRecords reads: in the table whose stream its iterator names, from the iterator's number on.
use Rattle.std.specs.Prelude.{◌≡◌, ℕ, Bool, true, false, List, [], ◌∷◌, Option, Some, None, is_some, Result, Ok, Err, codes}
use Rattle.std.specs.FinMap as map
use Rattle.std.specs.Option.{option_map_or}
use Rattle.serde_json.specs.Data.{Members}
use Rattle.alt_machine.specs.Body.{of_shape}
use Rattle.alt_machine.specs.Ops.GetRecords.{get_records}
use Rattle.alt_machine.specs.Outcomes.{refuses}
use Rattle.alt_machine.specs.Refusals.{first_answer}
use Rattle.alt_machine.specs.State.{State, Texts, descriptions}
use Rattle.alt_machine.specs.Streams.{Iterator, iterator_of}
use Rattle.alt_machine.specs.Trimming.{is_trimmed}
use Rattle.alt_machine.specs.Valid.{IsValid}
use Rattle.alt_request.specs.declared.stop.Stop.{Stop}
use Rattle.alt_request.specs.declared.stop.Stop.TheVariants.{Refused, Fault}
use Rattle.alt_schema.specs.Stated.{text_of}
use Rattle.alt_schema.specs.declared.schema.TableSchema.{TableSchema}
use Rattle.alt_shape.specs.Bodies as bodies
use Rattle.alt_shape.specs.Refusals.{IsKnown, not_found}
use Rattle.alt_streams.specs.private.Named.{IsStreamOf}
use Rattle.alt_streams.specs.declared.records.Place.{Place}
use Rattle.alt_request.specs.TablesOpeningTrimmed.{AreTrimmedOf, number_at}
use Rattle.alt_request.specs.TablesOpeningDeclaredTrimmed.{Trimmed}
use Rattle.alt_request.specs.TablesFaults.{IsReadFault}

-- a table is there, and has a stream
abbrev pub has_stream : Option TableSchema → Bool
has_stream found = option_map_or (λ d. is_some d.view) found false

-- That is the name of the table whose stream has the name; or there is none, and that is the refusal; or memory was wanting.
abbrev pub OnStreaming : Texts TableSchema → List ℕ → Result (List ℕ) Stop → Type 0
OnStreaming catalog arn (Ok name) = (has_stream (map.get catalog name) ≡ true)
    × IsStreamOf catalog arn (map.get catalog name)
OnStreaming catalog arn (Err (Refused r)) = (r ≡ not_found) × IsStreamOf catalog arn None
OnStreaming catalog arn (Err (Fault f)) = IsReadFault f

-- Nothing refuses the body, its iterator stands there, and what it stands for isn't trimmed, where so much is known to be.
pub record IsIteratorPlace (catalog : Texts TableSchema) (known : List Trimmed) (ms : Members)
    (place : Place) : Type 0 where
  pub body : first_answer (of_shape (bodies.get_records ms) ∷ []) ≡ None
  pub iterator : Iterator
  pub reads : iterator_of (text_of (codes "ShardIterator") ms) ≡ Some iterator
  pub from : place.from ≡ iterator.from
  pub stream : has_stream (map.get catalog place.table) ≡ true
  pub named : IsStreamOf catalog iterator.arn (map.get catalog place.table)
  pub kept : is_trimmed (number_at place.table known) place.from ≡ false

-- That is so; or the machine refuses the request too; or memory was wanting.
abbrev pub OnPlace : Texts TableSchema → List Trimmed → Members → Result Place Stop → Type 0
OnPlace catalog known ms (Ok place) = IsIteratorPlace catalog known ms place
OnPlace catalog known ms (Err (Refused r)) = IsKnown r × ((s : State) → IsValid s
    → descriptions s.tables ≡ catalog → AreTrimmedOf s.tables known → get_records s ms ≡ refuses r)
OnPlace catalog known ms (Err (Fault f)) = IsReadFault f
