-- The stream that is named, as the machine finds it in each state that has these tables.
use Rattle.std.specs.Prelude.{◌≡◌, ℕ, List, Option, Some, None, option_map, Result, Ok, Err}
use Rattle.std.specs.Borrow.{Bor}
use Rattle.alt_machine.specs.State.{State, Texts, descriptions}
use Rattle.alt_machine.specs.Streams.{table_of_stream}
use Rattle.alt_machine.specs.Valid.{IsValid}
use Rattle.alt_request.specs.declared.stop.Stop.{Stop}
use Rattle.alt_request.specs.declared.stop.Stop.TheVariants.{Refused, Fault}
use Rattle.alt_schema.specs.declared.schema.TableSchema.{TableSchema}
use Rattle.alt_shape.specs.Refusals.{not_found}
use Rattle.alt_request.specs.TablesFaults.{IsReadFault}

-- The table whose stream has the name has this description, or none has it.
abbrev pub IsStreamOf : Texts TableSchema → List ℕ → Option TableSchema → Type 0
IsStreamOf catalog arn found = (s : State) → IsValid s → descriptions s.tables ≡ catalog
    → option_map (λ t. t.description) (table_of_stream s arn) ≡ found

-- That is the table whose stream has the name; or there is none, and that is the refusal; or memory was wanting.
abbrev pub OnStream : Texts TableSchema → List ℕ → Result (Bor TableSchema) Stop → Type 0
OnStream catalog arn (Ok d) = IsStreamOf catalog arn (Some d.now)
OnStream catalog arn (Err (Refused r)) = (r ≡ not_found) × IsStreamOf catalog arn None
OnStream catalog arn (Err (Fault f)) = IsReadFault f
