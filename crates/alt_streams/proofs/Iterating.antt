-- What a GetShardIterator comes to.
use Rattle.std.proofs.Common.{◌≡◌, sym, ap, ◌∙◌, ℕ, true, false, List, [], ◌∷◌, Some, None, codes}
use Rattle.std.specs.FinMap.{get}
use Rattle.serde_json.specs.Data.{string, Members}
use Rattle.alt_disk.specs.Disk.{DiskState}
use Rattle.alt_machine.specs.Ops.GetShardIterator.{get_shard_iterator, of_body, starts}
use Rattle.alt_machine.specs.Outcomes.{Outcome, says, refuses, unless_refused, with_found}
use Rattle.alt_machine.specs.Refusals.{first_answer, refuse_if}
use Rattle.alt_machine.specs.Replies.{answers}
use Rattle.alt_machine.specs.State.{State, Table}
use Rattle.alt_machine.specs.Streams.{Iterator, arn_in, iterator_text, stream_at, table_of_stream}
use Rattle.alt_machine.specs.Trimming.{is_trimmed}
use Rattle.alt_machine.proofs.Tests.{passed, stopped, found_some}
use Rattle.alt_schema.specs.declared.schema.TableSchema.{TableSchema}
use Rattle.alt_schema.specs.Json.{stream_arn}
use Rattle.alt_shape.specs.Refusals.{refused, not_found, change_records_trimmed}
use Rattle.alt_shape.specs.declared.refusal.Refusal.{Refusal}
use Rattle.alt_streams.specs.private.Named.{IsStreamOf}
use Rattle.alt_streams.specs.private.Paged.{iterator_at}
use Rattle.alt_streams.proofs.Reached.{known_at, stream_named, stream_stands}
use Rattle.alt_streams.proofs.Reaching.{something}
use Rattle.alt_request.specs.TablesOpeningTrimmed.{number_at}
use Rattle.alt_request.specs.TablesStands.{Stands, catalog_of, next_write_of_tables, trimmed_of}
use Rattle.alt_request.specs.TablesDeclaredTables.{Tables}

-- a GetShardIterator that its body refuses is refused so
pub iterator-refused : (s : State) (ms : Members) (r : Refusal)
    → first_answer (of_body ms) ≡ Some (refused r) → get_shard_iterator s ms ≡ refuses r
unfolding get_shard_iterator
iterator-refused s ms r e = stopped (of_body ms) _ (refused r) e

-- the answer with an iterator
abbrev pub gives : Iterator → Outcome
gives i = says (answers (codes "ShardIterator") (string (iterator_text i)))

-- behind the test whether it was trimmed
abbrev pub ends : State → Members → Table → Outcome
ends s ms t = unless_refused (refuse_if (is_trimmed t.trimmed (starts s ms)) change_records_trimmed ∷ [])
    (gives (record { arn = arn_in ms; from = starts s ms }))

-- behind the tests of the body it goes on with the stream of that name
pub iterator-on : (ms : Members) (arn : List ℕ) → arn ≡ arn_in ms → first_answer (of_body ms) ≡ None
    → (s : State) → get_shard_iterator s ms
    ≡ with_found (stream_at s arn) (ends s ms)
unfolding get_shard_iterator
iterator-on ms arn is free s = passed (of_body ms) _ free
    ∙ ap (λ a. with_found (stream_at s a) (ends s ms)) (sym is)

module _ (disk : DiskState) (tables : Tables) (ms : Members) (arn : List ℕ) (is : arn ≡ arn_in ms)
    (free : first_answer (of_body ms) ≡ None) (d : TableSchema)
    (found : IsStreamOf (catalog_of tables) arn (Some d)) (from : ℕ)
    (so : (s : State) → s.next_number ≡ next_write_of_tables tables → from ≡ starts s ms)
    (name : List ℕ) (own : name ≡ d.name) (number : ℕ)
    (known : number ≡ number_at name (trimmed_of tables)) where
  -- the table is reached, and so much of its changes was trimmed as is known
  reaches : (s : State) → Stands disk tables s
      → (t : Table) × (table_of_stream s arn ≡ Some t) × (t.description ≡ d)
      × (is_trimmed t.trimmed (starts s ms) ≡ is_trimmed number from)
  reaches s stands =
      let (t, there, one) = something (table_of_stream s arn) d
      (found s stands.valid (sym stands.catalog)) in
      let at : get s.tables name ≡ Some t =
      ap (get s.tables) (own ∙ sym (ap (λ (x : TableSchema). x.name) one))
      ∙ stream_stands s stands.valid arn t there in
      let told : number ≡ t.trimmed =
      known ∙ known_at s (trimmed_of tables) stands.trimmed name t at in (
        t,
        there,
        one,
        (λ i. is_trimmed (sym told i) (sym (so s (sym stands.number)) i)),
      )

  -- the iterator of the table's stream is given
  pub iterator-said : is_trimmed number from ≡ false → (s : State) → Stands disk tables s
      → get_shard_iterator s ms ≡ gives (iterator_at d from)
  iterator-said kept s stands =
      let (t, there, one, same) = reaches s stands in
      let named : arn_in ms ≡ stream_arn d.name d.number =
      sym is ∙ sym (stream_named s stands.valid arn t there).1
      ∙ ap (λ (x : TableSchema). stream_arn x.name x.number) one in
      iterator-on ms arn is free s
      ∙ found_some not_found (table_of_stream s arn) (ends s ms) t there
      ∙ ap (λ b. unless_refused (refuse_if b change_records_trimmed ∷ [])
      (gives (record { arn = arn_in ms; from = starts s ms }))) (same ∙ kept)
      ∙ (λ j. gives (record { arn = named j; from = sym (so s (sym stands.number)) j }))

  -- or it is refused, where what it would stand for was trimmed
  pub iterator-trimmed : is_trimmed number from ≡ true → (s : State) → Stands disk tables s
      → get_shard_iterator s ms ≡ refuses change_records_trimmed
  iterator-trimmed gone s stands =
      let (t, there, one, same) = reaches s stands in
      iterator-on ms arn is free s
      ∙ found_some not_found (table_of_stream s arn) (ends s ms) t there
      ∙ ap (λ b. unless_refused (refuse_if b change_records_trimmed ∷ [])
      (gives (record { arn = arn_in ms; from = starts s ms }))) (same ∙ gone)
