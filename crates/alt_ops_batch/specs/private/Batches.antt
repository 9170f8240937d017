-- What a batch asks for, as the machine has it.
use Rattle.std.specs.Prelude.{ℕ, List, Result, Ok, Vec}
use Rattle.std.specs.Global.{Global}
use Rattle.std.specs.FinMap as map
use Rattle.serde_json.specs.Data.{Data, Members}
use Rattle.serde_json.specs.View.{view, members_view}
use Rattle.alt_expr.specs.Given.{Given}
use Rattle.alt_machine.specs.declared.BatchMember.{BatchMember}
use Rattle.alt_machine.specs.declared.PlacedMember.{PlacedMember}
use Rattle.alt_machine.specs.Batches.{elements_in}
use Rattle.alt_machine.specs.Expressions.{projecting, expressions}
use Rattle.alt_machine.specs.Ops.BatchGetItem.{KeyReads, Shown, keys_in}
use Rattle.alt_machine.specs.Ops.BatchWriteItem.{writes_asked}
use Rattle.alt_machine.specs.Refusals.{◌>>=◌, or_refused}
use Rattle.alt_machine.specs.State.{Texts}
use Rattle.alt_ops_batch.specs.declared.members.Inside.{Inside}
use Rattle.alt_ops_batch.specs.declared.members.Inside.TheVariants.{Writes, Keys}
use Rattle.alt_ops_batch.specs.declared.keys.KeysRead.{KeysRead}
use Rattle.alt_ops_batch.specs.declared.keys.KeysSaid.{KeysSaid}
use Rattle.alt_ops_batch.specs.declared.asked_reads.TableReads.{TableReads}
use Rattle.alt_ops_batch.specs.declared.asked_writes.Request.{Request}
use Rattle.alt_ops_batch.specs.private.Names.{ArePlain}
use Rattle.alt_request.specs.Steps.{Comes}
use Rattle.alt_request.specs.Words.{given_of}
use Rattle.alt_request.specs.declared.stop.Stop.{Stop}
use Rattle.alt_schema.specs.declared.schema.TableSchema.{TableSchema}
use Rattle.alt_shape.specs.Refusals.{Answer, not_found}

-- a write, with the name of its table
abbrev pub requested_write : Request → List ℕ × Data
requested_write r = (r.table.now, view r.value.now)

-- what a table is asked for: its writes, or its keys
abbrev pub inside_of : Inside → Data → List Data
inside_of Writes = elements_in
inside_of Keys = keys_in

-- the keys of a table and the names that are given
abbrev pub keys_read : KeysRead → KeyReads Given BatchMember
keys_read r = record {
  table = r.table;
  body = members_view r.body.now.entries;
  words = given_of r.given;
  keys = r.keys.items;
}

-- the keys of a table and what its projection shows
abbrev pub keys_said : KeysSaid → KeyReads Shown BatchMember
keys_said r = record {
  table = r.table;
  body = members_view r.body.now.entries;
  words = r.projection;
  keys = r.keys.items;
}

-- what the projection of a table shows
abbrev pub table_projection : Texts TableSchema → List ℕ → Members → Given → Result Shown Answer
table_projection catalog table body words = do
  d ← or_refused not_found (map.get catalog table)
  said ← expressions projecting d body words
  Ok said.projection

-- with their places
abbrev pub reads_of : TableReads → KeyReads Shown PlacedMember
reads_of r = record {
  table = r.table;
  body = members_view r.body.now.entries;
  words = r.projection;
  keys = r.keys.items;
}

-- no float stands among the names that are given for the projection of a table, or in its place
abbrev pub HasPlainNames : TableReads → Type 0
HasPlainNames r = ArePlain (members_view r.body.now.entries)

-- what came of the writes that a body asks for
abbrev pub AreAsked : Texts TableSchema → Members → Result (Vec PlacedMember Global) Stop → Type 0
AreAsked catalog ms asked = Comes (λ (v : Vec PlacedMember Global). v.items) (writes_asked catalog ms) asked
