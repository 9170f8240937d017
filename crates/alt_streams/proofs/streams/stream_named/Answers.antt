-- The table whose name is cut out has that stream, or none has.
use Rattle.std.proofs.Common.{sym, ◌∙◌}
use Rattle.alt_streams.proofs.Naming.{stream_uncut, stream_missed, stream_other, stream_own}
use Rattle.alt_streams.proofs.streams.stream_named.Goals as goal
use Rattle.alt_request.specs.TablesStands.{catalog_of}

pub returns-in_default : goal.returns-in_default
returns-in_default c = record {
  named = stream_uncut (catalog_of c.args.tables.now) c.args.arn.now c.in_default.ensures;
}

pub returns-in_default-table : goal.returns-in_default-table
returns-in_default-table c = record {
  named = stream_missed (catalog_of c.args.tables.now) c.args.arn.now c.in-Some.name.now
      c.in-Some.ensures (sym c.in_default-table.ensures.table);
}

pub returns-then-branch : goal.returns-then-branch
returns-then-branch c = record {
  named = stream_own (catalog_of c.args.tables.now) c.args.arn.now c.in-Some.name.now
      c.in-Some.ensures c.in-Some-table.schema.now (sym c.in-Some-table.ensures.table)
      (sym c.in_ok-is_stream.ensures ∙ c.if-branch.true);
}

pub returns-else-branch : goal.returns-else-branch
returns-else-branch c = record {
  named = stream_other (catalog_of c.args.tables.now) c.args.arn.now c.in-Some.name.now
      c.in-Some.ensures c.in-Some-table.schema.now (sym c.in-Some-table.ensures.table)
      (sym c.in_ok-is_stream.ensures ∙ c.if-branch.false);
}
