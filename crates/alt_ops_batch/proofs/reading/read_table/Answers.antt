-- What was taken of the table is put behind the others.
use Rattle.std.proofs.Common.{refl, ap, ◌∙◌, map}
use Rattle.serde_json.specs.View.{view, members_view}
use Rattle.alt_ops_batch.specs.private.Readings.{name_left}
use Rattle.alt_ops_batch.specs.declared.reading.Read.{Read}
use Rattle.alt_ops_batch.proofs.Taking.{table_read}
use Rattle.alt_ops_batch.proofs.reading.read_table.Goals as goal

pub returns-clause-read : goal.returns-clause-read
returns-clause-read g c s stands =
    let now : Read = record {
      size = c.take-taken.new.size;
      responses = c.push.new.self;
      unprocessed = c.put_left.new.unprocessed;
    } in
    table_read s c.args.read.now now c.args.reads c.in_ok-items.field-0 _
    (c.in_ok-items.ensures.taken s stands) refl refl c.in_ok-push.ensures.items
    (c.in_ok-put_left.ensures.put
    ∙ ap (λ name. name_left name (members_view c.args.reads.body.now.entries)
    (map view c.in_ok-items.field-0.left.items) (members_view c.args.read.now.unprocessed.entries))
    c.as_str.ensures.same)
