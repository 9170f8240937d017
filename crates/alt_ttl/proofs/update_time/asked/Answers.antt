-- The table isn't reached, or that can't be done there, or it can.
use Rattle.std.proofs.Common.{sym, ◌∙◌, Ok, Err}
use Rattle.serde_json.specs.View.{members_view}
use Rattle.alt_request.specs.TablesStands.{catalog_of}
use Rattle.alt_ttl.proofs.Timing.{of_broken, time_barred, time_free, time_stopped}
use Rattle.alt_ttl.proofs.update_time.asked.Goals as goal

pub returns-in_err-schema : goal.returns-in_err-schema
returns-in_err-schema c = record {
  asked = time_stopped (catalog_of c.args.tables.now) (members_view c.args.body.now.entries)
      c.from_residual.result c.in_err-schema.field-0.0 c.from_residual.ensures
      (of_broken (catalog_of c.args.tables.now) (members_view c.args.body.now.entries)
      c.broken.result c.broken.ensures (Err c.in_err-schema.field-0.0)
      c.in_err-schema.ensures.target);
}

pub returns-then-is_barred : goal.returns-then-is_barred
returns-then-is_barred c = record {
  asked = time_barred (catalog_of c.args.tables.now) (members_view c.args.body.now.entries)
      (Unit {0}) c.in_ok-schema.schema
      (of_broken (catalog_of c.args.tables.now) (members_view c.args.body.now.entries)
      c.broken.result c.broken.ensures (Ok c.in_ok-schema.schema) c.in_ok-schema.ensures.target)
      (sym c.is_barred.ensures ∙ c.if-is_barred.true);
}

pub returns : goal.returns
returns c = record {
  asked = time_free (catalog_of c.args.tables.now) (members_view c.args.body.now.entries)
      c.in_ok-schema.schema
      (of_broken (catalog_of c.args.tables.now) (members_view c.args.body.now.entries)
      c.broken.result c.broken.ensures (Ok c.in_ok-schema.schema) c.in_ok-schema.ensures.target)
      (sym c.is_barred.ensures ∙ c.if-is_barred.false);
}
