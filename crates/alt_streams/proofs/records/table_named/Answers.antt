-- The table is looked up under its own name.
use Rattle.std.proofs.Common.{refl, sym, ap, subst, ◌∙◌}
use Rattle.std.specs.FinMap as map
use Rattle.alt_request.proofs.Reaching.{err_is}
use Rattle.alt_streams.specs.private.Named.{IsStreamOf}
use Rattle.alt_streams.specs.private.Placed.{OnStreaming, has_stream}
use Rattle.alt_streams.proofs.Reached.{stop_named, streams_none, streams_so}
use Rattle.alt_streams.proofs.records.table_named.Goals as goal
use Rattle.alt_request.specs.TablesStands.{catalog_of}

pub returns-in_err-schema : goal.returns-in_err-schema
returns-in_err-schema c =
    let catalog = catalog_of c.args.tables.now in
    record {
      found = subst (OnStreaming catalog c.args.arn.now)
          (sym (err_is c.from_residual.result c.in_err-schema.field-0.0 c.from_residual.ensures))
          (stop_named catalog c.args.arn.now c.in_err-schema.field-0.0
          c.in_err-schema.ensures.found);
    }

pub returns-then-not-has_stream : goal.returns-then-not-has_stream
returns-then-not-has_stream c =
    let catalog = catalog_of c.args.tables.now in
    record {
      found = (
        refl,
        streams_none catalog c.args.arn.now c.in_ok-schema.schema.now
            c.in_ok-schema.ensures.found
            (ap (λ n. has_stream (map.get catalog n)) (sym c.as_str.ensures.same)
            ∙ sym c.has_stream.ensures ∙ c.if-not-has_stream.true),
      );
    }

pub returns : goal.returns
returns c =
    let catalog = catalog_of c.args.tables.now in
    let own = c.in_ok-new.ensures.copied ∙ c.as_str-2.ensures.same in
    record {
      found = (
        ap (λ n. has_stream (map.get catalog n)) (own ∙ sym c.as_str.ensures.same)
            ∙ sym c.has_stream.ensures ∙ c.if-not-has_stream.false,
        subst (λ n. IsStreamOf catalog c.args.arn.now (map.get catalog n)) (sym own)
            (streams_so catalog c.args.arn.now c.in_ok-schema.schema.now
            c.in_ok-schema.ensures.found),
      );
    }
