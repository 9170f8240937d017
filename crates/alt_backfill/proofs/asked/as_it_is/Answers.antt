-- A definition of the body doesn't fit, or the description stays.
use Rattle.std.proofs.Common.{sym, ◌∙◌, arith}
use Rattle.serde_json.specs.View.{members_view}
use Rattle.alt_backfill.proofs.Tests.{staying_free, staying_is, staying_refused}
use Rattle.alt_backfill.proofs.asked.as_it_is.Goals as goal

pub returns-then-not-fits : goal.returns-then-not-fits
returns-then-not-fits c = record {
  asked = λ family. (
    omega arith,
    staying_refused c.args.schema.now (members_view c.args.body.now.entries)
        c.requires.none_comes c.requires.none_goes (sym c.if-not-fits.true ∙ c.in-Ok.ensures.fit),
  );
}

pub returns : goal.returns
returns c = record {
  asked = λ family. (
    staying_free c.args.schema.now (members_view c.args.body.now.entries) c.requires.none_comes
        c.requires.none_goes (sym c.if-not-fits.false ∙ c.in-Ok.ensures.fit),
    c.in-Ok-copied_schema.ensures.same ∙ staying_is c.args.schema.now (members_view c.args.body.now.entries)
        c.requires.none_comes c.requires.none_goes family,
    sym c.requires.none_acts,
  );
}
