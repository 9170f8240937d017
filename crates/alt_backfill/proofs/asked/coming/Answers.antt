-- The description with the index is refused, or another is being built, or nothing refuses it.
use Rattle.std.proofs.Common.{sym, subst, ◌∙◌, Err, arith}
use Rattle.serde_json.specs.View.{members_view}
use Rattle.alt_backfill.specs.private.Asked.{IsAskedOf}
use Rattle.alt_backfill.proofs.Tests.{coming_acts, coming_early, coming_free, coming_is, coming_refused}
use Rattle.alt_request.specs.declared.stop.Stop.{Stop}
use Rattle.alt_backfill.proofs.asked.coming.Goals as goal

pub returns-in-Err : goal.returns-in-Err
returns-in-Err c = record {
  asked = subst (λ (e : Stop). IsAskedOf c.args.schema.now (members_view c.args.body.now.entries)
      c.args.family (Err e)) (sym c.stop_of.ensures)
      (coming_refused c.args.schema.now (members_view c.args.body.now.entries) c.requires.single
      (members_view c.args.create.now.entries) c.requires.first c.args.family c.in-Err.fault
      c.in-Err.ensures.cause c.in-Err.ensures.known);
}

pub returns-then-is_building : goal.returns-then-is_building
returns-then-is_building c = record {
  asked = (
    omega arith,
    coming_early c.args.schema.now (members_view c.args.body.now.entries) c.requires.single
        (members_view c.args.create.now.entries) c.requires.first c.args.family
        c.in-Ok.ensures.taken (sym c.is_building.ensures ∙ c.if-is_building.true),
  );
}

pub returns : goal.returns
returns c = record {
  asked = (
    coming_free c.args.schema.now (members_view c.args.body.now.entries) c.requires.single
        (members_view c.args.create.now.entries) c.requires.first c.args.family
        c.in-Ok.ensures.taken (sym c.is_building.ensures ∙ c.if-is_building.false),
    c.in-Ok.ensures.described
        ∙ coming_is c.args.schema.now (members_view c.args.body.now.entries) c.requires.single
        (members_view c.args.create.now.entries) c.requires.first c.args.family,
    coming_acts c.args.schema.now (members_view c.args.body.now.entries) c.requires.single
        (members_view c.args.create.now.entries) c.requires.first c.args.family,
  );
}
