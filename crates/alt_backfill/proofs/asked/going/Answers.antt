-- There is none of its name, or the description without it is refused, or nothing refuses it.
use Rattle.std.proofs.Common.{◌≡◌, sym, ap, subst, ◌∙◌, Err, None, arith, ℕ, List, false}
use Rattle.serde_json.specs.View.{members_view}
use Rattle.alt_backfill.specs.private.Asked.{IsAskedOf}
use Rattle.alt_backfill.proofs.Tests.{going_acts, going_free, going_is, going_missed, going_refused}
use Rattle.alt_request.specs.declared.stop.Stop.{Stop}
use Rattle.alt_schema.specs.Altered.{IsFaultOf, is_none_of, refused_without, without_index}
use Rattle.alt_schema.specs.Stated.{definitions_of}
use Rattle.alt_backfill.proofs.asked.going.Goals as goal

pub returns-then-is_none_of : goal.returns-then-is_none_of
returns-then-is_none_of c = record {
  asked = λ family. (
    omega arith,
    going_missed c.args.schema.now (members_view c.args.body.now.entries) c.requires.single
        (members_view c.args.gone.now.entries) c.requires.none c.requires.first
        (ap (is_none_of c.args.schema.now) (sym c.index_name-name.ensures)
        ∙ sym c.is_none_of.ensures ∙ c.if-is_none_of.true),
  );
}

pub returns-in-Err : goal.returns-in-Err
returns-in-Err c = record {
  asked = λ family. subst (λ (e : Stop). IsAskedOf c.args.schema.now
      (members_view c.args.body.now.entries) family (Err e)) (sym c.stop_of.ensures)
      (going_refused c.args.schema.now (members_view c.args.body.now.entries) c.requires.single
      (members_view c.args.gone.now.entries) c.requires.none c.requires.first
      (ap (is_none_of c.args.schema.now) (sym c.index_name-name.ensures)
      ∙ sym c.is_none_of.ensures ∙ c.if-is_none_of.false) c.in-Err.fault
      (subst (λ (n : List ℕ). IsFaultOf (refused_without c.args.schema.now
      (definitions_of (members_view c.args.body.now.entries)) n) c.in-Err.fault)
      c.index_name-name.ensures c.in-Err.ensures.cause) c.in-Err.ensures.known family);
}

pub returns : goal.returns
returns c = record {
  asked = λ family. (
    going_free c.args.schema.now (members_view c.args.body.now.entries) c.requires.single
        (members_view c.args.gone.now.entries) c.requires.none c.requires.first
        (ap (is_none_of c.args.schema.now) (sym c.index_name-name.ensures)
        ∙ sym c.is_none_of.ensures ∙ c.if-is_none_of.false)
        (subst (λ (n : List ℕ). refused_without c.args.schema.now
        (definitions_of (members_view c.args.body.now.entries)) n ≡ None)
        c.index_name-name.ensures c.in-Ok.ensures.taken),
    c.in-Ok.ensures.described ∙ ap (without_index c.args.schema.now) c.index_name-name.ensures
        ∙ going_is c.args.schema.now (members_view c.args.body.now.entries) c.requires.single
        (members_view c.args.gone.now.entries) c.requires.none c.requires.first family,
    going_acts c.args.schema.now (members_view c.args.body.now.entries) c.requires.single
        (members_view c.args.gone.now.entries) c.requires.none c.requires.first,
  );
}
