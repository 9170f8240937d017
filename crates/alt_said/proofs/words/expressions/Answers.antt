-- Members that update a key attribute, and texts that stop the request behind members.
use Rattle.std.proofs.Common.{◌∙◌, sym, arith}
use Rattle.serde_json.specs.View.{members_view}
use Rattle.alt_said.specs.Words.{given_of, texts_of}
use Rattle.alt_said.proofs.OlderSaid.{older_key, texts_unsaid}
use Rattle.alt_said.proofs.words.expressions.Goals as goal

pub returns-then-changes_key : goal.returns-then-changes_key
returns-then-changes_key c = record {
  said = (
    older_key (texts_of c.args.texts.now) c.args.schema.now
        (members_view c.args.body.now.entries) (given_of c.args.given) c.in_ok-older.older
        c.in_ok-older.ensures.said (sym c.changes_key.ensures.key ∙ c.if-changes_key.true),
    omega arith,
  );
}

pub returns-in-Err : goal.returns-in-Err
returns-in-Err c = record {
  said = texts_unsaid (texts_of c.args.texts.now) c.args.schema.now
      (members_view c.args.body.now.entries) (given_of c.args.given) c.in_ok-older.older
      c.in_ok-older.ensures.said (sym c.changes_key.ensures.key ∙ c.if-changes_key.false)
      c.in-Err.stop c.in-Err.ensures.said;
}
