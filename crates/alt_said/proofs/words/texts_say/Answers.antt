-- The texts first, then whether the update changes a key attribute, and then whether each word stands in one of them.
use Rattle.std.proofs.Common.{sym, subst, ◌∙◌, arith}
use Rattle.serde_json.specs.Data.{Members}
use Rattle.serde_json.specs.View.{members_view}
use Rattle.alt_machine.specs.declared.Expressions.{Expressions}
use Rattle.alt_machine.specs.Expressions as machine
use Rattle.alt_said.proofs.Passed.{err_is}
use Rattle.alt_said.proofs.Said.{unsaid, said_key_update, said_unused, said_all}
use Rattle.alt_said.specs.Steps.{Comes}
use Rattle.alt_said.specs.Words.{given_of, texts_of}
use Rattle.alt_said.proofs.words.texts_say.Goals as goal

pub returns-in_err-said : goal.returns-in_err-said
returns-in_err-said c =
    let ms : Members = members_view c.args.body.now.entries in record {
      said = subst (λ r. Comes {X = Expressions} (λ e. e)
          (machine.texts_say (texts_of c.args.texts.now) c.args.schema.now ms
          (given_of c.args.given)) r)
          (sym (err_is c.from_residual.result c.in_err-said.field-0.0 c.from_residual.ensures))
          (unsaid (texts_of c.args.texts.now) c.args.schema.now ms (given_of c.args.given)
          c.in_err-said.field-0.0 c.in_err-said.ensures.stated);
    }

pub returns-then-changes_key : goal.returns-then-changes_key
returns-then-changes_key c =
    let ms : Members = members_view c.args.body.now.entries in record {
      said = (
        said_key_update (texts_of c.args.texts.now) c.args.schema.now ms c.args.given
            c.in_ok-said.said c.in_ok-said.ensures.stated
            (sym c.changes_key.ensures.key ∙ c.if-changes_key.true),
        omega arith,
      );
    }

pub returns-then-is_unused : goal.returns-then-is_unused
returns-then-is_unused c =
    let ms : Members = members_view c.args.body.now.entries in record {
      said = (
        said_unused (texts_of c.args.texts.now) c.args.schema.now ms c.args.given
            c.in_ok-said.said c.in_ok-said.ensures.stated c.requires.fresh
            c.all_stated.new.names c.all_stated.new.values c.in_ok-said.ensures.names
            c.in_ok-said.ensures.values c.in_ok-said.ensures.keeps_names
            c.in_ok-said.ensures.keeps_values
            (sym c.changes_key.ensures.key ∙ c.if-changes_key.false)
            (sym c.is_unused.ensures ∙ c.if-is_unused.true),
        omega arith,
      );
    }

pub returns : goal.returns
returns c =
    let ms : Members = members_view c.args.body.now.entries in record {
      said = said_all (texts_of c.args.texts.now) c.args.schema.now ms c.args.given
          c.in_ok-said.said c.in_ok-said.ensures.stated c.requires.fresh
          c.all_stated.new.names c.all_stated.new.values c.in_ok-said.ensures.names
          c.in_ok-said.ensures.values c.in_ok-said.ensures.keeps_names
          c.in_ok-said.ensures.keeps_values
          (sym c.changes_key.ensures.key ∙ c.if-changes_key.false)
          (sym c.is_unused.ensures ∙ c.if-is_unused.false);
    }
