-- A member more is written; at the end all are.
use Rattle.std.proofs.Common.{◌∙◌, arith}
use Rattle.std.proofs.lemmas.Result.{on_ok_weaker}
use Rattle.alt_base.proofs.Lists.{get-past}
use Rattle.serde_json.specs.Data.{string}
use Rattle.alt_codec.proofs.Tokens.{element_more, array_whole, texts_tokens}
use Rattle.alt_codec.proofs.text.write_texts.Goals as goal
use Rattle.alt_codec.proofs.text.write_texts.Goals.{else-loop-place-test, then-loop-place-test+in_default}

pub loop-place-preserved : goal.loop-place-preserved
loop-place-preserved c = record {
  written = element_more (λ s. string s) c.args.set.now
      c.loop-place.place c.in-Some.text.now _
      c.loop-place.out.tokens c.string.new.self.tokens c.in-Some.ensures.member
      c.loop-place.invariant.written c.in_ok-string.ensures.ok;
  before = c.in_ok-string.ensures.room.0 ∙ c.loop-place.invariant.before;
}

pub returns-clause-written : goal.returns-clause-written
returns-clause-written c = on_ok_weaker c.end_array_of_kind.result (λ e. array_whole
    (λ s. string s) c.args.set.now c.loop-place.place _
    c.args.out.now.tokens _ _
    c.loop-place.out.tokens c.end_array_of_kind.new.out.tokens _
    c.in_ok-begin_kind.ensures.written c.in_ok-begin_array.ensures.ok
    c.loop-place.invariant.written
    (elim c.loop-place-test.branch [
      | else-loop-place-test w ↦ omega (arith, c.len-place-end.ensures.count)
      | then-loop-place-test+in_default w ↦ get-past c.args.set.now c.loop-place.place
          w.in_default.ensures.member
    ])
    (texts_tokens c.args.set.now) e) c.end_array_of_kind.ensures.written
