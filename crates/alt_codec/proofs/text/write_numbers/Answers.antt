-- A member more is written; at the end all are.
use Rattle.std.proofs.Common.{◌∙◌, arith}
use Rattle.std.proofs.lemmas.Result.{on_ok_weaker}
use Rattle.alt_base.proofs.Lists.{get-past}
use Rattle.serde_json.specs.Data.{string}
use Rattle.alt_decimal.specs.Printed.{printed}
use Rattle.alt_codec.proofs.Tokens.{element_more, array_whole, made_tokens}
use Rattle.alt_codec.proofs.text.write_numbers.Goals as goal
use Rattle.alt_codec.proofs.text.write_numbers.Goals.{else-loop-place-test, then-loop-place-test+in_default}

pub loop-place-preserved : goal.loop-place-preserved
loop-place-preserved c = record {
  written = element_more (λ z. string (printed z)) c.args.set.now
      c.loop-place.place c.in-Some.number _
      c.loop-place.out.tokens c.number_string.new.out.tokens c.in-Some.ensures.member
      c.loop-place.invariant.written c.in_ok-number_string.ensures.written;
  before = c.in_ok-number_string.ensures.before ∙ c.loop-place.invariant.before;
}

pub returns-clause-written : goal.returns-clause-written
returns-clause-written c = on_ok_weaker c.end_array_of_kind.result (λ e. array_whole
    (λ z. string (printed z)) c.args.set.now c.loop-place.place _
    c.args.out.now.tokens _ _
    c.loop-place.out.tokens c.end_array_of_kind.new.out.tokens _
    c.in_ok-begin_kind.ensures.written c.in_ok-begin_array.ensures.ok
    c.loop-place.invariant.written
    (elim c.loop-place-test.branch [
      | else-loop-place-test w ↦ omega (arith, c.len-place-end.ensures.count)
      | then-loop-place-test+in_default w ↦ get-past c.args.set.now c.loop-place.place
          w.in_default.ensures.member
    ])
    (made_tokens printed c.args.set.now) e) c.end_array_of_kind.ensures.written
