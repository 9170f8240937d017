-- A member more is written; at the end all are.
use Rattle.std.proofs.Common.{◌∙◌, ap, [], ◌∷◌, ◌++◌, arith}
use Rattle.json.specs.Token.{Token}
use Rattle.std.proofs.lemmas.Result.{on_ok_weaker}
use Rattle.alt_base.proofs.Lists.{get-past}
use Rattle.serde_json.specs.Data.{string}
use Rattle.base64.specs.Engines.{standard}
use Rattle.base64.specs.GeneralPurpose.{encode_of}
use Rattle.alt_codec.proofs.Tokens.{element_more, array_whole, made_tokens}
use Rattle.alt_codec.proofs.text.write_byte_strings.Goals as goal
use Rattle.alt_codec.proofs.text.write_byte_strings.Goals.{else-loop-place-test, then-loop-place-test+in_default}

pub loop-place-preserved : goal.loop-place-preserved
loop-place-preserved c = record {
  written = element_more (λ b. string (encode_of standard b)) c.args.set.now
      c.loop-place.place c.in-Some.bytes.now _
      c.loop-place.out.tokens c.string.new.self.tokens c.in-Some.ensures.member
      c.loop-place.invariant.written
      (c.in_ok-string.ensures.ok ∙ ap (λ s. c.loop-place.out.tokens ++ Token.string s ∷ [])
      (c.as_str.ensures.value ∙ c.in_ok-text.ensures.text));
  before = c.in_ok-string.ensures.room.0 ∙ c.loop-place.invariant.before;
}

pub returns-clause-written : goal.returns-clause-written
returns-clause-written c = on_ok_weaker c.end_array_of_kind.result (λ e. array_whole
    (λ b. string (encode_of standard b)) c.args.set.now c.loop-place.place _
    c.args.out.now.tokens _ _
    c.loop-place.out.tokens c.end_array_of_kind.new.out.tokens _
    c.in_ok-begin_kind.ensures.written c.in_ok-begin_array.ensures.ok
    c.loop-place.invariant.written
    (elim c.loop-place-test.branch [
      | else-loop-place-test w ↦ omega (arith, c.len-place-end.ensures.count)
      | then-loop-place-test+in_default w ↦ get-past c.args.set.now c.loop-place.place
          w.in_default.ensures.member
    ])
    (made_tokens (encode_of standard) c.args.set.now) e) c.end_array_of_kind.ensures.written
