-- What is written, with what is left, is the whole.
use Rattle.std.proofs.Common.{◌≡◌, ◌++◌, drop}
use Rattle.serde_json.specs.Data.{string}
use Rattle.base64.specs.Engines.{standard}
use Rattle.base64.specs.GeneralPurpose.{encode_of}
use Rattle.alt_codec.proofs.Tokens.{elements_then_end}
use Rattle.alt_codec.proofs.text.write_byte_strings.Given as goal

abbrev pub invariant-loop-place : goal.invariant-loop-place
invariant-loop-place l = record {
  written : l.initial.out.tokens ++ elements_then_end (λ b. string (encode_of standard b)) l.set
      ≡ l.out.tokens
      ++ elements_then_end (λ b. string (encode_of standard b)) (drop l.place l.set);
  before : l.out.before ≡ l.initial.out.before;
}
