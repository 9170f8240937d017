use Rattle.std.proofs.Common.{ap, ◌∙◌, take}
use Rattle.std.specs.Int.{w64, from_be_bytes}
use Rattle.alt_keyorder.specs.Token.{token_of}
use Rattle.alt_keyorder.proofs.digest.token.Goals as goal

pub returns : goal.returns
unfolding token_of
returns c = record {
  token = c.first_eight.ensures
      ∙ ap (λ d. from_be_bytes w64 (take 8 d)) c.digest_of-digest.ensures;
}
