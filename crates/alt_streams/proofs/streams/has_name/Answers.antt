-- The texts are compared byte by byte.
use Rattle.std.proofs.Common.{ap, ◌∙◌, List, ℕ}
use Rattle.std.specs.Str.{bytes_eq}
use Rattle.alt_schema.specs.Json.{stream_arn}
use Rattle.alt_streams.proofs.streams.has_name.Goals as goal

pub returns : goal.returns
returns c = c.eq.ensures ∙ ap (λ (s : List ℕ). bytes_eq s c.args.arn.now)
    (c.as_str-2.ensures.value ∙ c.in_ok-own.ensures.named
    ∙ ap (λ (n : List ℕ). stream_arn n c.args.schema.now.number) c.as_str.ensures.same)
