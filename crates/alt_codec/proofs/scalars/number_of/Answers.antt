-- The text reads as one number alone.
use Rattle.std.proofs.Common.{ap, sym, ◌∙◌}
use Rattle.alt_codec.specs.Scalars.{or_bad_number}
use Rattle.alt_codec.specs.Numbers.{number_of}
use Rattle.alt_codec.specs.Steps.{and_then}
use Rattle.alt_codec.proofs.Numbers.{reads-number_of}
use Rattle.alt_codec.proofs.scalars.number_of.Goals as goal

pub returns-in-Ok-clause-value : goal.returns-in-Ok-clause-value
returns-in-Ok-clause-value c =
    ap (and_then (λ s. or_bad_number (number_of s))) c.in_ok-text.ensures.value
    ∙ ap (λ s. or_bad_number (number_of s)) (sym c.as_bytes.ensures.value)
    ∙ ap or_bad_number (reads-number_of c.as_bytes.result.now _ c.in-Ok.ensures.reads)

pub returns-in-Err-clause-fault : goal.returns-in-Err-clause-fault
returns-in-Err-clause-fault c =
    ap (and_then (λ s. or_bad_number (number_of s))) c.in_ok-text.ensures.value
    ∙ ap (λ s. or_bad_number (number_of s)) (sym c.as_bytes.ensures.value)
    ∙ ap or_bad_number (reads-number_of c.as_bytes.result.now _ c.in-Err.ensures.reads)
