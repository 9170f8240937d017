-- What was drawn, as the definitions see it.
use Rattle.alt_lines.specs.TrialTexts.{Draws}
use Rattle.alt_lines.specs.declared.requests.Drawn.{Drawn}

-- the four numbers
abbrev pub draws_of : Drawn → Draws
draws_of d = record { kind = d.kind; partition = d.partition; range = d.range; value = d.value }
