-- What was printed is text, and reads as the number.
use Rattle.std.proofs.Common.{◌∙◌, sym, IsUtf8, subst, Ok}
use Rattle.alt_decimal.specs.Printed.{printed}
use Rattle.alt_codec.proofs.Ascii.{IsUtf8-printed}
use Rattle.alt_codec.proofs.Numbers.{reads-number_of}
use Rattle.alt_codec.proofs.writing.number_text.Goals as goal

pub returns-clause-text : goal.returns-clause-text
returns-clause-text c =
    c.in_ok-from_utf8_lossy.ensures.ok (subst IsUtf8 (sym c.print-len.ensures.text)
    (IsUtf8-printed c.args.number.now)) ∙ c.print-len.ensures.text

pub returns-clause-read_back : goal.returns-clause-read_back
returns-clause-read_back c = reads-number_of (printed c.args.number.now)
    (Ok c.args.number.now) c.print-len.ensures.denotes
