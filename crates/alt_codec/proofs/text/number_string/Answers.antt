-- What was printed is text.
use Rattle.std.proofs.Common.{sym, IsUtf8, subst}
use Rattle.alt_codec.proofs.Ascii.{IsUtf8-printed}
use Rattle.alt_codec.proofs.text.number_string.Goals as goal

pub unreachable-requires : goal.unreachable-requires
unreachable-requires c = c.in_default.ensures.cases.0
    (subst IsUtf8 (sym c.print-len.ensures.text) (IsUtf8-printed c.args.number.now))
