use Rattle.std.proofs.Common.{◌-◌, length, ap, ◌∙◌, arith}
use Rattle.std.specs.Prelude.{not}
use Rattle.alt_http.proofs.LastLine.{blank_at}
use Rattle.alt_http.proofs.resuming.is_filled.Goals as goal

pub returns-then-lines-size-ne13-clause-blank : goal.returns-then-lines-size-ne13-clause-blank
returns-then-lines-size-ne13-clause-blank c blank =
    let lines = c.args.lines.now in
    c.is_other.ensures ∙ ap not (blank_at lines (length lines - 2) blank (omega arith))

pub returns-then-size-ge3-clause-blank : goal.returns-then-size-ge3-clause-blank
returns-then-size-ge3-clause-blank c blank =
    let lines = c.args.lines.now in
    c.is_other-then-size-ge3.ensures ∙ ap not
    (blank_at lines (length lines - 3) blank (omega arith))
