-- What is covered from a later moment on was covered before.
use Rattle.std.proofs.Common.{sym}
use Rattle.std.proofs.lemmas.Bool.{and_from}
use Rattle.std.specs.Prelude.{◌&&◌}
use Rattle.std.specs.Cmp.{first_so, second_so}
use Rattle.std.specs.Ordering.{is_le, is_lt, nat_cmp}
use Rattle.alt_due.specs.Due.{is_before, suffices_at}
use Rattle.alt_due.proofs.Known.{later_within}
use Rattle.alt_due.proofs.due.Due.advance.Goals as goal

pub returns-in-Ok-clause-keeps : goal.returns-in-Ok-clause-keeps
returns-in-Ok-clause-keeps c moment spot known =
    let due = c.args.self.now in
    let now = c.args.moment in
    let early = is_le (nat_cmp now moment) in
    let late = is_lt (nat_cmp moment due.until) in
    let before = is_before due.end spot in
    let since = first_so (is_le (nat_cmp due.since now)) (is_lt (nat_cmp now due.until))
    (sym c.if-not-covers.ensures) in
    c.in-Ok.ensures.keeps moment spot (λ covered.
    let within = first_so (early && late) before covered in
    known (and_from (suffices_at due moment) before (and_from (is_le (nat_cmp due.since moment)) late
    (later_within due.since now moment since (first_so early late within))
    (second_so early late within)) (second_so (early && late) before covered)))
