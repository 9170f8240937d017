-- Where the oldest change is known not to be too old, none is trimmed.
use Rattle.std.proofs.Common.{sym, ap, subst, ◌∙◌}
use Rattle.alt_rowchanges.specs.Trims.{IsKeptFrom, is_over_a_day_before}
use Rattle.alt_tables.proofs.TrimSteps.{kept_young}
use Rattle.alt_tables.proofs.tables.Tables.kept_from.Goals as goal

pub returns-in-Some-clause-kept : goal.returns-in-Some-clause-kept
returns-in-Some-clause-kept g c s t stands at =
    let (f, told, same, not) = c.in-Some.ensures in
    subst (λ o. IsKeptFrom c.args.moment t.trimmed t.changes (c.trimmed-before.result, o)) same
    (kept_young (g.D.Disk.state c.args.disk.now) c.args.self.now s c.args.table.now t stands at f
    (sym told) c.args.moment c.trimmed-before.result c.trimmed-before.ensures.trimmed
    (ap (λ o. is_over_a_day_before o c.args.moment) same ∙ not))
