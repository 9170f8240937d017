-- Behind the last key of the rows that were taken are those that are left.
use Rattle.std.proofs.Common.{List, Option, Some, sym, ap, subst, ◌∙◌}
use Rattle.std.proofs.lemmas.Result.{on_ok_weaker}
use Rattle.std.specs.Prelude.{ℕ, true}
use Rattle.alt_cells.specs.Walks.{rows_from}
use Rattle.alt_compact.proofs.Behind.{next_key, rows_behind}
use Rattle.alt_compact.proofs.job.Job.start.Goals as goal

pub returns-in_ok-from-in-Some-clause-sought : goal.returns-in_ok-from-in-Some-clause-sought
returns-in_ok-from-in-Some-clause-sought g c t rows taken left h are at =
    on_ok_weaker c.seek.result
    (subst (g.S.RowSource.left (g.D.Disk.state c.seek.new.disk) c.seek.new.self)
    (ap (λ (k : List ℕ). rows_from rows (Some k) true)
    (c.as_slice.ensures.same ∙ c.in_ok-from-in-Some.ensures)
    ∙ ap (λ (o : Option (List ℕ)). rows_from rows (next_key o) true) (sym c.in-Some.is ∙ at)
    ∙ rows_behind rows taken left are))
    (c.seek.ensures.sought t rows h)

pub returns-in-None-clause-sought : goal.returns-in-None-clause-sought
returns-in-None-clause-sought g c t rows taken left h are at =
    on_ok_weaker c.seek-in-None.result
    (subst (g.S.RowSource.left (g.D.Disk.state c.seek-in-None.new.disk) c.seek-in-None.new.self)
    (ap (λ (o : Option (List ℕ)). rows_from rows (next_key o) true) (sym c.in-None.is ∙ at)
    ∙ rows_behind rows taken left are))
    (c.seek-in-None.ensures.sought t rows h)
