-- The rows of the walk are those of the changes, and nothing else changed.
use Rattle.std.proofs.Common.{sym, ap, Err, ◌∙◌, List, take, map, rules}
use Rattle.std.proofs.lemmas.Result.{IfOk-weaker}
use Rattle.alt_changes.specs.ChangeRows.{change_in}
use Rattle.alt_machine.specs.Ops.GetRecords.{changes_from}
use Rattle.alt_machine.specs.State.{Change}
use Rattle.alt_tables.proofs.ChangePages.{first_kept, no_changes, page_changes, take_none}
use Rattle.alt_rowchanges.proofs.PageRows.{one_changes}
use Rattle.alt_tables.proofs.Looking.{fails_engine, fails_page, only_rows}
use Rattle.alt_tables.proofs.Standing.{there}
use Rattle.alt_tables.proofs.tables.Tables.changes.Goals as goal

pub returns-in-Ok-rows-clause-changes : goal.returns-in-Ok-rows-clause-changes
returns-in-Ok-rows-clause-changes g c s t stands at =
    IfOk-weaker c.read_changes.result _ _
    (λ changes are. one_changes c.rows.new.out.items (map change_in changes.items)
    (take c.args.most (changes_from c.args.from t.changes)) are
    (page_changes (g.D.Disk.state c.args.disk.now) c.args.self.now s c.args.table.now t
    c.in-Some.schema.now stands at (sym c.in-Some.ensures.table) c.in-Some-stream_family.family
    c.in-Some-stream_family.is c.args.from c.from_kept-from.result (search rules)
    (first_kept (g.D.Disk.state c.args.disk.now) c.args.self.now s c.args.table.now t
    c.in-Some.schema.now stands at (sym c.in-Some.ensures.table) c.args.from c.trimmed.result
    c.from_kept-from.result c.trimmed.ensures.trimmed c.from_kept-from.ensures) c.in-Ok.range.from
    c.in-Ok.range.to c.args.most
    c.in-Ok.ensures.from c.in-Ok.ensures.to c.new-page.result.items c.rows.new.out.items
    c.new-page.ensures.items c.in-Ok-rows.ensures.rows))
    c.read_changes.ensures.changes

pub returns-in-Ok-rows-clause-fails : goal.returns-in-Ok-rows-clause-fails
returns-in-Ok-rows-clause-fails g c = fails_page (g.D.Disk.state c.args.disk.now)
    (g.D.Disk.state c.rows.new.disk) c.args.self.now c.read_changes.result
    c.read_changes.ensures.unspent (λ s stands.
    let (t, at, same) = there (g.D.Disk.state c.args.disk.now) c.args.self.now s c.args.table.now
    c.in-Some.schema.now stands (sym c.in-Some.ensures.table) in
    c.read_changes.ensures.fault (take c.args.most (changes_from c.args.from t.changes))
    (page_changes (g.D.Disk.state c.args.disk.now) c.args.self.now s c.args.table.now t
    c.in-Some.schema.now stands at (sym c.in-Some.ensures.table) c.in-Some-stream_family.family
    c.in-Some-stream_family.is c.args.from c.from_kept-from.result (search rules)
    (first_kept (g.D.Disk.state c.args.disk.now) c.args.self.now s c.args.table.now t
    c.in-Some.schema.now stands at (sym c.in-Some.ensures.table) c.args.from c.trimmed.result
    c.from_kept-from.result c.trimmed.ensures.trimmed c.from_kept-from.ensures) c.in-Ok.range.from
    c.in-Ok.range.to c.args.most
    c.in-Ok.ensures.from c.in-Ok.ensures.to c.new-page.result.items c.rows.new.out.items
    c.new-page.ensures.items c.in-Ok-rows.ensures.rows)) c.read_changes.ensures.unfailed

pub returns-in-Ok-rows-clause-only : goal.returns-in-Ok-rows-clause-only
returns-in-Ok-rows-clause-only g c = only_rows (g.D.Disk.state c.args.disk.now)
    (g.D.Disk.state c.rows.new.disk) c.args.self.now c.rows.new.self c.rows.ensures.goes
    c.rows.ensures.quiet c.rows.ensures.same c.rows.ensures.next c.rows.ensures.bounds c.requires.ready

pub returns-clause-only : goal.returns-clause-only
returns-clause-only g c = only_rows (g.D.Disk.state c.args.disk.now)
    (g.D.Disk.state c.rows.new.disk) c.args.self.now c.rows.new.self c.rows.ensures.goes
    c.rows.ensures.quiet c.rows.ensures.same c.rows.ensures.next c.rows.ensures.bounds c.requires.ready

-- a table without a stream has no changes
pub returns-in_default-stream_family-clause-changes :
    goal.returns-in_default-stream_family-clause-changes
returns-in_default-stream_family-clause-changes g c s t stands at =
    ap (map change_in) c.new.ensures.items
    ∙ sym (ap (λ (changes : List Change). take c.args.most (changes_from c.args.from changes))
    (no_changes (g.D.Disk.state c.args.disk.now) c.args.self.now s c.args.table.now t
    c.in-Some.schema.now stands at (sym c.in-Some.ensures.table) c.in_default-stream_family.is)
    ∙ take_none c.args.most)

pub returns-clause-fails : goal.returns-clause-fails
returns-clause-fails g c = fails_engine (g.D.Disk.state c.args.disk.now)
    (g.D.Disk.state c.rows.new.disk) c.args.self.now c.in-Err.fault c.from.result c.from.ensures
    c.in-Err.ensures.unspent c.in-Err.ensures.undamaged
    (λ failed. c.in-Err.ensures.cause (ap (λ f. Err f) failed))
