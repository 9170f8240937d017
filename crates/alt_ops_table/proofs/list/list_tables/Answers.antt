-- The refusal, or the page.
use Rattle.std.proofs.Common.{sym, ap, ◌∙◌, subst}
use Rattle.serde_json.specs.Data.{Members}
use Rattle.serde_json.specs.View.{members_view}
use Rattle.alt_machine.specs.Ops.ListTables.{of_body, list_tables}
use Rattle.alt_machine.specs.Outcomes.{says}
use Rattle.alt_request.specs.Carried.{Carries}
use Rattle.alt_request.proofs.Carrying.{said, untested}
use Rattle.alt_request.proofs.Moving.{moves_stopped, moves_nothing, tested_unfailed}
use Rattle.alt_request.proofs.Reaching.{err_is}
use Rattle.alt_request.specs.TablesStands.{Stands, catalog_of, bounds_of}
use Rattle.alt_ops_table.proofs.Listing.{list-refused, list-page}
use Rattle.alt_ops_table.proofs.list.list_tables.Goals as goal

pub returns-in_err-unfit-clause-carried : goal.returns-in_err-unfit-clause-carried
returns-in_err-unfit-clause-carried g c =
    let ms : Members = members_view c.args.body.now.entries in
    subst (Carries (bounds_of c.args.tables.now).file (λ s. list_tables s ms) (Stands
    (g.D.Disk.state c.args.disk.now) c.args.tables.now)
    (Stands (g.D.Disk.state c.args.disk.now) c.args.tables.now))
    (sym (err_is c.from_residual.result c.in_err-unfit.field-0.0 c.from_residual.ensures))
    (untested (λ s. list_tables s ms) (Stands (g.D.Disk.state c.args.disk.now) c.args.tables.now)
    (Stands (g.D.Disk.state c.args.disk.now) c.args.tables.now)
    (of_body ms) c.in_err-unfit.field-0.0 c.in_err-unfit.ensures.tested
    (λ s stands r e. list-refused s ms r e) (λ s stands. stands))

pub returns-in-Ok-clause-carried : goal.returns-in-Ok-clause-carried
returns-in-Ok-clause-carried g c =
    let ms : Members = members_view c.args.body.now.entries in
    said (λ s. list_tables s ms) (Stands (g.D.Disk.state c.args.disk.now) c.args.tables.now)
    (Stands (g.D.Disk.state c.args.disk.now) c.args.tables.now)
    c.in-Ok.reply c.in-Ok.ensures.plain
    (λ s stands. list-page s ms (catalog_of c.args.tables.now) stands.catalog
    c.in_ok-unfit.ensures.tested ∙ ap says (sym c.in-Ok.ensures.reply)) (λ s stands. stands)

pub returns-in_err-unfit-clause-moves : goal.returns-in_err-unfit-clause-moves
returns-in_err-unfit-clause-moves g c =
    let ms : Members = members_view c.args.body.now.entries in
    moves_stopped (λ s. list_tables s ms) c.args.tables.now (g.D.Disk.state c.args.disk.now)
    c.from_residual.result c.in_err-unfit.field-0.0 c.from_residual.ensures
    (tested_unfailed _ (of_body ms) c.in_err-unfit.field-0.0 c.in_err-unfit.ensures.tested)

pub returns-in-Ok-clause-moves : goal.returns-in-Ok-clause-moves
returns-in-Ok-clause-moves g c =
    moves_nothing (λ s. list_tables s (members_view c.args.body.now.entries)) c.args.tables.now
    (g.D.Disk.state c.args.disk.now) _ tt

pub returns-in-Err-clause-moves : goal.returns-in-Err-clause-moves
returns-in-Err-clause-moves g c =
    moves_nothing (λ s. list_tables s (members_view c.args.body.now.entries)) c.args.tables.now
    (g.D.Disk.state c.args.disk.now) _ tt
