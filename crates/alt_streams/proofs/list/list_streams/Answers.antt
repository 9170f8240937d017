-- The refusal, or the page.
use Rattle.std.proofs.Common.{sym, ap, subst, ◌∙◌, option_map}
use Rattle.serde_json.specs.Data.{Members}
use Rattle.serde_json.specs.View.{members_view}
use Rattle.alt_machine.specs.Ops.ListStreams.{list_streams}
use Rattle.alt_machine.specs.Outcomes.{says}
use Rattle.alt_machine.specs.State.{State}
use Rattle.alt_request.specs.Carried.{Carries}
use Rattle.alt_request.proofs.Carrying.{said}
use Rattle.alt_request.proofs.Moving.{moves_stopped, moves_nothing}
use Rattle.alt_request.proofs.Reaching.{err_is}
use Rattle.alt_streams.proofs.Answering.{are_named, asked_stops, asked_unfailed, list-page}
use Rattle.alt_streams.proofs.list.list_streams.Goals as goal
use Rattle.alt_request.specs.TablesStands.{Stands, catalog_of, bounds_of}

pub returns-in_err-start-clause-carried : goal.returns-in_err-start-clause-carried
returns-in_err-start-clause-carried g c =
    let ms : Members = members_view c.args.body.now.entries in
    let stands : State → Type 0 = Stands (g.D.Disk.state c.args.disk.now) c.args.tables.now in
    subst (Carries (bounds_of c.args.tables.now).file (λ s. list_streams s ms) stands stands)
    (sym (err_is c.from_residual.result c.in_err-start.field-0.0 c.from_residual.ensures))
    (asked_stops c.args.tables.now (g.D.Disk.state c.args.disk.now) stands ms
    c.in_err-start.field-0.0 c.in_err-start.ensures.asked (λ s h. h))

pub returns-in-Ok-clause-carried : goal.returns-in-Ok-clause-carried
returns-in-Ok-clause-carried g c =
    let ms : Members = members_view c.args.body.now.entries in
    let stands : State → Type 0 = Stands (g.D.Disk.state c.args.disk.now) c.args.tables.now in
    said (λ s. list_streams s ms) stands stands c.in-Ok.reply c.in-Ok.ensures.plain
    (λ s h.
    let asked = c.in_ok-start.ensures.asked s h.valid (sym h.catalog) in
    list-page s h.valid (catalog_of c.args.tables.now) (sym h.catalog) ms
    (option_map (λ d. d.now) c.in_ok-start.start) asked.0 asked.1
    ∙ ap says (sym (c.in-Ok.ensures.reply
    (are_named s h.valid (catalog_of c.args.tables.now) (sym h.catalog))))) (λ s h. h)

pub returns-in_err-start-clause-moves : goal.returns-in_err-start-clause-moves
returns-in_err-start-clause-moves g c =
    let ms : Members = members_view c.args.body.now.entries in
    moves_stopped (λ s. list_streams s ms) c.args.tables.now (g.D.Disk.state c.args.disk.now)
    c.from_residual.result c.in_err-start.field-0.0 c.from_residual.ensures
    (asked_unfailed _ c.args.tables.now ms c.in_err-start.field-0.0 c.in_err-start.ensures.asked)

pub returns-in-Ok-clause-moves : goal.returns-in-Ok-clause-moves
returns-in-Ok-clause-moves g c =
    moves_nothing (λ s. list_streams s (members_view c.args.body.now.entries)) c.args.tables.now
    (g.D.Disk.state c.args.disk.now) _ tt

pub returns-in-Err-clause-moves : goal.returns-in-Err-clause-moves
returns-in-Err-clause-moves g c =
    moves_nothing (λ s. list_streams s (members_view c.args.body.now.entries)) c.args.tables.now
    (g.D.Disk.state c.args.disk.now) _ tt
