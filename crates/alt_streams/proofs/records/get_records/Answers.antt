-- The place isn't reached, or the page there is answered.
use Rattle.std.proofs.Common.{sym, ap, ◌∙◌}
use Rattle.std.specs.FinMap as map
use Rattle.serde_json.specs.Data.{Members}
use Rattle.serde_json.specs.View.{members_view}
use Rattle.alt_machine.specs.Ops.GetRecords.{get_records}
use Rattle.alt_request.proofs.Carrying.{said, unfound}
use Rattle.alt_request.proofs.Moving.{failed_fault, moves_reads, moves_stopped}
use Rattle.alt_shape.specs.Refusals.{answer_of}
use Rattle.alt_shape.specs.declared.refusal.Reply.{Reply}
use Rattle.alt_streams.proofs.Placing.{place_passed, place_unfailed}
use Rattle.alt_streams.proofs.Reached.{records_told, stream_shows, stream_there}
use Rattle.alt_streams.proofs.records.get_records.Goals as goal
use Rattle.alt_request.proofs.TablesLeft.{reads_nothing}
use Rattle.alt_request.specs.TablesStands.{Stands, catalog_of}

pub returns-in_err-place-clause-carried : goal.returns-in_err-place-clause-carried
returns-in_err-place-clause-carried g c = place_passed (g.D.Disk.state c.args.disk.now)
    c.args.tables.now (members_view c.args.body.now.entries) c.from_residual.result
    c.in_err-place.field-0.0 c.from_residual.ensures c.in_err-place.ensures.place

pub returns-in_err-place-clause-moves : goal.returns-in_err-place-clause-moves
returns-in_err-place-clause-moves g c =
    let ms : Members = members_view c.args.body.now.entries in
    moves_stopped (λ s. get_records s ms) c.args.tables.now (g.D.Disk.state c.args.disk.now)
    c.from_residual.result c.in_err-place.field-0.0 c.from_residual.ensures
    (place_unfailed (g.D.Disk.state c.args.disk.now) c.args.tables.now ms _
    c.in_err-place.field-0.0 c.in_err-place.ensures.place)

pub page_at-requires-clause-there : goal.page_at-requires-clause-there
page_at-requires-clause-there g c =
    ap (map.contains_key (catalog_of c.args.tables.now)) c.as_str.ensures.same
    ∙ stream_there _ c.in_ok-place.ensures.place.stream

pub page_at-requires-clause-stream : goal.page_at-requires-clause-stream
page_at-requires-clause-stream g c d at = stream_shows _ d c.in_ok-place.ensures.place.stream
    (ap (map.get (catalog_of c.args.tables.now)) (sym c.as_str.ensures.same) ∙ at)

pub returns-in-Ok-clause-carried : goal.returns-in-Ok-clause-carried
returns-in-Ok-clause-carried g c =
    let ms : Members = members_view c.args.body.now.entries in
    said (λ s. get_records s ms) (Stands (g.D.Disk.state c.args.disk.now) c.args.tables.now)
    (Stands (g.D.Disk.state c.page_at.new.disk) c.page_at.new.tables)
    c.in-Ok.reply c.in-Ok.ensures.plain
    (records_told (g.D.Disk.state c.args.disk.now) c.args.tables.now ms c.in_ok-place.place
    c.in_ok-place.ensures.place c.page_length-most.result c.page_length-most.ensures
    (answer_of c.in-Ok.reply) (λ s t shows stands at view. c.in-Ok.ensures.reply s t shows stands
    (ap (map.get s.tables) c.as_str.ensures.same ∙ at) view))
    (λ s stands. (c.page_at.ensures.only.stays s).0 stands)

pub returns-in-Ok-clause-moves : goal.returns-in-Ok-clause-moves
returns-in-Ok-clause-moves g c =
    moves_reads (λ s. get_records s (members_view c.args.body.now.entries)) c.args.tables.now
    (g.D.Disk.state c.args.disk.now) (g.D.Disk.state c.page_at.new.disk) _
    c.page_at.ensures.only.disk tt

pub returns-clause-carried : goal.returns-clause-carried
returns-clause-carried g c =
    unfound (λ s. get_records s (members_view c.args.body.now.entries))
    (Stands (g.D.Disk.state c.args.disk.now) c.args.tables.now)
    (Stands (g.D.Disk.state c.page_at.new.disk) c.page_at.new.tables) c.in-Err.fault
    c.in-Err.ensures.fault (λ s stands. (c.page_at.ensures.only.stays s).0 stands)

pub returns-clause-moves : goal.returns-clause-moves
returns-clause-moves g c =
    moves_reads (λ s. get_records s (members_view c.args.body.now.entries)) c.args.tables.now
    (g.D.Disk.state c.args.disk.now) (g.D.Disk.state c.page_at.new.disk) _
    c.page_at.ensures.only.disk (failed_fault {A = Reply} c.in-Err.fault _ c.in-Err.ensures.cause)

pub returns-in_err-place-clause-disk : goal.returns-in_err-place-clause-disk
returns-in_err-place-clause-disk g c = reads_nothing (g.D.Disk.state c.args.disk.now)
