-- The list isn't reached, or its page is answered.
use Rattle.std.proofs.Common.{◌≡◌, sym, subst, ◌∙◌, false, Ok, Err, option_map}
use Rattle.alt_base.proofs.Bools.{neither_second}
use Rattle.serde_json.specs.Data.{Members}
use Rattle.serde_json.specs.View.{members_view}
use Rattle.alt_machine.specs.Body.{paired_refusals}
use Rattle.alt_machine.specs.Expressions.{scanning}
use Rattle.alt_machine.specs.Lists.{is_mismatched}
use Rattle.alt_machine.specs.Members.{table_name}
use Rattle.alt_machine.specs.Ops.Scan.{rules, scan, scans, is_segment_odd}
use Rattle.alt_machine.specs.Sources.{index_at}
use Rattle.alt_ops_query.specs.private.Asked.{Segments}
use Rattle.alt_ops_query.specs.private.Tokens.{machine_segment}
use Rattle.alt_ops_query.proofs.Answering.{within_of}
use Rattle.alt_ops_query.proofs.Limited.{none_broken, none_mismatched, scan_limit}
use Rattle.alt_ops_query.proofs.PageReading.{scan_reads}
use Rattle.alt_ops_query.proofs.Whole.{scan_is, scan_done, scan_stopped, segments_unfailed}
use Rattle.alt_request.proofs.Listing.{list_passed, list_unfailed}
use Rattle.alt_request.proofs.Moving.{moves_stopped, moves_nothing, moves_reads}
use Rattle.alt_request.proofs.TablesLeft.{reads_nothing}
use Rattle.alt_request.specs.TablesStands.{Stands, catalog_of, bounds_of}
use Rattle.alt_ops_query.proofs.scanning.scan.Goals as goal

pub returns-in_err-target-clause-carried : goal.returns-in_err-target-clause-carried
returns-in_err-target-clause-carried g c =
    let ms : Members = members_view c.args.body.now.entries in
    list_passed (g.D.Disk.state c.args.disk.now) c.args.tables.now
    (paired_refusals c.scan-broken.result c.are_odd-mismatched.result rules ms) ms
    (λ s. scan s ms) scanning
    (λ s. scans ms)
    (scan_is ms c.scan-broken.result c.are_odd-mismatched.result c.scan-broken.ensures
    c.are_odd-mismatched.ensures.odd)
    (Stands (g.D.Disk.state c.args.disk.now) c.args.tables.now)
    c.from_residual.result c.in_err-target.field-0.0 c.from_residual.ensures
    c.in_err-target.ensures.target (λ s stands. stands)

pub returns-in_err-target-clause-moves : goal.returns-in_err-target-clause-moves
returns-in_err-target-clause-moves g c =
    let ms : Members = members_view c.args.body.now.entries in
    moves_stopped (λ s. scan s ms) c.args.tables.now (g.D.Disk.state c.args.disk.now)
    c.from_residual.result c.in_err-target.field-0.0 c.from_residual.ensures
    (list_unfailed _
    (paired_refusals c.scan-broken.result c.are_odd-mismatched.result rules ms) scanning
    (catalog_of c.args.tables.now) ms c.in_err-target.field-0.0 c.in_err-target.ensures.target)

pub page_of_range-requires-clause-limit : goal.page_of_range-requires-clause-limit
page_of_range-requires-clause-limit g c =
    let ms : Members = members_view c.args.body.now.entries in
    scan_limit ms
    (sym c.scan-broken.ensures
    ∙ none_broken c.scan-broken.result c.are_odd-mismatched.result rules ms
    c.in_ok-target.ensures.target.listed.body)

pub page_of_range-requires-clause-index : goal.page_of_range-requires-clause-index
page_of_range-requires-clause-index g c = within_of (catalog_of c.args.tables.now)
    (table_name (members_view c.args.body.now.entries)) c.in_ok-target.target.index
    c.in_ok-target.target.schema.now c.in_ok-target.ensures.target.there
    c.in_ok-target.ensures.index

pub returns-in-Ok-clause-carried : goal.returns-in-Ok-clause-carried
returns-in-Ok-clause-carried g c =
    let ms : Members = members_view c.args.body.now.entries in
    let odd : is_segment_odd ms ≡ false =
    neither_second (is_mismatched ms) (is_segment_odd ms) (sym c.are_odd-mismatched.ensures.odd
    ∙ none_mismatched c.scan-broken.result c.are_odd-mismatched.result rules ms
    c.in_ok-target.ensures.target.listed.body) in
    scan_done (bounds_of c.args.tables.now).file (g.D.Disk.state c.args.disk.now) c.args.tables.now
    (Stands (g.D.Disk.state c.page_of_range.new.disk) c.page_of_range.new.tables) ms
    c.in_ok-target.target c.in-Ok.range c.page_of_range.result c.page_of_range.ensures.plain
    c.in_ok-target.ensures.index
    c.scan-broken.result c.are_odd-mismatched.result c.scan-broken.ensures
    c.are_odd-mismatched.ensures.odd c.in_ok-target.ensures.target
    (subst (λ o. Segments c.in_ok-target.target.schema.now
    (index_at c.in_ok-target.target.schema.now c.in_ok-target.target.index) o
    c.in_ok-target.target.start (Ok c.in-Ok.range))
    (c.segment_of-segment.ensures.segment odd) c.in-Ok.ensures.segments)
    (λ s t stands at. c.page_of_range.ensures.does s t stands at)

pub returns-in-Ok-clause-moves : goal.returns-in-Ok-clause-moves
returns-in-Ok-clause-moves g c =
    moves_reads (λ s. scan s (members_view c.args.body.now.entries)) c.args.tables.now
    (g.D.Disk.state c.args.disk.now) (g.D.Disk.state c.page_of_range.new.disk)
    c.page_of_range.result c.page_of_range.ensures.disk c.page_of_range.ensures.failed

pub returns-clause-carried : goal.returns-clause-carried
returns-clause-carried g c =
    let ms : Members = members_view c.args.body.now.entries in
    let odd : is_segment_odd ms ≡ false = neither_second (is_mismatched ms) (is_segment_odd ms)
    (sym c.are_odd-mismatched.ensures.odd
    ∙ none_mismatched c.scan-broken.result c.are_odd-mismatched.result rules ms
    c.in_ok-target.ensures.target.listed.body) in
    scan_stopped (bounds_of c.args.tables.now).file (g.D.Disk.state c.args.disk.now) c.args.tables.now
    (Stands (g.D.Disk.state c.args.disk.now) c.args.tables.now) ms
    c.in_ok-target.target c.in-Err.stop (λ s stands. stands)
    c.scan-broken.result c.are_odd-mismatched.result c.scan-broken.ensures
    c.are_odd-mismatched.ensures.odd c.in_ok-target.ensures.target
    (subst (λ o. Segments c.in_ok-target.target.schema.now
    (index_at c.in_ok-target.target.schema.now c.in_ok-target.target.index) o
    c.in_ok-target.target.start (Err c.in-Err.stop))
    (c.segment_of-segment.ensures.segment odd) c.in-Err.ensures.segments)

pub returns-clause-moves : goal.returns-clause-moves
returns-clause-moves g c =
    moves_nothing (λ s. scan s (members_view c.args.body.now.entries)) c.args.tables.now
    (g.D.Disk.state c.args.disk.now) _
    (segments_unfailed _ c.in_ok-target.target.schema.now
    (index_at c.in_ok-target.target.schema.now c.in_ok-target.target.index)
    (option_map machine_segment c.segment_of-segment.result)
    c.in_ok-target.target.start c.in-Err.stop c.in-Err.ensures.segments)

pub returns-in_err-target-clause-disk : goal.returns-in_err-target-clause-disk
returns-in_err-target-clause-disk g c = reads_nothing (g.D.Disk.state c.args.disk.now)

pub returns-clause-disk : goal.returns-clause-disk
returns-clause-disk g c = reads_nothing (g.D.Disk.state c.args.disk.now)

pub returns-in-Ok-clause-reads : goal.returns-in-Ok-clause-reads
returns-in-Ok-clause-reads g c s stands =
    let ms : Members = members_view c.args.body.now.entries in
    let target = c.in_ok-target.target in
    let odd : is_segment_odd ms ≡ false =
    neither_second (is_mismatched ms) (is_segment_odd ms) (sym c.are_odd-mismatched.ensures.odd
    ∙ none_mismatched c.scan-broken.result c.are_odd-mismatched.result rules ms
    c.in_ok-target.ensures.target.listed.body) in
    scan_reads (g.D.Disk.state c.args.disk.now) (g.D.Disk.state c.page_of_range.new.disk)
    c.args.tables.now ms target c.in-Ok.range c.page_of_range.result s stands
    c.in_ok-target.ensures.index
    c.scan-broken.result c.are_odd-mismatched.result c.scan-broken.ensures
    c.are_odd-mismatched.ensures.odd c.in_ok-target.ensures.target
    (subst (λ o. Segments target.schema.now (index_at target.schema.now target.index) o
    target.start (Ok c.in-Ok.range)) (c.segment_of-segment.ensures.segment odd)
    c.in-Ok.ensures.segments)
    (λ t maps at. c.page_of_range.ensures.reads s t maps stands at)
