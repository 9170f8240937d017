-- The list isn't reached, or its page is answered.
use Rattle.std.proofs.Common.{sym, subst, ◌∙◌, ◌≤◌, ◌+◌, Ok, Err, OnOk}
use Rattle.serde_json.specs.Data.{Members}
use Rattle.serde_json.specs.View.{members_view}
use Rattle.alt_machine.specs.Body.{paired_refusals}
use Rattle.alt_machine.specs.Expressions.{querying}
use Rattle.alt_machine.specs.Lists.{page_asked, pages}
use Rattle.alt_machine.specs.Members.{table_name}
use Rattle.alt_machine.specs.Ops.Query.{rules, query, queries}
use Rattle.alt_machine.specs.Sources.{index_at}
use Rattle.alt_machine.specs.Walks.{items_between}
use Rattle.alt_ops_query.specs.PageReads.{most_reads_of_page}
use Rattle.alt_ops_query.specs.private.Asked.{IsRangeAskedOrRefused}
use Rattle.alt_ops_query.proofs.Answering.{within_of}
use Rattle.alt_ops_query.proofs.Limited.{none_broken, query_limit}
use Rattle.alt_ops_query.proofs.PageReading.{query_reads}
use Rattle.alt_ops_query.proofs.Whole.{query_is, query_done, query_stopped, asks_unfailed}
use Rattle.alt_request.proofs.Listing.{list_passed, list_unfailed}
use Rattle.alt_request.proofs.Moving.{moves_stopped, moves_nothing, moves_reads}
use Rattle.alt_request.specs.Carried.{FollowsOutcome}
use Rattle.alt_request.proofs.TablesLeft.{reads_nothing}
use Rattle.alt_request.specs.TablesReading.{HasRowFiles, family_read}
use Rattle.alt_request.specs.TablesStands.{Stands, catalog_of, bounds_of}
use Rattle.alt_ops_query.proofs.querying.query.Goals as goal

pub returns-in_err-target-clause-carried : goal.returns-in_err-target-clause-carried
returns-in_err-target-clause-carried g c =
    let ms : Members = members_view c.args.body.now.entries in
    list_passed (g.D.Disk.state c.args.disk.now) c.args.tables.now
    (paired_refusals c.query-broken.result c.is_mismatched-mismatched.result rules ms) ms
    (λ s. query s ms) querying
    (λ s. queries ms)
    (query_is ms c.query-broken.result c.is_mismatched-mismatched.result c.query-broken.ensures
    c.is_mismatched-mismatched.ensures)
    (Stands (g.D.Disk.state c.args.disk.now) c.args.tables.now)
    c.from_residual.result c.in_err-target.field-0.0 c.from_residual.ensures
    c.in_err-target.ensures.target (λ s stands. stands)

pub returns-in_err-target-clause-moves : goal.returns-in_err-target-clause-moves
returns-in_err-target-clause-moves g c =
    let ms : Members = members_view c.args.body.now.entries in
    moves_stopped (λ s. query s ms) c.args.tables.now (g.D.Disk.state c.args.disk.now)
    c.from_residual.result c.in_err-target.field-0.0 c.from_residual.ensures
    (list_unfailed _
    (paired_refusals c.query-broken.result c.is_mismatched-mismatched.result rules ms) querying
    (catalog_of c.args.tables.now) ms c.in_err-target.field-0.0 c.in_err-target.ensures.target)

pub page_of_range-requires-clause-limit : goal.page_of_range-requires-clause-limit
page_of_range-requires-clause-limit g c =
    let ms : Members = members_view c.args.body.now.entries in
    query_limit ms (sym c.query-broken.ensures
    ∙ none_broken c.query-broken.result c.is_mismatched-mismatched.result rules ms
    c.in_ok-target.ensures.target.listed.body)

pub page_of_range-requires-clause-index : goal.page_of_range-requires-clause-index
page_of_range-requires-clause-index g c = within_of (catalog_of c.args.tables.now)
    (table_name (members_view c.args.body.now.entries)) c.in_ok-target.target.index
    c.in_ok-target.target.schema.now c.in_ok-target.ensures.target.there
    c.in_ok-target.ensures.index

pub returns-in-Ok-clause-carried : goal.returns-in-Ok-clause-carried
returns-in-Ok-clause-carried g c =
    let ms : Members = members_view c.args.body.now.entries in
    query_done (bounds_of c.args.tables.now).file (g.D.Disk.state c.args.disk.now) c.args.tables.now
    (Stands (g.D.Disk.state c.page_of_range.new.disk) c.page_of_range.new.tables) ms
    c.in_ok-target.target c.in-Ok.range c.page_of_range.result c.page_of_range.ensures.plain
    c.in_ok-target.ensures.index
    c.query-broken.result c.is_mismatched-mismatched.result c.query-broken.ensures
    c.is_mismatched-mismatched.ensures c.in_ok-target.ensures.target
    (subst (λ b. IsRangeAskedOrRefused c.in_ok-target.target.schema.now
    (index_at c.in_ok-target.target.schema.now c.in_ok-target.target.index)
    c.in_ok-target.target.said.key_condition c.in_ok-target.target.start b (Ok c.in-Ok.range))
    c.goes_forward-forward.ensures
    c.in-Ok.ensures.asks)
    (λ s t stands at. subst (λ b. FollowsOutcome (bounds_of c.args.tables.now).file
    (Stands (g.D.Disk.state c.page_of_range.new.disk) c.page_of_range.new.tables) s
    (pages t.description (index_at t.description c.in_ok-target.target.index) ms
    c.in_ok-target.target.said (items_between t (index_at t.description c.in_ok-target.target.index)
    c.in-Ok.range.from c.in-Ok.range.to b)) c.page_of_range.result)
    c.goes_forward-forward.ensures (c.page_of_range.ensures.does s t stands at))

pub returns-in-Ok-clause-moves : goal.returns-in-Ok-clause-moves
returns-in-Ok-clause-moves g c =
    moves_reads (λ s. query s (members_view c.args.body.now.entries)) c.args.tables.now
    (g.D.Disk.state c.args.disk.now) (g.D.Disk.state c.page_of_range.new.disk)
    c.page_of_range.result c.page_of_range.ensures.disk c.page_of_range.ensures.failed

pub returns-clause-carried : goal.returns-clause-carried
returns-clause-carried g c =
    let ms : Members = members_view c.args.body.now.entries in
    query_stopped (bounds_of c.args.tables.now).file (g.D.Disk.state c.args.disk.now) c.args.tables.now
    (Stands (g.D.Disk.state c.args.disk.now) c.args.tables.now) ms
    c.in_ok-target.target c.in-Err.stop (λ s stands. stands)
    c.query-broken.result c.is_mismatched-mismatched.result c.query-broken.ensures
    c.is_mismatched-mismatched.ensures c.in_ok-target.ensures.target
    (subst (λ b. IsRangeAskedOrRefused c.in_ok-target.target.schema.now
    (index_at c.in_ok-target.target.schema.now c.in_ok-target.target.index)
    c.in_ok-target.target.said.key_condition c.in_ok-target.target.start b (Err c.in-Err.stop))
    c.goes_forward-forward.ensures
    c.in-Err.ensures.asks)

pub returns-clause-moves : goal.returns-clause-moves
returns-clause-moves g c =
    moves_nothing (λ s. query s (members_view c.args.body.now.entries)) c.args.tables.now
    (g.D.Disk.state c.args.disk.now) _
    (asks_unfailed _ c.in_ok-target.target.schema.now
    (index_at c.in_ok-target.target.schema.now c.in_ok-target.target.index)
    c.in_ok-target.target.said.key_condition c.in_ok-target.target.start
    c.goes_forward-forward.result c.in-Err.stop c.in-Err.ensures.asks)

pub returns-in_err-target-clause-disk : goal.returns-in_err-target-clause-disk
returns-in_err-target-clause-disk g c = reads_nothing (g.D.Disk.state c.args.disk.now)

pub returns-clause-disk : goal.returns-clause-disk
returns-clause-disk g c = reads_nothing (g.D.Disk.state c.args.disk.now)

pub returns-in-Ok-clause-reads : goal.returns-in-Ok-clause-reads
returns-in-Ok-clause-reads g c s stands =
    let a = g.D.Disk.state c.args.disk.now in
    let b = g.D.Disk.state c.page_of_range.new.disk in
    let ms : Members = members_view c.args.body.now.entries in
    let target = c.in_ok-target.target in
    query_reads a b c.args.tables.now ms target c.in-Ok.range c.page_of_range.result s stands
    c.in_ok-target.ensures.index
    c.query-broken.result c.is_mismatched-mismatched.result c.query-broken.ensures
    c.is_mismatched-mismatched.ensures c.in_ok-target.ensures.target
    (subst (λ b. IsRangeAskedOrRefused target.schema.now (index_at target.schema.now target.index)
    target.said.key_condition target.start b (Ok c.in-Ok.range)) c.goes_forward-forward.ensures
    c.in-Ok.ensures.asks)
    (λ t maps at. subst (λ forward.
    HasRowFiles a.file (family_read t.description (index_at t.description target.index)) maps
    → OnOk c.page_of_range.result (b.reads ≤ a.reads
    + most_reads_of_page t (index_at t.description target.index) forward c.in-Ok.range.from
    c.in-Ok.range.to (page_asked ms target.said)
    (items_between t (index_at t.description target.index) c.in-Ok.range.from c.in-Ok.range.to
    forward) maps)) c.goes_forward-forward.ensures
    (c.page_of_range.ensures.reads s t maps stands at))
