-- What is asked of the page is what the request asks.
use Rattle.std.proofs.Common.{List, OnOk, subst}
use Rattle.std.specs.Prelude.{◌≤◌, ◌+◌}
use Rattle.serde_json.specs.Data.{Members}
use Rattle.serde_json.specs.View.{members_view}
use Rattle.alt_expr.specs.Pages.{Asked}
use Rattle.alt_machine.specs.Outcomes.{says}
use Rattle.alt_machine.specs.Sources.{index_at}
use Rattle.alt_machine.specs.Walks.{items_between}
use Rattle.alt_ops_query.proofs.Answering.{asked_is, page_asks}
use Rattle.alt_ops_query.specs.PageReads.{most_reads_of_page}
use Rattle.alt_request.specs.Carried.{FollowsOutcome}
use Rattle.alt_request.specs.TablesStands.{Stands, bounds_of}
use Rattle.alt_value.specs.Tree.{Pair}
use Rattle.alt_ops_query.proofs.pages.page_of_range.Goals as goal

pub returns-clause-does : goal.returns-clause-does
returns-clause-does g c s t stands at =
    let ms : Members = members_view c.args.body.now.entries in
    let i = index_at t.description c.args.index in
    let list : List (List Pair) =
    items_between t i c.args.range.from c.args.range.to c.args.forward in
    subst (λ o. FollowsOutcome (bounds_of c.args.tables.now).file
    (Stands (g.D.Disk.state c.page_of_ask.new.disk) c.page_of_ask.new.tables) s
    (says o) c.page_of_ask.result)
    (page_asks t.description i ms c.args.said list c.page_ask-ask.result c.page_ask-ask.ensures.asks
    c.requires.limit) (c.page_of_ask.ensures.does s t stands at)

pub returns-clause-reads : goal.returns-clause-reads
returns-clause-reads g c s t maps stands at has =
    let i = index_at t.description c.args.index in
    let list : List (List Pair) =
    items_between t i c.args.range.from c.args.range.to c.args.forward in
    subst (λ (asked : Asked). OnOk c.page_of_ask.result
    ((g.D.Disk.state c.page_of_ask.new.disk).reads ≤ (g.D.Disk.state c.args.disk.now).reads
    + most_reads_of_page t i c.args.forward c.args.range.from c.args.range.to asked list maps))
    (asked_is (members_view c.args.body.now.entries) c.args.said c.page_ask-ask.result
    c.page_ask-ask.ensures.asks c.requires.limit)
    (c.page_of_ask.ensures.reads s t maps stands at has)
