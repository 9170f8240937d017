-- The page that was filled is answered.
use Rattle.std.proofs.Common.{ap, ◌∙◌, List, option_map}
use Rattle.std.specs.FinMap as map
use Rattle.alt_base.proofs.Options.{on_ok_holds}
use Rattle.serde_json.specs.Data.{Members}
use Rattle.serde_json.specs.View.{members_view}
use Rattle.alt_machine.specs.Members.{table_name}
use Rattle.alt_machine.specs.State.{Table}
use Rattle.alt_machine.specs.Outcomes.{says}
use Rattle.alt_machine.specs.Sources.{index_at}
use Rattle.alt_machine.specs.Walks.{items_between}
use Rattle.alt_machine.proofs.Descriptions.{get-descriptions}
use Rattle.alt_ops_query.proofs.Answering.{page_does, does_fault, told_at}
use Rattle.alt_ops_query.specs.private.Paged.{answer_with}
use Rattle.alt_request.specs.TablesStands.{Stands, catalog_of, bounds_of}
use Rattle.alt_value.specs.Tree.{Pair}
use Rattle.alt_ops_query.proofs.pages.page_of_ask.Goals as goal

pub returns-clause-does : goal.returns-clause-does
returns-clause-does g c s t stands at =
    let ms : Members = members_view c.args.body.now.entries in
    let i = index_at t.description c.args.index in
    let list : List (List Pair) =
    items_between t i c.args.range.from c.args.range.to c.args.forward in
    let then = (c.fill.ensures.only.stays s).0 stands in
    let filled = c.in_ok-fill.ensures.filled s t c.args.ask stands
    (ap (map.get s.tables) c.table_name-name.ensures.name ∙ at)
    c.new-pager.ensures.offered in
    page_does (bounds_of c.args.tables.now).file
    (Stands (g.D.Disk.state c.fill.new.disk) c.fill.new.tables) s t.description i ms
    c.args.ask list c.fill.new.pager c.answered.result then filled c.requires.counts
    (told_at (catalog_of c.fill.new.tables) (table_name ms) c.args.index ms c.fill.new.pager
    c.answered.result
    t.description
    (ap (λ m. map.get m (table_name ms)) then.catalog ∙ get-descriptions s.tables (table_name ms)
    ∙ ap (option_map (λ (x : Table). x.description)) at) c.answered.ensures.reply)
    c.answered.ensures.plain c.answered.ensures.cause

pub returns-in_err-fill-clause-does : goal.returns-in_err-fill-clause-does
returns-in_err-fill-clause-does g c s t stands at =
    let ms : Members = members_view c.args.body.now.entries in
    let i = index_at t.description c.args.index in
    does_fault (bounds_of c.args.tables.now).file
    (Stands (g.D.Disk.state c.fill.new.disk) c.fill.new.tables) s
    (says (answer_with t.description i ms c.args.ask
    (items_between t i c.args.range.from c.args.range.to c.args.forward)))
    c.from_residual.result c.in_err-fill.field-0.0 c.from_residual.ensures
    (c.in_err-fill.ensures.fault s t c.args.ask stands
    (ap (map.get s.tables) c.table_name-name.ensures.name ∙ at)
    c.new-pager.ensures.offered) ((c.fill.ensures.only.stays s).0 stands)

pub returns-clause-reads : goal.returns-clause-reads
returns-clause-reads g c s t maps stands at has =
    on_ok_holds c.answered.result (c.in_ok-fill.ensures.reads s t c.args.ask maps stands
    (ap (map.get s.tables) c.table_name-name.ensures.name ∙ at)
    c.new-pager.ensures.offered has)
