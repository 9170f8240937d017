-- The page that was filled is answered.
use Rattle.std.proofs.Common.{◌≡◌, [], subst, ◌∙◌}
use Rattle.alt_machine.specs.Changes.{record_size}
use Rattle.alt_machine.specs.Ops.GetRecords.{changes_from, records_page}
use Rattle.alt_schema.specs.declared.schema.TableSchema.{TableSchema}
use Rattle.alt_shape.specs.Refusals.{answer_of}
use Rattle.alt_streams.specs.private.Paged.{PageHasRecords, records_page_answer}
use Rattle.alt_streams.proofs.Filled.{page_records}
use Rattle.alt_streams.proofs.Pieces.{described}
use Rattle.alt_streams.proofs.records.page_at.Goals as goal

pub returns-in-Ok-clause-reply : goal.returns-in-Ok-clause-reply
returns-in-Ok-clause-reply g c s t shows stands at view =
    let d = t.description in
    let begun : PageHasRecords d shows c.args.most c.args.from c.new-page.result [] =
    c.new-page.ensures.read d shows in
    let filled : PageHasRecords d shows c.args.most c.args.from c.fill.new.page
    (records_page c.args.most (record_size d shows) (changes_from c.args.from t.changes)) =
    subst (λ n. PageHasRecords d shows c.args.most c.args.from c.fill.new.page
    (records_page c.args.most (record_size d shows) (changes_from n t.changes))) begun.next
    (c.in_ok-fill.ensures.filled s t shows c.args.most c.args.from stands at view begun) in
    let same = described (g.D.Disk.state c.args.disk.now) c.args.tables.now s stands
    c.args.table.now
    c.fill.new.tables c.fill.ensures.only.catalog c.in-Some.schema.now c.in-Some.ensures.table t at in
    subst (λ (x : TableSchema). answer_of c.in-Ok.reply ≡ records_page_answer x c.fill.new.page) same
    c.in-Ok.ensures.reply
    ∙ page_records d shows c.args.most c.args.from c.fill.new.page _ filled
