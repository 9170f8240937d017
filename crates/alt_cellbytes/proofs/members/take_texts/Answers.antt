-- One member more.
use Rattle.alt_fields.specs.Field.{field}
use Rattle.alt_value.specs.Members.{text_order}
use Rattle.alt_value.proofs.Texts.{text_total}
use Rattle.alt_value.specs.Values.{IsText}
use Rattle.alt_cellbytes.proofs.OneMore.{one_more}
use Rattle.alt_cellbytes.proofs.members.take_texts.Goals as goal

pub loop-done-preserved : goal.loop-done-preserved
loop-done-preserved c =
    let m = one_more text_order text_total field IsText c.loop-done.set c.add.new.self
    c.in_ok-text.text.now c.loop-done._done c.args.bytes.now c.loop-done.rest.now
    c.in_ok-text.behind.now
    c.loop-done.invariant.count c.loop-done.invariant.members c.loop-done.invariant.bytes
    c.in_ok-text.ensures.text.0 c.in_ok-text.ensures.text.1 c.in_ok-text.ensures.text.2
    c.in_ok-add.ensures.ok in
    record { count = m.0; members = m.1; bytes = m.2 }
