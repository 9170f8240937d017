-- An attribute more is written; past the last all are.
use Rattle.std.proofs.Common.{◌∙◌, ap, ◌++◌}
use Rattle.alt_cellbytes.specs.Places.{entry_bytes}
use Rattle.alt_cellbytes.proofs.OneMore.{wrote_entry, wrote_more, wrote_whole}
use Rattle.alt_fields.specs.Field.{field}
use Rattle.alt_value.specs.CellBytes.{cell_bytes}
use Rattle.alt_value.specs.Stands.{tree_of}
use Rattle.alt_changes.proofs.changes.put_attributes.Goals as goal

pub loop-place-preserved : goal.loop-place-preserved
loop-place-preserved c =
    wrote_more entry_bytes c.args.item.now c.loop-place.place
    (c.in-Some.name.now, tree_of c.in-Some.value.now) c.args.out.now.items
    c.loop-place.out.items c.bytes_of.new.out.items
    c.loop-place.invariant c.in-Some.ensures.pair
    (wrote_entry (field c.in-Some.name.now) (cell_bytes (tree_of c.in-Some.value.now))
    c.loop-place.out.items c.put_bytes.new.out.items c.bytes_of.new.out.items
    (c.in_ok-put_bytes.ensures.ok ∙ ap (λ s. c.loop-place.out.items ++ field s)
    c.as_bytes.ensures.value) c.in_ok-bytes_of.ensures.appended)

pub returns-in_default : goal.returns-in_default
returns-in_default c = wrote_whole entry_bytes c.args.item.now c.loop-place.place
    c.args.out.now.items c.loop-place.out.items c.loop-place.invariant c.in_default.ensures.pair
