-- A member more is written; past the last all are.
use Rattle.std.proofs.Common.{ap, ◌∙◌, ◌++◌}
use Rattle.alt_fields.specs.Field.{field}
use Rattle.alt_base.proofs.Prefixes.{on_err_holds}
use Rattle.alt_cellbytes.proofs.OneMore.{wrote_more, wrote_whole, begins}
use Rattle.alt_cellbytes.proofs.writing.put_each_text.Goals as goal

pub returns-in_err-put_bytes-clause-begun : goal.returns-in_err-put_bytes-clause-begun
returns-in_err-put_bytes-clause-begun c = on_err_holds c.from_residual.result
    (begins c.args.out.now.items _ c.loop-place.out.items c.put_bytes.new.out.items
    c.loop-place.invariant c.in_err-put_bytes.ensures.err)

pub loop-place-preserved : goal.loop-place-preserved
loop-place-preserved c = wrote_more field c.args.set.now c.loop-place.place c.in-Some.text.now
    c.args.out.now.items c.loop-place.out.items c.put_bytes.new.out.items c.loop-place.invariant
    c.in-Some.ensures.member (c.in_ok-put_bytes.ensures.ok
    ∙ ap (λ s. c.loop-place.out.items ++ field s) c.as_bytes.ensures.value)

pub returns-in_default-clause-appended : goal.returns-in_default-clause-appended
returns-in_default-clause-appended c = wrote_whole field c.args.set.now c.loop-place.place
    c.args.out.now.items c.loop-place.out.items c.loop-place.invariant c.in_default.ensures.member
