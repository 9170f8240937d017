-- What was there before stays in front.
use Rattle.alt_base.proofs.Prefixes.{prefix_trans, on_err_holds}
use Rattle.alt_schemabytes.proofs.format.put_each_name.Goals as goal

pub returns-in_err-put_text-clause-begun : goal.returns-in_err-put_text-clause-begun
returns-in_err-put_text-clause-begun c =
    on_err_holds c.from_residual.result
    (prefix_trans c.args.out.now.items c.loop-name.out.items c.put_text.new.out.items
    c.loop-name.invariant.begun c.in_err-put_text.ensures.begun)
