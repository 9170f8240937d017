-- One index more; what was there before stays in front.
use Rattle.alt_schemabytes.specs.Format.{index_bytes}
use Rattle.alt_base.proofs.Prefixes.{prefix_trans, on_err_holds}
use Rattle.alt_schemabytes.proofs.Pieces.{one_more}
use Rattle.alt_schemabytes.proofs.format.put_each_index.Goals as goal

pub loop-index-preserved : goal.loop-index-preserved
loop-index-preserved c = record {
  together =
      one_more index_bytes c.args.indexes.now c.loop-index.index-index c.index-item.result
      c.loop-index.out.items c.put_index.new.out.items _
      c.loop-index-test.true c.index-item.is c.in_ok-put_index.ensures.appended
      c.loop-index.invariant.together;
  begun = prefix_trans c.args.out.now.items c.loop-index.out.items c.put_index.new.out.items
      c.loop-index.invariant.begun (_, c.in_ok-put_index.ensures.appended);
}

pub returns-in_err-put_index-clause-begun : goal.returns-in_err-put_index-clause-begun
returns-in_err-put_index-clause-begun c =
    on_err_holds c.from_residual.result
    (prefix_trans c.args.out.now.items c.loop-index.out.items c.put_index.new.out.items
    c.loop-index.invariant.begun c.in_err-put_index.ensures.begun)
