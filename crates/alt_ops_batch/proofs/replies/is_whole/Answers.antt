-- No keys are left, and the names rise.
use Rattle.std.proofs.Common.{refl, sym, subst, ◌∙◌}
use Rattle.std.specs.Prelude.{IsTrue}
use Rattle.alt_ops_batch.proofs.Tables.{all_rising, empty_members}
use Rattle.alt_ops_batch.proofs.replies.is_whole.Goals as goal

pub returns : goal.returns
returns c = record {
  whole = λ is. record {
    ordered = all_rising c.args.responses.now (sym c.rise.ensures ∙ is);
    empty = empty_members c.args.unprocessed.now.entries
        (c.is_empty.ensures.0 (subst IsTrue (sym c.if-not-is_empty.false) refl));
  };
}
