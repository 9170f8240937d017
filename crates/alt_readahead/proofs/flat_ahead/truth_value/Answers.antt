-- A truth value is read as itself.
use Rattle.alt_readahead.proofs.Payloads.{reads_truth}
use Rattle.alt_readahead.proofs.flat_ahead.truth_value.Goals as goal

pub returns : goal.returns
returns c = record {
  value = reads_truth c.args.reader.now c.truth.new.reader c.in_ok-truth.truth
      c.in_ok-truth.ensures.passed;
}
