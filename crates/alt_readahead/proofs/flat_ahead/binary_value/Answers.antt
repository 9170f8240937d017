-- The value that is made of it.
use Rattle.alt_value.specs.Tree.{B_tree}
use Rattle.alt_codec.specs.Scalars.{binary_in}
use Rattle.alt_readahead.proofs.Payloads.{reads_made}
use Rattle.alt_readahead.proofs.flat_ahead.binary_value.Goals as goal

pub returns : goal.returns
returns c = record {
  value = λ depth. reads_made binary_in (λ x. B_tree x) depth c.args.reader.now
      c.binary_ahead.new.reader c.in_ok-bytes.bytes (c.in_ok-bytes.ensures.binary depth);
}
