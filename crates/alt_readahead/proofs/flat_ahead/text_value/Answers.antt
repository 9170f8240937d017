-- The value that is made of it.
use Rattle.alt_value.specs.Tree.{S_tree}
use Rattle.alt_codec.specs.Scalars.{text_in}
use Rattle.alt_readahead.proofs.Payloads.{reads_made}
use Rattle.alt_readahead.proofs.flat_ahead.text_value.Goals as goal

pub returns : goal.returns
returns c = record {
  value = λ depth. reads_made text_in (λ x. S_tree x) depth c.args.reader.now
      c.text_ahead.new.reader c.in_ok-text.text (c.in_ok-text.ensures.text depth);
}
