-- The text that was copied.
use Rattle.alt_readahead.proofs.Payloads.{reads_text}
use Rattle.alt_readahead.proofs.flat_ahead.text_ahead.Goals as goal

pub returns : goal.returns
returns c = record {
  text = reads_text c.args.reader.now c.text.new.reader c.in_ok-text.text.now c.in_ok-new.field-0
      c.in_ok-text.ensures.passed c.in_ok-new.ensures.copied;
}
