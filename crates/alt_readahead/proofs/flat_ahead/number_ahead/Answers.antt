-- The number that the text reads as.
use Rattle.alt_readahead.proofs.Payloads.{reads_number}
use Rattle.alt_readahead.proofs.flat_ahead.number_ahead.Goals as goal

pub returns-in-Ok : goal.returns-in-Ok
returns-in-Ok c = record {
  number = reads_number c.args.reader.now c.text.new.reader c.in_ok-text.text.now
      c.as_bytes.result.now c.in-Ok.number c.in_ok-text.ensures.passed c.as_bytes.ensures.value
      c.in-Ok.ensures.reads;
}
