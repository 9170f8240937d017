-- The bytes that the text encodes.
use Rattle.std.proofs.Common.{◌∙◌, sym, ap, Ok}
use Rattle.alt_readahead.proofs.Payloads.{reads_binary}
use Rattle.alt_readahead.proofs.flat_ahead.binary_ahead.Goals as goal

pub returns-in-Ok : goal.returns-in-Ok
returns-in-Ok c = record {
  binary = reads_binary c.args.reader.now c.text.new.reader c.in_ok-text.text.now
      c.as_bytes.result.now c.from_vec.result c.in_ok-text.ensures.passed c.as_bytes.ensures.value
      (c.in-Ok.ensures.ok ∙ ap Ok (sym c.from_vec.ensures.same));
}
