-- A brace, the name of what is asked, what is said of it and a brace.
use Rattle.std.proofs.Common.{arith}
use Rattle.alt_readahead.specs.Batch.{alone}
use Rattle.alt_readahead.proofs.Batches.{reads_alone}
use Rattle.alt_readahead.proofs.batch.write_ahead.Goals as goal

pub returns : goal.returns
returns c =
    let reads = c.in_ok-write.ensures.write in
    let k = c.in_ok-request.request.now in
    record {
      write = (
        alone k reads.0,
        reads_alone c.args.depth c.args.reader.now c.open_object.new.reader c.name.new.reader
            c.request_ahead.new.reader c.close_object.new.reader k reads.0
            (omega (arith, c.requires)) c.in_ok-open_object.ensures.passed
            c.in_ok-request.ensures.passed reads.1 c.in_ok-close_object.ensures.passed,
        reads.2,
      );
    }
