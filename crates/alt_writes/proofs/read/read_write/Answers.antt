-- A write, and nothing behind it.
use Rattle.std.proofs.Common.{◌<◌, length, sym, ◌∙◌, arith, eqb-true}
use Rattle.std.proofs.lemmas.Bool.Decides.{nat_tests}
use Rattle.alt_writes.specs.Bytes.{write_bytes}
use Rattle.alt_writes.specs.Reading.{IsNoWrite, write_of}
use Rattle.alt_writes.proofs.ReadLaws.{none_map}
use Rattle.alt_writes.proofs.EntryReads.{none_whole, none_behind, whole}
use Rattle.alt_writes.proofs.read.read_write.Goals as goal

pub returns-in-Err-clause-none : goal.returns-in-Err-clause-none
returns-in-Err-clause-none c =
    none_map _ (IsNoWrite c.args.least c.args.bytes.now) c.in-Err.stop
    (none_whole c.args.least c.args.bytes.now) c.in-Err.ensures.none

pub returns-else-is_empty-clause-none : goal.returns-else-is_empty-clause-none
returns-else-is_empty-clause-none c =
    let some : 0 < length c.in-Ok.behind.now =
    grind (arith, nat_tests, c.is_empty.ensures, c.if-is_empty.false) in
    none_behind c.args.least c.args.bytes.now (write_of c.in-Ok.alone) c.in-Ok.behind.now
    c.in-Ok.ensures.held c.in-Ok.ensures.bytes some

pub returns-then-is_empty-clause-bytes : goal.returns-then-is_empty-clause-bytes
returns-then-is_empty-clause-bytes c =
    whole (write_bytes (write_of c.in-Ok.alone)) c.args.bytes.now c.in-Ok.behind.now
    c.in-Ok.ensures.bytes (eqb-true _ 0 (sym c.is_empty.ensures ∙ c.if-is_empty.true))
