-- The count and the writes, and nothing behind them.
use Rattle.std.proofs.Common.{◌<◌, length, sym, ◌∙◌, arith, eqb-true}
use Rattle.std.proofs.lemmas.Bool.Decides.{nat_tests}
use Rattle.std.proofs.lemmas.Result.{err_from_is_err_and}
use Rattle.alt_writes.specs.Reading.{IsNoGroup, writes_of}
use Rattle.alt_writes.proofs.ReadLaws.{none_map}
use Rattle.alt_writes.proofs.EntryReads.{no_group-count, no_group-empty, no_group-writes, no_group-behind, group_read}
use Rattle.alt_writes.proofs.read.read_group.Goals as goal

pub returns-in_err-count-clause-none : goal.returns-in_err-count-clause-none
returns-in_err-count-clause-none c =
    let p = err_from_is_err_and c.from_residual.result
    c.from_residual.ensures.1 in
    rw (p.1, p.2) (none_map _ (IsNoGroup c.args.least c.args.bytes.now) c.in_err-count.field-0.0
    (no_group-count c.args.least c.args.bytes.now) c.in_err-count.ensures.none)

pub returns-then-count-eq0-clause-none : goal.returns-then-count-eq0-clause-none
returns-then-count-eq0-clause-none c =
    let count = c.in_ok-count.ensures.number in
    no_group-empty c.args.least c.args.bytes.now c.in_ok-count.count c.in_ok-count.rest.now
    count.0 count.1 c.if-count-eq0.true

pub returns-in-Err-clause-none : goal.returns-in-Err-clause-none
returns-in-Err-clause-none c =
    let count = c.in_ok-count.ensures.number in
    none_map _ (IsNoGroup c.args.least c.args.bytes.now) c.in-Err.stop
    (no_group-writes c.args.least c.args.bytes.now c.in_ok-count.count c.in_ok-count.rest.now
    count.0 count.1) c.in-Err.ensures.none

pub returns-else-is_empty-clause-none : goal.returns-else-is_empty-clause-none
returns-else-is_empty-clause-none c =
    let count = c.in_ok-count.ensures.number in
    let some : 0 < length c.in-Ok.behind.now =
    grind (arith, nat_tests, c.is_empty.ensures, c.if-is_empty.false) in
    no_group-behind c.args.least c.args.bytes.now c.in_ok-count.count c.in_ok-count.rest.now
    count.0 count.1 (writes_of c.in-Ok.reads.items) c.in-Ok.behind.now c.in-Ok.ensures.held.0
    c.in-Ok.ensures.held.1 c.in-Ok.ensures.bytes some

pub returns-then-is_empty-clause-held : goal.returns-then-is_empty-clause-held
returns-then-is_empty-clause-held c =
    let count = c.in_ok-count.ensures.number in
    record {
      some = omega (arith, c.in-Ok.ensures.held.0, c.if-count-eq0.false);
      count = omega (arith, c.in-Ok.ensures.held.0, count.0);
      writes = c.in-Ok.ensures.held.1;
    }

pub returns-then-is_empty-clause-bytes : goal.returns-then-is_empty-clause-bytes
returns-then-is_empty-clause-bytes c =
    let count = c.in_ok-count.ensures.number in
    group_read c.args.least c.args.bytes.now c.in_ok-count.count c.in_ok-count.rest.now
    count.0 count.1 (writes_of c.in-Ok.reads.items) c.in-Ok.behind.now c.in-Ok.ensures.held.0
    c.in-Ok.ensures.bytes (eqb-true _ 0 (sym c.is_empty.ensures ∙ c.if-is_empty.true))
