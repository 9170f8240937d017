-- One more table is read, and at the end all are.
use Rattle.std.proofs.Common.{List, ◌∷◌, sym, subst, arith}
use Rattle.std.proofs.lemmas.List.{nil_from_length}
use Rattle.std.specs.Vec.Iter.{into_iter_items}
use Rattle.alt_disk.specs.Disk.{DiskState}
use Rattle.alt_ops_batch.proofs.Taking.{AreRead, read_more}
use Rattle.alt_ops_batch.specs.declared.asked_reads.TableReads.{TableReads}
use Rattle.alt_request.proofs.TablesLooking.{only_then, ready_only}
use Rattle.alt_ops_batch.proofs.reading.read_all.Goals as goal

pub read_table-requires-clause-ready : goal.read_table-requires-clause-ready
read_table-requires-clause-ready g c = ready_only c.loop-reads.invariant.only c.requires.ready

pub loop-reads-preserved : goal.loop-reads-preserved
loop-reads-preserved g c =
    let before : DiskState = g.D.Disk.state c.args.disk.now in
    let mid : DiskState = g.D.Disk.state c.loop-reads.disk in
    let after : DiskState = g.D.Disk.state c.read_table.new.disk in
    let asked : List TableReads = c.args.asked.items in
    let rest : List TableReads = into_iter_items c.next.new.self in
    let so : AreRead before c.args.tables.now mid c.loop-reads.tables asked c.loop-reads.read
    (c.in-Some.reads ∷ rest) =
    subst (AreRead before c.args.tables.now mid c.loop-reads.tables asked c.loop-reads.read)
    c.in-Some.ensures.steps.0 c.loop-reads.invariant in
    read_more before mid after c.args.tables.now c.loop-reads.tables c.read_table.new.tables asked
    c.loop-reads.read c.read_table.new.read c.in-Some.reads rest so
    c.in_ok-read_table.ensures.only c.in_ok-read_table.ensures.bounded
    c.in_ok-read_table.ensures.plain c.in_ok-read_table.ensures.read

pub returns-in_err-read_table-clause-only : goal.returns-in_err-read_table-clause-only
returns-in_err-read_table-clause-only g c =
    only_then c.loop-reads.invariant.only c.read_table.ensures.only

pub returns-clause-read : goal.returns-clause-read
returns-clause-read g c s stands =
    sym ((subst (AreRead (g.D.Disk.state c.args.disk.now) c.args.tables.now
    (g.D.Disk.state c.loop-reads.disk) c.loop-reads.tables c.args.asked.items c.loop-reads.read)
    (nil_from_length (into_iter_items c.loop-reads.reads-iterator)
    (omega (arith, c.loop-reads.reads-iterator.rest.ok, c.in-None.ensures.steps.0)))
    c.loop-reads.invariant).so s stands)
