-- A file with a late row, and one without.
use Rattle.std.proofs.Common.{◌<◌, ◌≤◌, subst}
use Rattle.std.specs.FinMap.{entries}
use Rattle.alt_disk.specs.Disk.{DiskState}
use Rattle.alt_recovery.proofs.OpenLaws.{reads_map, opened_early, opened_late}
use Rattle.alt_recovery.proofs.open.open_file.Goals as goal

pub returns-then-latest-flushed-clause-explained : goal.returns-then-latest-flushed-clause-explained
returns-then-latest-flushed-clause-explained g c told =
    let a : DiskState = g.D.Disk.state c.args.disk.now in
    let b : DiskState = g.D.Disk.state c.recover.new.disk in
    let found = c.in-Ok.ensures.reads told in
    let map = reads_map b c.in-Ok.file found.0 found.1 in
    opened_late a b c.args.f c.args.flushed c.in-Ok.file map c.in-Ok.ensures.file
    (c.recover.ensures.quiet told)
    (subst (λ n. c.args.flushed < n) (c.latest.ensures b (entries map.rows) map.reads)
    c.if-latest-flushed.true)

pub returns-clause-ok : goal.returns-clause-ok
returns-clause-ok g c told =
    let b : DiskState = g.D.Disk.state c.recover.new.disk in
    let found = c.in-Ok.ensures.reads told in
    let map = reads_map b c.in-Ok.file found.0 found.1 in
    opened_early b c.args.f c.args.flushed c.in-Ok.file map c.in-Ok.ensures.file
    (subst (λ n. n ≤ c.args.flushed) (c.latest.ensures b (entries map.rows) map.reads)
    c.if-latest-flushed.false)
