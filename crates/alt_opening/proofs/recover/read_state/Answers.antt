-- What was read makes a state, or a row is the first wrong one.
use Rattle.std.proofs.Common.{sym, subst, IsTrue}
use Rattle.alt_layout.specs.Layout.{ShowsFirst}
use Rattle.alt_opening.specs.private.Opening.{AllItemsRead, IsCatalog}
use Rattle.alt_opening.specs.Scans.{Walked}
use Rattle.alt_opening.proofs.FirstWrong.{beyond_wrong}
use Rattle.alt_opening.proofs.Recovering.{number_within}
use Rattle.alt_opening.proofs.Scanning.{walk_then, reads_on}
use Rattle.alt_opening.proofs.TableSteps.{device_fault}
use Rattle.alt_opening.proofs.DeviceFaults.{device_walk}
use Rattle.alt_opening.proofs.recover.read_state.Goals as goal

pub returns-in-Err-read_tables-clause-wrong : goal.returns-in-Err-read_tables-clause-wrong
returns-in-Err-read_tables-clause-wrong g c tells l reads =
    c.in-Err-read_tables.ensures.wrong
    (subst IsTrue (sym c.in-Ok.ensures.walked.goes.tells) tells) l c.in-Ok.opened.family
    (reads_on (g.D.Disk.state c.args.disk.now) (g.D.Disk.state c.read_catalog.new.disk)
    c.args.engine.now c.read_catalog.new.engine l c.in-Ok.ensures.walked tells reads)
    (c.in-Ok.ensures.read tells l reads)

pub returns-in-Ok-None-clause-read : goal.returns-in-Ok-None-clause-read
returns-in-Ok-None-clause-read g c tells l reads =
    let catalog : IsCatalog l c.in-Ok.opened.family c.in-Ok.opened.catalog =
    c.in-Ok.ensures.read tells l reads in
    let items : AllItemsRead l c.in-Ok.opened.catalog = c.in-Ok-read_tables.ensures.read
    (subst IsTrue (sym c.in-Ok.ensures.walked.goes.tells) tells) l c.in-Ok.opened.family
    (reads_on (g.D.Disk.state c.args.disk.now) (g.D.Disk.state c.read_catalog.new.disk)
    c.args.engine.now c.read_catalog.new.engine l c.in-Ok.ensures.walked tells reads) catalog in
    let both : Walked (g.D.Disk.state c.args.disk.now) (g.D.Disk.state c.read_tables.new.disk)
    c.args.engine.now c.read_tables.new.engine = walk_then (g.D.Disk.state c.args.disk.now)
    (g.D.Disk.state c.read_catalog.new.disk) (g.D.Disk.state c.read_tables.new.disk)
    c.args.engine.now c.read_catalog.new.engine c.read_tables.new.engine
    c.in-Ok.ensures.walked c.in-Ok-read_tables.ensures.walked in
    record {
      catalog = catalog;
      items = items;
      beyond = subst (ShowsFirst l c.in-Ok.opened.family) c.in-Ok-None.field-0-is
          (c.in-Ok-None.ensures.first (subst IsTrue (sym both.goes.tells) tells) l
          (reads_on (g.D.Disk.state c.args.disk.now) (g.D.Disk.state c.read_tables.new.disk)
          c.args.engine.now c.read_tables.new.engine l both tells reads));
    }

pub returns-in-Ok-None-clause-largest : goal.returns-in-Ok-None-clause-largest
returns-in-Ok-None-clause-largest g c tells l reads =
    c.in-Ok-read_tables.ensures.largest
    (subst IsTrue (sym c.in-Ok.ensures.walked.goes.tells) tells) l c.in-Ok.opened.family
    (reads_on (g.D.Disk.state c.args.disk.now) (g.D.Disk.state c.read_catalog.new.disk)
    c.args.engine.now c.read_catalog.new.engine l c.in-Ok.ensures.walked tells reads)
    (c.in-Ok.ensures.read tells l reads)

pub returns-in-Ok-Some-clause-wrong : goal.returns-in-Ok-Some-clause-wrong
returns-in-Ok-Some-clause-wrong g c tells l reads =
    let catalog : IsCatalog l c.in-Ok.opened.family c.in-Ok.opened.catalog =
    c.in-Ok.ensures.read tells l reads in
    let items : AllItemsRead l c.in-Ok.opened.catalog = c.in-Ok-read_tables.ensures.read
    (subst IsTrue (sym c.in-Ok.ensures.walked.goes.tells) tells) l c.in-Ok.opened.family
    (reads_on (g.D.Disk.state c.args.disk.now) (g.D.Disk.state c.read_catalog.new.disk)
    c.args.engine.now c.read_catalog.new.engine l c.in-Ok.ensures.walked tells reads) catalog in
    let both : Walked (g.D.Disk.state c.args.disk.now) (g.D.Disk.state c.read_tables.new.disk)
    c.args.engine.now c.read_tables.new.engine = walk_then (g.D.Disk.state c.args.disk.now)
    (g.D.Disk.state c.read_catalog.new.disk) (g.D.Disk.state c.read_tables.new.disk)
    c.args.engine.now c.read_catalog.new.engine c.read_tables.new.engine
    c.in-Ok.ensures.walked c.in-Ok-read_tables.ensures.walked in
    beyond_wrong l c.in-Ok.opened.family c.in-Ok.opened.catalog catalog
    (number_within (g.D.Disk.state c.args.disk.now) c.args.engine.now l reads) items
    c.in-Ok-Some.family c.in-Ok-Some.key
    (subst (ShowsFirst l c.in-Ok.opened.family) c.in-Ok-Some.field-0-is
    (c.in-Ok-Some.ensures.first (subst IsTrue (sym both.goes.tells) tells) l
    (reads_on (g.D.Disk.state c.args.disk.now) (g.D.Disk.state c.read_tables.new.disk)
    c.args.engine.now c.read_tables.new.engine l both tells reads)))

pub returns-in-Err-read_tables-clause-walked : goal.returns-in-Err-read_tables-clause-walked
returns-in-Err-read_tables-clause-walked g c =
    walk_then (g.D.Disk.state c.args.disk.now) (g.D.Disk.state c.read_catalog.new.disk)
    (g.D.Disk.state c.read_tables.new.disk) c.args.engine.now c.read_catalog.new.engine
    c.read_tables.new.engine c.read_catalog.ensures.walked c.read_tables.ensures.walked

pub returns-in-Ok-None-clause-walked : goal.returns-in-Ok-None-clause-walked
returns-in-Ok-None-clause-walked g c = walk_then (g.D.Disk.state c.args.disk.now)
    (g.D.Disk.state c.read_tables.new.disk) (g.D.Disk.state c.first_from.new.disk)
    c.args.engine.now c.read_tables.new.engine c.first_from.new.self
    (walk_then (g.D.Disk.state c.args.disk.now) (g.D.Disk.state c.read_catalog.new.disk)
    (g.D.Disk.state c.read_tables.new.disk) c.args.engine.now c.read_catalog.new.engine
    c.read_tables.new.engine c.read_catalog.ensures.walked c.read_tables.ensures.walked)
    (record {
      goes = c.first_from.ensures.goes;
      quiet = c.first_from.ensures.quiet;
      same = c.first_from.ensures.same;
      bounds = c.first_from.ensures.bounds;
    })

pub returns-in-Ok-Some-clause-walked : goal.returns-in-Ok-Some-clause-walked
returns-in-Ok-Some-clause-walked g c = walk_then (g.D.Disk.state c.args.disk.now)
    (g.D.Disk.state c.read_tables.new.disk) (g.D.Disk.state c.first_from.new.disk)
    c.args.engine.now c.read_tables.new.engine c.first_from.new.self
    (walk_then (g.D.Disk.state c.args.disk.now) (g.D.Disk.state c.read_catalog.new.disk)
    (g.D.Disk.state c.read_tables.new.disk) c.args.engine.now c.read_catalog.new.engine
    c.read_tables.new.engine c.read_catalog.ensures.walked c.read_tables.ensures.walked)
    (record {
      goes = c.first_from.ensures.goes;
      quiet = c.first_from.ensures.quiet;
      same = c.first_from.ensures.same;
      bounds = c.first_from.ensures.bounds;
    })

pub returns-in-Err-first_from-clause-walked : goal.returns-in-Err-first_from-clause-walked
returns-in-Err-first_from-clause-walked g c = walk_then (g.D.Disk.state c.args.disk.now)
    (g.D.Disk.state c.read_tables.new.disk) (g.D.Disk.state c.first_from.new.disk)
    c.args.engine.now c.read_tables.new.engine c.first_from.new.self
    (walk_then (g.D.Disk.state c.args.disk.now) (g.D.Disk.state c.read_catalog.new.disk)
    (g.D.Disk.state c.read_tables.new.disk) c.args.engine.now c.read_catalog.new.engine
    c.read_tables.new.engine c.read_catalog.ensures.walked c.read_tables.ensures.walked)
    (record {
      goes = c.first_from.ensures.goes;
      quiet = c.first_from.ensures.quiet;
      same = c.first_from.ensures.same;
      bounds = c.first_from.ensures.bounds;
    })

pub returns-in-Err-first_from-clause-wrong : goal.returns-in-Err-first_from-clause-wrong
returns-in-Err-first_from-clause-wrong g c tells l reads =
    let both : Walked (g.D.Disk.state c.args.disk.now) (g.D.Disk.state c.read_tables.new.disk)
    c.args.engine.now c.read_tables.new.engine =
    walk_then (g.D.Disk.state c.args.disk.now) (g.D.Disk.state c.read_catalog.new.disk)
    (g.D.Disk.state c.read_tables.new.disk) c.args.engine.now c.read_catalog.new.engine
    c.read_tables.new.engine c.read_catalog.ensures.walked c.read_tables.ensures.walked in
    device_fault l c.from.result (device_walk c.in-Err-first_from.fault c.from.result
    c.from.ensures (c.in-Err-first_from.ensures.undamaged
    (subst IsTrue (sym both.goes.tells) tells) l
    (reads_on (g.D.Disk.state c.args.disk.now) (g.D.Disk.state c.read_tables.new.disk)
    c.args.engine.now c.read_tables.new.engine l both tells reads)))
