use Rattle.std.proofs.Common.{◌∙◌, ap}
use Rattle.alt_shell.specs.Log.{talks}
use Rattle.alt_tables.specs.Stands.{bounds_of}
use Rattle.alt_run.proofs.Trying.{trial_unsaid}
use Rattle.alt_run.proofs.Bringing.{summary_behind}
use Rattle.alt_run.proofs.trial.carry_out_trial.Goals as goal

pub returns-in-Ok-clause-tried : goal.returns-in-Ok-clause-tried
returns-in-Ok-clause-tried g c = λ s stands.
    let counted = c.in-Ok.ensures.counted s stands in
    c.tell.ensures.told (g.S.Disk.state c.args.shell.now) s c.args.seed c.requests.new.tables
    counted.0 (bounds_of c.args.tables.now).file counted.1 c.requests.ensures.goes counted.2

pub returns-in-Err-clause-tried : goal.returns-in-Err-clause-tried
returns-in-Err-clause-tried g c = λ s stands.
    let state = g.S.Disk.state in
    trial_unsaid (state c.args.shell.now) (state c.requests.new.disk) s c.args.seed c.args.count
    c.in-Err.fault (bounds_of c.args.tables.now).file c.requests.ensures.goes (c.in-Err.ensures.counted s stands)

pub tell-requires : goal.tell-requires
tell-requires g c =
    record { quiet = ap talks c.requests.ensures.goes.beside ∙ c.requires.quiet }

pub returns-in-Ok-clause-few : goal.returns-in-Ok-clause-few
returns-in-Ok-clause-few g c = λ some. c.tell.ensures.few _ (c.in-Ok.ensures.few some)

pub returns-in-Ok-clause-said : goal.returns-in-Ok-clause-said
returns-in-Ok-clause-said g c =
    let state = g.S.Disk.state in
    summary_behind c.args.count (state c.args.shell.now) (state c.requests.new.disk)
    (state c.tell.new.shell) c.requests.ensures.goes c.tell.result c.tell.ensures.said
