use Rattle.std.proofs.Common.{◌∙◌, ap, inl}
use Rattle.alt_disk.proofs.Runs.{tells_of, trusted_back}
use Rattle.alt_shell.specs.Log.{talks}
use Rattle.alt_run.proofs.Opening.{opening_of, opened_result}
use Rattle.alt_run.proofs.Bringing.{opened_after, within_opened, within_opening}
use Rattle.alt_run.proofs.running.over_store.Goals as goal

pub returns-in-Err-clause-done : goal.returns-in-Err-clause-done
returns-in-Err-clause-done g c = λ trusted.
    let state = g.S.Disk.state in
    let old = state c.args.shell.now in
    inl (
      opening_of old (state c.open.new.disk) c.in-Err.ensures.goes c.in-Err.ensures.leaves,
      c.in-Err.ensures.unreadable (tells_of old trusted),
    )

pub returns-in-Err-clause-readable : goal.returns-in-Err-clause-readable
returns-in-Err-clause-readable g c = λ tells.
    let state = g.S.Disk.state in
    inl (
      opening_of (state c.args.shell.now) (state c.open.new.disk) c.in-Err.ensures.goes
          c.in-Err.ensures.leaves,
      c.in-Err.ensures.unreadable tells,
    )

pub carry_out-done-requires-clause-ready : goal.carry_out-done-requires-clause-ready
carry_out-done-requires-clause-ready g c = λ trusted.
    let state = g.S.Disk.state in
    let old = state c.args.shell.now in
    let back = trusted_back old (state c.open.new.disk) c.in-Ok.ensures.goes trusted in
    let stood = c.in-Ok.ensures.reads (tells_of old back) in
    (stood.0, c.in-Ok.ensures.stands back stood.0 stood.1)

pub carry_out-done-requires-clause-quiet : goal.carry_out-done-requires-clause-quiet
carry_out-done-requires-clause-quiet g c = ap talks c.in-Ok.ensures.goes.beside ∙ c.requires.quiet

pub returns-in-Ok-clause-done : goal.returns-in-Ok-clause-done
returns-in-Ok-clause-done g c = λ trusted.
    let state = g.S.Disk.state in
    let old = state c.args.shell.now in
    let stood = c.in-Ok.ensures.reads (tells_of old trusted) in
    opened_result old (state c.open.new.disk) (state c.carry_out-done.new.shell) stood.0 c.args.job
    stood.1 c.in-Ok.ensures.goes c.in-Ok.ensures.leaves c.carry_out-done.result
    (c.carry_out-done.ensures.done old.file (c.in-Ok.ensures.next_file (tells_of old trusted)) stood.0
    (c.in-Ok.ensures.stands trusted stood.0 stood.1))

pub returns-in-Ok-clause-after : goal.returns-in-Ok-clause-after
returns-in-Ok-clause-after g c =
    let state = g.S.Disk.state in
    opened_after c.args.limits.flush c.args.job (state c.args.shell.now) (state c.open.new.disk)
    (state c.carry_out-done.new.shell) c.in-Ok.ensures.goes c.carry_out-done.result
    c.carry_out-done.ensures.after

pub returns-in-Err-clause-most : goal.returns-in-Err-clause-most
returns-in-Err-clause-most g c =
    let state = g.S.Disk.state in
    within_opening c.args.job (state c.args.shell.now) (state c.open.new.disk) c.in-Err.ensures.goes

pub returns-in-Ok-clause-most : goal.returns-in-Ok-clause-most
returns-in-Ok-clause-most g c =
    let state = g.S.Disk.state in
    within_opened c.args.job (state c.args.shell.now) (state c.open.new.disk)
    (state c.carry_out-done.new.shell) c.in-Ok.ensures.goes c.carry_out-done.ensures.most
