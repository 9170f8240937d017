use Rattle.std.proofs.Common.{◌∷◌, [], Some, refl}
use Rattle.alt_tables.specs.Stands.{bounds_of}
use Rattle.alt_run.specs.Turns.{control, obeyed}
use Rattle.alt_run.proofs.Beginning.{begins_control}
use Rattle.alt_run.proofs.Bringing.{at_hand_said, behind_kept, brings_line, silent_of}
use Rattle.alt_run.proofs.TurnServing.{turn_alone, turn_cut, control_unsaid}
use Rattle.alt_run.proofs.serve.answer_control.Goals as goal

pub returns-in-Err-clause-served : goal.returns-in-Err-clause-served
returns-in-Err-clause-served g c = λ s stands.
    let state = g.S.Disk.state in
    let old = state c.args.shell.now in
    let new = state c.obey.new.disk in
    control_unsaid old new s c.args.word c.in-Err.fault (bounds_of c.args.tables.now).file
    (begins_control old new c.args.word s (c.in-Err.ensures.works s stands))
    (c.in-Err.ensures.fault s stands)

pub returns-in-Ok-say-clause-served : goal.returns-in-Ok-say-clause-served
returns-in-Ok-say-clause-served g c = λ s stands.
    let state = g.S.Disk.state in
    let old = state c.args.shell.now in
    let mid = state c.obey.new.disk in
    turn_alone old mid (state c.say.new.self) c.obey.new.tables s (control c.args.word) obeyed []
    obeyed.text (begins_control old mid c.args.word s (c.in-Ok.ensures.works s stands))
    refl refl (c.in-Ok.ensures.stands s stands)
    c.in-Ok-say.ensures.call c.in-Ok-say.ensures.said c.in-Ok-say.ensures.moments refl

pub returns-in-Ok-say-clause-brings : goal.returns-in-Ok-say-clause-brings
returns-in-Ok-say-clause-brings g c =
    let state = g.S.Disk.state in
    let old = state c.args.shell.now in
    let mid = state c.obey.new.disk in
    let new = state c.say.new.self in
    let flush = c.args.limits.flush in
    let l = control c.args.word in
    at_hand_said flush old mid new obeyed.text (l ∷ []) (silent_of old mid c.in-Ok.ensures.goes)
    c.in-Ok-say.ensures.said
    (brings_line flush l old new
    (behind_kept flush mid new c.in-Ok-say.ensures.call.keeps (Some l) c.in-Ok.ensures.behind))

pub returns-in-Err-say-clause-served : goal.returns-in-Err-say-clause-served
returns-in-Err-say-clause-served g c = λ s stands.
    let state = g.S.Disk.state in
    let old = state c.args.shell.now in
    let mid = state c.obey.new.disk in
    turn_cut old mid (state c.say.new.self) c.obey.new.tables (bounds_of c.args.tables.now).file s (control c.args.word) obeyed []
    obeyed.text (begins_control old mid c.args.word s (c.in-Ok.ensures.works s stands))
    (c.in-Ok.ensures.stands s stands)
    c.in-Err-say.ensures.call
    c.in-Err-say.ensures.moments refl c.in-Err-say.ensures.said
