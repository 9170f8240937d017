use Rattle.std.proofs.Common.{◌∷◌, [], refl}
use Rattle.alt_tables.specs.Stands.{bounds_of}
use Rattle.alt_run.specs.Turns.{unread, turned_away}
use Rattle.alt_run.proofs.TurnServing.{turn_alone, turn_cut}
use Rattle.alt_run.proofs.Beginning.{begins_away}
use Rattle.alt_shell.proofs.Telling.{Grows-nil}
use Rattle.alt_run.proofs.Bringing.{at_hand_said, brings_line}
use Rattle.alt_run.proofs.serve.turn_away.Goals as goal

pub returns-in-Ok-clause-served : goal.returns-in-Ok-clause-served
returns-in-Ok-clause-served g c = λ s stands.
    let state = g.S.Disk.state in
    let old = state c.args.shell.now in
    turn_alone old old (state c.say.new.self) c.args.tables.now s unread turned_away []
    turned_away.text (begins_away old c.args.tables.now s stands) refl refl stands
    c.in-Ok.ensures.call c.in-Ok.ensures.said c.in-Ok.ensures.moments refl

pub returns-in-Ok-clause-brings : goal.returns-in-Ok-clause-brings
returns-in-Ok-clause-brings g c = λ flush.
    let state = g.S.Disk.state in
    let old = state c.args.shell.now in
    let new = state c.say.new.self in
    at_hand_said flush old old new turned_away.text (unread ∷ []) (Grows-nil old.beside)
    c.in-Ok.ensures.said (brings_line flush unread old new tt)

pub returns-in-Err-clause-served : goal.returns-in-Err-clause-served
returns-in-Err-clause-served g c = λ s stands.
    let state = g.S.Disk.state in
    let old = state c.args.shell.now in
    turn_cut old old (state c.say.new.self) c.args.tables.now (bounds_of c.args.tables.now).file s unread turned_away []
    turned_away.text (begins_away old c.args.tables.now s stands) stands
    c.in-Err.ensures.call c.in-Err.ensures.moments refl c.in-Err.ensures.said
