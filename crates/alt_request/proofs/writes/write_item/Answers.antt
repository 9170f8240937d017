-- The item isn't reached, its table refuses it, or what is at its place is changed.
use Rattle.serde_json.specs.View.{members_view}
use Rattle.alt_request.specs.Steps.{rules_of}
use Rattle.alt_said.specs.Words.{texts_of}
use Rattle.alt_request.proofs.Asking.{at_hand_so, unreached, untaken, done, may_be_stored}
use Rattle.alt_said.specs.TablesStands.{Stands, bounds_of}
use Rattle.alt_request.proofs.writes.write_item.Goals as goal

pub returns-in-Err-clause-carried : goal.returns-in-Err-clause-carried
returns-in-Err-clause-carried g c ms asked =
    (unreached g.W.ItemWrite.says c.args.moment ms (members_view c.args.body.now.entries)
    c.args.ahead asked c.broken-broken.result c.broken-broken.ensures
    (rules_of c.rules-rules.result.now) c.rules-rules.ensures c.sought-sought.result
    c.sought-sought.ensures (texts_of c.texts-texts.result) c.texts-texts.ensures
    (g.D.Disk.state c.args.disk.now) c.args.tables.now c.in-Err.stop
    (c.in-Err.ensures.target ms (at_hand_so g.W.ItemWrite.says c.args.moment ms (members_view c.args.body.now.entries)
    c.args.ahead asked c.broken-broken.result c.broken-broken.ensures
    (rules_of c.rules-rules.result.now) c.rules-rules.ensures c.sought-sought.result
    c.sought-sought.ensures (texts_of c.texts-texts.result) c.texts-texts.ensures))).carries

pub returns-in-Err-clause-moves : goal.returns-in-Err-clause-moves
returns-in-Err-clause-moves g c ms asked =
    (unreached g.W.ItemWrite.says c.args.moment ms (members_view c.args.body.now.entries)
    c.args.ahead asked c.broken-broken.result c.broken-broken.ensures
    (rules_of c.rules-rules.result.now) c.rules-rules.ensures c.sought-sought.result
    c.sought-sought.ensures (texts_of c.texts-texts.result) c.texts-texts.ensures
    (g.D.Disk.state c.args.disk.now) c.args.tables.now
    {file = (bounds_of c.args.tables.now).file} c.in-Err.stop
    (c.in-Err.ensures.target ms (at_hand_so g.W.ItemWrite.says c.args.moment ms (members_view c.args.body.now.entries)
    c.args.ahead asked c.broken-broken.result c.broken-broken.ensures
    (rules_of c.rules-rules.result.now) c.rules-rules.ensures c.sought-sought.result
    c.sought-sought.ensures (texts_of c.texts-texts.result) c.texts-texts.ensures))).moves

pub returns-in-Err-refusal-clause-carried : goal.returns-in-Err-refusal-clause-carried
returns-in-Err-refusal-clause-carried g c ms asked =
    (untaken g.W.ItemWrite.says c.args.moment ms (members_view c.args.body.now.entries)
    c.args.ahead asked c.broken-broken.result c.broken-broken.ensures
    (rules_of c.rules-rules.result.now) c.rules-rules.ensures c.sought-sought.result
    c.sought-sought.ensures (texts_of c.texts-texts.result) c.texts-texts.ensures
    (g.D.Disk.state c.args.disk.now) c.args.tables.now c.in-Ok.target
    (c.in-Ok.ensures.target ms (at_hand_so g.W.ItemWrite.says c.args.moment ms (members_view c.args.body.now.entries)
    c.args.ahead asked c.broken-broken.result c.broken-broken.ensures
    (rules_of c.rules-rules.result.now) c.rules-rules.ensures c.sought-sought.result
    c.sought-sought.ensures (texts_of c.texts-texts.result) c.texts-texts.ensures))
    c.in-Err-refusal.stop c.in-Err-refusal.ensures.tested).carries

pub returns-in-Err-refusal-clause-moves : goal.returns-in-Err-refusal-clause-moves
returns-in-Err-refusal-clause-moves g c ms asked =
    (untaken g.W.ItemWrite.says c.args.moment ms (members_view c.args.body.now.entries)
    c.args.ahead asked c.broken-broken.result c.broken-broken.ensures
    (rules_of c.rules-rules.result.now) c.rules-rules.ensures c.sought-sought.result
    c.sought-sought.ensures (texts_of c.texts-texts.result) c.texts-texts.ensures
    (g.D.Disk.state c.args.disk.now) c.args.tables.now c.in-Ok.target
    (c.in-Ok.ensures.target ms (at_hand_so g.W.ItemWrite.says c.args.moment ms (members_view c.args.body.now.entries)
    c.args.ahead asked c.broken-broken.result c.broken-broken.ensures
    (rules_of c.rules-rules.result.now) c.rules-rules.ensures c.sought-sought.result
    c.sought-sought.ensures (texts_of c.texts-texts.result) c.texts-texts.ensures))
    {file = (bounds_of c.args.tables.now).file} c.in-Err-refusal.stop
    c.in-Err-refusal.ensures.tested).moves

pub write_at-written-requires-clause-stored : goal.write_at-written-requires-clause-stored
write_at-written-requires-clause-stored g c =
    let (ms, asked) = c.requires.asked in
    may_be_stored g.W.ItemWrite.says c.args.moment ms (members_view c.args.body.now.entries)
    c.args.ahead asked c.broken-broken.result c.broken-broken.ensures
    (rules_of c.rules-rules.result.now) c.rules-rules.ensures c.sought-sought.result
    c.sought-sought.ensures (texts_of c.texts-texts.result) c.texts-texts.ensures
    (g.D.Disk.state c.args.disk.now) c.args.tables.now c.in-Ok.target
    (c.in-Ok.ensures.target ms (at_hand_so g.W.ItemWrite.says c.args.moment ms (members_view c.args.body.now.entries)
    c.args.ahead asked c.broken-broken.result c.broken-broken.ensures
    (rules_of c.rules-rules.result.now) c.rules-rules.ensures c.sought-sought.result
    c.sought-sought.ensures (texts_of c.texts-texts.result) c.texts-texts.ensures))
    c.in-Ok-refusal.ensures.tested c.requires.stored

pub returns-clause-carried : goal.returns-clause-carried
returns-clause-carried g c ms asked =
    (done g.W.ItemWrite.says c.args.moment ms (members_view c.args.body.now.entries)
    c.args.ahead asked c.broken-broken.result c.broken-broken.ensures
    (rules_of c.rules-rules.result.now) c.rules-rules.ensures c.sought-sought.result
    c.sought-sought.ensures (texts_of c.texts-texts.result) c.texts-texts.ensures
    (g.D.Disk.state c.args.disk.now) c.args.tables.now c.in-Ok.target
    (c.in-Ok.ensures.target ms (at_hand_so g.W.ItemWrite.says c.args.moment ms (members_view c.args.body.now.entries)
    c.args.ahead asked c.broken-broken.result c.broken-broken.ensures
    (rules_of c.rules-rules.result.now) c.rules-rules.ensures c.sought-sought.result
    c.sought-sought.ensures (texts_of c.texts-texts.result) c.texts-texts.ensures))
    c.in-Ok-refusal.ensures.tested (g.D.Disk.state c.write_at-written.new.disk)
    (Stands (g.D.Disk.state c.write_at-written.new.disk) c.write_at-written.new.tables)
    c.write_at-written.result c.write_at-written.ensures.works).carries

pub returns-clause-moves : goal.returns-clause-moves
returns-clause-moves g c ms asked =
    (done g.W.ItemWrite.says c.args.moment ms (members_view c.args.body.now.entries)
    c.args.ahead asked c.broken-broken.result c.broken-broken.ensures
    (rules_of c.rules-rules.result.now) c.rules-rules.ensures c.sought-sought.result
    c.sought-sought.ensures (texts_of c.texts-texts.result) c.texts-texts.ensures
    (g.D.Disk.state c.args.disk.now) c.args.tables.now c.in-Ok.target
    (c.in-Ok.ensures.target ms (at_hand_so g.W.ItemWrite.says c.args.moment ms (members_view c.args.body.now.entries)
    c.args.ahead asked c.broken-broken.result c.broken-broken.ensures
    (rules_of c.rules-rules.result.now) c.rules-rules.ensures c.sought-sought.result
    c.sought-sought.ensures (texts_of c.texts-texts.result) c.texts-texts.ensures))
    c.in-Ok-refusal.ensures.tested (g.D.Disk.state c.write_at-written.new.disk)
    (Stands (g.D.Disk.state c.write_at-written.new.disk) c.write_at-written.new.tables)
    c.write_at-written.result c.write_at-written.ensures.works).moves
