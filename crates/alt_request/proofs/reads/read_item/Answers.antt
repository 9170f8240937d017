-- The key isn't reached, or the reply of what stands at its place is made.
use Rattle.std.proofs.Common.{◌≡◌, refl, sym, ap, is_some, Option}
use Rattle.serde_json.specs.Data.{Members}
use Rattle.serde_json.specs.View.{members_view}
use Rattle.alt_machine.specs.declared.Expressions.{Expressions}
use Rattle.alt_machine.specs.declared.Sought.TheVariants.{Key}
use Rattle.alt_machine.specs.Body.{MemberRules, body_refusals}
use Rattle.alt_machine.specs.Expressions as words
use Rattle.alt_machine.specs.Outcomes.{Outcome}
use Rattle.alt_machine.specs.State.{State}
use Rattle.alt_machine.specs.Targets.{on_item}
use Rattle.alt_request.proofs.Carrying.{item_passed, item_done}
use Rattle.alt_request.proofs.Moving.{moves_stopped, item_moved, item_unfailed}
use Rattle.alt_request.specs.Reads.{finds}
use Rattle.alt_request.specs.Steps.{rules_of}
use Rattle.alt_said.specs.Words.{texts_of}
use Rattle.alt_shape.specs.Refusals.{Answer}
use Rattle.alt_shape.specs.declared.rule.Broken.{Broken}
use Rattle.alt_said.proofs.TablesLeft.{reads_nothing}
use Rattle.alt_said.specs.TablesStands.{Stands, catalog_of}
use Rattle.alt_value.specs.Tree.{Pair}
use Rattle.std.proofs.Common.{List}
use Rattle.alt_request.proofs.reads.read_item.Goals as goal

-- what the read comes to
abbrev whole : Option Broken → MemberRules → words.Texts → (Expressions → Option (List Pair) → Answer)
    → Members → State → Outcome
whole broken rules texts answer ms s = on_item (body_refusals broken rules ms) Key texts s ms
    (λ said key t place. finds answer said t place)

-- by the shape that was found, and the rules and the texts that were given
same : (found broken : Option Broken) → found ≡ broken → (given rules : MemberRules) → given ≡ rules
    → (at texts : words.Texts) → at ≡ texts
    → (answer : Expressions → Option (List Pair) → Answer) (ms : Members) (s : State)
    → whole broken rules texts answer ms s ≡ whole found given at answer ms s
same found broken e given rules r at texts w answer ms s =
    λ i. whole (sym e i) (sym r i) (sym w i) answer ms s

pub returns-in_err-target-clause-carried : goal.returns-in_err-target-clause-carried
returns-in_err-target-clause-carried g c =
    let ms : Members = members_view c.args.body.now.entries in
    let read = g.R.ItemRead in
    item_passed (g.D.Disk.state c.args.disk.now) c.args.tables.now
    (body_refusals c.broken-broken.result (rules_of c.rules-rules.result.now) ms) ms
    (whole (read.shape ms) read.rules read.texts read.answer ms) Key
    (texts_of c.texts-texts.result) (λ s said key t place. finds read.answer said t place)
    (same c.broken-broken.result (read.shape ms) c.broken-broken.ensures
    (rules_of c.rules-rules.result.now) read.rules c.rules-rules.ensures
    (texts_of c.texts-texts.result) read.texts c.texts-texts.ensures read.answer ms)
    (Stands (g.D.Disk.state c.args.disk.now) c.args.tables.now)
    c.from_residual.result c.in_err-target.field-0.0 c.from_residual.ensures
    c.in_err-target.ensures.target (λ s stands. stands)

pub found_reply-found-requires-clause-there : goal.found_reply-found-requires-clause-there
found_reply-found-requires-clause-there g c = ap is_some c.in_ok-target.ensures.target.there

pub returns-clause-carried : goal.returns-clause-carried
returns-clause-carried g c =
    let ms : Members = members_view c.args.body.now.entries in
    let read = g.R.ItemRead in
    item_done (g.D.Disk.state c.args.disk.now) c.args.tables.now
    (body_refusals c.broken-broken.result (rules_of c.rules-rules.result.now) ms) ms
    (whole (read.shape ms) read.rules read.texts read.answer ms) Key
    (texts_of c.texts-texts.result) (λ s said key t place. finds read.answer said t place)
    (same c.broken-broken.result (read.shape ms) c.broken-broken.ensures
    (rules_of c.rules-rules.result.now) read.rules c.rules-rules.ensures
    (texts_of c.texts-texts.result) read.texts c.texts-texts.ensures read.answer ms)
    (Stands (g.D.Disk.state c.found_reply-found.new.disk) c.found_reply-found.new.tables)
    c.in_ok-target.target c.in_ok-target.ensures.target
    c.found_reply-found.result c.found_reply-found.ensures.plain
    (λ s t stands there same. c.found_reply-found.ensures.does s t stands there)

pub returns-in_err-target-clause-moves : goal.returns-in_err-target-clause-moves
returns-in_err-target-clause-moves g c =
    let ms : Members = members_view c.args.body.now.entries in
    let read = g.R.ItemRead in
    moves_stopped (whole (read.shape ms) read.rules read.texts read.answer ms)
    c.args.tables.now (g.D.Disk.state c.args.disk.now)
    c.from_residual.result c.in_err-target.field-0.0 c.from_residual.ensures
    (item_unfailed _ (body_refusals c.broken-broken.result (rules_of c.rules-rules.result.now) ms) Key
    (texts_of c.texts-texts.result)
    (catalog_of c.args.tables.now) ms c.in_err-target.field-0.0 c.in_err-target.ensures.target)

pub returns-clause-moves : goal.returns-clause-moves
returns-clause-moves g c =
    let ms : Members = members_view c.args.body.now.entries in
    let read = g.R.ItemRead in
    item_moved (g.D.Disk.state c.args.disk.now) (g.D.Disk.state c.found_reply-found.new.disk)
    c.args.tables.now (body_refusals c.broken-broken.result (rules_of c.rules-rules.result.now) ms) ms
    (whole (read.shape ms) read.rules read.texts read.answer ms) Key
    (texts_of c.texts-texts.result) (λ s said key t place. finds read.answer said t place)
    (same c.broken-broken.result (read.shape ms) c.broken-broken.ensures
    (rules_of c.rules-rules.result.now) read.rules c.rules-rules.ensures
    (texts_of c.texts-texts.result) read.texts c.texts-texts.ensures read.answer ms)
    c.in_ok-target.target c.in_ok-target.ensures.target _ (λ s t same. refl)
    c.found_reply-found.result c.found_reply-found.ensures.moves

pub returns-in_err-target-clause-disk : goal.returns-in_err-target-clause-disk
returns-in_err-target-clause-disk g c = reads_nothing (g.D.Disk.state c.args.disk.now)
