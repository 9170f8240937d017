-- The table isn't reached, or its reply is made.
use Rattle.std.proofs.Common.{◌≡◌, sym, ap, ◌∙◌, Option}
use Rattle.serde_json.specs.Data.{Members}
use Rattle.serde_json.specs.View.{members_view}
use Rattle.alt_machine.specs.Body.{MemberRules, body_refusals}
use Rattle.alt_machine.specs.Outcomes.{Outcome, says}
use Rattle.alt_machine.specs.State.{State}
use Rattle.alt_machine.specs.Targets.{on_table}
use Rattle.alt_request.proofs.Carrying.{said_or_not, table_passed, table_reached}
use Rattle.alt_request.proofs.Moving.{moves_stopped, moves_nothing, table_unfailed, reply_unfailed}
use Rattle.alt_request.specs.Steps.{rules_of}
use Rattle.alt_schema.specs.declared.schema.TableSchema.{TableSchema}
use Rattle.alt_shape.specs.Refusals.{Answer}
use Rattle.alt_shape.specs.declared.rule.Broken.{Broken}
use Rattle.alt_said.specs.TablesStands.{Stands, catalog_of}
use Rattle.alt_request.proofs.reads.read_table.Goals as goal

-- what the read comes to
abbrev whole : Option Broken → MemberRules → (TableSchema → Answer) → Members → State → Outcome
whole broken rules answer ms s =
    on_table (body_refusals broken rules ms) s ms (λ t. says (answer t.description))

-- by the shape that was found and the rules that were given
same : (found broken : Option Broken) → found ≡ broken → (given rules : MemberRules) → given ≡ rules
    → (answer : TableSchema → Answer) (ms : Members) (s : State)
    → whole broken rules answer ms s ≡ whole found given answer ms s
same found broken e given rules r answer ms s = λ i. whole (sym e i) (sym r i) answer ms s

pub returns-in_err-schema-clause-carried : goal.returns-in_err-schema-clause-carried
returns-in_err-schema-clause-carried g c =
    let ms : Members = members_view c.args.body.now.entries in
    let read = g.R.TableRead in
    table_passed (g.D.Disk.state c.args.disk.now) c.args.tables.now
    (body_refusals c.broken-broken.result (rules_of c.rules.result.now) ms) ms
    (whole (read.shape ms) read.rules read.answer ms) (λ s t. says (read.answer t.description))
    (same c.broken-broken.result (read.shape ms) c.broken-broken.ensures
    (rules_of c.rules.result.now) read.rules c.rules.ensures read.answer ms)
    (Stands (g.D.Disk.state c.args.disk.now) c.args.tables.now)
    c.from_residual.result c.in_err-schema.field-0.0 c.from_residual.ensures
    c.in_err-schema.ensures.target (λ s stands. stands)

pub returns-clause-carried : goal.returns-clause-carried
returns-clause-carried g c =
    let ms : Members = members_view c.args.body.now.entries in
    let read = g.R.TableRead in
    said_or_not (whole (read.shape ms) read.rules read.answer ms) (Stands
    (g.D.Disk.state c.args.disk.now) c.args.tables.now)
    (Stands (g.D.Disk.state c.args.disk.now) c.args.tables.now)
    c.reply.result (read.answer c.in_ok-schema.schema.now) c.reply.ensures.reply
    c.reply.ensures.plain c.reply.ensures.cause (λ s stands.
    let at = table_reached (g.D.Disk.state c.args.disk.now) c.args.tables.now
    (body_refusals c.broken-broken.result (rules_of c.rules.result.now) ms) ms
    (whole (read.shape ms) read.rules read.answer ms) (λ s t. says (read.answer t.description))
    (same c.broken-broken.result (read.shape ms) c.broken-broken.ensures
    (rules_of c.rules.result.now) read.rules c.rules.ensures read.answer ms)
    c.in_ok-schema.schema c.in_ok-schema.ensures.target s stands in
    at.3 ∙ ap (λ (d : TableSchema). says (read.answer d)) at.2) (λ s stands. stands)

pub returns-in_err-schema-clause-moves : goal.returns-in_err-schema-clause-moves
returns-in_err-schema-clause-moves g c =
    let ms : Members = members_view c.args.body.now.entries in
    let read = g.R.TableRead in
    moves_stopped (whole (read.shape ms) read.rules read.answer ms) c.args.tables.now
    (g.D.Disk.state c.args.disk.now)
    c.from_residual.result c.in_err-schema.field-0.0 c.from_residual.ensures
    (table_unfailed _ (body_refusals c.broken-broken.result (rules_of c.rules.result.now) ms)
    (catalog_of c.args.tables.now) ms
    c.in_err-schema.field-0.0 c.in_err-schema.ensures.target)

pub returns-clause-moves : goal.returns-clause-moves
returns-clause-moves g c =
    let ms : Members = members_view c.args.body.now.entries in
    let read = g.R.TableRead in
    moves_nothing (whole (read.shape ms) read.rules read.answer ms) c.args.tables.now
    (g.D.Disk.state c.args.disk.now) c.reply.result
    (reply_unfailed _ c.reply.result c.reply.ensures.cause)
