-- The table isn't reached, or it is taken out and its description answered.
use Rattle.std.proofs.Common.{◌≡◌, sym, ap, subst, ◌∙◌, ℕ, List, [], ◌∷◌, Option}
use Rattle.serde_json.specs.Data.{Members}
use Rattle.serde_json.specs.View.{members_view}
use Rattle.alt_machine.specs.Body.{body_refusals}
use Rattle.alt_machine.specs.Ops.DeleteTable.{rules, deleted, without_table, delete_table}
use Rattle.alt_machine.specs.Members.{table_name}
use Rattle.alt_machine.specs.Outcomes.{writes, a_number}
use Rattle.alt_machine.specs.State.{State}
use Rattle.alt_machine.specs.Targets.{on_table}
use Rattle.alt_request.specs.Carried.{Carries, Moves}
use Rattle.alt_request.specs.declared.stop.Stop.TheVariants.{Fault}
use Rattle.alt_request.proofs.Carrying.{table_passed, table_reached, faulted_as, broke_off, wrote}
use Rattle.alt_request.proofs.Moving.{moves_stopped, table_unfailed, memory_unfailed, failed_fault, unwritten_wants, wanting_fault, unrefused}
use Rattle.alt_request.proofs.Reaching.{err_is}
use Rattle.alt_schema.specs.declared.schema.TableSchema.{TableSchema}
use Rattle.alt_shape.specs.Bodies as bodies
use Rattle.alt_shape.specs.declared.rule.Broken.{Broken}
use Rattle.alt_shape.specs.Refusals.{Answer}
use Rattle.alt_request.specs.TablesImages.{Leaves}
use Rattle.alt_request.specs.TablesFaults.{AreMade, BreakOff}
use Rattle.alt_request.proofs.TablesLeft.{reads_nothing}
use Rattle.alt_request.specs.TablesStands.{Stands, catalog_of, bounds_of}
use Rattle.alt_ops_table.proofs.delete.delete_table.Goals as goal

is : (ms : Members) (broken : Option Broken) → broken ≡ bodies.delete_table ms → (s : State)
    → delete_table s ms ≡ on_table (body_refusals broken rules ms) s ms
    (λ t. writes (without_table s (table_name ms) ∷ []) (deleted t.description))
unfolding delete_table
is ms broken e s = λ i. on_table (body_refusals (sym e i) rules ms) s ms
    (λ t. writes (without_table s (table_name ms) ∷ []) (deleted t.description))

pub returns-in_err-schema-clause-carried : goal.returns-in_err-schema-clause-carried
returns-in_err-schema-clause-carried g c =
    let ms : Members = members_view c.args.body.now.entries in
    table_passed (g.D.Disk.state c.args.disk.now) c.args.tables.now
    (body_refusals c.delete_table.result rules ms) ms (λ s. delete_table s ms)
    (λ s t. writes (without_table s (table_name ms) ∷ []) (deleted t.description))
    (is ms c.delete_table.result c.delete_table.ensures)
    (Stands (g.D.Disk.state c.args.disk.now) c.args.tables.now)
    c.from_residual.result c.in_err-schema.field-0.0 c.from_residual.ensures
    c.in_err-schema.ensures.target (λ s stands. stands)

pub returns-in_err-reply-clause-carried : goal.returns-in_err-reply-clause-carried
returns-in_err-reply-clause-carried g c =
    let ms : Members = members_view c.args.body.now.entries in
    let stands : State → Type 0 = Stands (g.D.Disk.state c.args.disk.now) c.args.tables.now in
    subst (Carries (bounds_of c.args.tables.now).file (λ s. delete_table s ms) stands stands)
    (sym (err_is c.from_residual-in_err-reply.result c.in_err-reply.field-0.0
    c.from_residual-in_err-reply.ensures))
    (faulted_as (λ s. delete_table s ms) stands stands c.in_err-reply.field-0.0
    c.in_err-reply.ensures.cause (λ s h. h))

pub returns-in_err-drop_table-clause-carried : goal.returns-in_err-drop_table-clause-carried
returns-in_err-drop_table-clause-carried g c =
    let ms : Members = members_view c.args.body.now.entries in
    let now : State → Type 0 = Stands (g.D.Disk.state c.drop_table.new.disk) c.drop_table.new.self
    in
    subst (Carries (bounds_of c.args.tables.now).file (λ s. delete_table s ms) (Stands
    (g.D.Disk.state c.args.disk.now) c.args.tables.now) now)
    (sym (err_is c.from_residual-in_err-drop_table.result
    (Fault c.in_err-drop_table.field-0.0) c.from_residual-in_err-drop_table.ensures))
    (broke_off (λ s. delete_table s ms) (Stands (g.D.Disk.state c.args.disk.now) c.args.tables.now)
    now c.in_err-drop_table.field-0.0 a_number (λ s stands.
    let at = table_reached (g.D.Disk.state c.args.disk.now) c.args.tables.now
    (body_refusals c.delete_table.result rules ms) ms (λ s. delete_table s ms)
    (λ s t. writes (without_table s (table_name ms) ∷ []) (deleted t.description))
    (is ms c.delete_table.result c.delete_table.ensures)
    c.in_ok-schema.schema c.in_ok-schema.ensures.target s stands in (
      without_table s (table_name ms) ∷ [],
      deleted at.0.description,
      at.3,
      subst (λ (name : List ℕ). BreakOff (bounds_of c.args.tables.now).file now a_number s
          (without_table s name ∷ []) c.in_err-drop_table.field-0.0) c.table_name.ensures.name
          (c.in_err-drop_table.ensures.writes s stands),
    )))

pub returns-clause-carried : goal.returns-clause-carried
returns-clause-carried g c =
    let ms : Members = members_view c.args.body.now.entries in
    let now : State → Type 0 = Stands (g.D.Disk.state c.drop_table.new.disk) c.drop_table.new.self
    in
    wrote (λ s. delete_table s ms) (Stands (g.D.Disk.state c.args.disk.now) c.args.tables.now) now
    c.in_ok-reply.reply c.in_ok-reply.ensures.plain a_number (λ s stands.
    let at = table_reached (g.D.Disk.state c.args.disk.now) c.args.tables.now
    (body_refusals c.delete_table.result rules ms) ms (λ s. delete_table s ms)
    (λ s t. writes (without_table s (table_name ms) ∷ []) (deleted t.description))
    (is ms c.delete_table.result c.delete_table.ensures)
    c.in_ok-schema.schema c.in_ok-schema.ensures.target s stands in (
      without_table s (table_name ms) ∷ [],
      at.3 ∙ ap (λ a. writes (without_table s (table_name ms) ∷ []) a)
          (ap (λ (d : TableSchema). deleted d) at.2 ∙ sym c.in_ok-reply.ensures.reply),
      subst (λ (name : List ℕ). AreMade now a_number s (without_table s name ∷ []))
          c.table_name.ensures.name (c.in_ok-drop_table.ensures.writes s stands),
    ))

pub returns-in_err-schema-clause-moves : goal.returns-in_err-schema-clause-moves
returns-in_err-schema-clause-moves g c =
    let ms : Members = members_view c.args.body.now.entries in
    moves_stopped (λ s. delete_table s ms) c.args.tables.now (g.D.Disk.state c.args.disk.now)
    c.from_residual.result c.in_err-schema.field-0.0 c.from_residual.ensures
    (table_unfailed _ (body_refusals c.delete_table.result rules ms)
    (catalog_of c.args.tables.now) ms
    c.in_err-schema.field-0.0 c.in_err-schema.ensures.target)

pub returns-in_err-reply-clause-moves : goal.returns-in_err-reply-clause-moves
returns-in_err-reply-clause-moves g c =
    moves_stopped (λ s. delete_table s (members_view c.args.body.now.entries)) c.args.tables.now
    (g.D.Disk.state c.args.disk.now)
    c.from_residual-in_err-reply.result c.in_err-reply.field-0.0
    c.from_residual-in_err-reply.ensures
    (memory_unfailed _ c.in_err-reply.field-0.0 c.in_err-reply.ensures.cause)

pub returns-in_err-drop_table-clause-moves : goal.returns-in_err-drop_table-clause-moves
returns-in_err-drop_table-clause-moves g c =
    let ms : Members = members_view c.args.body.now.entries in
    let before = g.D.Disk.state c.args.disk.now in
    let later = g.D.Disk.state c.drop_table.new.disk in
    subst (Moves (λ s. delete_table s ms) (Stands before c.args.tables.now) before later)
    (sym (err_is c.from_residual-in_err-drop_table.result
    (Fault c.in_err-drop_table.field-0.0) c.from_residual-in_err-drop_table.ensures))
    (record {
      goes = c.in_err-drop_table.ensures.goes;
      leaves = λ s stands.
          let at = table_reached before c.args.tables.now
          (body_refusals c.delete_table.result rules ms) ms (λ s. delete_table s ms)
          (λ s t. writes (without_table s (table_name ms) ∷ []) (deleted t.description))
          (is ms c.delete_table.result c.delete_table.ensures)
          c.in_ok-schema.schema c.in_ok-schema.ensures.target s stands in
          subst (λ o. Leaves before later s o.atoms) (sym at.3)
          (subst (λ (name : List ℕ). Leaves before later s (without_table s name ∷ []))
          c.table_name.ensures.name (c.in_err-drop_table.ensures.disk s stands));
      refused = tt;
      failed = failed_fault c.in_err-drop_table.field-0.0 _ c.in_err-drop_table.ensures.cause;
      wanting = λ s stands. wanting_fault c.in_err-drop_table.field-0.0 _ (λ none.
          unwritten_wants before before later c.args.tables.now s _ _ (reads_nothing before) stands
          (c.in_err-drop_table.ensures.no_memory none));
    })

pub returns-clause-moves : goal.returns-clause-moves
returns-clause-moves g c =
    let ms : Members = members_view c.args.body.now.entries in
    let before = g.D.Disk.state c.args.disk.now in
    let later = g.D.Disk.state c.drop_table.new.disk in
    record {
      goes = c.in_ok-drop_table.ensures.goes;
      leaves = λ s stands.
          let at = table_reached before c.args.tables.now
          (body_refusals c.delete_table.result rules ms) ms (λ s. delete_table s ms)
          (λ s t. writes (without_table s (table_name ms) ∷ []) (deleted t.description))
          (is ms c.delete_table.result c.delete_table.ensures)
          c.in_ok-schema.schema c.in_ok-schema.ensures.target s stands in
          subst (λ o. Leaves before later s o.atoms) (sym at.3)
          (subst (λ (name : List ℕ). Leaves before later s (without_table s name ∷ []))
          c.table_name.ensures.name (c.in_ok-drop_table.ensures.disk s stands));
      refused = unrefused c.in_ok-reply.reply _
          (ap (λ (a : Answer). a.status) c.in_ok-reply.ensures.reply);
      failed = tt;
      wanting = λ s stands. tt;
    }
