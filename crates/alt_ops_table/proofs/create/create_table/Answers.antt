-- Refused, or the table is made.
use Rattle.std.proofs.Common.{sym, ap, subst, ◌∙◌, [], ◌∷◌}
use Rattle.serde_json.specs.Data.{Members}
use Rattle.serde_json.specs.View.{members_view}
use Rattle.alt_machine.specs.Ops.CreateTable.{with_table, created, create_table}
use Rattle.alt_machine.specs.Outcomes.{makes, a_table}
use Rattle.alt_machine.specs.State.{State}
use Rattle.alt_ops_table.proofs.Asking.{asked_stops, to_be_made, is_made, has_number, has_family, made_alike, broken_alike, lacks_nothing, asked_unfailed, left_alike}
use Rattle.alt_request.specs.Carried.{Carries, Moves}
use Rattle.alt_request.specs.declared.stop.Stop.TheVariants.{Fault}
use Rattle.alt_request.proofs.Carrying.{broke_off, wrote, faulted_as}
use Rattle.alt_request.proofs.Moving.{moves_stopped, memory_unfailed, failed_fault, unwritten_wants, wanting_fault, unrefused}
use Rattle.alt_request.proofs.Reaching.{err_is}
use Rattle.alt_schema.specs.Described.{description_of}
use Rattle.alt_schema.specs.declared.schema.TableSchema.{TableSchema}
use Rattle.alt_shape.specs.Refusals.{Answer}
use Rattle.alt_request.specs.TablesImages.{Leaves}
use Rattle.alt_request.proofs.TablesLeft.{reads_nothing}
use Rattle.alt_request.specs.TablesStands.{Stands, bounds_of}
use Rattle.alt_ops_table.proofs.create.create_table.Goals as goal

pub returns-in_err-schema-clause-carried : goal.returns-in_err-schema-clause-carried
returns-in_err-schema-clause-carried g c =
    subst (Carries (bounds_of c.args.tables.now).file
    (λ s. create_table s c.args.moment (members_view c.args.body.now.entries))
    (Stands (g.D.Disk.state c.args.disk.now) c.args.tables.now)
    (Stands (g.D.Disk.state c.args.disk.now) c.args.tables.now))
    (sym (err_is c.from_residual.result c.in_err-schema.field-0.0 c.from_residual.ensures))
    (asked_stops c.args.tables.now (g.D.Disk.state c.args.disk.now)
    (Stands (g.D.Disk.state c.args.disk.now) c.args.tables.now) c.args.moment
    (members_view c.args.body.now.entries)
    c.in_err-schema.field-0.0 c.in_err-schema.ensures.asked (λ s stands. stands))

pub returns-in_err-reply-clause-carried : goal.returns-in_err-reply-clause-carried
returns-in_err-reply-clause-carried g c =
    subst (Carries (bounds_of c.args.tables.now).file
    (λ s. create_table s c.args.moment (members_view c.args.body.now.entries))
    (Stands (g.D.Disk.state c.args.disk.now) c.args.tables.now)
    (Stands (g.D.Disk.state c.args.disk.now) c.args.tables.now))
    (sym (err_is c.from_residual-in_err-reply.result c.in_err-reply.field-0.0
    c.from_residual-in_err-reply.ensures))
    (faulted_as (λ s. create_table s c.args.moment (members_view c.args.body.now.entries))
    (Stands (g.D.Disk.state c.args.disk.now) c.args.tables.now)
    (Stands (g.D.Disk.state c.args.disk.now) c.args.tables.now) c.in_err-reply.field-0.0
    c.in_err-reply.ensures.cause (λ s stands. stands))

pub create-requires-clause-made : goal.create-requires-clause-made
create-requires-clause-made g c = is_made c.args.tables.now c.args.moment
    (members_view c.args.body.now.entries) c.in_ok-schema.schema c.in_ok-schema.ensures.asked

pub create-requires-clause-number : goal.create-requires-clause-number
create-requires-clause-number g c = has_number c.args.tables.now c.args.moment
    (members_view c.args.body.now.entries) c.in_ok-schema.schema c.in_ok-schema.ensures.asked

pub create-requires-clause-family : goal.create-requires-clause-family
create-requires-clause-family g c = has_family c.args.tables.now c.args.moment
    (members_view c.args.body.now.entries) c.in_ok-schema.schema c.in_ok-schema.ensures.asked

pub returns-in_err-create-clause-carried : goal.returns-in_err-create-clause-carried
returns-in_err-create-clause-carried g c =
    let ms : Members = members_view c.args.body.now.entries in
    let now : State → Type 0 = Stands (g.D.Disk.state c.create.new.disk) c.create.new.self in
    subst (Carries (bounds_of c.args.tables.now).file (λ s. create_table s c.args.moment ms)
    (Stands (g.D.Disk.state c.args.disk.now) c.args.tables.now) now)
    (sym (err_is c.from_residual-in_err-create.result
    (Fault c.in_err-create.field-0.0) c.from_residual-in_err-create.ensures))
    (broke_off (λ s. create_table s c.args.moment ms)
    (Stands (g.D.Disk.state c.args.disk.now) c.args.tables.now) now c.in_err-create.field-0.0
    a_table (λ s stands.
    let d : TableSchema = description_of ms c.args.moment s.next_number s.next_family in
    let made = to_be_made c.args.tables.now (g.D.Disk.state c.args.disk.now) c.args.moment ms
    c.in_ok-schema.schema c.in_ok-schema.ensures.asked s stands in (
      with_table s d ∷ [],
      created d,
      made.0,
      broken_alike s (with_table s c.in_ok-schema.schema) (with_table s d) now
          (λ free. ap (λ (x : TableSchema). with_table s x) (made.1 free))
          (bounds_of c.args.tables.now).file c.in_err-create.field-0.0
          (c.in_err-create.ensures.writes s stands),
    )))

pub returns-clause-carried : goal.returns-clause-carried
returns-clause-carried g c =
    let ms : Members = members_view c.args.body.now.entries in
    let now : State → Type 0 = Stands (g.D.Disk.state c.create.new.disk) c.create.new.self in
    wrote (λ s. create_table s c.args.moment ms)
    (Stands (g.D.Disk.state c.args.disk.now) c.args.tables.now) now c.in_ok-reply.reply
    c.in_ok-reply.ensures.plain a_table (λ s stands.
    let d : TableSchema = description_of ms c.args.moment s.next_number s.next_family in
    let made = to_be_made c.args.tables.now (g.D.Disk.state c.args.disk.now) c.args.moment ms
    c.in_ok-schema.schema c.in_ok-schema.ensures.asked s stands in
    let wrote = made_alike s (with_table s c.in_ok-schema.schema) (with_table s d) now
    (λ free. ap (λ (x : TableSchema). with_table s x) (made.1 free))
    (c.in_ok-create.ensures.writes s stands) in (
      with_table s d ∷ [],
      made.0 ∙ ap (λ a. makes (with_table s d) a)
          (ap (λ (x : TableSchema). created x)
          (sym (made.1 (lacks_nothing s (with_table s d) wrote.enough)))
          ∙ sym c.in_ok-reply.ensures.reply),
      wrote,
    ))

pub returns-in_err-schema-clause-moves : goal.returns-in_err-schema-clause-moves
returns-in_err-schema-clause-moves g c =
    let ms : Members = members_view c.args.body.now.entries in
    moves_stopped (λ s. create_table s c.args.moment ms) c.args.tables.now
    (g.D.Disk.state c.args.disk.now)
    c.from_residual.result c.in_err-schema.field-0.0 c.from_residual.ensures
    (asked_unfailed _ c.args.tables.now c.args.moment ms c.in_err-schema.field-0.0
    c.in_err-schema.ensures.asked)

pub returns-in_err-reply-clause-moves : goal.returns-in_err-reply-clause-moves
returns-in_err-reply-clause-moves g c =
    moves_stopped (λ s. create_table s c.args.moment (members_view c.args.body.now.entries))
    c.args.tables.now (g.D.Disk.state c.args.disk.now)
    c.from_residual-in_err-reply.result c.in_err-reply.field-0.0
    c.from_residual-in_err-reply.ensures
    (memory_unfailed _ c.in_err-reply.field-0.0 c.in_err-reply.ensures.cause)

pub returns-in_err-create-clause-moves : goal.returns-in_err-create-clause-moves
returns-in_err-create-clause-moves g c =
    let ms : Members = members_view c.args.body.now.entries in
    let before = g.D.Disk.state c.args.disk.now in
    let later = g.D.Disk.state c.create.new.disk in
    subst (Moves (λ s. create_table s c.args.moment ms)
    (Stands before c.args.tables.now) before later)
    (sym (err_is c.from_residual-in_err-create.result
    (Fault c.in_err-create.field-0.0) c.from_residual-in_err-create.ensures))
    (record {
      goes = c.in_err-create.ensures.goes;
      leaves = λ s stands.
          let d : TableSchema = description_of ms c.args.moment s.next_number s.next_family in
          let made = to_be_made c.args.tables.now before c.args.moment ms
          c.in_ok-schema.schema c.in_ok-schema.ensures.asked s stands in
          subst (λ o. Leaves before later s o.atoms) (sym made.0)
          (left_alike before later c.args.tables.now s stands (with_table s c.in_ok-schema.schema)
          (with_table s d) (λ free. ap (λ (x : TableSchema). with_table s x) (made.1 free))
          c.in_err-create.ensures.lacking (c.in_err-create.ensures.disk s stands));
      refused = tt;
      failed = failed_fault c.in_err-create.field-0.0 _ c.in_err-create.ensures.cause;
      wanting = λ s stands. wanting_fault c.in_err-create.field-0.0 _ (λ none.
          unwritten_wants before before later c.args.tables.now s _ _ (reads_nothing before) stands
          (c.in_err-create.ensures.no_memory none));
    })

pub returns-clause-moves : goal.returns-clause-moves
returns-clause-moves g c =
    let ms : Members = members_view c.args.body.now.entries in
    let before = g.D.Disk.state c.args.disk.now in
    let later = g.D.Disk.state c.create.new.disk in
    record {
      goes = c.in_ok-create.ensures.goes;
      leaves = λ s stands.
          let d : TableSchema = description_of ms c.args.moment s.next_number s.next_family in
          let made = to_be_made c.args.tables.now before c.args.moment ms
          c.in_ok-schema.schema c.in_ok-schema.ensures.asked s stands in
          subst (λ o. Leaves before later s o.atoms) (sym made.0)
          (left_alike before later c.args.tables.now s stands (with_table s c.in_ok-schema.schema)
          (with_table s d) (λ free. ap (λ (x : TableSchema). with_table s x) (made.1 free))
          c.in_ok-create.ensures.lacking (c.in_ok-create.ensures.disk s stands));
      refused = unrefused c.in_ok-reply.reply _
          (ap (λ (a : Answer). a.status) c.in_ok-reply.ensures.reply);
      failed = tt;
      wanting = λ s stands. tt;
    }
