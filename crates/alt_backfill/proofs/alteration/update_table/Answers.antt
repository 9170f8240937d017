-- The request is refused, or the description is answered as it is, or it changes and is answered.
use Rattle.std.proofs.Common.{sym, ap, subst, ◌∙◌, [], ◌∷◌}
use Rattle.std.specs.Prelude.{codes}
use Rattle.serde_json.specs.Data.{Members}
use Rattle.serde_json.specs.View.{members_view}
use Rattle.alt_backfill.proofs.Asking.{asked_stops, asked_unfailed, comes_to_nothing}
use Rattle.alt_backfill.proofs.Writing.{alter_made, alter_may, alter_named, alter_there, written}
use Rattle.alt_machine.specs.Ops.UpdateTable.{coming, described, update_table, wanted_for, with_description}
use Rattle.alt_machine.specs.Outcomes.{Outcome, Wants}
use Rattle.alt_machine.specs.State.{State}
use Rattle.alt_request.specs.Carried.{Carries, Moves}
use Rattle.alt_request.specs.declared.stop.Stop.TheVariants.{Fault}
use Rattle.alt_request.proofs.Carrying.{broke_off, faulted_as, said_or_not, wrote}
use Rattle.alt_request.proofs.Moving.{failed_fault, memory_unfailed, moves_nothing, moves_stopped, reply_unfailed, unrefused, unwritten_wants, wanting_fault}
use Rattle.alt_request.proofs.Reaching.{err_is}
use Rattle.alt_shape.specs.Refusals.{Answer}
use Rattle.alt_request.proofs.TablesLeft.{reads_nothing}
use Rattle.alt_request.specs.TablesAltering.{family_left}
use Rattle.alt_request.specs.TablesFaults.{AreMade, BreakOff}
use Rattle.alt_request.specs.TablesImages.{Leaves}
use Rattle.alt_request.specs.TablesStands.{Stands, bounds_of}
use Rattle.alt_backfill.proofs.alteration.update_table.Goals as goal

pub returns-in_err-schema-clause-carried : goal.returns-in_err-schema-clause-carried
returns-in_err-schema-clause-carried g c =
    let ms : Members = members_view c.args.body.now.entries in
    let stands : State → Type 0 = Stands (g.D.Disk.state c.args.disk.now) c.args.tables.now in
    subst (Carries (bounds_of c.args.tables.now).file (λ s. update_table s ms) stands stands)
    (sym (err_is c.from_residual.result c.in_err-schema.field-0.0 c.from_residual.ensures))
    (asked_stops c.args.tables.now (g.D.Disk.state c.args.disk.now) stands ms
    c.in_err-schema.field-0.0 c.in_err-schema.ensures.asked (λ s h. h))

pub returns-in_err-schema-clause-moves : goal.returns-in_err-schema-clause-moves
returns-in_err-schema-clause-moves g c =
    moves_stopped (λ s. update_table s (members_view c.args.body.now.entries))
    c.args.tables.now (g.D.Disk.state c.args.disk.now) c.from_residual.result
    c.in_err-schema.field-0.0 c.from_residual.ensures
    (asked_unfailed _ c.args.tables.now (members_view c.args.body.now.entries)
    c.in_err-schema.field-0.0 c.in_err-schema.ensures.asked)

pub returns-then-not-alters-clause-carried : goal.returns-then-not-alters-clause-carried
returns-then-not-alters-clause-carried g c =
    let ms : Members = members_view c.args.body.now.entries in
    let stands : State → Type 0 = Stands (g.D.Disk.state c.args.disk.now) c.args.tables.now in
    said_or_not (λ s. update_table s ms) stands stands c.described.result
    (described c.in_ok-schema.field-0.schema (codes "ACTIVE")) c.described.ensures.reply
    c.described.ensures.plain c.described.ensures.cause
    (λ s h. comes_to_nothing c.args.tables.now ms
    c.in_ok-schema.field-0
    c.in_ok-schema.ensures.asked s (sym h.catalog) c.if-not-alters.true) (λ s h. h)

pub returns-then-not-alters-clause-moves : goal.returns-then-not-alters-clause-moves
returns-then-not-alters-clause-moves g c =
    moves_nothing (λ s. update_table s (members_view c.args.body.now.entries))
    c.args.tables.now (g.D.Disk.state c.args.disk.now) c.described.result
    (reply_unfailed _ c.described.result c.described.ensures.cause)

pub returns-in_err-reply-clause-carried : goal.returns-in_err-reply-clause-carried
returns-in_err-reply-clause-carried g c =
    let ms : Members = members_view c.args.body.now.entries in
    let stands : State → Type 0 = Stands (g.D.Disk.state c.args.disk.now) c.args.tables.now in
    subst (Carries (bounds_of c.args.tables.now).file (λ s. update_table s ms) stands stands)
    (sym (err_is c.from_residual-in_err-reply.result c.in_err-reply.field-0.0
    c.from_residual-in_err-reply.ensures))
    (faulted_as (λ s. update_table s ms) stands stands c.in_err-reply.field-0.0
    c.in_err-reply.ensures.cause (λ s h. h))

pub returns-in_err-reply-clause-moves : goal.returns-in_err-reply-clause-moves
returns-in_err-reply-clause-moves g c =
    moves_stopped (λ s. update_table s (members_view c.args.body.now.entries))
    c.args.tables.now (g.D.Disk.state c.args.disk.now)
    c.from_residual-in_err-reply.result c.in_err-reply.field-0.0
    c.from_residual-in_err-reply.ensures
    (memory_unfailed _ c.in_err-reply.field-0.0 c.in_err-reply.ensures.cause)

pub alter-requires-clause-there : goal.alter-requires-clause-there
alter-requires-clause-there g c = alter_there c.args.tables.now
    (members_view c.args.body.now.entries)
    c.in_ok-schema.field-0
    c.in_ok-schema.ensures.asked

pub alter-requires-clause-named : goal.alter-requires-clause-named
alter-requires-clause-named g c = alter_named c.args.tables.now
    (members_view c.args.body.now.entries) c.in_ok-schema.field-0 c.in_ok-schema.ensures.asked

pub alter-requires-clause-made : goal.alter-requires-clause-made
alter-requires-clause-made g c = λ s stands. alter_made c.args.tables.now
    (members_view c.args.body.now.entries)
    c.in_ok-schema.field-0
    c.in_ok-schema.ensures.asked (g.D.Disk.state c.args.disk.now) s stands

pub alter-requires-clause-alters : goal.alter-requires-clause-alters
alter-requires-clause-alters g c = λ e at. alter_may c.args.tables.now
    (members_view c.args.body.now.entries)
    c.in_ok-schema.field-0
    c.in_ok-schema.ensures.asked c.if-not-alters.false e at

pub returns-in_err-alter-clause-carried : goal.returns-in_err-alter-clause-carried
returns-in_err-alter-clause-carried g c =
    let ms : Members = members_view c.args.body.now.entries in
    let now : State → Type 0 = Stands (g.D.Disk.state c.alter.new.disk) c.alter.new.self in
    subst (Carries (bounds_of c.args.tables.now).file (λ s. update_table s ms)
    (Stands (g.D.Disk.state c.args.disk.now) c.args.tables.now) now)
    (sym (err_is c.from_residual-in_err-alter.result (Fault c.in_err-alter.field-0.0)
    c.from_residual-in_err-alter.ensures))
    (broke_off (λ s. update_table s ms)
    (Stands (g.D.Disk.state c.args.disk.now) c.args.tables.now) now c.in_err-alter.field-0.0
    (wanted_for (coming ms)) (λ s stands.
    let (t, at, wants, is) = written c.args.tables.now ms
    c.in_ok-schema.field-0
    c.in_ok-schema.ensures.asked c.if-not-alters.false (g.D.Disk.state c.args.disk.now) s stands in (
      with_description s c.in_ok-schema.field-0.schema.name t c.in_ok-schema.field-0.schema
          (family_left s.next_family t.description c.in_ok-schema.field-0.schema) ∷ [],
      described c.in_ok-schema.field-0.schema (codes "UPDATING"),
      is,
      subst (λ (w : Wants). BreakOff (bounds_of c.args.tables.now).file now w s
          (with_description s c.in_ok-schema.field-0.schema.name t c.in_ok-schema.field-0.schema
          (family_left s.next_family t.description c.in_ok-schema.field-0.schema) ∷ [])
          c.in_err-alter.field-0.0) wants (c.in_err-alter.ensures.writes s t stands at),
    )))

pub returns-clause-carried : goal.returns-clause-carried
returns-clause-carried g c =
    let ms : Members = members_view c.args.body.now.entries in
    let now : State → Type 0 = Stands (g.D.Disk.state c.alter.new.disk) c.alter.new.self in
    wrote (λ s. update_table s ms)
    (Stands (g.D.Disk.state c.args.disk.now) c.args.tables.now) now c.in_ok-reply.reply
    c.in_ok-reply.ensures.plain (wanted_for (coming ms)) (λ s stands.
    let (t, at, wants, is) = written c.args.tables.now ms
    c.in_ok-schema.field-0
    c.in_ok-schema.ensures.asked c.if-not-alters.false (g.D.Disk.state c.args.disk.now) s stands in (
      with_description s c.in_ok-schema.field-0.schema.name t c.in_ok-schema.field-0.schema
          (family_left s.next_family t.description c.in_ok-schema.field-0.schema) ∷ [],
      is ∙ ap (λ (a : Answer). record {
        answer = a;
        atoms = with_description s c.in_ok-schema.field-0.schema.name t c.in_ok-schema.field-0.schema
            (family_left s.next_family t.description c.in_ok-schema.field-0.schema) ∷ [];
        wants = wanted_for (coming ms);
      }) (sym c.in_ok-reply.ensures.reply),
      subst (λ (w : Wants). AreMade now w s
          (with_description s c.in_ok-schema.field-0.schema.name t c.in_ok-schema.field-0.schema
          (family_left s.next_family t.description c.in_ok-schema.field-0.schema) ∷ [])) wants
          (c.in_ok-alter.ensures.writes s t stands at),
    ))

pub returns-in_err-alter-clause-moves : goal.returns-in_err-alter-clause-moves
returns-in_err-alter-clause-moves g c =
    let ms : Members = members_view c.args.body.now.entries in
    let before = g.D.Disk.state c.args.disk.now in
    let later = g.D.Disk.state c.alter.new.disk in
    subst (Moves (λ s. update_table s ms) (Stands before c.args.tables.now) before later)
    (sym (err_is c.from_residual-in_err-alter.result (Fault c.in_err-alter.field-0.0)
    c.from_residual-in_err-alter.ensures))
    (record {
      goes = c.in_err-alter.ensures.goes;
      leaves = λ s stands.
          let (t, at, wants, is) = written c.args.tables.now ms
          c.in_ok-schema.field-0
          c.in_ok-schema.ensures.asked c.if-not-alters.false before s stands in
          subst (λ (o : Outcome). Leaves before later s o.atoms) (sym is)
          (c.in_err-alter.ensures.disk s t stands at);
      refused = tt;
      failed = failed_fault c.in_err-alter.field-0.0 _ c.in_err-alter.ensures.cause;
      wanting = λ s stands. wanting_fault c.in_err-alter.field-0.0 _ (λ none.
          unwritten_wants before before later c.args.tables.now s _ _ (reads_nothing before) stands
          (c.in_err-alter.ensures.no_memory none));
    })

pub returns-clause-moves : goal.returns-clause-moves
returns-clause-moves g c =
    let ms : Members = members_view c.args.body.now.entries in
    let before = g.D.Disk.state c.args.disk.now in
    let later = g.D.Disk.state c.alter.new.disk in
    record {
      goes = c.in_ok-alter.ensures.goes;
      leaves = λ s stands.
          let (t, at, wants, is) = written c.args.tables.now ms
          c.in_ok-schema.field-0
          c.in_ok-schema.ensures.asked c.if-not-alters.false before s stands in
          subst (λ (o : Outcome). Leaves before later s o.atoms) (sym is)
          (c.in_ok-alter.ensures.disk s t stands at);
      refused = unrefused c.in_ok-reply.reply _
          (ap (λ (a : Answer). a.status) c.in_ok-reply.ensures.reply);
      failed = tt;
      wanting = λ s stands. tt;
    }
