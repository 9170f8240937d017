-- The request is refused, or the table has that attribute and what was said is answered.
use Rattle.std.proofs.Common.{sym, ap, subst, ◌∙◌, ℕ, List, [], ◌∷◌, Option, is_some}
use Rattle.std.specs.FinMap as map
use Rattle.std.specs.Prelude.{codes}
use Rattle.serde_json.specs.Data.{Members}
use Rattle.serde_json.specs.View.{members_view}
use Rattle.alt_machine.specs.Ops.UpdateTimeToLive.{time_json, time_left, time_said, update_time_to_live, with_time}
use Rattle.alt_machine.specs.Members.{table_name}
use Rattle.alt_machine.specs.Outcomes.{writes, a_number}
use Rattle.alt_machine.specs.Replies.{answers}
use Rattle.alt_machine.specs.State.{State}
use Rattle.alt_request.specs.Carried.{Carries, Moves}
use Rattle.alt_request.specs.declared.stop.Stop.TheVariants.{Fault}
use Rattle.alt_request.proofs.Carrying.{faulted_as, broke_off, wrote}
use Rattle.alt_request.proofs.Moving.{moves_stopped, memory_unfailed, failed_fault, unwritten_wants, wanting_fault, unrefused}
use Rattle.alt_request.proofs.Reaching.{err_is}
use Rattle.alt_shape.specs.Refusals.{Answer}
use Rattle.alt_request.specs.TablesImages.{Leaves}
use Rattle.alt_request.specs.TablesFaults.{AreMade, BreakOff}
use Rattle.alt_request.proofs.TablesLeft.{reads_nothing}
use Rattle.alt_request.specs.TablesStands.{Stands, bounds_of, catalog_of}
use Rattle.alt_ttl.proofs.Timing.{time_reached, timed_unfailed, untimed}
use Rattle.alt_ttl.proofs.update_time.update_time_to_live.Goals as goal

-- a name of a table, and the attribute that it is to have
abbrev Given : Type 0
Given = List ℕ × Option (List ℕ)

pub returns-in_err-asked-clause-carried : goal.returns-in_err-asked-clause-carried
returns-in_err-asked-clause-carried g c =
    let ms : Members = members_view c.args.body.now.entries in
    let stands : State → Type 0 = Stands (g.D.Disk.state c.args.disk.now) c.args.tables.now in
    subst (Carries (bounds_of c.args.tables.now).file (λ s. update_time_to_live s ms) stands stands)
    (sym (err_is c.from_residual.result c.in_err-asked.field-0.0 c.from_residual.ensures))
    (untimed (Unit {0}) ms stands stands (catalog_of c.args.tables.now) (λ s h. sym h.catalog)
    c.in_err-asked.field-0.0 c.in_err-asked.ensures.asked (λ s h. h))

pub returns-in_err-reply-clause-carried : goal.returns-in_err-reply-clause-carried
returns-in_err-reply-clause-carried g c =
    let ms : Members = members_view c.args.body.now.entries in
    let stands : State → Type 0 = Stands (g.D.Disk.state c.args.disk.now) c.args.tables.now in
    subst (Carries (bounds_of c.args.tables.now).file (λ s. update_time_to_live s ms) stands stands)
    (sym (err_is c.from_residual-in_err-reply.result c.in_err-reply.field-0.0
    c.from_residual-in_err-reply.ensures))
    (faulted_as (λ s. update_time_to_live s ms) stands stands c.in_err-reply.field-0.0
    c.in_err-reply.ensures.cause (λ s h. h))

pub set_ttl-requires-clause-there : goal.set_ttl-requires-clause-there
set_ttl-requires-clause-there g c =
    ap is_some (ap (map.get (catalog_of c.args.tables.now)) c.table_name.ensures.name
    ∙ c.in_ok-asked.ensures.asked.there)

pub returns-in_err-set_ttl-clause-carried : goal.returns-in_err-set_ttl-clause-carried
returns-in_err-set_ttl-clause-carried g c =
    let ms : Members = members_view c.args.body.now.entries in
    let now : State → Type 0 = Stands (g.D.Disk.state c.set_ttl.new.disk) c.set_ttl.new.self in
    subst (Carries (bounds_of c.args.tables.now).file (λ s. update_time_to_live s ms)
    (Stands (g.D.Disk.state c.args.disk.now) c.args.tables.now) now)
    (sym (err_is c.from_residual-in_err-set_ttl.result (Fault c.in_err-set_ttl.field-0.0)
    c.from_residual-in_err-set_ttl.ensures))
    (broke_off (λ s. update_time_to_live s ms)
    (Stands (g.D.Disk.state c.args.disk.now) c.args.tables.now) now c.in_err-set_ttl.field-0.0
    a_number (λ s stands.
    let (t, at, is) = time_reached (catalog_of c.args.tables.now) ms
    c.in_ok-asked.ensures.asked s (sym stands.catalog) in (
      with_time s (table_name ms) t (time_left ms) ∷ [],
      time_said ms,
      is,
      subst (λ (w : Given). BreakOff (bounds_of c.args.tables.now).file now a_number s (with_time s w.0 t w.1 ∷ [])
          c.in_err-set_ttl.field-0.0)
          (λ i. (c.table_name.ensures.name i, c.left.ensures i))
          (c.in_err-set_ttl.ensures.writes s t stands
          (ap (map.get s.tables) c.table_name.ensures.name ∙ at)),
    )))

pub returns-clause-carried : goal.returns-clause-carried
returns-clause-carried g c =
    let ms : Members = members_view c.args.body.now.entries in
    let now : State → Type 0 = Stands (g.D.Disk.state c.set_ttl.new.disk) c.set_ttl.new.self in
    wrote (λ s. update_time_to_live s ms)
    (Stands (g.D.Disk.state c.args.disk.now) c.args.tables.now) now c.in_ok-reply.reply
    c.in_ok-reply.ensures.plain a_number (λ s stands.
    let (t, at, is) = time_reached (catalog_of c.args.tables.now) ms
    c.in_ok-asked.ensures.asked s (sym stands.catalog) in (
      with_time s (table_name ms) t (time_left ms) ∷ [],
      is ∙ ap (λ a. writes (with_time s (table_name ms) t (time_left ms) ∷ []) a)
          (sym (c.in_ok-reply.ensures.reply
          ∙ (λ i. answers (codes "TimeToLiveSpecification")
          (time_json (c.attribute.ensures i) (c.enables.ensures i))))),
      subst (λ (w : Given). AreMade now a_number s (with_time s w.0 t w.1 ∷ []))
          (λ i. (c.table_name.ensures.name i, c.left.ensures i))
          (c.in_ok-set_ttl.ensures.writes s t stands
          (ap (map.get s.tables) c.table_name.ensures.name ∙ at)),
    ))

pub returns-in_err-asked-clause-moves : goal.returns-in_err-asked-clause-moves
returns-in_err-asked-clause-moves g c =
    let ms : Members = members_view c.args.body.now.entries in
    moves_stopped (λ s. update_time_to_live s ms) c.args.tables.now
    (g.D.Disk.state c.args.disk.now) c.from_residual.result c.in_err-asked.field-0.0
    c.from_residual.ensures
    (timed_unfailed (Unit {0}) _ (catalog_of c.args.tables.now) ms c.in_err-asked.field-0.0
    c.in_err-asked.ensures.asked)

pub returns-in_err-reply-clause-moves : goal.returns-in_err-reply-clause-moves
returns-in_err-reply-clause-moves g c =
    moves_stopped (λ s. update_time_to_live s (members_view c.args.body.now.entries))
    c.args.tables.now (g.D.Disk.state c.args.disk.now)
    c.from_residual-in_err-reply.result c.in_err-reply.field-0.0
    c.from_residual-in_err-reply.ensures
    (memory_unfailed _ c.in_err-reply.field-0.0 c.in_err-reply.ensures.cause)

pub returns-in_err-set_ttl-clause-moves : goal.returns-in_err-set_ttl-clause-moves
returns-in_err-set_ttl-clause-moves g c =
    let ms : Members = members_view c.args.body.now.entries in
    let before = g.D.Disk.state c.args.disk.now in
    let later = g.D.Disk.state c.set_ttl.new.disk in
    subst (Moves (λ s. update_time_to_live s ms) (Stands before c.args.tables.now) before later)
    (sym (err_is c.from_residual-in_err-set_ttl.result (Fault c.in_err-set_ttl.field-0.0)
    c.from_residual-in_err-set_ttl.ensures))
    (record {
      goes = c.in_err-set_ttl.ensures.goes;
      leaves = λ s stands.
          let (t, at, is) = time_reached (catalog_of c.args.tables.now) ms
          c.in_ok-asked.ensures.asked s (sym stands.catalog) in
          subst (λ o. Leaves before later s o.atoms) (sym is)
          (subst (λ (w : Given). Leaves before later s (with_time s w.0 t w.1 ∷ []))
          (λ i. (c.table_name.ensures.name i, c.left.ensures i))
          (c.in_err-set_ttl.ensures.disk s t stands
          (ap (map.get s.tables) c.table_name.ensures.name ∙ at)));
      refused = tt;
      failed = failed_fault c.in_err-set_ttl.field-0.0 _ c.in_err-set_ttl.ensures.cause;
      wanting = λ s stands. wanting_fault c.in_err-set_ttl.field-0.0 _ (λ none.
          unwritten_wants before before later c.args.tables.now s _ _ (reads_nothing before) stands
          (c.in_err-set_ttl.ensures.no_memory none));
    })

pub returns-clause-moves : goal.returns-clause-moves
returns-clause-moves g c =
    let ms : Members = members_view c.args.body.now.entries in
    let before = g.D.Disk.state c.args.disk.now in
    let later = g.D.Disk.state c.set_ttl.new.disk in
    record {
      goes = c.in_ok-set_ttl.ensures.goes;
      leaves = λ s stands.
          let (t, at, is) = time_reached (catalog_of c.args.tables.now) ms
          c.in_ok-asked.ensures.asked s (sym stands.catalog) in
          subst (λ o. Leaves before later s o.atoms) (sym is)
          (subst (λ (w : Given). Leaves before later s (with_time s w.0 t w.1 ∷ []))
          (λ i. (c.table_name.ensures.name i, c.left.ensures i))
          (c.in_ok-set_ttl.ensures.disk s t stands
          (ap (map.get s.tables) c.table_name.ensures.name ∙ at)));
      refused = unrefused c.in_ok-reply.reply _
          (ap (λ (a : Answer). a.status) c.in_ok-reply.ensures.reply);
      failed = tt;
      wanting = λ s stands. tt;
    }
