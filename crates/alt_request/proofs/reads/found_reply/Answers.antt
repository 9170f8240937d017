-- The reply of what was found is made, or it wasn't read.
use Rattle.std.proofs.Common.{◌≡◌, sym, ap, subst, ◌∙◌, ℕ, List, Option, Err}
use Rattle.std.specs.FinMap as map
use Rattle.alt_disk.specs.Disk.{DiskState}
use Rattle.alt_machine.specs.Outcomes.{says}
use Rattle.alt_machine.specs.State.{State}
use Rattle.alt_request.specs.Carried.{FollowsOutcome, IsPlainResult, Moves}
use Rattle.alt_request.specs.Reads.{finds}
use Rattle.alt_said.specs.declared.stop.Stop.TheVariants.{Fault}
use Rattle.alt_request.proofs.Carrying.{does_say, unread, says_so, plain_so}
use Rattle.alt_request.proofs.Moving.{reads_move, reply_unfailed, failed_fault}
use Rattle.alt_request.proofs.Reaching.{err_is}
use Rattle.alt_shape.specs.Refusals.{Answer}
use Rattle.alt_said.specs.TablesStands.{Stands, catalog_of, bounds_of}
use Rattle.alt_value.specs.Tree.{Pair}
use Rattle.alt_request.proofs.reads.found_reply.Goals as goal

pub find-requires : goal.find-requires
find-requires g c = record {
  ready = c.requires.ready;
  there = ap (map.contains_key (catalog_of c.args.tables.now)) c.table_name.ensures.name
      ∙ c.requires.there;
}

pub returns-in_err-found-clause-does : goal.returns-in_err-found-clause-does
returns-in_err-found-clause-does g c s t stands there =
    let file : ℕ = (bounds_of c.args.tables.now).file in
    let now : State → Type 0 = Stands (g.D.Disk.state c.find.new.disk) c.find.new.self in
    subst (FollowsOutcome file now s (finds g.R.ItemRead.answer c.args.said.now t c.args.place))
    (sym (err_is c.from_residual.result (Fault c.in_err-found.field-0.0) c.from_residual.ensures))
    (unread file now s (finds g.R.ItemRead.answer c.args.said.now t c.args.place) c.in_err-found.field-0.0
    (c.in_err-found.ensures.fails.fault s stands) ((c.in_err-found.ensures.only.stays s).0 stands))

pub returns-in_err-found-clause-plain : goal.returns-in_err-found-clause-plain
returns-in_err-found-clause-plain g c = subst IsPlainResult
    (sym (err_is c.from_residual.result (Fault c.in_err-found.field-0.0) c.from_residual.ensures))
    tt

pub returns-clause-does : goal.returns-clause-does
returns-clause-does g c s t stands there =
    let file : ℕ = (bounds_of c.args.tables.now).file in
    let now : State → Type 0 = Stands (g.D.Disk.state c.find.new.disk) c.find.new.self in
    let answer : Option (List Pair) → Answer = g.R.ItemRead.answer c.args.said.now in
    let at : c.in_ok-found.found.item ≡ map.get t.items c.args.place =
    c.in_ok-found.ensures.item s stands t
    (ap (map.get s.tables) c.table_name.ensures.name ∙ there)
    ∙ ap (map.get t.items) c.in_ok-found.ensures.place in
    subst (λ o. FollowsOutcome file now s (says (answer o)) c.reply.result) at
    (does_say file now (answer c.in_ok-found.found.item) s c.reply.result
    (says_so (answer c.in_ok-found.found.item) c.reply.result c.reply.ensures.reply
    c.reply.ensures.plain c.reply.ensures.cause)
    ((c.in_ok-found.ensures.only.stays s).0 stands))

pub returns-clause-plain : goal.returns-clause-plain
returns-clause-plain g c = plain_so c.reply.result c.reply.ensures.plain
    c.reply.ensures.cause

pub returns-in_err-found-clause-moves : goal.returns-in_err-found-clause-moves
returns-in_err-found-clause-moves g c t =
    let before : DiskState = g.D.Disk.state c.args.disk.now in
    let after : DiskState = g.D.Disk.state c.find.new.disk in
    subst (Moves _ _ before after)
    (sym (err_is c.from_residual.result (Fault c.in_err-found.field-0.0) c.from_residual.ensures))
    (reads_move _ _ c.args.tables.now before (λ s h. h.0) after
    (Err (Fault c.in_err-found.field-0.0)) c.in_err-found.ensures.only.disk
    (failed_fault c.in_err-found.field-0.0 _ c.in_err-found.ensures.fails.cause))

pub returns-clause-moves : goal.returns-clause-moves
returns-clause-moves g c t =
    reads_move _ _ c.args.tables.now (g.D.Disk.state c.args.disk.now) (λ s h. h.0)
    (g.D.Disk.state c.find.new.disk) c.reply.result c.in_ok-found.ensures.only.disk
    (reply_unfailed _ c.reply.result c.reply.ensures.cause)
