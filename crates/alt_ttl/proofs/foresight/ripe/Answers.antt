-- There are enough, or none is ready any more, or one more was looked at.
use Rattle.std.proofs.Common.{◌≡◌, refl, ◌++◌, sym, ap, subst, ◌∙◌, None, Some, length, rules, arith}
use Rattle.std.specs.FinMap as map
use Rattle.alt_due.specs.Due.{FindsNext}
use Rattle.alt_machine.specs.Expiry.{all_expired, expiring}
use Rattle.alt_machine.specs.State.{Texts}
use Rattle.alt_schema.specs.declared.schema.TableSchema.{TableSchema}
use Rattle.alt_request.proofs.TablesLooking.{fails_then, fails_told, only_nothing, only_then, ready_only}
use Rattle.alt_request.specs.TablesStands.{catalog_of}
use Rattle.alt_ttl.specs.private.Searched.{StandingTablesAreThere}
use Rattle.alt_ttl.proofs.LeftBehind.{left_behind, left_first}
use Rattle.alt_ttl.proofs.Ripening.{put_few, put_named, ripe_all, ripe_full, ripe_step, some_then}
use Rattle.alt_ttl.proofs.foresight.ripe.Goals as goal

pub places-init : goal.places-init
places-init g c = record {
  left = λ s stands knows. ap (λ l. l ++ left_behind None (all_expired s c.args.moment))
      c.new-out.ensures.items ∙ left_first (all_expired s c.args.moment);
  known = λ s stands knows. knows;
  few = omega (arith, ap length c.new-out.ensures.items);
  named = subst (StandingTablesAreThere (catalog_of c.args.tables.now)) (sym c.new-out.ensures.items) tt;
  ripe = c.requires.ripe;
  only = only_nothing (g.D.Disk.state c.args.disk.now) c.args.tables.now;
}

pub returns-then-len-ge-MOST_EXPIRED-clause-standings :
    goal.returns-then-len-ge-MOST_EXPIRED-clause-standings
returns-then-len-ge-MOST_EXPIRED-clause-standings g c s stands knows =
    let so = c.places.invariant in
    ripe_full s c.args.moment c.places.after c.places.out.items (so.left s stands knows) so.few
    (omega (arith, c.len.ensures, c.if-len-ge-MOST_EXPIRED.true))

pub returns-in_default-clause-standings : goal.returns-in_default-clause-standings
returns-in_default-clause-standings g c s stands knows =
    let so = c.places.invariant in
    some_then c.all_of.result _ (λ v. v.items ≡ expiring s c.args.moment) c.all_of.ensures
    (λ v is. is.0 ∙ ripe_all s c.places.due c.args.moment (search rules) (so.known s stands knows)
    so.ripe (c.suffices.ensures c.if-not-suffices.false) c.places.after c.places.out.items
    (so.left s stands knows)
    (subst (FindsNext c.places.due c.places.after) c.in_default.is c.in_ok-spot.ensures)
    is.1 so.few)

pub look-requires-clause-ready : goal.look-requires-clause-ready
look-requires-clause-ready g c = ready_only c.places.invariant.only c.requires.ready

pub returns-in_err-put_over-clause-only : goal.returns-in_err-put_over-clause-only
returns-in_err-put_over-clause-only g c = only_then c.places.invariant.only c.look.ensures.only

pub returns-in-Err-clause-only : goal.returns-in-Err-clause-only
returns-in-Err-clause-only g c = only_then c.places.invariant.only c.look.ensures.only

pub returns-in-Err-clause-fails : goal.returns-in-Err-clause-fails
returns-in-Err-clause-fails g c = fails_told refl (fails_then c.places.invariant.only
    c.in-Err.ensures.fails)

pub places-preserved : goal.places-preserved
places-preserved g c =
    let so = c.places.invariant in
    let next : FindsNext c.places.due c.places.after (Some c.in-Some.spot) =
    subst (FindsNext c.places.due c.places.after) c.in-Some.is c.in_ok-spot.ensures in
    record {
      left = λ s stands knows. ripe_step s c.places.due c.args.moment (search rules)
          (so.known s stands knows) so.ripe (c.suffices.ensures c.if-not-suffices.false)
          c.places.after c.places.out.items (so.left s stands knows) c.in-Some.spot next
          c.put_over.new.out.items c.in-Ok.over
          (c.in-Ok.ensures.over s ((so.only.stays s).0 stands)) c.in_ok-put_over.ensures;
      known = λ s stands knows. c.in-Ok.ensures.known s ((so.only.stays s).0 stands)
          (so.known s stands knows);
      few = put_few c.in-Some.spot c.places.out.items c.put_over.new.out.items
          (omega (arith, c.len.ensures, c.if-len-ge-MOST_EXPIRED.false)) c.in-Ok.over
          c.in_ok-put_over.ensures;
      named = put_named (catalog_of c.args.tables.now) c.in-Some.spot c.places.out.items
          c.put_over.new.out.items so.named c.in-Ok.over
          (λ over. ap (λ (k : Texts TableSchema). map.contains_key k c.in-Some.spot.table)
          (sym so.only.catalog.catalog) ∙ c.in-Ok.ensures.named over)
          c.in_ok-put_over.ensures;
      ripe = c.in-Ok.ensures.ripe so.ripe;
      only = only_then so.only c.look.ensures.only;
    }
