-- A merge of a family that is not live any more.
use Rattle.std.proofs.Common.{◌≡◌, Some, inr, refl, sym, subst, rules}
use Rattle.alt_disk.specs.Disk.{DiskState}
use Rattle.std.proofs.lemmas.Result.{on_ok_weaker}
use Rattle.alt_manifest.proofs.RuleLaws.{tells_no}
use Rattle.alt_manifest.specs.Versions.{IsIn}
use Rattle.alt_merging.specs.HandMerging.{files_at}
use Rattle.alt_merging.proofs.HandCarryDrafts.{all_still}
use Rattle.alt_merging.proofs.StepLaws.{has_still, last_still}
use Rattle.alt_engine.specs.InHand.{IsGoing, merge_of}
use Rattle.alt_engine.proofs.Stepping.{taken_stands}
use Rattle.alt_engine.proofs.engine.Engine.give_up.Goals as goal

pub returns-then-has-clause-any_moment : goal.returns-then-has-clause-any_moment
returns-then-has-clause-any_moment g c trusted l stands =
    has_still (g.D.Disk.state c.args.disk.now) c.args.self.now.hand l stands.hand

pub give_up-requires : goal.give_up-requires
give_up-requires g c trusted =
    let given = c.requires trusted in let stands = given.1 in
    let is : merge_of c.args.self.now ≡ Some c.in-Some.merging = search rules in
    let a : DiskState = g.D.Disk.state c.args.disk.now in
    let going = taken_stands a c.args.self.now c.in-Some.merging is stands.merging in
    (given.0, going.0, stands.hand, going.1)

pub returns-else-has-clause-ok : goal.returns-else-has-clause-ok
returns-else-has-clause-ok g c = on_ok_weaker c.give_up.result (λ well trusted l stands.
    let is : merge_of c.args.self.now ≡ Some c.in-Some.merging = search rules in
    let a : DiskState = g.D.Disk.state c.args.disk.now in
    let going = taken_stands a c.args.self.now c.in-Some.merging is stands.merging in
    record {
      hand = c.give_up.ensures.ok trusted l going.0 stands.hand going.1;
      merging = subst (IsGoing (g.D.Disk.state c.give_up.new.disk) c.args.self.now.hand)
          (sym c.take.ensures.after) tt;
      few = stands.few;
    }) c.give_up.ensures.well

pub returns-else-has-clause-turned : goal.returns-else-has-clause-turned
returns-else-has-clause-turned g c = on_ok_weaker c.give_up.result (λ well.
    let is : merge_of c.args.self.now ≡ Some c.in-Some.merging = search rules in
    inr (record {
      job = c.in-Some.merging;
      was = is;
      dead = subst (λ n. IsIn c.args.live.now n → ⊥) c.family.ensures
          (tells_no c.has.result (IsIn c.args.live.now c.family.result) c.has.ensures c.if-has.false);
      none = c.take.ensures.after;
      few = refl;
    })) c.give_up.ensures.well

pub returns-else-has-clause-still : goal.returns-else-has-clause-still
returns-else-has-clause-still g c trusted l stands family =
    let is : merge_of c.args.self.now ≡ Some c.in-Some.merging = search rules in
    let a : DiskState = g.D.Disk.state c.args.disk.now in
    let going = taken_stands a c.args.self.now c.in-Some.merging is stands.merging in
    c.give_up.ensures.still trusted l going.0 stands.hand going.1 family

pub returns-else-has-clause-any_moment : goal.returns-else-has-clause-any_moment
returns-else-has-clause-any_moment g c trusted l stands =
    let is : merge_of c.args.self.now ≡ Some c.in-Some.merging = search rules in
    let a : DiskState = g.D.Disk.state c.args.disk.now in
    let going = taken_stands a c.args.self.now c.in-Some.merging is stands.merging in
    c.give_up.ensures.any_moment trusted l going.0 stands.hand going.1

pub returns-in-None-clause-still : goal.returns-in-None-clause-still
returns-in-None-clause-still g c trusted l stands family =
    all_still (g.D.Disk.state c.args.disk.now) (files_at c.args.self.now.hand family)

pub returns-in-None-clause-any_moment : goal.returns-in-None-clause-any_moment
returns-in-None-clause-any_moment g c trusted l stands =
    has_still (g.D.Disk.state c.args.disk.now) c.args.self.now.hand l stands.hand

pub returns-then-has-clause-last : goal.returns-then-has-clause-last
returns-then-has-clause-last g c trusted l stands =
    last_still (g.D.Disk.state c.args.disk.now) c.args.self.now.hand l stands.hand

pub returns-else-has-clause-last : goal.returns-else-has-clause-last
returns-else-has-clause-last g c trusted l stands =
    let is : merge_of c.args.self.now ≡ Some c.in-Some.merging = search rules in
    let going = taken_stands (g.D.Disk.state c.args.disk.now) c.args.self.now c.in-Some.merging is
    stands.merging in
    c.give_up.ensures.last trusted l going.0 stands.hand going.1

pub returns-in-None-clause-last : goal.returns-in-None-clause-last
returns-in-None-clause-last g c trusted l stands =
    last_still (g.D.Disk.state c.args.disk.now) c.args.self.now.hand l stands.hand
