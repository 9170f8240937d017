-- A merge under way is carried on.
use Rattle.std.proofs.Common.{◌≡◌, ℕ}
use Rattle.alt_disk.specs.Disk.{DiskState, IsTrusted}
use Rattle.alt_merging.specs.HandCarrying.{CarriesFamily}
use Rattle.alt_merging.specs.HandInHand.{HandStandsForLayout as HandStands}
use Rattle.alt_merging.specs.HandMerging.{files_at}
use Rattle.alt_layout.specs.Layout.{Layout}
use Rattle.alt_merging.proofs.HandCarryLaws.{on_ok_both}
use Rattle.alt_merging.specs.Mergings.{family_of_merging}
use Rattle.alt_engine.proofs.EngineLaws.{few_on, going_carried}
use Rattle.alt_engine.proofs.engine.Engine.apply_all.Goals as goal

pub apply_all-requires-clause-stands : goal.apply_all-requires-clause-stands
apply_all-requires-clause-stands g c trusted = let ready = c.requires.stands trusted in (ready.0, ready.1.hand)

pub returns-clause-ok : goal.returns-clause-ok
returns-clause-ok g c =
    let a : DiskState = g.D.Disk.state c.args.disk.now in
    let b : DiskState = g.D.Disk.state c.apply_all.new.disk in
    let e = c.args.self.now in
    let f = c.apply_all.new.self in
    on_ok_both c.apply_all.result (λ ok (rest : (IsTrusted a → (l : Layout) → HandStands a e.hand l
    → (family : ℕ) → CarriesFamily a b e.hand f family) × ((family : ℕ)
    → files_at f family ≡ files_at e.hand family)) trusted l stands. record {
      hand = ok trusted l stands.hand;
      merging = going_carried a b e.hand f e.merging
          (λ j is. rest.0 trusted l stands.hand (family_of_merging j)) stands.merging;
      few = λ none. few_on e.hand f c.apply_all.ensures.limits rest.1 (stands.few none);
    }) c.apply_all.ensures.ok
    (on_ok_both c.apply_all.result (λ carries files. (carries, files)) c.apply_all.ensures.carries
    c.apply_all.ensures.files)

pub returns-clause-any_moment : goal.returns-clause-any_moment
returns-clause-any_moment g c trusted l stands = c.apply_all.ensures.any_moment trusted l stands.hand
