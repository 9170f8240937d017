-- The first that is full.
use Rattle.std.proofs.Common.{◌≡◌, ◌≤◌, ⊎_elim, take, get_or, subst, arith}
use Rattle.std.specs.BTreeMap.{get}
use Rattle.std.specs.Ordering.{nat_cmp}
use Rattle.alt_flush.proofs.RemoveLaws.{in_more}
use Rattle.alt_manifest.specs.Versions.{IsIn}
use Rattle.alt_drafts.specs.InHand.{bytes_in_memory}
use Rattle.alt_drafts.proofs.NeedLaws.{in_before}
use Rattle.alt_drafts.proofs.full.first_full.Goals as goal
use Rattle.alt_manifest.proofs.Among.{in_at}

pub returns-then-bytes_of-flush-clause-lives : goal.returns-then-bytes_of-flush-clause-lives
returns-then-bytes_of-flush-clause-lives c =
    in_at c.args.live.now c.loop-family.family-index c.loop-family-test.true

pub returns-then-bytes_of-flush-clause-first : goal.returns-then-bytes_of-flush-clause-first
returns-then-bytes_of-flush-clause-first c other there low =
    c.loop-family.invariant other (in_before c.args.live.now c.loop-family.family-index other c.requires
    c.loop-family-test.true there low)

pub loop-family-preserved : goal.loop-family-preserved
loop-family-preserved c other there full =
    let i = c.loop-family.family-index in
    let live = c.args.live.now in
    ⊎_elim (λ (earlier : IsIn (take i live) other). c.loop-family.invariant other earlier full)
    (λ (e : other ≡ get_or live i 0).
    let it : c.args.flush ≤ bytes_in_memory (get nat_cmp c.args.families.now (get_or live i 0)) =
    subst (λ f. c.args.flush ≤ bytes_in_memory (get nat_cmp c.args.families.now f)) e full in
    let bytes = c.bytes_of.ensures in let low = c.if-bytes_of-flush.false in
    omega (arith, it, bytes, low)) (in_more live i other c.loop-family-test.true there)
