-- The item and another member are put each as it is read.
use Rattle.std.proofs.Common.{◌≡◌, true, false, map, bytes_eq, true≢false, sym, ap, ◌∙◌, arith, rules}
use Rattle.std.specs.Prelude.{◌≢◌, codes}
use Rattle.std.proofs.lemmas.Slice.Eq.{bytes_eq-Decides}
use Rattle.serde_json.specs.Data.{object, no_members, put}
use Rattle.serde_json.specs.View.{view, members_view}
use Rattle.serde_json.proofs.Views.{view-Object}
use Rattle.alt_named.specs.Named.{is_among}
use Rattle.alt_readahead.proofs.SoFar.{so_far-put, so_far-pass, so_far-item}
use Rattle.alt_readahead.proofs.ahead.member_ahead.Goals as goal

pub returns-then-eq-clause-member : goal.returns-then-eq-clause-member
returns-then-eq-clause-member c =
    let names = map (λ w. w.now) c.args.names.now in
    let k = c.args.name.now in
    let bs = members_view c.args.found.now.entries in
    let same : bytes_eq k (codes "Item") ≡ true = search rules in
    let is = (bytes_eq-Decides k (codes "Item")).0 same in
    let reads = c.in_ok-read.ensures.item in
    let placed : members_view c.put.new.found.entries ≡ put k (object no_members) bs =
    c.in_ok-put.ensures.put ∙ ap (λ d. put k d bs) (view-Object c.new.result
    ∙ ap (λ es. object (members_view es)) c.new.ensures.empty) in (
      object reads.0,
      reads.1,
      λ ms h. rw placed
          (so_far-item names k reads.0 c.in_ok-read.read bs c.args.item.now is reads.2 ms h),
    )

pub returns-then-not-is_among-clause-member : goal.returns-then-not-is_among-clause-member
returns-then-not-is_among-clause-member c =
    let names = map (λ w. w.now) c.args.names.now in
    let k = c.args.name.now in
    let passed = c.in_ok-pass.ensures.passed in
    let differs : bytes_eq k (codes "Item") ≡ false = search rules in
    let other : k ≢ codes "Item" =
    λ is. true≢false (sym ((bytes_eq-Decides k (codes "Item")).1 is) ∙ differs) in
    let apart : is_among names k ≡ false = grind arith in (
      passed.0,
      passed.1,
      λ ms h. so_far-pass names k passed.0 (members_view c.args.found.now.entries)
          c.args.item.now other apart ms h,
    )

pub returns-clause-member : goal.returns-clause-member
returns-clause-member c =
    let names = map (λ w. w.now) c.args.names.now in
    let k = c.args.name.now in
    let bs = members_view c.args.found.now.entries in
    let d = view c.in_ok-value.value in
    let differs : bytes_eq k (codes "Item") ≡ false = search rules in
    let other : k ≢ codes "Item" =
    λ is. true≢false (sym ((bytes_eq-Decides k (codes "Item")).1 is) ∙ differs) in
    let placed : members_view c.put-2.new.found.entries ≡ put k d bs =
    c.in_ok-put-2.ensures.put in (
      d,
      c.in_ok-value.ensures.read,
      λ ms h. rw placed (so_far-put names k d bs c.args.item.now other ms h),
    )
