-- A member is passed where its name isn't among the names, and put where it is.
use Rattle.std.proofs.Common.{◌≡◌, false, map, string_bytes, ap, ◌∙◌, arith, rules}
use Rattle.serde_json.specs.Data.{put}
use Rattle.serde_json.specs.View.{members_view, view}
use Rattle.serde_json.proofs.Views.{members_view-insert_entry}
use Rattle.alt_named.specs.Named.{is_among}
use Rattle.alt_named.proofs.Bodies.{same-kept, same-passed}
use Rattle.alt_named.proofs.named.member_named.Goals as goal

pub returns-then-not-is_among-clause-member : goal.returns-then-not-is_among-clause-member
returns-then-not-is_among-clause-member c =
    let names = map (λ w. w.now) c.args.names.now in
    let k = c.args.name.now in
    let passed = c.in_ok-pass.ensures.passed in
    let apart : is_among names k ≡ false = grind arith in (
      passed.0,
      passed.1,
      λ ms same. same-passed names k passed.0 ms (members_view c.args.found.now.entries) apart same,
    )

pub returns-clause-member : goal.returns-clause-member
returns-clause-member c =
    let names = map (λ w. w.now) c.args.names.now in
    let k = c.args.name.now in
    let old = c.args.found.now.entries in
    let v = c.in_ok-member.member in
    let copied : string_bytes c.in_ok-key.key ≡ k = search rules in
    let inserted : members_view c.insert.new.self.entries ≡ put k (view v) (members_view old) =
    ap members_view c.in_ok-insert.ensures.entries
    ∙ members_view-insert_entry old c.in_ok-key.key v
    ∙ ap (λ name. put name (view v) (members_view old)) copied in (
      view v,
      c.in_ok-member.ensures.read,
      λ ms same. rw inserted (same-kept names k (view v) ms (members_view old) same),
    )
