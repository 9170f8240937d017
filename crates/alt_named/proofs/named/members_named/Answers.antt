-- One member more, whether it is kept or passed.
use Rattle.std.proofs.Common.{◌≡◌, ◌-◌, length, Some, refl, sym, subst, ◌∙◌, map, arith}
use Rattle.json.specs.Json.{read_key, value}
use Rattle.json.proofs.Grammar.{read_key-shorter}
use Rattle.serde_json.specs.Data.{no_members, put}
use Rattle.serde_json.specs.View.{members_view}
use Rattle.alt_named.specs.Named.{AreSame}
use Rattle.alt_named.proofs.Converted.{key_refused, member_read, member_refused, members_over}
use Rattle.alt_named.proofs.named.members_named.Goals as goal

pub members-init : goal.members-init
members-init c =
    let ts = c.args.reader.now in (
      length ts,
      no_members,
      omega arith,
      refl,
      subst (λ es. AreSame (map (λ w. w.now) c.args.names.now) no_members (members_view es))
          (sym c.new-found.ensures.empty) (λ name named. refl),
    )

pub returns-in_err-name-clause-refused : goal.returns-in_err-name-clause-refused
returns-in_err-name-clause-refused c refused =
    let l = c.members in
    l.invariant.3 ∙ key_refused (value 126) l.invariant.1 l.invariant.0 l.reader
    c.in_err-name.ensures.value

pub returns-in_err-member_named-clause-refused : goal.returns-in_err-member_named-clause-refused
returns-in_err-member_named-clause-refused c refused =
    let l = c.members in
    let k = c.in-Some.name.now in
    let s = c.next_key.new.self in
    let named : read_key l.reader ≡ Some (Some k, s) = grind arith in
    l.invariant.3 ∙ member_refused (value 126) l.invariant.1 l.invariant.0 k l.reader s named
    (c.member_named.ensures.refused (grind arith))

pub members-preserved : goal.members-preserved
members-preserved c =
    let l = c.members in
    let n = l.invariant.0 in
    let k = c.in-Some.name.now in
    let s = c.next_key.new.self in
    let named : read_key l.reader ≡ Some (Some k, s) = grind arith in
    let done = c.in_ok-member_named.ensures in
    let d = done.member.0 in
    let r = c.member_named.new.reader in
    let less = read_key-shorter l.reader (Some k) s named in
    let lesser = done.shorter in (
      n - 1,
      put k d l.invariant.1,
      omega (arith, l.invariant.2),
      l.invariant.3 ∙ member_read (value 126) l.invariant.1 n k l.reader s r d
          (omega (arith, l.invariant.2)) named done.member.1,
      done.member.2 l.invariant.1 l.invariant.4,
    )

pub returns-clause-named : goal.returns-clause-named
returns-clause-named c =
    let l = c.members in (
      l.invariant.1,
      l.invariant.3 ∙ members_over (value 126) l.invariant.1 l.invariant.0 l.reader
          c.next_key.new.self l.invariant.2 (grind arith),
      l.invariant.4,
    )
