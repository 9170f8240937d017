-- Each member that is read adds to those before it, up to the brace that closes the body.
use Rattle.std.proofs.Common.{◌≡◌, ◌-◌, length, Some, None, refl, ◌∙◌, arith}
use Rattle.json.specs.Json.{read_key, value}
use Rattle.json.proofs.Grammar.{read_key-shorter}
use Rattle.serde_json.specs.Data.{no_members, put}
use Rattle.alt_named.proofs.Converted.{member_read, members_over}
use Rattle.alt_readahead.proofs.batch.body_batch.Goals as goal

pub members-init : goal.members-init
members-init c = (length c.args.reader.now, omega arith, no_members, refl, tt)

pub returns-in-Some-tables : goal.returns-in-Some-tables
returns-in-Some-tables c =
    let l = c.members in
    let so_far = l.invariant in
    let r = c.next_key.new.self in
    let closed : read_key l.reader ≡ Some (None, r) = grind arith in
    record {
      body = (
        so_far.2,
        so_far.3 ∙ members_over (value 126) so_far.2 so_far.0 l.reader r so_far.1 closed,
        rw c.in-Some-tables.is at so_far.4,
      );
    }

pub members-preserved : goal.members-preserved
members-preserved c =
    let l = c.members in
    let so_far = l.invariant in
    let n = so_far.0 in
    let k = c.in-Some.name.now in
    let s = c.next_key.new.self in
    let r = c.member_batch.new.reader in
    let named : read_key l.reader ≡ Some (Some k, s) = grind arith in
    let less = read_key-shorter l.reader (Some k) s named in
    let lesser = c.in_ok-member_batch.ensures.shorter in
    let done = c.in_ok-member_batch.ensures.member in (
      n - 1,
      omega (arith, so_far.1),
      put k done.0 so_far.2,
      so_far.3 ∙ member_read (value 126) so_far.2 n k l.reader s r done.0
          (omega (arith, so_far.1)) named done.1,
      done.2 so_far.2 so_far.4,
    )
