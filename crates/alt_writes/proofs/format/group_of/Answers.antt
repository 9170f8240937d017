-- The count and the writes.
use Rattle.std.proofs.Common.{◌≡◌, ◌++◌, ℕ, length, sym, ap, ◌∙◌, arith}
use Rattle.std.specs.Int.{w64, to_be_bytes}
use Rattle.alt_writes.specs.Writes.{numbered}
use Rattle.alt_writes.proofs.FormatLaws.{group_bytes_put}
use Rattle.alt_writes.proofs.PushLaws.{length-numbered}
use Rattle.alt_writes.proofs.format.group_of.Goals as goal

pub returns-clause-bytes : goal.returns-clause-bytes
returns-clause-bytes c =
    let ws = numbered c.args.number c.args.batches.now in
    let count : length c.args.batches.now ≡ length ws =
    sym (length-numbered c.args.number c.args.batches.now) in
    group_bytes_put ws c.in_ok-bytes.bytes.items c.put_u64.new.out.items
    c.put_writes.new.out.items c.in_ok-bytes.ensures.items
    (c.in_ok-put_u64.ensures.ok
    ∙ ap (λ (n : ℕ). c.in_ok-bytes.bytes.items ++ to_be_bytes w64 n) count)
    c.in_ok-put_writes.ensures.appended

pub returns-clause-held : goal.returns-clause-held
returns-clause-held c =
    let many = length-numbered c.args.number c.args.batches.now in
    record {
      some = omega (arith, many, c.requires.some);
      count = omega (arith, many, c.requires.numbers);
      writes = c.in_ok-put_writes.ensures.held;
    }
