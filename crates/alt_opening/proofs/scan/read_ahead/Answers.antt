-- The rows asked for are turned.
use Rattle.std.proofs.Common.{◌≡◌, length, None, true, arith}
use Rattle.std.proofs.lemmas.Bool.Decides.{nat_tests}
use Rattle.alt_layout.specs.Layout.{rows_between}
use Rattle.alt_opening.proofs.Ahead.{some_ahead, none_came, page_is}
use Rattle.alt_opening.proofs.DeviceFaults.{device_walk}
use Rattle.alt_opening.proofs.scan.read_ahead.Goals as goal

pub returns-in-Ok-rows-clause-ahead : goal.returns-in-Ok-rows-clause-ahead
returns-in-Ok-rows-clause-ahead g c tells l reads had =
    let none : length c.args.ahead.now.items ≡ 0 = grind (
      arith,
      nat_tests,
      c.is_empty.ensures,
      c.if-not-is_empty.false,
      c.args.ahead.now.ok,
    ) in
    some_ahead l c.args.family c.args.from.now 64 c.rows.new.out.items c.reverse.new.self.items
    (page_is l c.args.family c.in-Ok.from c.args.from.now 64 c.args.ahead.now.items
    c.rows.new.out.items none (c.in-Ok-rows.ensures.rows tells l reads) c.in-Ok.ensures.same)
    c.reverse.ensures.items

pub returns-in-Ok-rows-clause-none : goal.returns-in-Ok-rows-clause-none
returns-in-Ok-rows-clause-none g c tells l reads =
    let none : length c.args.ahead.now.items ≡ 0 = grind (
      arith,
      nat_tests,
      c.is_empty.ensures,
      c.if-not-is_empty.false,
      c.args.ahead.now.ok,
    ) in
    none_came 63 (rows_between l c.args.family c.args.from.now None true) c.rows.new.out.items
    c.reverse.new.self.items
    (page_is l c.args.family c.in-Ok.from c.args.from.now 64 c.args.ahead.now.items
    c.rows.new.out.items none (c.in-Ok-rows.ensures.rows tells l reads) c.in-Ok.ensures.same)
    c.reverse.ensures.items

pub returns-clause-fault : goal.returns-clause-fault
returns-clause-fault g c tells l reads =
    device_walk c.in-Err.fault c.from.result c.from.ensures
    (c.in-Err.ensures.undamaged tells l reads)
