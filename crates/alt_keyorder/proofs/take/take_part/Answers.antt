-- Behind the end there is no part, and elsewhere the one at the front of the rest.
use Rattle.std.proofs.Common.{◌+◌, ap, ◌∙◌}
use Rattle.alt_value.specs.Stands.{tree_of}
use Rattle.alt_keyorder.proofs.KindLaws.{taken_is}
use Rattle.alt_keyorder.proofs.Unclosed.{no_part_past}
use Rattle.alt_keyorder.proofs.take.take_part.Goals as goal

pub returns-then-at-bytes-clause-part : goal.returns-then-at-bytes-clause-part
returns-then-at-bytes-clause-part c = no_part_past c.args.kind c.args.bytes.now c.args.at
    c.if-at-bytes.true

pub returns-then-at-bytes-clause-taken : goal.returns-then-at-bytes-clause-taken
returns-then-at-bytes-clause-taken c = λ t behind key is.
    no_part_past c.args.kind c.args.bytes.now c.args.at c.if-at-bytes.true t behind key is

pub returns-in-Some-clause-taken : goal.returns-in-Some-clause-taken
returns-in-Some-clause-taken c = λ t behind key is.
    let part = rw c.in-Some.is at c.in_ok-value.ensures in
    let same = taken_is c.args.kind c.split_at.result.1.now
    (tree_of c.in-Some.value) c.in-Some.len t behind part key
    (c.split_at.ensures.back ∙ is) in
    (same.0, ap (λ n. c.args.at + n) same.1)
