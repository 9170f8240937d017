-- Two entries in either order.
use Rattle.std.proofs.Common.{Bor, ap, Option, arith}
use Rattle.std.specs.Prelude.{option_map}
use Rattle.alt_schema.specs.declared.schema.KeyAttr.{KeyAttr}
use Rattle.alt_expr.specs.KeyForm.{Key}
use Rattle.alt_legacy.specs.Keys.{key_of}
use Rattle.alt_legacy.proofs.Keyed.{pair_of, in_turn, in_other_turn}
use Rattle.alt_legacy.proofs.key.are_key.Goals as goal

-- the key of a description that may be there
abbrev key_there : Option (Bor KeyAttr) → Option Key
key_there o = option_map (λ (r : Bor KeyAttr). key_of r.now) o

pub returns-then-are_both : goal.returns-then-are_both
returns-then-are_both c =
    in_turn (key_of c.args.hash.now) (key_of c.in-Some.range.now) (key_there c.args.range)
    c.args.entries.now c.first-item.result c.second-item.result (ap key_there c.in-Some.is)
    (pair_of c.args.entries.now c.first-item.result c.second-item.result (omega arith)
    (omega arith) c.first-item.is c.second-item.is) c.are_both.result c.are_both.ensures
    c.if-are_both.true

pub returns-else-are_both : goal.returns-else-are_both
returns-else-are_both c =
    in_other_turn (key_of c.args.hash.now) (key_of c.in-Some.range.now) (key_there c.args.range)
    c.args.entries.now c.first-item.result c.second-item.result (ap key_there c.in-Some.is)
    (pair_of c.args.entries.now c.first-item.result c.second-item.result (omega arith)
    (omega arith) c.first-item.is c.second-item.is) c.are_both.result
    c.are_both-else-are_both.result c.are_both.ensures c.if-are_both.false
    c.are_both-else-are_both.ensures
