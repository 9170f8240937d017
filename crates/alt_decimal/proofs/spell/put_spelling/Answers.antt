use Rattle.std.proofs.Common.{arith}
use Rattle.alt_decimal.proofs.Pairs.{spelled_parts, length-pairs}
use Rattle.alt_decimal.proofs.spell.put_spelling.Goals as goal

pub returns-clause-bytes : goal.returns-clause-bytes
returns-clause-bytes c =
    spelled_parts c.put-at.new.buf c.put.new.buf c.put_pairs.new.out _ c.args.sign c.args.first
    c.put.result c.put-at.result c.args.count
    c.put-at.ensures.text (omega (arith, c.put-at.ensures.end))
    (length-pairs c.args.count c.args.digits.now c.requires.even) c.put_pairs.ensures
    c.put.ensures.text
