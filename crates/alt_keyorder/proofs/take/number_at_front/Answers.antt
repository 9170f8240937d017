use Rattle.alt_keyorder.proofs.Unclosed.{number_part}
use Rattle.alt_keyorder.proofs.take.number_at_front.Goals as goal

pub returns-in-Some : goal.returns-in-Some
returns-in-Some c = number_part c.args.bytes.now _ _ c.in-Some.ensures.spelling.0
    c.in-Some.ensures.spelling.1 c.in-Some.ensures.every
