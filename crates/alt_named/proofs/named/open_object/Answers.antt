-- Tokens that begin otherwise are no object.
use Rattle.std.proofs.Common.{◌≡◌, [], ◌∷◌, false, ap, ◌∙◌, arith}
use Rattle.json.specs.Reads.{token_of}
use Rattle.alt_named.specs.Parts.{is_brace, object_of}
use Rattle.alt_named.proofs.Bodies.{nothing_none, other_none}
use Rattle.alt_named.proofs.named.open_object.Goals as goal

pub returns-in_err-token-clause-refused : goal.returns-in_err-token-clause-refused
returns-in_err-token-clause-refused c refused =
    let empty : c.args.reader.now ≡ [] = grind arith in
    ap object_of empty ∙ nothing_none

pub returns-else-is_brace-clause-refused : goal.returns-else-is_brace-clause-refused
returns-else-is_brace-clause-refused c refused =
    let t = token_of c.in_ok-token.token in
    let first : c.args.reader.now ≡ t ∷ c.next.new.self = grind arith in
    let other : is_brace t ≡ false = grind arith in
    ap object_of first ∙ other_none t c.next.new.self other
