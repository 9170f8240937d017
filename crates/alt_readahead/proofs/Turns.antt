-- A text that was read to its end.
use Rattle.std.proofs.Common.{◌≡◌, ℕ, List, [], ◌∷◌, length, Some, ap, ◌∙◌, arith}
use Rattle.json.specs.Token.{Token}
use Rattle.json.specs.Lex.{tokens}
use Rattle.json.specs.Json.{parse_map, members, value}
use Rattle.json.proofs.Grammar.{value-begin_object}
use Rattle.serde_json.specs.Data.{object, Members, no_members}
use Rattle.serde_json.specs.Read.{of_json, of_members, converted, read}
use Rattle.alt_named.proofs.Converted.{converted-object, whole_read}

-- a text that is one object is read as its members
pub body_read : (text : List ℕ) (r s : List Token) (ms : Members)
    → tokens text ≡ Token.begin_object ∷ r
    → converted (λ os. of_members os no_members) (members (value 126) (length r) r) ≡ Some (ms, s)
    → s ≡ [] → read text ≡ Some (object ms)
body_read text r s ms first e over = whole_read (value 127 (tokens text)) (object ms)
    (ap (converted of_json) (ap (value 127) first ∙ value-begin_object 127 r (omega arith))
    ∙ converted-object (members (value 126) (length r) r) ∙ ap (parse_map object) e
    ∙ ap (λ t. Some (object ms, t)) over)
