-- What the parts of a body are, for private contracts.
use Rattle.std.specs.Prelude.{◌≡◌, Bool, true, false, List, Option, option_and_then, Result, Err}
use Rattle.json.specs.Json.{if_last, value}
use Rattle.json.specs.Token as token
use Rattle.json.specs.Token.{Token}
use Rattle.serde_json.specs.Data.{Members}
use Rattle.serde_json.specs.Find.{as_object}
use Rattle.serde_json.specs.Read.{of_json}
use Rattle.alt_named.specs.declared.unread.Unread.{Unread}
use Rattle.alt_named.specs.declared.unread.Unread.TheVariants.{Refused}

-- nothing was read, and memory was not at fault
abbrev pub IsRefused : {T : Type 0} → Result T Unread → Type 0
IsRefused r = r ≡ Err Refused

-- a token opens an object
abbrev pub is_brace : Token → Bool
is_brace token.begin_object = true
is_brace t = false

-- the members of the one object that these tokens are
abbrev pub object_of : List Token → Option Members
object_of ts = option_and_then as_object
    (option_and_then of_json (option_and_then (λ p. if_last p.0 p.1) (value 127 ts)))
