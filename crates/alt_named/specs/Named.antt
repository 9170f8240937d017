-- A body of which the members of some names were read.
use Rattle.std.specs.Prelude.{◌≡◌, ℕ, Bool, true, List, Option, Some, None, option_and_then, if◌then◌else◌}
use Rattle.std.specs.List.{list_any}
use Rattle.std.specs.Str.{bytes_eq, is_utf8}
use Rattle.serde_json.specs.Data.{Members}
use Rattle.serde_json.specs.Find.{as_object, get_member}
use Rattle.serde_json.specs.Read.{read}

-- the members of a body, where it is text in UTF-8 of one JSON object; a text means what the reader of `serde_json` makes of it
abbrev pub body_of : List ℕ → Option Members
body_of bytes = if is_utf8 bytes then option_and_then as_object (read bytes) else None

-- a name is one of those
abbrev pub is_among : List (List ℕ) → List ℕ → Bool
is_among names name = list_any (λ w. bytes_eq w name) names

-- two objects have the same at each of these names
abbrev pub AreSame : List (List ℕ) → Members → Members → Type 0
AreSame names ms bs = (name : List ℕ) → is_among names name ≡ true
    → get_member name ms ≡ get_member name bs

-- a body says the one, and the other was read: neither is an object, or both have the same at each of these names
abbrev pub SaysNamed : List (List ℕ) → Option Members → Option Members → Type 0
SaysNamed names None None = Unit {0}
SaysNamed names (Some ms) (Some bs) = AreSame names ms bs
SaysNamed names said found = ⊥
