-- The answers to requests that are carried out, which have status 200, and whether a request asks for more in them.
use Rattle.std.specs.Prelude.{ℕ, Bool, false, List, Option, Some, None, option_and_then}
use Rattle.std.specs.Option.{option_map_or}
use Rattle.std.specs.Str.{bytes_eq}
use Rattle.serde_json.specs.Data.{Data, Members, member, no_members}
use Rattle.serde_json.specs.Find.{as_str}
use Rattle.alt_codec.specs.Writing.{json_of_pairs}
use Rattle.alt_shape.specs.Refusals.{Answer, answered}
use Rattle.alt_shape.specs.Shape.{given}
use Rattle.alt_value.specs.Tree.{Pair}

-- an answer without members
abbrev pub done : Answer
done = answered no_members

-- an answer of one member
abbrev pub answers : List ℕ → Data → Answer
answers name d = answered (member name d no_members)

-- an item at a member, if there is one
abbrev pub item_answer : List ℕ → Option (List Pair) → Answer
item_answer name None = done
item_answer name (Some item) = answers name (json_of_pairs item)

-- a member of a request is that word
abbrev pub member_is_word : List ℕ → List ℕ → Members → Bool
member_is_word name word ms = option_map_or (λ text. bytes_eq text word)
    (option_and_then as_str (given name ms)) false
