-- What `Names` and `Values` hold.
use Rattle.std.specs.Prelude.{ℕ, Bool, List}
use Rattle.alt_value.specs.Tree.{Pair}
use Rattle.alt_expr.specs.declared.names.Names.{Names}
use Rattle.alt_expr.specs.declared.values.Values.{Values}

-- the given names, each by its `#` word
abbrev pub given_names : Names → List Pair
given_names n = n.given

-- the `#` words of the texts that were parsed
abbrev pub used_names : Names → List (List ℕ)
used_names n = n.used

-- the empty word is given too
abbrev pub is_empty_given : Names → Bool
is_empty_given n = n.empty

-- the given values, each by its `:` word
abbrev pub given_values : Values → List Pair
given_values v = v.given

-- the `:` words of the texts that were parsed
abbrev pub used_values : Values → List (List ℕ)
used_values v = v.used
