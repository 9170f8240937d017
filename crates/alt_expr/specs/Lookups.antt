-- The names and values over which a text is read.
use Rattle.std.specs.Prelude.{List, []}
use Rattle.alt_value.specs.Tree.{Pair}
use Rattle.alt_expr.specs.Given.{Given}
use Rattle.alt_expr.specs.NamesGiven.{given_names, given_values}
use Rattle.alt_expr.specs.declared.lookups.Lookups.{Lookups}
use Rattle.alt_expr.specs.declared.names.Names.{Names}
use Rattle.alt_expr.specs.declared.values.Values.{Values}

-- what names and values give together
abbrev pub given_by : Names → Values → Given
given_by n v = record { names = given_names n; values = given_values v }

-- the words that an expression's lookups stand for
abbrev pub given_by_lookups : Lookups → Given
given_by_lookups l = given_by l.names.now l.values.now

-- names without values
abbrev pub names_alone : List Pair → Given
names_alone names = record { names = names; values = [] }
