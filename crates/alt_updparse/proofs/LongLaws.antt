-- What `is_long_term` is at each kind of term.
use Rattle.std.proofs.Common.{◌≡◌, false, ◌||◌, List, rules}
use Rattle.alt_value.specs.declared.attr.Attr.{Attr}
use Rattle.alt_expr.specs.Crowded.{is_long}
use Rattle.alt_expr.specs.UpdateLanguage.{is_long_term}
use Rattle.alt_expr.specs.declared.path.PathPart.{PathPart}
use Rattle.alt_expr.specs.declared.update.Term.{Term, the_lemmas}
use Rattle.alt_expr.specs.declared.update.Term.TheVariants as term

-- a path is as long as it says
pub at_law : (path : List PathPart) → is_long_term (term.At path) ≡ is_long path
unfolding is_long_term
at_law path = search (rules, the_lemmas)

-- a value names no path
pub value_law : (v : Attr) → is_long_term (term.Value v) ≡ false
unfolding is_long_term
value_law v = search (rules, the_lemmas)

-- `if_not_exists` is too long where its path or its operand is
pub if_law : (path : List PathPart) (x : Term)
    → is_long_term (term.IfNotExists path x) ≡ (is_long path || is_long_term x)
unfolding is_long_term
if_law path x = search (rules, the_lemmas)

-- `list_append` is too long where one of its operands is
pub append_law : (x y : Term) → is_long_term (term.ListAppend x y)
    ≡ (is_long_term x || is_long_term y)
unfolding is_long_term
append_law x y = search (rules, the_lemmas)
