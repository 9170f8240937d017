-- What `term` is at each kind of term.
use Rattle.std.proofs.Common.{◌≡◌, List, rules}
use Rattle.std.specs.Prelude.{Ok}
use Rattle.alt_value.specs.declared.attr.Attr.{Attr}
use Rattle.alt_value.specs.Stands.{tree_of}
use Rattle.alt_expr.specs.declared.path.PathPart.{PathPart}
use Rattle.alt_expr.specs.declared.update.Term.{Term, the_lemmas}
use Rattle.alt_expr.specs.declared.update.Term.TheVariants as term
use Rattle.alt_expr.specs.Located.{View, located}
use Rattle.alt_expr.specs.Updated.{◌>>=◌, there, or_else, appended_list, term as value}

-- a path that stands as a term has to be there
pub term-At : (item : View) (path : List PathPart)
    → value item (term.At path) ≡ there (located item path)
unfolding value
term-At item path = search (rules, the_lemmas)

-- a given value stands for itself
pub term-Value : (item : View) (a : Attr) → value item (term.Value a) ≡ Ok (tree_of a)
unfolding value
term-Value item a = search (rules, the_lemmas)

-- if_not_exists gives the part where it is there, else the other term
pub term-IfNotExists : (item : View) (path : List PathPart) (other : Term)
    → value item (term.IfNotExists path other) ≡ or_else (located item path) (value item other)
unfolding value
term-IfNotExists item path other = search (rules, the_lemmas)

-- list_append joins what its terms stand for, the first before the second
pub term-ListAppend : (item : View) (x y : Term)
    → value item (term.ListAppend x y)
    ≡ (value item x >>= (λ s. value item y >>= (λ t. appended_list s t)))
unfolding value
term-ListAppend item x y = search (rules, the_lemmas)

pub ruleset laws = (term-At, term-Value, term-IfNotExists, term-ListAppend)
