-- A name more leaves names.
use Rattle.std.proofs.Common.{sym, subst, true, ◌≡◌}
use Rattle.alt_value.specs.Stands.{tree_of}
use Rattle.alt_expr.specs.Given.{is_given_name}
use Rattle.alt_expr.proofs.Words.{names_put}
use Rattle.alt_expr.proofs.names.put_name.Goals as goal

pub returns-clause-names : goal.returns-clause-names
returns-clause-names c =
    let is = c.in_ok-value.ensures in
    names_put c.put.result c.args.word.now (tree_of c.in_ok-value.value) c.args.given.now
    c.put.new.self (subst (λ t. is_given_name t ≡ true) (sym is) c.requires.name) c.requires.names
    c.put.ensures.ok
