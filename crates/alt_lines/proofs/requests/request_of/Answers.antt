use Rattle.std.proofs.Common.{◌≡◌, ◌++◌, ℕ, List, OnOk, arith, subst, sym}
use Rattle.alt_lines.specs.Drawn.{draws_of}
use Rattle.alt_lines.specs.TrialTexts.{line_of_kind}
use Rattle.alt_lines.proofs.Printing.{line_of_put, line_of_update, line_of_index}
use Rattle.alt_lines.proofs.requests.request_of.Goals as goal

pub returns-in-4-clause-ok : goal.returns-in-4-clause-ok
unfolding line_of_kind
returns-in-4-clause-ok c =
    subst (λ (n : ℕ). OnOk c.keyed.result (c.keyed.new.out.items
    ≡ c.args.out.now.items ++ line_of_kind n (draws_of c.args.d))) (sym c.in-4.is)
    c.keyed.ensures.ok

pub returns-in-7-clause-ok : goal.returns-in-7-clause-ok
unfolding line_of_kind
returns-in-7-clause-ok c =
    subst (λ (n : ℕ). OnOk c.keyed-in-7.result (c.keyed-in-7.new.out.items
    ≡ c.args.out.now.items ++ line_of_kind n (draws_of c.args.d))) (sym c.in-7.is)
    c.keyed-in-7.ensures.ok

pub returns-in-8-clause-ok : goal.returns-in-8-clause-ok
unfolding line_of_kind
returns-in-8-clause-ok c =
    subst (λ (n : ℕ). OnOk c.query.result (c.query.new.out.items
    ≡ c.args.out.now.items ++ line_of_kind n (draws_of c.args.d))) (sym c.in-8.is)
    c.query.ensures.ok

pub returns-in-0-to-3-clause-ok : goal.returns-in-0-to-3-clause-ok
returns-in-0-to-3-clause-ok c =
    subst (λ (line : List ℕ). OnOk c.put_item.result (c.put_item.new.out.items
    ≡ c.args.out.now.items ++ line))
    (sym (line_of_put c.args.d.kind (draws_of c.args.d) (omega arith))) c.put_item.ensures.ok

pub returns-in-5-clause-ok : goal.returns-in-5-clause-ok
returns-in-5-clause-ok c =
    subst (λ (line : List ℕ). OnOk c.update_item.result (c.update_item.new.out.items
    ≡ c.args.out.now.items ++ line))
    (sym (line_of_update c.args.d.kind (draws_of c.args.d) (omega arith) (omega arith)))
    c.update_item.ensures.ok

pub returns-in_default-clause-ok : goal.returns-in_default-clause-ok
returns-in_default-clause-ok c =
    subst (λ (line : List ℕ). OnOk c.query_index.result (c.query_index.new.out.items
    ≡ c.args.out.now.items ++ line))
    (sym (line_of_index c.args.d.kind (draws_of c.args.d) (omega arith)))
    c.query_index.ensures.ok
