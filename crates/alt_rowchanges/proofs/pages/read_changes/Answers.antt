-- The change of a row more, and a row that is none of a change.
use Rattle.std.proofs.Common.{[], ◌∷◌, ◌++◌, ◌∙◌, map, sym, ap, subst, Err, length, rules}
use Rattle.std.proofs.lemmas.Iterator.Adapters.{YieldsList-from_vec}
use Rattle.std.proofs.lemmas.Iterator.Consumers.{YieldsList-turn}
use Rattle.std.proofs.lemmas.List.{map-append}
use Rattle.alt_changes.specs.ChangeRows.{change_in}
use Rattle.alt_rowchanges.specs.Pages.{AreChangesOf}
use Rattle.alt_rowchanges.proofs.PageRows.{change_row_at, changes_more}
use Rattle.alt_rowchanges.proofs.pages.read_changes.Goals as goal

pub loop-key-preserved : goal.loop-key-preserved
loop-key-preserved c =
    subst (AreChangesOf (c.loop-key.yielded ++ (c.in-Some.key, c.in-Some.row) ∷ []))
    (sym (ap (map change_in) c.in_ok-push-in-Ok.ensures.items
    ∙ map-append change_in c.loop-key.changes.items (c.in-Ok.change ∷ [])))
    (changes_more c.loop-key.yielded (c.in-Some.key, c.in-Some.row)
    (map change_in c.loop-key.changes.items) (change_in c.in-Ok.change)
    c.loop-key.invariant c.in-Ok.ensures.change)

pub returns-in-Err-Bad-clause-fault : goal.returns-in-Err-Bad-clause-fault
returns-in-Err-Bad-clause-fault c changes are =
    let turn = YieldsList-turn
    (YieldsList-from_vec {s = c.into_iter-key-iterator.result} c.args.page.items (search rules)
    (search rules)) c.loop-key.yielded c.loop-key.key-iterator c.loop-key.yielded_by
    c.next.result c.next.new.self (c.in-Some.key, c.in-Some.row) c.in-Some.is
    c.next.ensures.steps in
    let (change, is) = change_row_at c.args.page.items changes (length c.loop-key.yielded)
    (c.in-Some.key, c.in-Some.row) are turn.0 turn.1 in
    c.in-Err-Bad.ensures.none (ap (λ f. Err f) c.in-Err-Bad.field-0-is) change is
