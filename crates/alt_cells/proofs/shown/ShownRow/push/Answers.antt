-- The names still rise, and the new one is the last.
use Rattle.std.proofs.Common.{◌≡◌, ◌++◌, ◌∷◌, [], T, ap, ◌∙◌, sym, subst}
use Rattle.std.specs.FinMap.{entries, entries-from_sorted}
use Rattle.std.specs.FinMap.Entries.{is_sorted}
use Rattle.alt_cells.specs.Keys.{key_cmp}
use Rattle.alt_cells.proofs.shown.ShownRow.push.Goals as goal

-- the entries afterwards
pushed : (c : goal.In_ok-push)
    → c.push.new.self.items ≡ entries c.args.self.now ++ (c.args.name, c.args.value) ∷ []
pushed c =
    c.in_ok-push.ensures.items ∙ ap (λ es. es ++ (c.args.name, c.args.value) ∷ [])
    (sym (entries-from_sorted key_cmp c.self.inside.entries.items c.self.invariant)
    ∙ ap entries c.self.view_is)

rising : (c : goal.In_ok-push) → T (is_sorted key_cmp c.push.new.self.items)
rising c = subst (λ es. T (is_sorted key_cmp es)) (sym (pushed c)) c.requires

pub invariant_of-self-2 : goal.invariant_of-self-2
invariant_of-self-2 c = rising c

pub returns-clause-ok : goal.returns-clause-ok
returns-clause-ok c = entries-from_sorted key_cmp c.push.new.self.items (rising c) ∙ pushed c
