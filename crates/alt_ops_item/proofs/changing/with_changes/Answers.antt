-- Each turn makes one change, and all are seen.
use Rattle.std.proofs.Common.{◌≡◌, refl, sym, ap, ◌∙◌, List, [], ◌∷◌, ◌++◌, map, length, arith}
use Rattle.std.specs.Vec.Iter.{into_iter_len}
use Rattle.std.proofs.lemmas.Iterator.Adapters.{YieldsList-from_vec}
use Rattle.std.proofs.lemmas.Iterator.Consumers.{YieldsList-end}
use Rattle.alt_ops_item.specs.private.Updates.{with_attribute_change, with_changes}
use Rattle.alt_updeval.specs.declared.update.AttrChange.{AttrChange}
use Rattle.alt_value.specs.Tree.{Pair}
use Rattle.alt_ops_item.proofs.changing.with_changes.Goals as goal

with_changes-more : (cs : List AttrChange) (c : AttrChange) (item : List Pair)
    → with_changes (cs ++ c ∷ []) item ≡ with_attribute_change c (with_changes cs item)
with_changes-more [] c item = refl
with_changes-more (d ∷ cs) c item = with_changes-more cs c (with_attribute_change d item)

map_same : {X : Type 0} (xs : List X) → map (λ (x : X). x) xs ≡ xs
map_same [] = refl
map_same (x ∷ xs) = ap (λ l. x ∷ l) (map_same xs)

pub loop-change-preserved : goal.loop-change-preserved
loop-change-preserved c = c.in_ok-make.ensures.made
    ∙ ap (with_attribute_change c.in-Some.change) c.loop-change.invariant
    ∙ sym (with_changes-more c.loop-change.yielded c.in-Some.change c.args.item)

pub returns-clause-item : goal.returns-clause-item
returns-clause-item c =
    let v = c.args.changes in
    let given = c.into_iter-change-iterator.ensures.into_iter_gives in
    let count : into_iter_len c.into_iter-change-iterator.result ≡ length v.items =
    omega (arith, given.1, v.ok) in
    let done = YieldsList-end (YieldsList-from_vec v.items given.0 count) c.loop-change.yielded
    c.loop-change.change-iterator c.loop-change.yielded_by c.next.result c.next.new.self
    c.in-None.is c.next.ensures.steps in
    c.loop-change.invariant ∙ ap (λ cs. with_changes cs c.args.item)
    (sym (map_same c.loop-change.yielded) ∙ done.0)
