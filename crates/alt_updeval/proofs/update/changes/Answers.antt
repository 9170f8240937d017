-- Each turn makes the change of one name, and all groups are seen.
use Rattle.std.proofs.Common.{◌≡◌, refl, sym, ap, subst, ◌∙◌, ℕ, Vec, Global, List, [], ◌∷◌, ◌++◌, map, length, arith}
use Rattle.std.specs.Vec.Iter.{into_iter_len}
use Rattle.std.proofs.lemmas.Iterator.Adapters.{YieldsList-from_vec}
use Rattle.std.proofs.lemmas.Iterator.Consumers.{YieldsList-turn, YieldsList-end}
use Rattle.std.proofs.lemmas.Option.{slice_get_read}
use Rattle.alt_updeval.specs.Shown.{attribute_edit}
use denote.Ref.{Bor}
use Rattle.alt_updeval.proofs.All.{Rest, ChangesSoFar, group_is, change_more, change_all, named_more, names_rise}
use Rattle.alt_updeval.proofs.update.changes.Goals as goal

map_same : {X : Type 0} (xs : List X) → map (λ (x : X). x) xs ≡ xs
map_same [] = refl
map_same (x ∷ xs) = ap (λ l. x ∷ l) (map_same xs)

pub loop-name-preserved : goal.loop-name-preserved
loop-name-preserved g c =
    let item = g.V.AttrView.attribute c.args.view.now in
    let es = map attribute_edit c.args.all.items in
    let v = c.in_ok-items.items in
    let x : Bor (List ℕ) × Vec Rest Global = (c.in-Some.name, c.in-Some.rests) in
    let given = c.into_iter-name-iterator.ensures.into_iter_gives in
    let count : into_iter_len c.into_iter-name-iterator.result
    ≡ length v.items = omega (arith, given.1, v.ok) in
    let turn = YieldsList-turn (YieldsList-from_vec v.items given.0 count) c.loop-name.yielded
    c.loop-name.name-iterator c.loop-name.yielded_by c.next.result c.next.new.self x
    c.in-Some.is c.next.ensures.steps in
    let group = group_is item c.args.all.items v.items c.in_ok-items.ensures.rising
    c.in_ok-items.ensures.groups (length c.loop-name.yielded) x
    (slice_get_read v.items (length v.items) (length c.loop-name.yielded) x refl turn.0 turn.1) in
    subst (λ cs. ChangesSoFar item es (c.loop-name.yielded ++ x ∷ []) cs)
    (sym c.in_ok-push.ensures.items) (record {
      changes = change_more item c.args.all.items v.items c.in_ok-items.ensures.rising
          c.in_ok-items.ensures.groups c.loop-name.yielded x c.loop-name.list.items
          c.in_ok-change.field-0 group c.loop-name.invariant.changes c.in_ok-change.ensures.name
          c.in_ok-change.ensures.value;
      names = named_more c.loop-name.yielded x c.loop-name.list.items c.in_ok-change.field-0
          c.loop-name.invariant.names c.in_ok-change.ensures.name;
    })

pub returns-clause-after : goal.returns-clause-after
returns-clause-after g c =
    let item = g.V.AttrView.attribute c.args.view.now in
    let es = map attribute_edit c.args.all.items in
    let v = c.in_ok-items.items in
    let given = c.into_iter-name-iterator.ensures.into_iter_gives in
    let count : into_iter_len c.into_iter-name-iterator.result
    ≡ length v.items = omega (arith, given.1, v.ok) in
    let done = YieldsList-end (YieldsList-from_vec v.items given.0 count) c.loop-name.yielded
    c.loop-name.name-iterator c.loop-name.yielded_by c.next.result c.next.new.self c.in-None.is
    c.next.ensures.steps in
    change_all item c.args.all.items v.items c.in_ok-items.ensures.rising
    c.in_ok-items.ensures.groups c.loop-name.list.items
    (subst (λ gs. ChangesSoFar item es gs c.loop-name.list.items)
    (sym (map_same c.loop-name.yielded) ∙ done.0) c.loop-name.invariant).changes

pub returns-clause-rising : goal.returns-clause-rising
returns-clause-rising g c =
    let item = g.V.AttrView.attribute c.args.view.now in
    let es = map attribute_edit c.args.all.items in
    let v = c.in_ok-items.items in
    let given = c.into_iter-name-iterator.ensures.into_iter_gives in
    let count : into_iter_len c.into_iter-name-iterator.result
    ≡ length v.items = omega (arith, given.1, v.ok) in
    let done = YieldsList-end (YieldsList-from_vec v.items given.0 count) c.loop-name.yielded
    c.loop-name.name-iterator c.loop-name.yielded_by c.next.result c.next.new.self c.in-None.is
    c.next.ensures.steps in
    names_rise v.items c.loop-name.list.items
    (subst (λ gs. ChangesSoFar item es gs c.loop-name.list.items)
    (sym (map_same c.loop-name.yielded) ∙ done.0) c.loop-name.invariant).names
    c.in_ok-items.ensures.rising
