use Rattle.std.proofs.Common.{◌≡◌, [], cond, Bool, true, false, Some, None, refl, ap, arith, rules, ◌∙◌}
use Rattle.std.specs.Option.{option_map_or}
use Rattle.std.specs.Ordering.{eq_by_cmp}
use Rattle.std.specs.BTreeMap.{get}
use Rattle.alt_expr.proofs.Grouped.{one_more}
use Rattle.alt_expr.proofs.grouping.gathered.Goals as goal

put_back : {A : Type 0} (b : Bool) (w x y : A) → cond b w (cond b x y) ≡ cond b w y
put_back true w x y = refl
put_back false w x y = refl

pub loop-key-preserved : goal.loop-key-preserved
loop-key-preserved g c = record {
  ordered = c.in_ok-insert.ensures.ordered;
  groups = λ q.
      let key = c.in-Some.key in
      let cmp = g.K.Ord.cmp in
      let is : get cmp c.insert.new.self q ≡ cond (eq_by_cmp cmp key q) (Some c.push.new.self)
      (get cmp c.loop-key.groups q) =
      c.in_ok-insert.ensures.updates.0 q ∙ ap
      (λ o. cond (eq_by_cmp cmp key q) (Some c.push.new.self) o) (c.remove.ensures.updates.0 q)
      ∙ put_back (eq_by_cmp cmp key q) (Some c.push.new.self) None (get cmp c.loop-key.groups q) in
      let read : c.match-remove.group.items ≡ option_map_or (λ v. v.items)
      (get cmp c.loop-key.groups key) [] =
      grind (arith, c.remove.ensures.value) in
      one_more cmp g.met.K.Ord.total (λ v. v.items) q key c.in-Some.value c.loop-key.yielded
      {now = get cmp c.insert.new.self q} (get cmp c.loop-key.groups q)
      c.push.new.self c.match-remove.group is
      (c.loop-key.invariant.groups q) c.in_ok-push.ensures.items
      (read ∙ c.loop-key.invariant.groups key);
}
