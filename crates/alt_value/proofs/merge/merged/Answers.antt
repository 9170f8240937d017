-- The lesser of the two in front is put out, and of two that tie the second.
use Rattle.std.proofs.Common.{sym, ◌∙◌, ◌≤◌, ◌⊎◌, inl, inr, length, arith}
use Rattle.alt_value.proofs.Merged.{both-less, both-equal, both-greater, both-end}
use Rattle.alt_value.proofs.merge.merged.Goals.{then-loop-i-test+else-j-set, else-loop-i-test}
use Rattle.alt_value.proofs.merge.merged.Goals as goal

pub loop-i-preserved-in-Less : goal.loop-i-preserved-in-Less
loop-i-preserved-in-Less g c = record {
  left = omega arith;
  right = c.loop-i.invariant.right;
  gives = both-less g.K.Ord.cmp g.met.K.Ord.total _ _ _ _ _ c.index-more-i.result
      c.index-set-j.result c.loop-i-test.true c.if-j-set.true
      c.index-more-i.is c.index-set-j.is c.requires.0 c.requires.1 _ _ _
      c.in_ok-push-in-Less.ensures.items c.index-more-i-in-Less.is
      c.in_ok-copy_member-in-Less.ensures
      (sym c.cmp.ensures ∙ c.in-Less.is) c.loop-i.invariant.gives;
}

pub loop-i-preserved-in-Equal : goal.loop-i-preserved-in-Equal
loop-i-preserved-in-Equal g c = record {
  left = omega arith;
  right = c.loop-i.invariant.right;
  gives = both-equal g.K.Ord.cmp g.met.K.Ord.total _ _ _ _ _ c.index-more-i.result
      c.index-set-j.result c.loop-i-test.true c.if-j-set.true
      c.index-more-i.is c.index-set-j.is c.requires.0 c.requires.1
      (sym c.cmp.ensures ∙ c.in-Equal.is) c.loop-i.invariant.gives;
}

pub loop-i-preserved : goal.loop-i-preserved
loop-i-preserved g c = record {
  left = c.loop-i.invariant.left;
  right = omega arith;
  gives = both-greater g.K.Ord.cmp g.met.K.Ord.total _ _ _ _ _ c.index-more-i.result
      c.index-set-j.result c.loop-i-test.true c.if-j-set.true
      c.index-more-i.is c.index-set-j.is c.requires.0 c.requires.1 _ _ _
      c.in_ok-push-in-Greater.ensures.items c.index-set-j-in-Greater.is
      c.in_ok-copy_member-in-Greater.ensures
      (sym c.cmp.ensures ∙ c.in-Greater.is) c.loop-i.invariant.gives;
}

pub returns : goal.returns
returns g c =
    let past : (length c.args.more.now ≤ c.loop-i.i) ⊎ (length c.args.set.now ≤ c.loop-i.j) =
    elim c.loop-i-test.branch [
      | then-loop-i-test+else-j-set w ↦ inr (omega (arith, w.if-j-set))
      | else-loop-i-test w ↦ inl (omega (arith, w.loop-i-test))
    ] in
    c.in_ok-put_copies-2.ensures ∙ both-end g.K.Ord.cmp g.met.K.Ord.total _ _ _ _ _ _ past
    c.requires.0 c.loop-i.invariant.gives c.in_ok-put_copies.ensures
