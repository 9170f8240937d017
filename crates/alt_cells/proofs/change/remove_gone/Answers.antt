-- A column more, which the new row has or not.
use Rattle.std.proofs.Common.{◌≡◌, Bool, true, false, Option, Some, None, ap, ◌∙◌, sym}
use Rattle.std.specs.Prelude.{is_none, is_some, not, option_map}
use Rattle.std.specs.FinMap.{get}
use Rattle.alt_cells.specs.Changes.{without_value}
use Rattle.alt_cells.proofs.Kept.{kept, left_out}
use Rattle.alt_cells.proofs.change.remove_gone.Goals as goal
use Rattle.alt_cells.proofs.change.remove_gone.Goals.{then-is_none+in_ok-give, else-is_none}

-- the test of an answer is that of what it answers
none_of : {A B : Type 0} (f : A → B) (a : Option A) (b : Option B) (n : Bool) → option_map f a ≡ b
    → is_some a ≡ not n
    → is_none b ≡ n
none_of f None b true e h = ap is_none (sym e)
none_of f None b false e h = absurd (let g : ⊥ = cc in g)
none_of f (Some a) b true e h = absurd (let g : ⊥ = cc in g)
none_of f (Some a) b false e h = ap is_none (sym e)

pub loop-name-preserved : goal.loop-name-preserved
loop-name-preserved c =
    let new = c.args.new.now in
    let items = c.as_slice-name-items.result.now in
    let n = c.loop-name.name-index in
    let e = c.loop-name-item.result in
    let asked = c.get.ensures.value ∙ ap (get new) c.as_slice.ensures.same in
    let test =
    none_of (λ v. v.now) c.get.result (get new e.0) c.is_none.result asked c.is_none.ensures in
    elim c.if-is_none.branch [
      | then-is_none+in_ok-give w ↦
          w.cells-is ∙ w.in_ok-give.ensures
          ∙ kept (λ f. is_none (get new f.0)) without_value items n e c.args.cells.now
          c.loop-name.cells
          c.loop-name-test.true c.loop-name-item.is (test ∙ w.if-is_none.true) c.loop-name.invariant
      | else-is_none w ↦
          w.cells-is
          ∙ left_out
          (λ f. is_none (get new f.0)) without_value items n e c.args.cells.now
          c.loop-name.cells
          c.loop-name-test.true c.loop-name-item.is
          (test ∙ w.if-is_none.false) c.loop-name.invariant
    ]
