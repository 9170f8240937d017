-- What was read of the bytes was read of more of them; where memory was wanting they are as they were.
use Rattle.std.proofs.Common.{List, ℕ, sym, subst}
use Rattle.alt_talks.specs.private.HeadViews.{HeadIsScanned}
use Rattle.alt_talks.proofs.Fronts.{more_read}
use Rattle.alt_talks.proofs.front.Front.extend.Goals as goal
use Rattle.alt_talks.proofs.front.Front.extend.Goals.{in-Ok, in-Err}

pub invariant_of-self : goal.invariant_of-self
invariant_of-self c = elim c.match-extend_from_slice.branch [
  | in-Ok w ↦ subst (λ (bs : List ℕ). HeadIsScanned bs c.self.inside.seen c.self.inside.head)
      (sym w.in-Ok.ensures.items)
      (more_read c.self.inside.bytes.items c.args.piece.now c.self.inside.seen c.self.inside.head
      c.self.invariant)
  | in-Err w ↦ subst (λ (bs : List ℕ). HeadIsScanned bs c.self.inside.seen c.self.inside.head)
      (sym w.in-Err.ensures.items) c.self.invariant
]
