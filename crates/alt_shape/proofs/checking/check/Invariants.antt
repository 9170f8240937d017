use Rattle.std.proofs.Common.{◌≡◌, ℕ, ◌<◌, None}
use Rattle.serde_json.specs.View.{members_view}
use Rattle.alt_shape.specs.Shape.{broken_at}
use Rattle.alt_shape.proofs.checking.check.Given as goal

-- the rules before this place are kept
abbrev pub invariant-loop-place : goal.invariant-loop-place
invariant-loop-place l = (k : ℕ) → k < l.place → broken_at l.rules (members_view l.body.entries) k
    ≡ None
