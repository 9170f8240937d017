-- The frame of the bytes of the version.
use Rattle.std.proofs.Common.{ℕ, List, subst, ◌∙◌}
use Rattle.alt_gatelog.specs.InHand.{IsFramed}
use Rattle.alt_manifest.proofs.manifest.Manifest.prepare.Goals as goal

pub returns-clause-framed : goal.returns-clause-framed
returns-clause-framed c = subst (λ (bytes : List ℕ). IsFramed c.in_ok-block.block.items bytes)
    (c.as_slice.ensures.value ∙ c.in_ok-bytes.ensures.bytes) c.in_ok-block.ensures
