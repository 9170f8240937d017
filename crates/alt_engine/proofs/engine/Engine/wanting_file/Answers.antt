-- The hand says by the form of its last segment what work has.
use Rattle.std.proofs.Common.{◌≡◌, ◌≤◌, ◌+◌, ◌-◌, ◌^◌, ℕ, Option, None, Some, IfSome}
use Rattle.alt_merging.specs.HandInHand.{WantsFile, files_made, last_form_of, next_file_of}
use Rattle.alt_merging.proofs.HandSegmentFiles.{has-file, wants-last}
use Rattle.alt_engine.proofs.engine.Engine.wanting_file.Goals as goal

-- what holds of what an option has
if_weaker : (o : Option ℕ) (P Q : ℕ → Type 0) → ((n : ℕ) → P n → Q n) → IfSome o P → IfSome o Q
if_weaker None P Q more h = tt
if_weaker (Some n) P Q more h = more n h

pub returns-clause-none : goal.returns-clause-none
returns-clause-none c none = has-file (last_form_of c.args.self.now.hand)
    (next_file_of c.args.self.now.hand) (c.wanting_file.ensures.none none)
    c.wanting_file.ensures.fits

pub returns-clause-last : goal.returns-clause-last
returns-clause-last c = if_weaker c.wanting_file.result
    (WantsFile (last_form_of c.args.self.now.hand) (next_file_of c.args.self.now.hand))
    (λ n. (n ≡ 2 ^ 32 - 1) × (2 ^ 32 ≤ next_file_of c.args.self.now.hand
    + files_made (last_form_of c.args.self.now.hand)))
    (wants-last (last_form_of c.args.self.now.hand) (next_file_of c.args.self.now.hand))
    c.wanting_file.ensures.some
