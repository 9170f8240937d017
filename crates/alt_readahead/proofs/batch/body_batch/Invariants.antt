-- The body is what was read so far, with the members that are still to come.
use Rattle.std.proofs.Common.{◌≡◌, ℕ, ◌≤◌, length}
use Rattle.json.specs.Json.{members, value}
use Rattle.serde_json.specs.Data.{Members, no_members}
use Rattle.serde_json.specs.Read.{of_members, converted}
use Rattle.alt_readahead.specs.Batches.{IsBatchSoFar}
use Rattle.alt_readahead.proofs.batch.body_batch.Given as goal

-- the members read so far, with those to come
abbrev pub invariant-members : goal.invariant-members
invariant-members l =
    (n : ℕ) × (length l.reader ≤ n)
    × (ms : Members)
    × (converted (λ os. of_members os no_members)
    (members (value 126) (length l.initial.reader) l.initial.reader)
    ≡ converted (λ os. of_members os ms) (members (value 126) n l.reader))
    × IsBatchSoFar ms l.tables

abbrev pub decreases-members : goal.decreases-members
decreases-members l = length l.reader
