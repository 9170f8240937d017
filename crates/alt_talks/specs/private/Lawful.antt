-- What rules have to be like for the laws of cutting bytes into turns. Proofs alone cite it.
use Rattle.std.specs.Prelude.{◌≡◌, ◌<◌, ◌≤◌, ℕ, List, [], ◌++◌, length}
use Rattle.alt_machine.specs.Outcomes.{last_state}
use Rattle.alt_machine.specs.State.{State}
use Rattle.alt_talks.specs.Talks.{Head, unread, bad, good, Request, Rules}

-- A head is found or refused however the bytes are cut; the state after a request is that which it makes lasting, if any, and then that after the
-- last of the writes that follow it; and each text has a byte or more.
pub record Lawful (r : Rules) : Type 0 where
  pub nothing : r.scan [] ≡ unread
  pub stays_bad : (a b : List ℕ) (k : ℕ) → r.scan a ≡ bad k → r.scan (a ++ b) ≡ bad k
  pub stays_good : (a b : List ℕ) (h : Head) → r.scan a ≡ good h → r.scan (a ++ b) ≡ good h
  pub within : (a : List ℕ) (h : Head) → r.scan a ≡ good h → (0 < h.taken) × (h.taken ≤ length a)
  pub steps : (s : State) (q : Request) (m : ℕ)
      → r.next s q m ≡ last_state (last_state s (r.atoms s q m)) (r.own s q m)
  pub replies : (s : State) (q : Request) (m : ℕ) → 0 < length (r.reply s q m)
  pub refuses : (k m : ℕ) → 0 < length (r.refusal k m)
  pub greets : 0 < length r.greeting
