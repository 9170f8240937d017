-- The writes of a batch become lasting together: what a call that makes them all comes to is what the machine's one write comes to.
use Rattle.std.proofs.Common.{◌≡◌, ◌<◌, ◌≤◌, ◌+◌, ⊎_elim, inl, inr, refl, sym, subst, ℕ, List, [], ◌∷◌, length, Some, Ok, Err, false, arith}
use Rattle.serde_json.specs.Written.{has_float}
use Rattle.alt_machine.specs.declared.TheConstants.{NUMBERS_END}
use Rattle.alt_machine.specs.Outcomes.{Outcome, last_state, numbers, together, writes_together}
use Rattle.alt_machine.specs.State.{State}
use Rattle.alt_machine.specs.Wanted.{lack_among}
use Rattle.alt_machine.proofs.Lacks.{has_numbers, lacks_numbers, one_has, one_lacks}
use Rattle.alt_request.specs.Carried.{Carries, FollowsOutcome}
use Rattle.alt_request.specs.declared.stop.Stop.TheVariants.{Fault}
use Rattle.alt_shape.specs.Body.{body_json}
use Rattle.alt_shape.specs.Refusals.{Answer, answer_of}
use Rattle.alt_shape.specs.declared.refusal.Reply.{Reply}
use Rattle.alt_request.specs.TablesFaults.{AreAllMade, AreMade, BreakOff, BreakOffAll, WantFile}
use Rattle.alt_request.specs.TablesDeclaredTableFault.{TableFault}
use Rattle.alt_request.specs.TablesDeclaredTableFault.TheVariants.{Spent, Damaged, BadRow, Failed, NoMemory}

-- all are made
pub together_made : (now : State → Type 0) (s : State) (ws : List State) → AreAllMade now s ws
    → AreMade now (numbers (length ws)) s (together s ws)
together_made now s [] made = record { state = made.state; enough = refl }
together_made now s (t ∷ ts) made = record {
  state = made.state;
  enough = one_has (numbers (length (t ∷ ts))) s (last_state t ts)
      (has_numbers (length (t ∷ ts)) s.next_number made.enough);
}

-- or none is
pub together_broke : (file : ℕ) (now : State → Type 0) (s : State) (ws : List State)
    (f : TableFault) → s.next_number ≤ NUMBERS_END → BreakOffAll file now s ws f
    → BreakOff file now (numbers (length ws)) s (together s ws) f
together_broke file now s [] (Spent n) valid h = ⊎_elim
    (λ (over : (n ≡ NUMBERS_END) × (NUMBERS_END < s.next_number + 0)).
    let more = over.1 in absurd (omega (arith, valid, more)))
    (λ (last : (s.next_number + 0 ≤ NUMBERS_END) × WantFile file [] n).
    let some = last.1.0 in absurd (omega (arith, some))) h.0
together_broke file now s (t ∷ ts) (Spent n) valid h = ⊎_elim
    (λ (over : (n ≡ NUMBERS_END) × (NUMBERS_END < s.next_number + length (t ∷ ts))). (
      0,
      inl (subst (λ m. one_lack m) (sym over.0) (one_lacks (numbers (length (t ∷ ts))) s
          (last_state t ts) NUMBERS_END (lacks_numbers (length (t ∷ ts)) s.next_number over.1))),
      h.1,
    ))
    (λ (last : (s.next_number + length (t ∷ ts) ≤ NUMBERS_END) × WantFile file (t ∷ ts) n). (
      0,
      inr (
        refl,
        one_has (numbers (length (t ∷ ts))) s (last_state t ts)
            (has_numbers (length (t ∷ ts)) s.next_number last.0),
        (omega arith, last.1.1),
      ),
      h.1,
    ))
    h.0
  where
    one_lack : ℕ → Type 0
    one_lack m = lack_among (numbers (length (t ∷ ts))) s (last_state t ts ∷ [])
        ≡ Some (record { number = m; before = 0 })
together_broke file now s ws (Damaged number at) valid h = absurd h
together_broke file now s ws (BadRow family key) valid h = absurd h
together_broke file now s ws Failed valid h = tt
together_broke file now s ws NoMemory valid h = tt

-- ---- the contract of the operation

module _ {file : ℕ} (outcome : State → Outcome) (old now : State → Type 0) where
  -- the writes are made, and answered
  pub batch_wrote : (reply : Reply) → has_float (body_json reply.body) ≡ false
      → ((s : State) → old s → (ws : List State)
      × (outcome s ≡ writes_together s ws (answer_of reply)) × AreAllMade now s ws)
      → Carries file outcome old now (Ok reply)
  batch_wrote reply plain h = record {
    does = λ s stands.
        let (ws, is, all) = h s stands in
        let made = together_made now s ws all in
        subst (λ o. FollowsOutcome file now s o (Ok reply)) (sym is)
        (record { reply = refl; state = made.state; enough = made.enough });
    plain = plain;
  }

  -- they broke off, and none is made
  pub batch_broke : (f : TableFault) → ((s : State) → old s → (ws : List State)
      × (answer : Answer) × (outcome s ≡ writes_together s ws answer)
      × (s.next_number ≤ NUMBERS_END) × BreakOffAll file now s ws f)
      → Carries file outcome old now (Err (Fault f))
  batch_broke f h = record {
    does = λ s stands.
        let (ws, answer, is, valid, broke) = h s stands in
        subst (λ o. FollowsOutcome file now s o (Err (Fault f))) (sym is)
        (together_broke file now s ws f valid broke);
    plain = tt;
  }
