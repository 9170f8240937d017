use Rattle.std.proofs.Common.{List, ℕ, ◌++◌, ◌∷◌, [], ◌∙◌, sym, ap, subst, append-nil}
use Rattle.std.proofs.lemmas.Grind.{flat_map-append}
use Rattle.sha2.specs.Hashers.{Holds256}
use Rattle.alt_talks.specs.Turns.{Turn, turns_text}
use Rattle.alt_run.proofs.tally.Tally.count.Goals as goal

pub returns-clause-counted : goal.returns-clause-counted
returns-clause-counted c = λ ts t line tally.
    record {
      good = c.counted-self.ensures.counted ts t line tally.good;
      bad = c.counted-self-2.ensures.counted ts t line tally.bad;
      holds = subst (λ (bytes : List ℕ). Holds256 c.update.new.self bytes)
          (ap (λ bytes. turns_text ts ++ bytes) (line ∙ sym (append-nil t.text))
          ∙ sym (flat_map-append (λ (u : Turn). u.text) ts (t ∷ [])))
          (c.update.ensures (turns_text ts) tally.holds);
    }
