-- A file that is written and synced in two calls.
use Rattle.std.proofs.Common.{◌≡◌, ◌≢◌, ◌+◌, ◌==◌, if◌then◌else◌, ⊎_elim, ℕ, zero, suc, List, [], ◌∷◌, ◌++◌, length, drop, Vec, Some, refl, sym, ◌∙◌, ap}
use Rattle.std.proofs.lemmas.Bool.{cases_eq}
use Rattle.std.proofs.lemmas.List.{append-nil}
use Rattle.std.specs.declared.alloc.Global.{Global}
use Rattle.alt_disk.specs.Disk.{overwritten}
use Rattle.alt_disk.specs.Memory.{Track, nothing, track_after, replay}
use Rattle.alt_disk.specs.Stopped.{settled}
use Rattle.alt_disk.specs.declared.made.Deed.TheVariants.{Write, Sync}
use Rattle.alt_disk.specs.declared.made.Made.{Made}
use Rattle.alt_disk.proofs.Replay.{replay-push, call-own, call-other, test_same, test_other}

drop-nil : (n : ℕ) → drop n (let none : List ℕ = [] in none) ≡ []
drop-nil zero = refl
drop-nil (suc n) = refl

-- bytes put into an empty file
overwritten-nil : (bytes : List ℕ) → overwritten [] 0 bytes ≡ bytes
overwritten-nil bytes = ap (λ (l : List ℕ). bytes ++ l) (drop-nil (0 + length bytes))
    ∙ append-nil bytes

module _ (f : ℕ) (bytes : Vec ℕ Global) where
  -- the two calls
  abbrev pub written_call : Made
  written_call = record { time = 0; file = f; deed = Write 0 bytes }

  -- the second of the two calls: a sync of what was written
  abbrev pub synced_call : Made
  synced_call = record { time = 0; file = f; deed = Sync }

  -- a write of all bytes and a sync behind it leave these bytes, whatever stood before
  settles : track_after Sync (track_after (Write 0 bytes) nothing) ≡ settled (Some bytes.items)
  settles = ap (λ (l : List ℕ). settled (Some l)) (overwritten-nil bytes.items)

  -- settle the file, and leave the others
  pub settle_two : (old mid new : List Made) → mid ≡ old ++ written_call ∷ []
      → new ≡ mid ++ synced_call ∷ [] → replay f nothing old ≡ nothing
      → (g : ℕ) → replay g nothing new ≡ (if f == g then settled
      (Some bytes.items) else replay g nothing old)
  settle_two old mid new is_mid is_new none g = ⊎_elim
      (λ (same : f ≡ g). ap (λ (x : ℕ). replay x nothing new) (sym same) ∙ own
      ∙ sym (test_same f g _ _ same))
      (λ (other : f ≢ g). others (λ same. other (sym same)) ∙ sym (test_other f g _ _ other))
      (cases_eq f g)
    where
      whole : new ≡ (old ++ written_call ∷ []) ++ synced_call ∷ []
      whole = is_new ∙ ap (λ (l : List Made). l ++ synced_call ∷ []) is_mid

      own : replay f nothing new ≡ settled (Some bytes.items)
      own = ap (λ (l : List Made). replay f nothing l) whole
          ∙ replay-push f nothing (old ++ written_call ∷ []) synced_call
          ∙ call-own synced_call (replay f nothing (old ++ written_call ∷ []))
          ∙ ap (λ (s : Track). track_after Sync s) (replay-push f nothing old written_call
          ∙ call-own written_call (replay f nothing old)
          ∙ ap (λ (s : Track). track_after (Write 0 bytes) s) none)
          ∙ settles

      others : g ≢ f → replay g nothing new ≡ replay g nothing old
      others other = ap (λ (l : List Made). replay g nothing l) whole
          ∙ replay-push g nothing (old ++ written_call ∷ []) synced_call
          ∙ call-other g synced_call (replay g nothing (old ++ written_call ∷ [])) other
          ∙ replay-push g nothing old written_call
          ∙ call-other g written_call (replay g nothing old) other
