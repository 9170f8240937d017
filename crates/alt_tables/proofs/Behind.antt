-- Writes behind other writes: what a stop leaves of both, and where memory was wanting.
use Rattle.std.proofs.Common.{◌≡◌, refl, sym, subst, ℕ, ◌+◌, ◌≤◌, List, [], ◌∷◌, ◌++◌, length, Option, None, arith}
use Rattle.std.proofs.lemmas.List.{length-append}
use Rattle.alt_disk.specs.Disk.{DiskState, Goes}
use Rattle.alt_disk.proofs.Runs.{spans_on, spans_weaker}
use Rattle.alt_machine.specs.Outcomes.{Wants, last_state}
use Rattle.alt_machine.specs.State.{State}
use Rattle.alt_machine.specs.Wanted.{lack_among}
use Rattle.alt_machine.proofs.Behind.{after_behind, front_of, taken_behind, take_front}
use Rattle.std.specs.Prelude.{⊤}
use Rattle.alt_tables.specs.Faults.{WantsMemory}
use Rattle.alt_tables.specs.Images.{AfterSome, StateLasts, Leaves}
use Rattle.alt_rowchanges.specs.OpeningImages.{StandsFor}
use Rattle.alt_tables.specs.Stands.{Stands}
use Rattle.alt_tables.specs.declared.tables.Tables.{Tables}
use Rattle.alt_tables.proofs.Left.{leaves_after, leaves_images, leaves_reads}
use Rattle.alt_tables.proofs.Making.{none_made}

-- ---- where memory was wanting

-- before any of the writes the disk stands for the state
pub wants_none : (disk : DiskState) (wants : Wants) (s : State) (atoms : List State) → StateLasts disk s
    → WantsMemory disk wants s atoms
wants_none disk wants s atoms lasts = record {
  made = 0;
  some = none_made atoms;
  enough = refl;
  lasts = lasts;
}

-- it was wanting for the first of some writes
pub wants_front : (disk : DiskState) (wants : Wants) (s : State) (a b : List State)
    → WantsMemory disk wants s a → WantsMemory disk wants s (a ++ b)
wants_front disk wants s a b h =
    let some = h.some in
    let same = take_front h.made a b (omega (arith, some)) in record {
      made = h.made;
      some = omega (arith, some, length-append a b);
      enough = subst (λ l. lack_among wants s l ≡ None) (sym same) h.enough;
      lasts = subst (λ l. StateLasts disk (last_state s l)) (sym same) h.lasts;
    }

-- or for those behind others that were made
pub wants_behind : (disk : DiskState) (wants : Wants) (s : State) (a b : List State)
    → lack_among wants s a ≡ None → 1 ≤ length b → WantsMemory disk wants (last_state s a) b
    → WantsMemory disk wants s (a ++ b)
wants_behind disk wants s a b none more h =
    let some = h.some in record {
      made = length a + h.made;
      some = omega (arith, some, more, length-append a b);
      enough = taken_behind wants a (length a + h.made) h.made s b refl none h.enough;
      lasts = subst (StateLasts disk)
          (sym (after_behind a (length a + h.made) h.made s b refl)) h.lasts;
    }

-- ---- what a stop leaves of them

front_some : (s : State) (a b : List State) (moment : ℕ) (image : ℕ → Option (List ℕ))
    → AfterSome s a moment image → AfterSome s (a ++ b) moment image
front_some s a b moment image h =
    let front = front_of h.0 s a b in (front.0, subst (StandsFor image) (sym front.1) h.1)

behind_some : (s : State) (a b : List State) (moment : ℕ) (image : ℕ → Option (List ℕ))
    → AfterSome (last_state s a) b moment image → AfterSome s (a ++ b) moment image
behind_some s a b moment image h = (
  length a + h.0,
  subst (StandsFor image) (sym (after_behind a (length a + h.0) h.0 s b refl)) h.1,
)

-- what is left of the first is left of all
pub leaves_front : (old new : DiskState) (t : Tables) (s : State) (a b : List State) → Goes old new
    → Stands old t s → Leaves old new s a → Leaves old new s (a ++ b)
leaves_front old new t s [] b goes stands h = leaves_reads old new t s b
    (record { goes = goes; quiet = λ tells. h }) stands
leaves_front old new t s (r ∷ rs) b goes stands h =
    spans_weaker old new (λ _. ⊤) (λ _. ⊤) (AfterSome s ((r ∷ rs) ++ b)) (AfterSome s (r ∷ rs)) h
    (λ g is. is) (λ moment image here. front_some s (r ∷ rs) b moment image here)

-- one call behind another
pub leaves_both : (old mid new : DiskState) (t u : Tables) (s : State) (a b : List State)
    → Goes old mid → Stands old t s → Stands mid u (last_state s a) → Leaves old mid s a
    → Leaves mid new (last_state s a) b → Leaves old new s (a ++ b)
leaves_both old mid new t u s [] b goes stands later first second =
    leaves_after old mid new t s b (record { goes = goes; quiet = λ tells. first }) stands second
leaves_both old mid new t u s (r ∷ rs) b goes stands later first second =
    spans_on old mid new (λ _. ⊤) (AfterSome s ((r ∷ rs) ++ b))
    (leaves_front old mid t s (r ∷ rs) b goes stands first)
    (spans_weaker mid new (λ _. ⊤) (λ _. ⊤) (AfterSome s ((r ∷ rs) ++ b))
    (AfterSome (last_state s (r ∷ rs)) b)
    (leaves_images mid new u (last_state s (r ∷ rs)) b later second) (λ g is. is)
    (λ moment image here. behind_some s (r ∷ rs) b moment image here))
