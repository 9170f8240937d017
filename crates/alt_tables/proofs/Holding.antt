-- What the rows beneath the tables show, in reads and in whatever a stop leaves, and what a write makes of it.
use Rattle.std.proofs.Common.{◌≡◌, ◌<◌, ◌≤◌, ◌+◌, ◌-◌, ◌^◌, arith, ◌&&◌, Bool, IsTrue, T, ⊎_elim, refl, sym, ap, subst, ℕ, List, [], ◌∷◌, Option, Result, Err, ◌∙◌}
use Rattle.std.specs.Prelude.{⊤}
use Rattle.alt_cells.specs.Batches.{is_distinct}
use Rattle.alt_cells.specs.declared.batch.RowChange.{RowChange}
use Rattle.alt_disk.specs.Disk.{DiskState, IsImage, Goes}
use Rattle.alt_disk.specs.Runs.{Spans, Quiet}
use Rattle.alt_disk.proofs.Runs.{spans_on, spans_weaker, quiet_spans, quiet_then, trusted_on}
use Rattle.alt_layout.specs.Files.{IsLayout}
use Rattle.alt_rowchanges.specs.OpeningEngineInHand.{StandsForLayout as EngineStands}
use Rattle.alt_rowchanges.specs.OpeningHandInHand.{batch_write, batch_writes, last_form_of, next_file_of, next_of, work_file_of, BeforeOrAll, BeforeOrWith, IsSpentBy, WantsFile, WantsNumber}
use Rattle.alt_layout.specs.Layout.{Layout}
use Rattle.alt_layout.specs.Writes.{with_write, with_writes}
use Rattle.alt_rowchanges.specs.OpeningEngineDeclaredEngine.{Engine}
use Rattle.alt_rowchanges.proofs.OpeningHandSegmentFiles.{none-wanting}
use Rattle.alt_rowchanges.specs.OpeningHandDeclaredHand.{Hand}
use Rattle.alt_rowchanges.specs.OpeningHandDeclaredEngineFault.{EngineFault}
use Rattle.alt_rowchanges.specs.OpeningHandDeclaredEngineFault.TheVariants as engine
use Rattle.alt_machine.specs.State.{State}
use Rattle.alt_machine.specs.Valid.{IsValid}
use Rattle.alt_rowchanges.specs.OpeningHandFaults.{told_by_engine}
use Rattle.alt_faults.specs.Faults.{no_memory, IsOutside}
use Rattle.alt_rowchanges.specs.Faults.{IsFindFault, told_by_tables}
use Rattle.alt_rowchanges.specs.declared.faults.TableFault.{TableFault}
use Rattle.alt_rowchanges.specs.declared.faults.TableFault.TheVariants.{NoMemory}
use Rattle.alt_rowchanges.specs.OpeningImages.{StandsFor}
use Rattle.alt_tables.specs.Images.{AfterSome, Leaves}
use Rattle.alt_rowchanges.specs.OpeningStateRows.{Shows}
use Rattle.alt_rowchanges.specs.RowChanges.{Turns}
use Rattle.alt_tables.specs.Several.{BatchesAreDistinct, TurnsAll, with_batches}
use Rattle.alt_rowchanges.specs.OpeningOpened.{EngineHoldsState}
use Rattle.alt_rowchanges.proofs.OpeningEngineLaws.{stays_quiet}
use Rattle.alt_tables.proofs.Batches.{with_batches-writes}
use Rattle.alt_rowchanges.proofs.OpeningOverEngine.{in_each_image, stands_past, one_layout_in_hand}
use Rattle.alt_rowchanges.proofs.OpeningOneState.{one_state}

-- whatever a stop now leaves stands for the state
pub each_holds : (disk : DiskState) (engine : Engine) (s : State) → EngineHoldsState disk engine s → IsValid s
    → (image : ℕ → Option (List ℕ)) → IsImage disk disk.moment image → StandsFor image s
each_holds disk engine s holds valid image is = record {
  layout = holds.layout;
  is = in_each_image disk engine holds.layout holds.is image is;
  shows = holds.shows;
  valid = valid;
  held = holds.held;
}

-- so does whatever a stop leaves at each moment of a call that makes some of these writes of it
pub leaves_images : (old new : DiskState) (engine : Engine) (s : State) (atoms : List State)
    → EngineHoldsState old engine s → IsValid s → Leaves old new s atoms
    → Spans old new (λ _. ⊤) (AfterSome s atoms)
leaves_images old new engine s [] holds valid quiet = quiet_spans old new (λ _. ⊤)
    (AfterSome s []) quiet (λ t image fits. (0, each_holds old engine s holds valid image fits))
leaves_images old new engine s (r ∷ rs) holds valid spans = spans

-- calls that leave every file, and what the disk says of itself, leave what the rows show
pub holds_quiet : (old new : DiskState) (engine : Engine) (s : State) → new.tells ≡ old.tells
    → new.honest ≡ old.honest → Quiet old new → EngineHoldsState old engine s → EngineHoldsState new engine s
holds_quiet old new engine s tells honest quiet holds = record {
  trusted = subst (λ (b : Bool). IsTrue b) (sym (λ i. tells i && honest i)) holds.trusted;
  layout = holds.layout;
  is = stays_quiet old new engine holds.layout holds.is quiet;
  shows = holds.shows;
  held = holds.held;
}

-- rows in hand show one valid state
pub one_held : (disk : DiskState) (engine : Engine) (s r : State) → EngineHoldsState disk engine s
    → EngineHoldsState disk engine r → IsValid s → IsValid r → s ≡ r
one_held disk engine s r holds_s holds_r valid_s valid_r = one_state holds_s.layout s r
    holds_s.shows
    (subst (λ l. Shows l r) (one_layout_in_hand disk engine holds_r.layout holds_s.layout
    holds_r.is holds_s.is) holds_r.shows) valid_s valid_r holds_s.held holds_r.held

-- ---- a write

module _ (old new : DiskState) (engine : Engine) (s r : State) (changes : List RowChange)
    (holds : EngineHoldsState old engine s) (turns : Turns changes s r) (distinct : T (is_distinct changes))
  where
    abbrev after : Layout
    after = with_write holds.layout (batch_write holds.layout changes)

    -- what a stop leaves is the state before it or the one after
    pub write_images : IsValid s → Spans old new (λ _. ⊤) (BeforeOrWith holds.layout changes)
        → Leaves old new s (r ∷ [])
    write_images valid spans = spans_weaker old new (λ _. ⊤) (λ _. ⊤) (AfterSome s (r ∷ []))
        (BeforeOrWith holds.layout changes) spans (λ g is. is) (λ t image here. ⊎_elim
        (λ (is : IsLayout image holds.layout). (
          0,
          record {
            layout = holds.layout;
            is = is;
            shows = holds.shows;
            valid = valid;
            held = holds.held;
          },
        ))
        (λ (is : IsLayout image after). (
          1,
          record {
            layout = after;
            is = is;
            shows = turns.shows distinct holds.layout
                (stands_past old engine holds.layout holds.is) holds.shows;
            valid = turns.valid;
            held = turns.held;
          },
        ))
        here)

    -- after it the rows show the one after
    pub write_holds : (later : Engine) → Goes old new → EngineStands new later after
        → EngineHoldsState new later r
    write_holds later goes stands = record {
      trusted = trusted_on old new goes holds.trusted;
      layout = after;
      is = stands;
      shows = turns.shows distinct holds.layout (stands_past old engine holds.layout holds.is)
          holds.shows;
      held = turns.held;
    }

-- ---- several writes, as one entry

module _ (old new : DiskState) (engine : Engine) (s r : State) (batches : List (List RowChange))
    (holds : EngineHoldsState old engine s) (turns : TurnsAll batches s r) (distinct : BatchesAreDistinct batches)
  where
    abbrev after_all : Layout
    after_all = with_batches holds.layout batches

    abbrev as_writes : Layout
    as_writes = with_writes holds.layout (batch_writes holds.layout batches)

    same_rows : as_writes ≡ after_all
    same_rows = sym (with_batches-writes holds.layout batches)

    all_show : Shows after_all r
    all_show = turns.shows distinct holds.layout (stands_past old engine holds.layout holds.is)
        holds.shows

    -- what a stop leaves is the state before them or the one after all of them
    pub all_images : IsValid s → Spans old new (λ _. ⊤) (BeforeOrAll holds.layout batches)
        → Leaves old new s (r ∷ [])
    all_images valid spans = spans_weaker old new (λ _. ⊤) (λ _. ⊤) (AfterSome s (r ∷ []))
        (BeforeOrAll holds.layout batches) spans (λ g is. is) (λ t image here. ⊎_elim
        (λ (is : IsLayout image holds.layout). (
          0,
          record {
            layout = holds.layout;
            is = is;
            shows = holds.shows;
            valid = valid;
            held = holds.held;
          },
        ))
        (λ (is : IsLayout image as_writes). (
          1,
          record {
            layout = after_all;
            is = subst (λ m. IsLayout image m) same_rows is;
            shows = all_show;
            valid = turns.valid;
            held = turns.held;
          },
        ))
        here)

    -- after them the rows show the one after
    pub all_hold : (later : Engine) → Goes old new → EngineStands new later as_writes
        → EngineHoldsState new later r
    all_hold later goes stands = record {
      trusted = trusted_on old new goes holds.trusted;
      layout = after_all;
      is = subst (λ m. EngineStands new later m) same_rows stands;
      shows = all_show;
      held = turns.held;
    }

-- ---- calls one after the other

-- a call that leaves every file leaves what the state is, whatever writes were to be made
pub leaves_quiet : (old new : DiskState) (engine : Engine) (s : State) (atoms : List State)
    → EngineHoldsState old engine s → IsValid s → Quiet old new → Leaves old new s atoms
leaves_quiet old new engine s [] holds valid quiet = quiet
leaves_quiet old new engine s (r ∷ rs) holds valid quiet = quiet_spans old new (λ _. ⊤)
    (AfterSome s (r ∷ rs)) quiet
    (λ t image fits. (0, each_holds old engine s holds valid image fits))

-- writes behind a call that leaves every file
pub leaves_behind : (old mid new : DiskState) (engine : Engine) (s : State) (atoms : List State)
    → EngineHoldsState old engine s → IsValid s → Quiet old mid → Leaves mid new s atoms
    → Leaves old new s atoms
leaves_behind old mid new engine s [] holds valid quiet then = quiet_then old mid new quiet then
leaves_behind old mid new engine s (r ∷ rs) holds valid quiet then =
    spans_on old mid new (λ _. ⊤) (AfterSome s (r ∷ rs))
    (leaves_quiet old mid engine s (r ∷ rs) holds valid quiet) then

-- the engine wanted memory where that is what is told
pub memory_wanted : (given : EngineFault) (fault : TableFault)
    → told_by_tables fault ≡ told_by_engine given → fault ≡ NoMemory → given ≡ engine.NoMemory
memory_wanted given fault same none = by given (sym (ap told_by_tables none) ∙ same)
  where
    by : (given : EngineFault) → no_memory ≡ told_by_engine given → given ≡ engine.NoMemory
    by (engine.Spent n) e = absurd (let g : ⊥ = cc in g)
    by (engine.Damaged file at) e = absurd (let g : ⊥ = cc in g)
    by engine.Failed e = absurd (let g : ⊥ = cc in g)
    by engine.NoMemory e = refl

-- where the numbers and the file of a write can be had, what the engine tells is a failure of the device, or want of memory
pub found_fault : (e : Hand) (count : ℕ) (given : EngineFault) (fault : TableFault)
    → told_by_tables fault ≡ told_by_engine given → next_of e + count ≤ 2 ^ 62 - 1
    → work_file_of e < 2 ^ 32 → IsSpentBy e count given → IsFindFault fault
found_fault e count given fault same few room why = subst IsOutside (sym same) (by given why)
  where
    by : (given : EngineFault) → IsSpentBy e count given → IsOutside (told_by_engine given)
    by (engine.Spent n) why = absurd (⊎_elim
        (λ (number : WantsNumber (next_of e) count n).
        let over = number.0 in let g : ⊥ = absurd (omega (arith, over, few)) in g)
        (λ (file : (next_of e + count ≤ 2 ^ 62 - 1) × WantsFile (last_form_of e) (next_file_of e) n).
        none-wanting (last_form_of e) (next_file_of e) n room file.1) why)
    by (engine.Damaged file at) why = absurd why
    by engine.Failed why = tt
    by engine.NoMemory why = tt

-- a result has one fault
pub same_Err : {A B : Type 0} (r : Result A B) (x y : B) → r ≡ Err x → r ≡ Err y → x ≡ y
same_Err r x y e f = let both : Err x ≡ Err y = sym e ∙ f in cc
