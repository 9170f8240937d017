-- What a noted ending has done, and what the status of each ending tells of completeness.
use Rattle.std.proofs.Common.{◌≡◌, ◌⊎◌, inl, inr, ⊎_elim, ℕ, [], Option, Some, None, refl, sym, ap, subst, ◌∙◌, arith}
use Rattle.alt_base.specs.Counts.{Rose}
use Rattle.alt_disk.specs.Disk.{DiskState, IsTrusted}
use Rattle.alt_disk.proofs.Runs.{tells_of}
use Rattle.alt_shell.specs.Calls.{Aside}
use Rattle.alt_shell.specs.Log.{Grows, moments_of}
use Rattle.alt_run.specs.Endings.{status_of, HasDone, HasMade, HasRun, IsReadable, Done, LacksNumber}
use Rattle.alt_run.specs.private.EndingOf.{HasNumbers}
use Rattle.alt_run.specs.Runs.{Opened}
use Rattle.alt_run.specs.declared.ending.Ending.{Ending}
use Rattle.alt_run.specs.declared.ending.Ending.TheVariants.{Whole, Words, NotEmpty, Damaged, DigestDiffers, BadRow, Device, Memory, Spent}
use Rattle.alt_run.specs.declared.words.Command.{Command}
use Rattle.alt_run.specs.declared.words.Command.TheVariants.{Init, Over}
use Rattle.alt_run.specs.declared.words.Job.{Job}
use Rattle.alt_run.proofs.EndingMemory.{honest_of, as_memory}
use Rattle.alt_run.proofs.EndingLaws.{still_done}

-- ---- behind a note

abbrev IsNoted : Ending → Ending → Type 0
IsNoted ending noted = (noted ≡ ending) ⊎ ((noted ≡ Memory) × HasNumbers ending)

-- with the ending that was noted
pub noted_done : (a b c : DiskState) (job : Option Command) (ending noted : Ending) → IsNoted ending noted
    → Grows b.beside c.beside [] → moments_of c.beside ≡ moments_of b.beside → Aside b c
    → HasDone job ending a b → HasDone job noted a c
noted_done a b c job ending noted (inl same) g m aside h =
    subst (λ (e : Ending). HasDone job e a c) (sym same) (still_done b c g m aside a job ending h)
noted_done a b c job ending noted (inr memory) g m aside h =
    subst (λ (e : Ending). HasDone job e a c) (sym memory.0)
    (still_done b c g m aside a job Memory (as_memory a b job ending memory.1 h))

-- an ending with the status 0 was noted as it is
pub noted_whole : (ending noted : Ending) → IsNoted ending noted → status_of noted ≡ 0
    → ending ≡ Whole
noted_whole ending noted (inl same) e = sym same ∙ whole_only noted e
  where
    whole_only : (noted : Ending) → status_of noted ≡ 0 → noted ≡ Whole
    whole_only Whole e = refl
    whole_only Words e = absurd (omega (arith, e))
    whole_only (NotEmpty first) e = absurd (omega (arith, e))
    whole_only (Damaged file at) e = absurd (omega (arith, e))
    whole_only (DigestDiffers file kept found) e = absurd (omega (arith, e))
    whole_only (BadRow family key) e = absurd (omega (arith, e))
    whole_only Device e = absurd (omega (arith, e))
    whole_only Memory e = absurd (omega (arith, e))
    whole_only (Spent number) e = absurd (omega (arith, e))
noted_whole ending noted (inr memory) e =
    absurd (let s : 5 ≡ 0 = ap status_of (sym memory.0) ∙ e in let f : ⊥ = omega (arith, s) in f)

-- ---- what the status tells

-- wrong words end so, and no other words do
pub words_end : (a b : DiskState) (job : Option Command) (ending : Ending) → HasDone job ending a b
    → (status_of ending ≡ 1 → job ≡ None) × (job ≡ None → status_of ending ≡ 1)
words_end a b None Words h = (λ e. refl, λ e. refl)
words_end a b None Whole h = absurd h
words_end a b None (NotEmpty first) h = absurd h
words_end a b None (Damaged file at) h = absurd h
words_end a b None (DigestDiffers file kept found) h = absurd h
words_end a b None (BadRow family key) h = absurd h
words_end a b None Device h = absurd h
words_end a b None Memory h = absurd h
words_end a b None (Spent number) h = absurd h
words_end a b (Some job) ending h = (
  λ e. absurd (never_words a b job ending h (words_only ending e)),
  λ e. absurd (let f : ⊥ = cc in f),
)
  where
    -- the status of wrong words is theirs alone
    words_only : (ending : Ending) → status_of ending ≡ 1 → ending ≡ Words
    words_only Whole e = absurd (omega (arith, e))
    words_only Words e = refl
    words_only (NotEmpty first) e = absurd (omega (arith, e))
    words_only (Damaged file at) e = absurd (omega (arith, e))
    words_only (DigestDiffers file kept found) e = absurd (omega (arith, e))
    words_only (BadRow family key) e = absurd (omega (arith, e))
    words_only Device e = absurd (omega (arith, e))
    words_only Memory e = absurd (omega (arith, e))
    words_only (Spent number) e = absurd (omega (arith, e))

    -- and a job has none
    never_words : (a b : DiskState) (job : Command) (ending : Ending) → HasDone (Some job) ending a b
        → ending ≡ Words → ⊥
    never_words a b Init ending h e = subst (λ (x : Ending). HasMade x a b) e h
    never_words a b (Over job limits) ending h e = subst (λ (x : Ending). HasRun job x a b) e h

-- a run over a store ends whole, or a device failed, or memory was refused, or numbers are spent
pub completes : (a b : DiskState) (job : Job) (ending : Ending) (status : ℕ)
    → status ≡ status_of ending
    → HasRun job ending a b → IsTrusted a → IsReadable a.file
    → (Rose a.faults b.faults → ⊥)
    → ((status ≡ 0) × Opened a b (Done job)) ⊎ (status ≡ 5)
    ⊎ ((status ≡ 6) × LacksNumber job a b)
completes a b job Whole status e h trusted readable well = inl (e, h.1 trusted)
completes a b job Words status e h trusted readable well = absurd h
completes a b job (NotEmpty first) status e h trusted readable well = absurd h
completes a b job (Damaged file at) status e h trusted readable well =
    absurd (⊎_elim (λ x. x.1.1 readable.0 readable.1) (λ x. honest_of a trusted x.1)
    (h (tells_of a trusted)))
completes a b job (DigestDiffers file kept found) status e h trusted readable well =
    absurd (⊎_elim (λ x. x.1.1 readable.0 readable.1) (λ x. honest_of a trusted x.1)
    (h (tells_of a trusted)))
completes a b job (BadRow family key) status e h trusted readable well =
    absurd (⊎_elim (λ x. x.1.1 readable.0 readable.1) (λ x. honest_of a trusted x.1)
    (h (tells_of a trusted)))
completes a b job Device status e h trusted readable well = absurd (well h.0)
completes a b job Memory status e h trusted readable well = inr (inl e)
completes a b job (Spent n) status e h trusted readable well =
    inr (inr (e, (n, h.1 trusted)))

-- a run of `init` over no files makes a store, or a device failed, or memory was refused
pub makes_all : (a b : DiskState) (ending : Ending) (status : ℕ) → status ≡ status_of ending
    → HasMade ending a b → IsTrusted a → ((f : ℕ) → a.file f ≡ None)
    → (Rose a.faults b.faults → ⊥)
    → (status ≡ 0) ⊎ (status ≡ 5)
makes_all a b Whole status e h trusted none well = inl e
makes_all a b Words status e h trusted none well = absurd h
makes_all a b (NotEmpty first) status e h trusted none well =
    absurd ((h.1 (tells_of a trusted)).0.there (none first))
makes_all a b (Damaged file at) status e h trusted none well = absurd h
makes_all a b (DigestDiffers file kept found) status e h trusted none well = absurd h
makes_all a b (BadRow family key) status e h trusted none well = absurd h
makes_all a b Device status e h trusted none well = absurd (well h.1)
makes_all a b Memory status e h trusted none well = inr e
makes_all a b (Spent n) status e h trusted none well = absurd h
