-- What a stop leaves while one request is answered: carried out, refused, or its client let go on.
use Rattle.std.proofs.Common.{◌≡◌, ◌≤◌, inl, ◌&&◌, IsTrue, ℕ, List, [], ◌∷◌, Bool, true, false, None, refl, sym, ap, subst, arith}
use Rattle.alt_base.specs.Prefix.{IsPrefix}
use Rattle.alt_disk.specs.Fates.{Fates, Fits}
use Rattle.alt_disk.specs.Disk.{DiskState, Goes as DiskGoes, IsTrusted}
use Rattle.alt_disk.proofs.Runs.{trusted_on}
use Rattle.alt_machine.specs.Outcomes.{last_state}
use Rattle.alt_machine.specs.State.{State}
use Rattle.alt_shell.specs.Calls.{Aside, Keeps}
use Rattle.alt_shell.specs.Log.{Log, Grows, TellsMoments, moments_of, until, said_in}
use Rattle.alt_shell.proofs.Telling.{Grows-then, Tells-then}
use Rattle.alt_tables.specs.Images.{StandsFor}
use Rattle.alt_talks.specs.Faults.{IsAnswerFault, IsFileFault, reach}
use Rattle.alt_talks.specs.Runs.{OfStretch, Stretch}
use Rattle.alt_talks.specs.private.Rungs.{Utters}
use Rattle.alt_talks.specs.Stops.{IsLeft, IsAmong, IsUncut, AtEach, AreWithin}
use Rattle.alt_talks.specs.Stretches.{Does, DoesSome}
use Rattle.alt_talks.specs.Talks.{Turn, onward, asked, refused, Rules, Request, greets}
use Rattle.alt_talks.specs.private.Lawful.{Lawful}
use Rattle.alt_talks.specs.TalkStops.{deeds, carrying, saying, LeavesNow, LeftOn}
use Rattle.alt_talks.specs.private.RungStops.{AnswersOn, AnswersSomeOn}
use Rattle.alt_talks.specs.Turns.{Turn as Deed}
use Rattle.alt_talks.specs.declared.fault.RunFault.{RunFault}
use Rattle.alt_talks.proofs.Breaking.{broke_behind}
use Rattle.alt_talks.proofs.FileFaults.{IsTurnFault}
use Rattle.alt_talks.proofs.Stepping.{answers_greeted}
use Rattle.alt_talks.proofs.Stopping.{AllSay, left-nothing-of, trusts-kept, within-wider}
use Rattle.alt_talks.proofs.StretchLeaving.{leaves-here, leaves-said, leaves-followed, leaves-unsaid, keeps-spans, leaves-behind-aside}
use Rattle.alt_talks.proofs.TalkDeeds.{deeds_say}
use Rattle.alt_talks.proofs.Uttering.{does_asked, does_refused, some_asked, some_said}

-- ---- calls behind one that told a moment

pub told_then : (a b c : DiskState) {Q R : OfStretch} (moment : ℕ) → Grows a.beside b.beside []
    → TellsMoments (moments_of a.beside) (moments_of b.beside) (moment ∷ []) → a.moment ≤ b.moment
    → (IsTrusted a → IsTrusted b)
    → ((fs : Log) (ns : List ℕ) → AreWithin b.moment c.moment fs → Q b c fs ns
    → R a c fs (moment ∷ ns))
    → Stretch b c Q → Stretch a c R
told_then a b c moment g m later trusts law q = record {
  entries = q.entries;
  told = moment ∷ q.told;
  grows = Grows-then a.beside b.beside c.beside [] q.entries g q.grows;
  tells = Tells-then (moments_of a.beside) (moments_of b.beside) (moments_of c.beside) (moment ∷ [])
      q.told m q.tells;
  within = within-wider a.moment b.moment c.moment c.moment q.entries q.within later (omega arith);
  later = omega (arith, later, q.later);
  trusts = λ trusted. q.trusts (trusts trusted);
  holds = law q.entries q.told q.within q.holds;
}

-- that one alone
pub told_alone : (a b : DiskState) {R : OfStretch} (moment : ℕ) → Grows a.beside b.beside []
    → TellsMoments (moments_of a.beside) (moments_of b.beside) (moment ∷ []) → a.moment ≤ b.moment
    → (IsTrusted a → IsTrusted b) → R a b [] (moment ∷ []) → Stretch a b R
told_alone a b moment g m later trusts h = record {
  entries = [];
  told = moment ∷ [];
  grows = g;
  tells = m;
  within = tt;
  later = later;
  trusts = trusts;
  holds = h;
}

-- ---- nothing written

-- behind a call that left all files a stop leaves what it left
pub leaves_kept : (a b : DiskState) (s : State) → Keeps a b → LeavesNow a s → LeavesNow b s
leaves_kept a b s keeps here trusted image is = here
    (subst (λ (v : Bool). IsTrue v) (λ i. keeps.tells i && keeps.honest i) trusted) image
    (λ f. subst (λ (x : Fates). Fits x (image f)) (keeps.fates b.moment f keeps.later (omega arith))
    (is f))

-- nothing was said or written
pub left_nothing : (a : DiskState) (s : State) (vs : List Deed) → AllSay vs → LeavesNow a s
    → AtEach a a (λ u image. IsLeft s vs (said_in (until u [])) image)
left_nothing a s vs say here = leaves-here a (λ u image. IsLeft s vs (said_in (until u [])) image)
    (λ trusted u image is. left-nothing-of s vs image say (here trusted image is))

-- nothing was said, whatever turns were begun
pub left_untold : (r : Rules) (w : Lawful r) (a b : DiskState) (s : State) (ts : List Turn)
    (ms : List ℕ) → Keeps a b → LeavesNow a s → AtEach a b (LeftOn r s ts [] ms)
left_untold r w a b s ts ms keeps here trusted =
    keeps-spans a b (LeftOn r s ts [] ms) keeps
    (λ u image low is. left-nothing-of s (deeds r s ts ms) image (deeds_say r w s ts ms)
    (here trusted image is))

-- nothing was done
pub none_on : (r : Rules) (a : DiskState) (s : State) → LeavesNow a s
    → AtEach a a (LeftOn r s [] [] [])
none_on r a s here = left_nothing a s [] tt here

-- a text was said, and nothing written
pub left_saying : (a b : DiskState) (s : State) (vs : List Deed) (t : Deed) → vs ≡ t ∷ [] → AllSay vs
    → t.atoms ≡ [] → (es : Log) → AreWithin a.moment b.moment es
    → ((u : ℕ) → IsPrefix (said_in (until u es)) t.text) → LeavesNow a s → Keeps a b
    → AtEach a b (λ u image. IsLeft s vs (said_in (until u es)) image)
left_saying a b s vs t one say none es within by here keeps =
    leaves-said s vs t one say a a b es within by (λ trusted. trusted)
    (leaves-here a (λ _ image. IsUncut image s t.atoms)
    (λ trusted u image is. inl (here trusted image is)))
    (λ trusted image is. subst (StandsFor image) (sym (ap (last_state s) none))
    (here trusted image is))
    keeps

-- The front of a request: its moment was asked for, and it was carried out or broke off.
pub record Asked (r : Rules) (old done : DiskState) (s : State) (q : Request) (moment : ℕ) : Type 0 where
  pub silent : Grows old.beside done.beside []
  pub told : TellsMoments (moments_of old.beside) (moments_of done.beside) (moment ∷ [])
  pub later : old.moment ≤ done.moment
  pub trusts : IsTrusted old → IsTrusted done
  pub leaves : AtEach old done (λ _ image. IsUncut image s (r.atoms s q moment))

pub asked_of : (r : Rules) (old mid done : DiskState) (s : State) (q : Request) (moment : ℕ)
    → Aside old mid → Grows old.beside mid.beside []
    → TellsMoments (moments_of old.beside) (moments_of mid.beside) (moment ∷ []) → DiskGoes mid done
    → AtEach mid done (λ _ image. IsUncut image s (r.atoms s q moment))
    → Asked r old done s q moment
asked_of r old mid done s q moment aside silent told goes leaves = record {
  silent = subst (λ (log : Log). Grows old.beside log []) (sym goes.beside) silent;
  told = subst (λ (log : Log). TellsMoments (moments_of old.beside) (moments_of log) (moment ∷ []))
      (sym goes.beside) told;
  later = let k = aside.keeps in omega (arith, k, goes.later);
  trusts = λ trusted. trusted_on mid done goes (trusts-kept old mid aside.keeps trusted);
  leaves = leaves-behind-aside old mid done (λ _ image. IsUncut image s (r.atoms s q moment)) aside
      leaves;
}

-- and then its text was said, unless a say had failed, and came what follows it
module _ (r : Rules) (w : Lawful r) (a b c d : DiskState) (s : State) (m n : Bool) (q : Request)
    (moment : ℕ) (fs : Log) (ns : List ℕ) (front : Asked r a b s q moment)
    (here : LeavesNow b (last_state s (r.atoms s q moment))) (keeps : Keeps b c)
    (within : AreWithin b.moment c.moment fs)
    (follows : AtEach c d (λ _ image. IsAmong image (last_state s (r.atoms s q moment)) (r.own s q moment)))
    (u : Utters m (r.reply s q moment) n fs ns) where
  left_asked : AtEach a d (LeftOn r s (asked q ∷ []) fs (moment ∷ ns))
  left_asked = leaves-followed s (deeds r s (asked q ∷ []) (moment ∷ ns)) (carrying r s q moment) refl
      (deeds_say r w s (asked q ∷ []) (moment ∷ ns)) a b c d fs within u.by front.trusts front.leaves
      here keeps follows

  did : r.wants s q moment ≡ None → Does r s m (asked q ∷ []) (r.next s q moment) n fs (moment ∷ ns)
  did enough = subst
      (λ (ls : List ℕ). Does r s m (asked q ∷ []) (r.next s q moment) n fs (moment ∷ ls))
      (sym u.timeless)
      (does_asked r s m n fs q moment enough
      (subst (λ (ls : List ℕ). Utters m (r.reply s q moment) n fs ls) u.timeless u))

  pub asked_on : r.wants s q moment ≡ None
      → AnswersOn r s m (asked q ∷ []) (r.next s q moment) n a d fs (moment ∷ ns)
  asked_on enough = (record { does = did enough; quiet = u.quiet }, left_asked)

  -- or a step of work broke off
  pub asked_work_on : (fault : RunFault) (next : ℕ) → r.wants s q moment ≡ None
      → IsFileFault (reach next (moment ∷ ns)) fault → n ≡ false
      → AnswersSomeOn r fault next s m (asked q ∷ []) a d fs (moment ∷ ns)
  asked_work_on fault next enough why heard = (
    record {
      some = broke_behind r fault next s (r.next s q moment) m n q fs (moment ∷ ns) why heard (did enough);
      quiet = u.quiet;
    },
    left_asked,
  )

  -- or what the server does by itself
  pub asked_own_on : (fault : RunFault) (next : ℕ)
      → IsAnswerFault next (r.wants s q moment) (r.own s q moment) fault
      → AnswersSomeOn r fault next s m (asked q ∷ []) a d fs (moment ∷ ns)
  asked_own_on fault next cause = (
    record {
      some = subst (λ (ls : List ℕ). DoesSome r fault next s m (asked q ∷ []) fs (moment ∷ ls))
          (sym u.timeless)
          (some_said r fault next s m n q moment fs cause
          (subst (λ (ls : List ℕ). Utters m (r.reply s q moment) n fs ls) u.timeless u));
      quiet = u.quiet;
    },
    left_asked,
  )

-- or it broke off
pub asked_some_on : (r : Rules) (w : Lawful r) (a b : DiskState) (s : State) (m : Bool) (q : Request)
    (moment : ℕ) (fault : RunFault) (next : ℕ) → Asked r a b s q moment
    → IsTurnFault next (r.alone s q moment) (r.wants s q moment) (r.atoms s q moment) fault
    → Stretch a b (AnswersSomeOn r fault next s m (asked q ∷ []))
asked_some_on r w a b s m q moment fault next front cause =
    told_alone a b {R = AnswersSomeOn r fault next s m (asked q ∷ [])} moment front.silent front.told
    front.later front.trusts (
      some_asked r fault next s m q moment [] (moment ∷ []) (record { nothing = refl; one = refl }) cause,
      leaves-unsaid s (deeds r s (asked q ∷ []) (moment ∷ [])) (carrying r s q moment) refl
          (deeds_say r w s (asked q ∷ []) (moment ∷ [])) a b front.leaves,
    )

-- a head was refused, behind a look at the clock
pub refused_on : (r : Rules) (w : Lawful r) (a b c : DiskState) (s : State) (m n : Bool) (k moment : ℕ)
    (fs : Log) (ns : List ℕ) → m ≡ false → Aside a b → Keeps b c → LeavesNow a s
    → AreWithin b.moment c.moment fs → Utters m (r.refusal k moment) n fs ns
    → AnswersOn r s m (refused k ∷ []) s n a c fs (moment ∷ ns)
refused_on r w a b c s m n k moment fs ns heard aside keeps here within u =
    let v = subst (λ (ls : List ℕ). Utters m (r.refusal k moment) n fs ls) u.timeless u in
    subst (λ (ls : List ℕ). AnswersOn r s m (refused k ∷ []) s n a c fs (moment ∷ ls)) (sym u.timeless) (
      record { does = does_refused r s m n fs k moment heard v; quiet = v.quiet },
      leaves-behind-aside a b c (LeftOn r s (refused k ∷ []) fs (moment ∷ [])) aside
          (left_saying b c s (deeds r s (refused k ∷ []) (moment ∷ [])) (saying (r.refusal k moment)) refl
          (deeds_say r w s (refused k ∷ []) (moment ∷ [])) refl fs within v.by
          (leaves_kept a b s aside.keeps here) keeps),
    )

-- the client was let go on
pub greets_on : (r : Rules) (w : Lawful r) (a b : DiskState) (s : State) (m n g e : Bool) → e ≡ true
    → g ≡ false → (es : Log) (ms : List ℕ) → AreWithin a.moment b.moment es → LeavesNow a s
    → Keeps a b → Utters m r.greeting n es ms → AnswersOn r s m (greets g e) s n a b es ms
greets_on r w a b s m n true true is not es ms within here keeps u = absurd (let f : ⊥ = cc in f)
greets_on r w a b s m n true false is not es ms within here keeps u = absurd (let f : ⊥ = cc in f)
greets_on r w a b s m n false false is not es ms within here keeps u = absurd (let f : ⊥ = cc in f)
greets_on r w a b s m n false true is not es ms within here keeps u = (
  answers_greeted r s m n false true is not es ms u,
  left_saying a b s (deeds r s (onward ∷ []) ms) (saying r.greeting) refl
      (deeds_say r w s (onward ∷ []) ms) refl es within u.by here keeps,
)
