-- What a stop leaves while the turns of a connection are done, rung by rung.
use Rattle.std.proofs.Common.{◌≡◌, ◌≤◌, ◌<◌, ◌⊎◌, inl, inr, ℕ, List, [], ◌∷◌, ◌++◌, length, Bool, true, false, Option, cond, refl, sym, ap, subst, ◌∙◌, append-nil, arith}
use Rattle.std.specs.Prelude.{nat_le}
use Rattle.std.proofs.lemmas.Bool.{true≢false, le-leb}
use Rattle.alt_base.proofs.Lists.{length-none}
use Rattle.alt_disk.specs.Disk.{DiskState}
use Rattle.alt_machine.specs.State.{State}
use Rattle.alt_shell.specs.Calls.{Adds, Aside, Keeps, Untold, IsUntoldBy}
use Rattle.alt_shell.specs.Log.{Log, Grows, moments_of, until, entry, told_count, took, take_failed, takes_failed, takes_missed, talks, accepted, hung_up, said_in, taken, bytes_said, bytes_taken, event_of}
use Rattle.alt_tables.specs.Images.{StandsFor}
use Rattle.alt_talks.specs.Faults.{reach}
use Rattle.alt_talks.specs.Runs.{OfStretch, Stretch}
use Rattle.alt_talks.specs.private.Rungs.{KnowsLastMoment, AtRest, GoesOneTake}
use Rattle.alt_talks.specs.Stops.{Image, IsLeft, AtEach, AreWithin}
use Rattle.alt_talks.specs.Stretches.{Idle}
use Rattle.alt_talks.specs.Talks.{Turn, Rules, ConnectionPlace, at, turns_at}
use Rattle.alt_talks.specs.private.Lawful.{Lawful}
use Rattle.alt_talks.specs.TalkStops.{deeds, LeavesNow, LeftOn, LeftTaken}
use Rattle.alt_talks.specs.private.RungStops.{MovesAllOn, MovesSomeOn, GoesOn, GoesSomeOn}
use Rattle.alt_talks.specs.Turns.{Turn as Deed}
use Rattle.alt_talks.specs.declared.fault.RunFault.{RunFault}
use Rattle.alt_talks.proofs.Stretching.{said_in-append, stretch_as, taken-append}
use Rattle.alt_talks.proofs.Stopping.{left-more, left-nothing-of, trusts-kept, until-append, until-before, until-behind, taken-until, within-then, said-by}
use Rattle.alt_talks.proofs.StretchLeaving.{Meet, leaves-weaker, spans_two, keeps-spans, leaves-before-aside}
use Rattle.alt_talks.proofs.TalkDeeds.{deeds_say, deeds-longer, both, behind}
use Rattle.alt_talks.proofs.TalkLogs.{stretch_one, then_one, took_then}
use Rattle.alt_talks.proofs.TalkPulls.{goes_failed, goes_start, goes_taken, goes_some_taken, goes_then, goes_break, joined}
use Rattle.alt_talks.proofs.AnswerLeaving.{left_nothing}

-- ---- entries that say and take nothing

-- of an entry that isn't a say nothing is said by any moment
pub said-behind : (e : ℕ × List ℕ) (es : Log) (u : ℕ) → said_in (e ∷ []) ≡ []
    → said_in (until u (e ∷ es)) ≡ said_in (until u es)
said-behind e es u silent = by_test (nat_le e.0 u)
  where
    by_test : (x : Bool) → said_in (cond x (e ∷ until u es) (until u es)) ≡ said_in (until u es)
    by_test true = ap (λ (bs : List ℕ). bs ++ said_in (until u es))
        (sym (append-nil (bytes_said (event_of e.1))) ∙ silent)
    by_test false = refl

-- and of one that isn't a take nothing is taken
pub taken-behind : (e : ℕ × List ℕ) (es : Log) (u : ℕ) → taken (e ∷ []) ≡ []
    → taken (until u (e ∷ es)) ≡ taken (until u es)
taken-behind e es u still = by_test (nat_le e.0 u)
  where
    by_test : (x : Bool) → taken (cond x (e ∷ until u es) (until u es)) ≡ taken (until u es)
    by_test true = ap (λ (bs : List ℕ). bs ++ taken (until u es))
        (sym (append-nil (bytes_taken (event_of e.1))) ∙ still)
    by_test false = refl

-- An entry says nothing and takes nothing.
pub record Passive (e : ℕ × List ℕ) : Type 0 where
  pub silent : said_in (e ∷ []) ≡ []
  pub still : taken (e ∷ []) ≡ []

-- what is left where these bytes were taken and these said
abbrev LeftFor : Rules → ConnectionPlace → State → List ℕ → List ℕ → List ℕ → Image → Type 0
LeftFor r p s bytes ms said image = IsLeft s (deeds r s (turns_at r p bytes) ms) said image

module _ (r : Rules) (w : Lawful r) (p : ConnectionPlace) (s : State) where
  -- where the same bytes were taken and said
  pub left_same : (es fs : Log) (ms : List ℕ) (t u : ℕ) (image : Image)
      → taken (until u fs) ≡ taken (until t es) → said_in (until u fs) ≡ said_in (until t es)
      → LeftTaken r p s es ms t image → LeftTaken r p s fs ms u image
  left_same es fs ms t u image same alike x =
      subst (λ (bs : List ℕ). LeftFor r p s bs ms (said_in (until u fs)) image) (sym same)
      (subst (λ (bs : List ℕ). LeftFor r p s (taken (until t es)) ms bs image) (sym alike) x)

  -- by a moment by which nothing was said
  pub left_unsaid : (es : Log) (ms : List ℕ) (u : ℕ) (image : Image) → said_in (until u es) ≡ []
      → StandsFor image s → LeftTaken r p s es ms u image
  left_unsaid es ms u image silent stands =
      let ts : List Turn = turns_at r p (taken (until u es)) in
      subst (λ (bs : List ℕ). IsLeft s (deeds r s ts ms) bs image) (sym silent)
      (left-nothing-of s (deeds r s ts ms) image (deeds_say r w s ts ms) stands)

  -- what is left behind one that left all files is left with it
  pub left_front : (a b c : DiskState) (x : ℕ × List ℕ) → Passive x → Keeps a b → LeavesNow a s
      → (es : Log) (ms : List ℕ) → AreWithin b.moment c.moment es
      → AtEach b c (LeftTaken r p s es ms) → AtEach a c (LeftTaken r p s (x ∷ es) ms)
  left_front a b c x idle keeps here es ms within left trusted =
      spans_two a b c (λ _ image. StandsFor image s) (LeftTaken r p s es ms)
      (LeftTaken r p s (x ∷ es) ms)
      (keeps-spans a b (λ _ image. StandsFor image s) keeps
      (λ u image low is. here trusted image is))
      (left (trusts-kept a b keeps trusted))
      (λ u image before y. left_unsaid (x ∷ es) ms u image
      (said-behind x es u idle.silent
      ∙ ap said_in (until-before b.moment c.moment u es within before)) y)
      (λ u image from y. left_same es (x ∷ es) ms u u image (taken-behind x es u idle.still)
      (said-behind x es u idle.silent) y)

  -- and so is what is left before one that takes no moment
  pub left_end : (a b c : DiskState) (x : ℕ × List ℕ) → Passive x → Aside b c → (es : Log)
      (ms : List ℕ) → AtEach a b (LeftTaken r p s es ms)
      → AtEach a c (LeftTaken r p s (es ++ x ∷ []) ms)
  left_end a b c x idle aside es ms left =
      leaves-weaker a c (LeftTaken r p s es ms) (LeftTaken r p s (es ++ x ∷ []) ms)
      (λ u image y. left_same es (es ++ x ∷ []) ms u u image
      (ap taken (until-append u es (x ∷ []))
      ∙ taken-append (until u es) (until u (x ∷ []))
      ∙ ap (λ (bs : List ℕ). taken (until u es) ++ bs) (taken-behind x [] u idle.still)
      ∙ append-nil (taken (until u es)))
      (ap said_in (until-append u es (x ∷ []))
      ∙ said_in-append (until u es) (until u (x ∷ []))
      ∙ ap (λ (bs : List ℕ). said_in (until u es) ++ bs) (said-behind x [] u idle.silent)
      ∙ append-nil (said_in (until u es))) y)
      (leaves-before-aside a b c (LeftTaken r p s es ms) aside left)

  -- calls that leave all files, where nothing was said, leave what stood
  pub left_silent : (a b : DiskState) (es : Log) (ms : List ℕ) → Keeps a b → said_in es ≡ []
      → LeavesNow a s → AtEach a b (LeftTaken r p s es ms)
  left_silent a b es ms keeps silent here trusted =
      keeps-spans a b (LeftTaken r p s es ms) keeps
      (λ u image low is. left_unsaid es ms u image
      (length-none (said_in (until u es))
      (let h = said-by u es in let k = ap length silent in omega (arith, h, k)))
      (here trusted image is))

-- ---- taking

module _ (r : Rules) (p : ConnectionPlace) (s : State) (a b c : DiskState) (bytes : List ℕ) (clocked : ℕ)
    (keeps : Keeps a b) (here : LeavesNow a s) where
  abbrev one : ℕ × List ℕ
  one = entry b.moment clocked (took bytes)

  all_taken : (es : Log) → taken es ≡ [] → taken (one ∷ es) ≡ bytes
  all_taken es e = ap (λ bs. bytes ++ bs) e ∙ append-nil bytes

  -- Before the take nothing is taken; what is left behind it is left with it.
  pub left_taken : (w : Lawful r) (es : Log) (ms : List ℕ)
      → AreWithin b.moment c.moment es → taken es ≡ []
      → AtEach b c (LeftOn r s (turns_at r p bytes) es ms)
      → AtEach a c (LeftTaken r p s (one ∷ es) ms)
  left_taken w es ms within still left trusted =
      spans_two a b c (λ _ image. StandsFor image s) (LeftOn r s (turns_at r p bytes) es ms)
      (LeftTaken r p s (one ∷ es) ms)
      (keeps-spans a b (λ _ image. StandsFor image s) keeps
      (λ u image low is. here trusted image is))
      (left (trusts-kept a b keeps trusted))
      (λ u image before y. left_unsaid r w p s (one ∷ es) ms u image
      (said-behind one es u refl
      ∙ ap said_in (until-before b.moment c.moment u es within before)) y)
      (λ u image from y.
      let front : until u (one ∷ es) ≡ one ∷ until u es =
      ap (λ (v : Bool). cond v (one ∷ until u es) (until u es)) (le-leb b.moment u from) in
      subst (λ (bs : List ℕ). LeftFor r p s bs ms (said_in (until u (one ∷ es))) image)
      (sym (ap taken front ∙ all_taken (until u es) (taken-until u es still)))
      (subst (λ (bs : List ℕ). LeftFor r p s bytes ms bs image)
      (sym (said-behind one es u refl)) y))

  abbrev into : ConnectionPlace
  into = at p.left p.greeted (p.bytes ++ bytes)

  -- bytes were taken, and the turns at hand then were done
  pub goes_taken_on : (w : Lawful r) (m : Bool) (ready : Idle r p s m [] []) (q : ConnectionPlace) (t : State) (n : Bool) (es : Log)
      (ms : List ℕ) → AreWithin b.moment c.moment es → 0 < length bytes
      → MovesAllOn r into s m q t n b c es ms → GoesOn r true p s m q t n a c (one ∷ es) ms
  goes_taken_on w m ready q t n es ms within some x = (
    goes_taken r p s m bytes b.moment clocked ready q t n es ms some x.0,
    left_taken w es ms within x.0.quiet.still x.1,
  )

  -- that broke off
  pub goes_some_taken_on : (w : Lawful r) (m : Bool) (ready : Idle r p s m [] []) (fault : RunFault) (next : ℕ) (es : Log) (ms : List ℕ)
      → AreWithin b.moment c.moment es → MovesSomeOn r fault next into s m b c es ms
      → GoesSomeOn r fault next p s m a c (one ∷ es) ms
  goes_some_taken_on w m ready fault next es ms within x = (
    goes_some_taken r p s m bytes b.moment clocked ready fault next es ms x.0,
    left_taken w es ms within x.0.quiet.still x.1,
  )

-- ---- one take after another

-- before the first
pub goes_start_on : (r : Rules) (w : Lawful r) (a : DiskState) (p : ConnectionPlace) (s : State) (m : Bool)
    → AtRest r p → LeavesNow a s → GoesOn r true p s m p s m a a [] []
goes_start_on r w a p s m rest here = (
  goes_start r p s m rest,
  left_nothing a s (deeds r s (turns_at r p []) []) (deeds_say r w s (turns_at r p []) []) here,
)

module _ (r : Rules) (w : Lawful r) (a b c : DiskState) where
  -- what is left while more is taken behind what was
  left_goes : (p q : ConnectionPlace) (s t : State) (m n : Bool) (es fs : Log) (ms ns : List ℕ)
      → Meet a b c es fs → 0 < q.left → GoesOneTake r true p s m q t n es ms
      → (n ≡ true → said_in fs ≡ []) → AtEach a b (LeftTaken r p s es ms)
      → AtEach b c (LeftTaken r q t fs ns) → AtEach a c (LeftTaken r p s (es ++ fs) (ms ++ ns))
  left_goes p q s t m n es fs ms ns meet going x mute first then trusted =
      spans_two a b c (LeftTaken r p s es ms) (LeftTaken r q t fs ns)
      (LeftTaken r p s (es ++ fs) (ms ++ ns))
      (first trusted) (then (meet.trusts trusted))
      (λ u image before y.
      let same : until u (es ++ fs) ≡ until u es =
      until-append u es fs
      ∙ ap (λ (gs : Log). until u es ++ gs) (until-before b.moment c.moment u fs meet.behind before)
      ∙ append-nil (until u es) in
      let ts : List Turn = turns_at r p (taken (until u es)) in
      let more = deeds-longer r w s ts ms ns in
      left_same r w p s es (es ++ fs) (ms ++ ns) u u image (ap taken same) (ap said_in same)
      (subst (λ (ds : List Deed). IsLeft s ds (said_in (until u es)) image) (sym more.2)
      (left-more s (deeds r s ts ms) more.0 (said_in (until u es)) image more.1 y)))
      (λ u image from y.
      let gs : Log = until u fs in
      let same : until u (es ++ fs) ≡ es ++ gs =
      until-append u es fs
      ∙ ap (λ (hs : Log). hs ++ gs) (until-behind a.moment b.moment u es meet.before from) in
      let ts : List Turn = turns_at r p (taken es) in
      let us : List Turn = turns_at r q (taken gs) in
      subst (λ (hs : Log). LeftFor r p s (taken hs) (ms ++ ns) (said_in hs) image) (sym same)
      (subst (λ (ks : List Turn). IsLeft s (deeds r s ks (ms ++ ns)) (said_in (es ++ gs)) image)
      (sym (joined r w p q s t m n es gs ms going x))
      (subst (λ (ds : List Deed). IsLeft s ds (said_in (es ++ gs)) image)
      (sym (both r w a b c s t m n ts us es fs ms ns meet (x.clear going) x.does mute))
      (subst (λ (bs : List ℕ). IsLeft s (deeds r s ts ms ++ deeds r t us ns) bs image)
      (sym (said_in-append es gs))
      (behind r w a b c s t m n ts us es fs ms ns meet (x.clear going) x.does mute u image n refl
      y)))))

  pub goes_then_on : (more : Bool) (p q v : ConnectionPlace) (s t u : State) (m n o : Bool) (es fs : Log)
      (ms ns : List ℕ) → Meet a b c es fs → 0 < q.left → GoesOn r true p s m q t n a b es ms
      → GoesOn r more q t n v u o b c fs ns → GoesOn r more p s m v u o a c (es ++ fs) (ms ++ ns)
  goes_then_on more p q v s t u m n o es fs ms ns meet going x y = (
    goes_then r w more p q v s t u m n o es fs ms ns going x.0 y.0,
    left_goes p q s t m n es fs ms ns meet going x.0 (λ e. (y.0.does.silent e).0) x.1 y.1,
  )

  pub goes_break_on : (fault : RunFault) (next : ℕ) (p q : ConnectionPlace) (s t : State) (m n : Bool) (es fs : Log)
      (ms ns : List ℕ) → Meet a b c es fs → 0 < q.left → GoesOn r true p s m q t n a b es ms
      → GoesSomeOn r fault (reach next ms) q t n b c fs ns → GoesSomeOn r fault next p s m a c (es ++ fs) (ms ++ ns)
  goes_break_on fault next p q s t m n es fs ms ns meet going x y = (
    goes_break r w fault next p q s t m n es fs ms ns going x.0 y.0,
    left_goes p q s t m n es fs ms ns meet going x.0 y.0.some.silent x.1 y.1,
  )

-- a take that failed in a talk in which none had failed
pub goes_missed_on : (last : Option ℕ) (r : Rules) (w : Lawful r) (p : ConnectionPlace) (s : State) (m : Bool) (rest : AtRest r p)
    (ready : Idle r p s m [] []) (a b : DiskState) → talks a.beside ≡ true → takes_missed a.beside ≡ false
    → (Adds a b take_failed ⊎ Untold a b takes_failed takes_missed)
    → moments_of b.beside ≡ moments_of a.beside → Keeps a b → LeavesNow a s
    → Stretch a b (KnowsLastMoment last last (GoesOn r false p s m p s m))
goes_missed_on last r w p s m rest ready a b talking none (inl told) moments keeps here =
    stretch_one a b (KnowsLastMoment last last (GoesOn r false p s m p s m)) _ told moments (keeps.later, omega arith, tt) keeps (
      (
        goes_failed r p s m rest b.moment (told_count a.beside) ready,
        left_silent r w p s a b (entry b.moment (told_count a.beside) take_failed ∷ []) [] keeps refl
            here,
      ),
      refl,
    )
goes_missed_on last r w p s m rest ready a b talking none (inr untold) moments keeps here =
    let why = subst (λ (t : Bool). IsUntoldBy t a takes_failed takes_missed) talking untold.why in
    absurd (true≢false (sym why ∙ none))

-- ---- a whole connection

-- an accept, a stretch, and the hanging up
pub stretch_hung : (a b c d : DiskState) (since clocked : ℕ) (P Q : OfStretch)
    → Grows a.beside b.beside (entry b.moment since accepted ∷ [])
    → moments_of b.beside ≡ moments_of a.beside → Keeps a b
    → Grows c.beside d.beside (entry d.moment clocked hung_up ∷ [])
    → moments_of d.beside ≡ moments_of c.beside → Aside c d
    → ((es : Log) (ms : List ℕ) → AreWithin b.moment c.moment es → P b c es ms
    → Q a d (entry b.moment since accepted ∷ (es ++ entry d.moment clocked hung_up ∷ [])) ms)
    → Stretch b c P → Stretch a d Q
stretch_hung a b c d since clocked P Q came m keeps went n aside join p =
    let x = entry b.moment since accepted in
    took_then a b d x (λ old new es ms. Q a d (x ∷ es) ms) Q came m keeps.later (omega arith) keeps
    (λ es ms within q. q)
    (then_one b c d (entry d.moment clocked hung_up)
    (λ old new es ms. AreWithin b.moment c.moment es × P b c es ms)
    (λ old new es ms. Q a d (x ∷ es) ms) went n aside.keeps.later (omega arith) aside.keeps
    (λ es ms q. join es ms q.0 q.1)
    (stretch_as b c {P = P} {Q = λ old new es ms. AreWithin b.moment c.moment es × P b c es ms}
    (λ es ms within q. (within, q)) p))

-- what is left while a connection is served is left from its accept to its hanging up
pub left_hung : (r : Rules) (w : Lawful r) (p : ConnectionPlace) (s : State) (a b c d : DiskState)
    (since clocked : ℕ) → Keeps a b → Aside c d → LeavesNow a s → (es : Log) (ms : List ℕ)
    → AreWithin b.moment c.moment es → b.moment ≤ c.moment
    → AtEach b c (LeftTaken r p s es ms)
    → AtEach a d (LeftTaken r p s
    (entry b.moment since accepted ∷ (es ++ entry d.moment clocked hung_up ∷ [])) ms)
left_hung r w p s a b c d since clocked keeps aside here es ms within later left =
    let y = entry d.moment clocked hung_up in
    left_front r w p s a b d (entry b.moment since accepted) (record { silent = refl; still = refl })
    keeps here (es ++ y ∷ []) ms
    (within-then b.moment c.moment d.moment es (y ∷ []) within
    (aside.keeps.later, omega arith, tt) later aside.keeps.later)
    (left_end r w p s b c d y (record { silent = refl; still = refl }) aside es ms left)
