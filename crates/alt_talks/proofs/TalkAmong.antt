-- What a stop leaves while connections are served, one after another.
use Rattle.std.proofs.Common.{◌≡◌, ◌<◌, ◌≤◌, ◌+◌, inl, inr, ℕ, suc, List, [], ◌∷◌, ◌++◌, length, true, false, Option, None, refl, sym, ap, subst, ◌∙◌, append-nil, arith}
use Rattle.alt_base.specs.Prefix.{IsPrefix}
use Rattle.alt_disk.specs.Disk.{DiskState, IsTrusted}
use Rattle.alt_machine.specs.State.{State}
use Rattle.alt_shell.specs.Log.{Log, entry, accepted, until, taken, said_in}
use Rattle.alt_tables.specs.Images.{StandsFor}
use Rattle.alt_talks.specs.Connections.{Connection, connection_entries, turns_of, after_all, after_own, connection_start}
use Rattle.alt_talks.specs.Faults.{reach}
use Rattle.alt_talks.specs.Own.{BetweenNot, last_told}
use Rattle.alt_talks.specs.Runs.{OfStretch}
use Rattle.alt_talks.specs.Stops.{Image, state_behind, IsLeft, AtEach, AreWithin}
use Rattle.alt_talks.specs.Talks.{Turn, Rules, turns_at}
use Rattle.alt_talks.specs.private.Lawful.{Lawful}
use Rattle.alt_talks.specs.TalkStops.{LeavesNow, LeftOn, LeftTaken, LeftAmong, LeftBetween, ServedOn, ServedSomeOn}
use Rattle.alt_talks.specs.private.RungStops.{ComesOn, ComesSomeOn}
use Rattle.alt_talks.specs.TalkTexts.{after}
use Rattle.alt_talks.specs.Turns.{Turn as Deed}
use Rattle.alt_talks.specs.declared.fault.RunFault.{RunFault}
use Rattle.alt_talks.specs.declared.fault.RunFault.TheVariants.{NoMemory}
use Rattle.alt_talks.proofs.Stopping.{taken-until, until-append, until-before, until-behind}
use Rattle.alt_talks.proofs.StretchLeaving.{Meet, leaves-here, spans_two}
use Rattle.alt_talks.proofs.TalkAll.{Sofar, sofar_none, sofar_more, served_all, served_between, served_fewer, served_some, served_nothing, all_state, entries-append, number_behind, number_now, moment_behind, moment_now}
use Rattle.alt_talks.proofs.TalkCuts.{at_unread}
use Rattle.alt_talks.proofs.TalkLeaving.{left_same, left_unsaid, said-behind, taken-behind}

-- entries of two lists are within what both are within
within-split : (from to : ℕ) (es fs : Log) → AreWithin from to (es ++ fs)
    → AreWithin from to es × AreWithin from to fs
within-split from to [] fs w = (tt, w)
within-split from to (e ∷ es) fs w =
    let rest = within-split from to es fs w.2 in
    ((w.0, w.1, rest.0), rest.1)

-- what a connection adds to the log
abbrev whole_of : Connection → Log
whole_of k = entry k.moment k.clocked accepted ∷ k.entries

-- no call of these had ended, nor of one more
none_more : (u : ℕ) (ks : List Connection) (k : Connection) → until u (connection_entries ks) ≡ []
    → until u (whole_of k) ≡ [] → until u (connection_entries (ks ++ k ∷ [])) ≡ []
none_more u ks k none last = ap (until u) (entries-append ks (k ∷ []))
    ∙ until-append u (connection_entries ks) (connection_entries (k ∷ []))
    ∙ ap (λ (es : Log). es ++ until u (connection_entries (k ∷ []))) none
    ∙ ap (until u) (append-nil (whole_of k)) ∙ last

module _ (r : Rules) (w : Lawful r) (per from to : ℕ) where
  -- one more connection, of which no call had ended yet
  among-before : (n : ℕ) (m : Option ℕ) (s : State) (ks : List Connection) (k : Connection) (u : ℕ)
      (image : Image) → AreWithin from to (whole_of k) → u < from
      → LeftAmong r per n m s ks u image → LeftAmong r per n m s (ks ++ k ∷ []) u image
  among-before n m s [] k u image within before x = inl (
    left_unsaid r w (connection_start per) s k.entries k.told u image
        (ap said_in (until-before from to u k.entries within.2 before)) x,
    refl,
  )
  among-before n m s (j ∷ ks) k u image within before (inl x) = inl (
    x.0,
    none_more u ks k x.1 (until-before from to u (whole_of k) within before),
  )
  among-before n m s (j ∷ ks) k u image within before (inr (inl x)) = inr (inl (
    x.0,
    none_more u ks k x.1 (until-before from to u (whole_of k) within before),
    x.2,
  ))
  among-before n m s (j ∷ ks) k u image within before (inr (inr x)) = inr (inr (
    x.0,
    among-before (suc n) (last_told m j.told)
        (after_own r n (last_told m j.told) (after r s (turns_of r per j) j.told)) ks k u image within
        before x.1,
  ))

  -- one more, while it is served
  among-behind : (n : ℕ) (m : Option ℕ) (s t : State) (ks : List Connection) (k : Connection) (u : ℕ)
      (image : Image) → AreWithin from to (connection_entries ks) → to ≤ u → t ≡ after_all r per n m s ks
      → LeftTaken r (connection_start per) t k.entries k.told u image
      → LeftAmong r per n m s (ks ++ k ∷ []) u image
  among-behind n m s t [] k u image within behind e x = inl (
    subst (λ (v : State). LeftTaken r (connection_start per) v k.entries k.told u image) e x,
    refl,
  )
  among-behind n m s t (j ∷ ks) k u image within behind e x =
      let parts = within-split from to j.entries (connection_entries ks) within.2 in inr (inr (
        until-behind from to u j.entries parts.0 behind,
        among-behind (suc n) (last_told m j.told)
            (after_own r n (last_told m j.told) (after r s (turns_of r per j) j.told)) t ks k u image
            parts.1 behind e x,
      ))

  -- one more, while the server makes its own requests behind it
  among-follows : (n : ℕ) (m : Option ℕ) (s t : State) (ks : List Connection) (k : Connection) (u : ℕ)
      (image : Image) → AreWithin from to (connection_entries ks) → to ≤ u → t ≡ after_all r per n m s ks
      → until u k.entries ≡ k.entries
      → LeftBetween r (number_behind n ks) (last_told (moment_behind m ks) k.told)
      (after r t (turns_of r per k) k.told) image
      → LeftAmong r per n m s (ks ++ k ∷ []) u image
  among-follows n m s t [] k u image within behind e last x = inr (inl (
    last,
    refl,
    subst (λ (v : State). LeftBetween r n (last_told m k.told) (after r v (turns_of r per k) k.told)
        image) e x,
  ))
  among-follows n m s t (j ∷ ks) k u image within behind e last x =
      let parts = within-split from to j.entries (connection_entries ks) within.2 in inr (inr (
        until-behind from to u j.entries parts.0 behind,
        among-follows (suc n) (last_told m j.told)
            (after_own r n (last_told m j.told) (after r s (turns_of r per j) j.told)) t ks k u image
            parts.1 behind e last x,
      ))

  -- all of these were served
  among-all : (n : ℕ) (m : Option ℕ) (s t : State) (ks : List Connection) (u : ℕ) (image : Image)
      → AreWithin from to (connection_entries ks) → to ≤ u → t ≡ after_all r per n m s ks
      → StandsFor image t → LeftAmong r per n m s ks u image
  among-all n m s t [] u image within behind e x = subst (StandsFor image) e x
  among-all n m s t (j ∷ ks) u image within behind e x =
      let parts = within-split from to j.entries (connection_entries ks) within.2 in inr (inr (
        until-behind from to u j.entries parts.0 behind,
        among-all (suc n) (last_told m j.told)
            (after_own r n (last_told m j.told) (after r s (turns_of r per j) j.told)) t ks u image
            parts.1 behind e x,
      ))

module _ (r : Rules) (w : Lawful r) (per : ℕ) (a b c : DiskState) (s t : State)
    (ks : List Connection) (same : t ≡ after_all r per 1 None s ks) (es fs : Log)
    (made : es ≡ connection_entries ks) (meet : Meet a b c es fs)
    (left : AtEach a b (LeftAmong r per 1 None s ks)) where
  within_all : AreWithin a.moment b.moment (connection_entries ks)
  within_all = subst (AreWithin a.moment b.moment) made meet.before

  -- then one more was served
  pub left_more : (k : Connection) → fs ≡ whole_of k
      → AtEach b c (LeftTaken r (connection_start per) t fs k.told)
      → AtEach a c (LeftAmong r per 1 None s (ks ++ k ∷ []))
  left_more k is then trusted =
      spans_two a b c (LeftAmong r per 1 None s ks) (LeftTaken r (connection_start per) t fs k.told)
      (LeftAmong r per 1 None s (ks ++ k ∷ [])) (left trusted) (then (meet.trusts trusted))
      (λ u image before x. among-before r w per b.moment c.moment 1 None s ks k u image
      (subst (AreWithin b.moment c.moment) is meet.behind) before x)
      (λ u image from x. among-behind r w per a.moment b.moment 1 None s t ks k u image within_all from same
      (alone_left k is u image x))
    where
      alone_left : (k : Connection) → fs ≡ whole_of k → (u : ℕ) (image : Image)
          → LeftTaken r (connection_start per) t fs k.told u image
          → LeftTaken r (connection_start per) t k.entries k.told u image
      alone_left k is u image x = left_same r w (connection_start per) t fs k.entries k.told u u image
          (sym (taken-behind (entry k.moment k.clocked accepted) k.entries u refl)
          ∙ ap (λ (gs : Log). taken (until u gs)) (sym is))
          (sym (said-behind (entry k.moment k.clocked accepted) k.entries u refl)
          ∙ ap (λ (gs : Log). said_in (until u gs)) (sym is)) x

  -- and then the server made its own requests behind it
  pub left_followed : (d : DiskState) (k : Connection) (v : State) (number : ℕ) (moment : Option ℕ)
      → fs ≡ whole_of k → v ≡ after r t (turns_of r per k) k.told
      → number_behind 1 ks ≡ number → last_told (moment_behind None ks) k.told ≡ moment
      → (IsTrusted b → IsTrusted c)
      → AtEach b c (LeftTaken r (connection_start per) t fs k.told)
      → AtEach c d (λ _ image. LeftBetween r number moment v image)
      → AtEach a d (LeftAmong r per 1 None s (ks ++ k ∷ []))
  left_followed d k v number moment is state at_number at_moment trusts then follows trusted =
      let within : AreWithin b.moment c.moment (whole_of k) =
      subst (AreWithin b.moment c.moment) is meet.behind in
      let served = then (meet.trusts trusted) in
      spans_two a c d (LeftAmong r per 1 None s (ks ++ k ∷ []))
      (λ _ image. LeftBetween r number moment v image)
      (LeftAmong r per 1 None s (ks ++ k ∷ [])) (left_more k is then trusted)
      (follows (trusts (meet.trusts trusted)))
      (λ u image before x. x)
      (λ u image from x. among-follows r w per a.moment b.moment 1 None s t ks k u image within_all
      (omega (arith, from, served.later)) same
      (until-behind b.moment c.moment u k.entries within.2 from)
      (subst (λ (p : State). LeftBetween r (number_behind 1 ks) (last_told (moment_behind None ks) k.told)
      p image) state
      (subst (λ (i : ℕ). LeftBetween r i (last_told (moment_behind None ks) k.told) v image) (sym at_number)
      (subst (λ (m : Option ℕ). LeftBetween r number m v image) (sym at_moment) x))))

  -- then none came
  pub left_still : (ns : List ℕ) → taken fs ≡ [] → AtEach b c (LeftTaken r (connection_start per) t fs ns)
      → AtEach a c (LeftAmong r per 1 None s ks)
  left_still ns still then trusted =
      spans_two a b c (LeftAmong r per 1 None s ks) (LeftTaken r (connection_start per) t fs ns)
      (LeftAmong r per 1 None s ks) (left trusted) (then (meet.trusts trusted))
      (λ u image before x. x)
      (λ u image from x. among-all r w per a.moment b.moment 1 None s t ks u image within_all from same
      (none_left (subst (λ (ts : List Turn). LeftOn r t ts fs ns u image) (none u) x)))
    where
      none : (u : ℕ) → turns_at r (connection_start per) (taken (until u fs)) ≡ []
      none u = ap (turns_at r (connection_start per)) (taken-until u fs still)
          ∙ (at_unread r per false [] w.nothing).0

      none_left : {said : List ℕ} {image : Image} → IsLeft t [] said image → StandsFor image t
      none_left {said} {image} x = by_done x.behind.done x.behind.prefix x.behind.stands
        where
          by_done : (done : List Deed) → IsPrefix done []
              → StandsFor image (state_behind x.behind.own t done) → StandsFor image t
          by_done [] p stands = stands
          by_done (d ∷ ds) p stands = absurd (let e = ap length p.1 in omega (arith, e))

-- so many connections were served, and nothing else was done
abbrev pub SofarOn : Rules → ℕ → ℕ → State → State → OfStretch
SofarOn r per n s t old new es ms =
    (x : Sofar r per n s t es ms) × AtEach old new (LeftAmong r per 1 None s x.all)

module _ (r : Rules) (w : Lawful r) (per : ℕ) (a : DiskState) where
  pub sofar_none_on : (s : State) → LeavesNow a s → SofarOn r per 0 s s a a [] []
  unfolding sofar_none
  sofar_none_on s here = (
    sofar_none r per s,
    leaves-here a (λ u image. StandsFor image s) (λ trusted u image is. here trusted image is),
  )

  module _ (b c : DiskState) (s t : State) (n : ℕ) (es fs : Log) (ms ns : List ℕ)
      (meet : Meet a b c es fs) (x : SofarOn r per n s t a b es ms) where
    abbrev same : t ≡ after_all r per 1 None s x.0.all
    same = all_state r per 1 None x.0.all s t x.0.each

    -- one more connection was served, and then the server did what it does behind it
    module _ (d : DiskState) (u : State) (moment : Option ℕ)
        (told : moment ≡ last_told None (ms ++ ns)) (y : ComesOn r per true t u b c fs ns)
        (trusts : IsTrusted b → IsTrusted c)
        (follows : AtEach c d (λ _ image. LeftBetween r (suc n) moment u image)) where
      left_both : AtEach a d (LeftAmong r per 1 None s (x.0.all ++ y.0.0 ∷ []))
      left_both = left_followed r w per a b c s t x.0.all same es fs x.0.made meet x.1 d y.0.0 u (suc n)
          moment y.0.2 y.0.1.does.state (number_now r per n s t es ms x.0)
          (moment_now r per n s t es ms x.0 y.0.0 ns y.0.3 ∙ sym told) trusts
          (subst (λ (ls : List ℕ). AtEach b c (LeftTaken r (connection_start per) t fs ls)) y.0.3 y.1) follows

      pub sofar_more_on : (r.between (suc n) moment u).lacks ≡ None
          → SofarOn r per (n + 1) s (after_own r (suc n) moment u) a d (es ++ fs) (ms ++ ns)
      unfolding sofar_more
      sofar_more_on enough =
          subst (λ (m : Option ℕ). SofarOn r per (n + 1) s (after_own r (suc n) m u) a d (es ++ fs)
          (ms ++ ns)) (sym told) (
            sofar_more r per n s t u es fs ms ns x.0 y.0
                (ap (λ (m : Option ℕ). (r.between (suc n) m u).lacks) (sym told) ∙ enough),
            left_both,
          )

      pub served_between_on : (count : ℕ) (fault : RunFault) (next : ℕ) → n < count
          → BetweenNot (reach next (ms ++ ns)) (r.between (suc n) moment u) fault
          → ServedSomeOn r per count fault next s a d (es ++ fs) (ms ++ ns)
      unfolding served_between
      served_between_on count fault next few cause = (
        served_between r per n count fault next s t u es fs ms ns few x.0 y.0
            (subst (λ (m : Option ℕ). BetweenNot (reach next (ms ++ ns)) (r.between (suc n) m u) fault) told cause),
        left_both,
      )

    pub served_fewer_on : (count : ℕ) (u : State) → n < count → ComesOn r per false t u b c fs ns
        → ServedOn r per count s u a c (es ++ fs) (ms ++ ns)
    unfolding served_fewer
    served_fewer_on count u few y = (
      served_fewer r per n count s t u es fs ms ns few x.0 y.0,
      left_still r w per a b c s t x.0.all same es fs x.0.made meet x.1 ns (ap taken y.0.1.2) y.1,
    )

    pub served_some_on : (count : ℕ) (fault : RunFault) (next : ℕ) → n < count
        → ComesSomeOn r per fault (reach next ms) t b c fs ns
        → ServedSomeOn r per count fault next s a c (es ++ fs) (ms ++ ns)
    unfolding served_some
    served_some_on count fault next few (inl none, left) = (
      served_some r per n count fault next s t es fs ms ns few x.0 (inl none),
      subst (λ (ks : List Connection). AtEach a c (LeftAmong r per 1 None s ks)) (sym (append-nil x.0.all))
          (left_still r w per a b c s t x.0.all same es fs x.0.made meet x.1 ns (ap taken none.0)
          left),
    )
    served_some_on count fault next few (inr one, left) = (
      served_some r per n count fault next s t es fs ms ns few x.0 (inr one),
      left_more r w per a b c s t x.0.all same es fs x.0.made meet x.1 one.0 one.2
          (subst (λ (ls : List ℕ). AtEach b c (LeftTaken r (connection_start per) t fs ls)) one.3 left),
    )

  pub served_all_on : (b : DiskState) (n : ℕ) (s t : State) (es : Log) (ms : List ℕ)
      → SofarOn r per n s t a b es ms → ServedOn r per n s t a b es ms
  unfolding served_all
  served_all_on b n s t es ms x = (served_all r per n s t es ms x.0, x.1)

-- nothing was begun
pub served_nothing_on : (r : Rules) (per count next : ℕ) (a : DiskState) (s : State) → LeavesNow a s
    → ServedSomeOn r per count NoMemory next s a a [] []
unfolding served_nothing
served_nothing_on r per count next a s here = (
  served_nothing r per count next s,
  leaves-here a (λ u image. StandsFor image s) (λ trusted u image is. here trusted image is),
)
