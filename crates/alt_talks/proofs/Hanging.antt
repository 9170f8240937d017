-- A whole connection, from its accept to its hanging up.
use Rattle.alt_talks.specs.declared.fault.RunFault.{RunFault}
use Rattle.alt_talks.specs.declared.fault.RunFault.TheVariants.{Failed}
use Rattle.std.proofs.Common.{◌≡◌, ◌<◌, inl, inr, ℕ, List, [], ◌∷◌, ◌++◌, Bool, true, false, not, Option, refl, sym, ap, subst, ◌∙◌, append-nil, arith}
use Rattle.std.proofs.Math.Bool.{or-false}
use Rattle.alt_disk.specs.Disk.{DiskState}
use Rattle.alt_machine.specs.State.{State}
use Rattle.alt_shell.specs.Calls.{Adds, Keeps}
use Rattle.alt_shell.specs.Log.{Log, Grows, moments_of, told_count, entry, none_came, hung_up, taken, said_in, says_failed}
use Rattle.alt_talks.specs.Runs.{Stretch}
use Rattle.alt_talks.specs.private.Rungs.{KnowsLastMoment, GoesSome, EndsTalk}
use Rattle.alt_talks.specs.Talks.{Turn, Rules, ConnectionPlace, at, turns, closes}
use Rattle.alt_talks.specs.private.Lawful.{Lawful}
use Rattle.alt_talks.specs.TalkStops.{LeavesNow}
use Rattle.alt_talks.specs.private.RungStops.{ComesOn, ComesSomeOn}
use Rattle.alt_talks.specs.TalkTexts.{text}
use Rattle.alt_talks.specs.Stretches.{SaidOf, no_more_bytes, Hushes, TakesIdle, Does, DoesSome}
use Rattle.alt_talks.specs.Connections.{Serves, ConnectionBreaksOff, connection_start}
use Rattle.alt_talks.proofs.Breaking.{breaks_same}
use Rattle.alt_talks.proofs.Stretching.{taken-append, said_in-append}
use Rattle.alt_talks.proofs.TalkLeaving.{left_silent}
use Rattle.alt_talks.proofs.TalkIdle.{idle_other, idle-append, counted_behind}
use Rattle.alt_talks.proofs.TalkLogs.{stretch_one, over-append, broken-append, hushes-append}
use Rattle.alt_talks.proofs.TalkCuts.{closes_end}

not_false : (b c : Bool) → b ≡ not c → c ≡ false → b ≡ true
not_false b c e f = e ∙ ap not f

module _ (r : Rules) (per : ℕ) (s : State) (es : Log) (ms : List ℕ) (from since upto clocked : ℕ) where
  all : Log
  all = es ++ entry upto clocked hung_up ∷ []

  same_taken : taken (es ++ entry upto clocked hung_up ∷ []) ≡ taken es
  same_taken = taken-append es (entry upto clocked hung_up ∷ []) ∙ append-nil (taken es)

  same_said : said_in (es ++ entry upto clocked hung_up ∷ []) ≡ said_in es
  same_said = said_in-append es (entry upto clocked hung_up ∷ []) ∙ append-nil (said_in es)

  same_broken : says_failed (es ++ entry upto clocked hung_up ∷ []) ≡ says_failed es
  same_broken = broken-append es (entry upto clocked hung_up ∷ []) ∙ or-false (says_failed es)

  same_ended : no_more_bytes (es ++ entry upto clocked hung_up ∷ []) ≡ no_more_bytes es
  same_ended = over-append es (entry upto clocked hung_up ∷ []) ∙ or-false (no_more_bytes es)

  hushed : Hushes es → Hushes (es ++ entry upto clocked hung_up ∷ [])
  hushed h = hushes-append es (entry upto clocked hung_up ∷ []) h (λ f. absurd (let g : ⊥ = cc in g), tt)
      (λ _. refl)

  idle_hung : TakesIdle r (connection_start per) s false ms [] es
      → TakesIdle r (connection_start per) s false ms [] (es ++ entry upto clocked hung_up ∷ [])
  idle_hung h = idle-append r (connection_start per) s false ms [] es (entry upto clocked hung_up ∷ []) h
      (idle_other r (connection_start per) s false ms es (entry upto clocked hung_up) refl)

  pub serves_hung : (q : ConnectionPlace) (t : State) (n : Bool) → 0 < per → EndsTalk r (at per false []) s false q t n es ms
      → Serves r per s (record { moment = from; clocked = since; entries = es ++ entry upto clocked hung_up ∷ []; told = ms }) t
  serves_hung q t n some e =
      let d = e.goes.does in
      let ts : List Turn = turns r per false (taken (es ++ entry upto clocked hung_up ∷ [])) in
      let moved : Does r s false ts t n es ms = subst (λ (bs : List ℕ). Does r s false (turns r per false bs) t n es ms) (sym same_taken) d in
      let whole : Does r s false ts t n (es ++ entry upto clocked hung_up ∷ []) ms = record {
        said = subst (λ (bs : List ℕ). SaidOf n bs (text r s ts ms)) (sym same_said) moved.said;
        state = moved.state;
        count = counted_behind r s false ts ms n es (entry upto clocked hung_up ∷ []) moved.count;
        enough = moved.enough;
        broke = moved.broke ∙ sym same_broken;
        silent = λ z. absurd (let f : ⊥ = cc in f);
        hush = hushed d.hush;
        still = λ z. absurd (let f : ⊥ = cc in f);
      } in
      record {
        does = subst (λ (b : Bool). Does r s false ts t b (es ++ entry upto clocked hung_up ∷ []) ms) whole.broke whole;
        cause = elim e.cause [
          | inl none ↦ inl (same_ended ∙ not_false (no_more_bytes es) e.more e.goes.ends none)
          | inr (inl mute) ↦ inr (inl (same_broken ∙ sym d.broke ∙ mute))
          | inr (inr done) ↦ inr (inr (ap (λ bs. closes (turns r per false bs)) same_taken ∙ closes_end r per false (taken es) some (ap (λ (p : ConnectionPlace). p.left) (sym e.goes.place) ∙ done)))
        ];
        idle = idle_hung e.goes.idle;
        before = es;
        at = upto;
        clocked = clocked;
        hung = refl;
        inside = e.goes.inside;
      }

  pub some_hung : (fault : RunFault) (next : ℕ) → GoesSome r fault next (at per false []) s false es ms
      → ConnectionBreaksOff r per fault next s (record { moment = from; clocked = since; entries = es ++ entry upto clocked hung_up ∷ []; told = ms })
  some_hung fault next e =
      let moved = subst (λ (bs : List ℕ). DoesSome r fault next s false (turns r per false bs) es ms) (sym same_taken) e.some in record {
        some = record {
          said = (moved.said.0, moved.said.1 ∙ ap (λ bs. bs ++ moved.said.0) (sym same_said));
          most = moved.most;
          wants = breaks_same r fault next s false (turns r per false (taken (es ++ entry upto clocked hung_up ∷ []))) es (es ++ entry upto clocked hung_up ∷ []) ms same_said same_broken moved.wants;
          silent = λ z. absurd (let f : ⊥ = cc in f);
          hush = hushed moved.hush;
          still = λ z. absurd (let f : ⊥ = cc in f);
          begins = moved.begins;
        };
        idle = idle_hung e.idle;
        before = es;
        at = upto;
        clocked = clocked;
        hung = refl;
        inside = e.inside;
      }

-- none came
pub none_comes : (last : Option ℕ) (r : Rules) (w : Lawful r) (per : ℕ) (s : State) (a b : DiskState)
    → Adds a b none_came → moments_of b.beside ≡ moments_of a.beside → Keeps a b → LeavesNow a s
    → Stretch a b (KnowsLastMoment last last (ComesOn r per false s s))
none_comes last r w per s a b g m keeps here =
    stretch_one a b (KnowsLastMoment last last (ComesOn r per false s s)) _ g m
    (keeps.later, omega arith, tt) keeps (
      (
        (refl, (b.moment, told_count a.beside, refl), refl),
        left_silent r w (at per false []) s a b (entry b.moment (told_count a.beside) none_came ∷ []) []
            keeps refl here,
      ),
      refl,
    )

-- the wait failed
pub wait_failed : (r : Rules) (w : Lawful r) (per next : ℕ) (s : State) (a b : DiskState)
    → Grows a.beside b.beside [] → moments_of b.beside ≡ moments_of a.beside → Keeps a b
    → LeavesNow a s → Stretch a b (ComesSomeOn r per Failed next s)
wait_failed r w per next s a b g m keeps here = stretch_one a b (ComesSomeOn r per Failed next s) [] g m tt keeps
    (inl (refl, refl, tt), left_silent r w (at per false []) s a b [] [] keeps refl here)
