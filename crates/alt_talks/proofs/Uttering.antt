-- Single calls, and turns that were done one by one.
use Rattle.std.proofs.Common.{◌≡◌, ◌<◌, ◌⊎◌, inl, inr, ℕ, List, [], ◌∷◌, ◌++◌, length, take, drop, Bool, true, false, Option, Some, None, refl, sym, ap, subst, ◌∙◌, append_assoc, append-nil, arith, length-append, take-append-drop}
use Rattle.std.specs.Prelude.{◌||◌}
use Rattle.alt_base.specs.Prefix.{IsPrefix}
use Rattle.alt_machine.specs.State.{State}
use Rattle.alt_machine.specs.Wanted.{Lack}
use Rattle.alt_shell.specs.Log.{Log, moments_of, talks, says_missed, entry, said, say_failed, said_in, taken, says_failed, crosses}
use Rattle.std.proofs.lemmas.Bool.{true≢false}
use Rattle.std.proofs.Math.Bool.{or-true}
use Rattle.alt_base.proofs.Bools.{or_grouped}
use Rattle.alt_disk.specs.Disk.{DiskState}
use Rattle.alt_shell.specs.Calls.{Adds, Keeps, Untold, IsUntoldBy}
use Rattle.alt_talks.specs.Runs.{Stretch}
use Rattle.alt_talks.specs.Faults.{IsAnswerFault, IsCausedBy, reach}
use Rattle.alt_talks.specs.declared.fault.RunFault.{RunFault}
use Rattle.alt_talks.specs.declared.fault.RunFault.TheVariants.{NoMemory}
use Rattle.alt_talks.specs.Turns.{or_next}
use Rattle.alt_talks.specs.Talks.{Turn, onward, asked, refused, Rules, Request, ConnectionPlace, at, turns, final, has_refused}
use Rattle.alt_talks.specs.TalkTexts.{text, after, request_count, moments_taken, wanted_by_talk}
use Rattle.alt_talks.specs.Stretches.{SaidOf, Does, DoesSome, TurnsBreakOffFor, no_more_bytes, says_something, MomentsAreCounted, Begins}
use Rattle.alt_talks.specs.private.Rungs.{TakesNothing, Utters, AnswersSome, MovesConnection, MovesAll, MovesSome, AtRest}
use Rattle.alt_talks.proofs.Breaking.{breaks_behind}
use Rattle.alt_talks.proofs.FileFaults.{IsTurnFault, file_more}
use Rattle.alt_talks.proofs.Stretching.{said_in-append, taken-append}
use Rattle.alt_talks.proofs.Stopping.{IsPrefix-self, one-by}
use Rattle.alt_talks.proofs.TalkLogs.{Clocked, stretch_one, over-append, broken-append, crosses-append, says-append, hushes-append}
use Rattle.alt_talks.proofs.TalkIdle.{exact_count, heard_then, refused_behind}
use Rattle.alt_talks.proofs.TalkFolds.{asks-append, requests-append, asks-requests, text-append, after-append, wanted-append}

pub utters_said : (bytes : List ℕ) (m k : ℕ) → Utters false bytes false (entry m k (said bytes) ∷ []) []
utters_said bytes m k = record {
  said = append-nil bytes;
  by = one-by (entry m k (said bytes)) bytes
      (subst (λ (bs : List ℕ). IsPrefix bs bytes) (sym (append-nil bytes)) (IsPrefix-self bytes));
  broke = refl;
  silent = λ e. absurd (let f : ⊥ = cc in f);
  hush = (λ _. refl, tt);
  still = λ e. absurd (let f : ⊥ = cc in f);
  quiet = record { still = refl; goes_on = refl; inside = refl };
  timeless = refl;
}

pub utters_part : (bytes : List ℕ) (m k n : ℕ) → Utters false bytes true (entry m k (say_failed (take n bytes)) ∷ []) []
utters_part bytes m k n = record {
  said = (drop n bytes, sym (take-append-drop n bytes) ∙ ap (λ bs. bs ++ drop n bytes) (sym (append-nil (take n bytes))));
  by = one-by (entry m k (say_failed (take n bytes))) bytes
      (drop n bytes, sym (take-append-drop n bytes) ∙ ap (λ bs. bs ++ drop n bytes) (sym (append-nil (take n bytes))));
  broke = refl;
  silent = λ e. absurd (let f : ⊥ = cc in f);
  hush = (λ _. refl, tt);
  still = λ e. absurd (let f : ⊥ = cc in f);
  quiet = record { still = refl; goes_on = refl; inside = refl };
  timeless = refl;
}

pub utters_none : (bytes : List ℕ) → Utters true bytes true [] []
utters_none bytes = record {
  said = (bytes, refl);
  by = λ u. (bytes, refl);
  broke = refl;
  silent = λ _. refl;
  hush = tt;
  still = λ _. refl;
  quiet = record { still = refl; goes_on = refl; inside = refl };
  timeless = refl;
}

-- what says the text of one turn does it
module _ (r : Rules) (s : State) (m n : Bool) (es : Log) where
  pub does_onward : (ms : List ℕ) → Utters m r.greeting n es ms → Does r s m (onward ∷ []) s n es ms
  does_onward ms u =
      let none = u.timeless in
      subst (λ (ts : List ℕ). Does r s m (onward ∷ []) s n es ts) (sym none) (record {
        said = subst (λ (bs : List ℕ). SaidOf n (said_in es) bs) (sym (append-nil r.greeting)) u.said;
        state = refl;
        count = inl (refl, λ h. absurd (let f : ⊥ = cc in f));
        enough = refl;
        broke = u.broke;
        silent = λ e. (u.silent e, refl);
        hush = u.hush;
        still = u.still;
      })

  pub does_asked : (q : Request) (at : ℕ) → r.wants s q at ≡ None → Utters m (r.reply s q at) n es [] → Does r s m (asked q ∷ []) (r.next s q at) n es (at ∷ [])
  does_asked q at w u = record {
    said = subst (λ (bs : List ℕ). SaidOf n (said_in es) bs) (sym (append-nil (r.reply s q at))) u.said;
    state = refl;
    count = inl (refl, λ h. absurd (let f : ⊥ = cc in f));
    enough = ap (λ v. or_next v None) w;
    broke = u.broke;
    silent = λ e. (u.silent e, refl);
    hush = u.hush;
    still = u.still;
  }

  pub does_refused : (k at : ℕ) → m ≡ false → Utters m (r.refusal k at) n es [] → Does r s m (refused k ∷ []) s n es (at ∷ [])
  does_refused k at heard u = record {
    said = subst (λ (bs : List ℕ). SaidOf n (said_in es) bs) (sym (append-nil (r.refusal k at))) u.said;
    state = refl;
    count = inl (
      refl,
      λ _. record {
        first = [];
        refusal = k;
        last = refl;
        moments = [];
        moment = at;
        ends = refl;
        before = [];
        behind = es;
        splits = refl;
        well = ap (λ b. b || false) heard;
        said = refl;
      },
    );
    enough = refl;
    broke = u.broke;
    silent = λ e. absurd (let f : ⊥ = cc in f);
    hush = u.hush;
    still = u.still;
  }

-- after a failed say a refusal says nothing and takes no moment
pub does_refused_mute : (r : Rules) (s : State) (k : ℕ) → Does r s true (refused k ∷ []) s true [] []
does_refused_mute r s k = record { said = ([], refl); state = refl; count = inr (refl, refl); enough = refl; broke = refl; silent = λ _. (refl, refl); hush = tt; still = λ _. refl }

pub does_none : (r : Rules) (s : State) (m : Bool) → Does r s m [] s m [] []
does_none r s true = record { said = ([], refl); state = refl; count = inl (refl, λ h. absurd (let f : ⊥ = cc in f)); enough = refl; broke = refl; silent = λ _. (refl, refl); hush = tt; still = λ _. refl }
does_none r s false = record { said = refl; state = refl; count = inl (refl, λ h. absurd (let f : ⊥ = cc in f)); enough = refl; broke = refl; silent = λ _. (refl, refl); hush = tt; still = λ _. refl }

said_then : (m n : Bool) (x y xs ys : List ℕ) → SaidOf m x xs → SaidOf n y ys → (m ≡ true → y ≡ []) → (m ≡ true → n ≡ true) → SaidOf n (x ++ y) (xs ++ ys)
said_then false false x y xs ys p q none on = ap (λ v. v ++ y) p ∙ ap (λ v. xs ++ v) q
said_then false true x y xs ys p q none on = (q.0, ap (λ v. v ++ ys) (sym p) ∙ ap (λ v. x ++ v) q.1 ∙ sym (append_assoc x y q.0))
said_then true false x y xs ys p q none on = absurd (let e = on refl in let f : ⊥ = cc in f)
said_then true true x y xs ys p q none on =
    (p.0 ++ ys, ap (λ v. v ++ ys) p.1 ∙ append_assoc x p.0 ys ∙ ap (λ v. v ++ (p.0 ++ ys)) (sym (append-nil x)) ∙ ap (λ v. (x ++ v) ++ (p.0 ++ ys)) (sym (none refl)))

or_true : (m b n : Bool) → n ≡ (m || b) → m ≡ true → n ≡ true
or_true true b n e h = e
or_true false b n e h = absurd (let f : ⊥ = cc in f)

-- turns and then more; the first hold no refusal, since that ends them
module _ (r : Rules) (s t u : State) (m n o : Bool) (ts us : List Turn) (es fs : Log) (ms ns : List ℕ) (clear : has_refused ts ≡ false)
    (p : Does r s m ts t n es ms) (q : Does r t n us u o fs ns) where
  exact : length ms ≡ moments_taken ts
  exact = exact_count r s t m n ts es ms clear p

  counted : MomentsAreCounted r s m (ts ++ us) o (es ++ fs) (ms ++ ns)
  counted = elim q.count [
    | inl e ↦ inl (
      let a = length-append ms ns in let b = asks-append ts us in let c = exact in let d = e.0 in omega (arith, a, b, c, d),
      λ h. heard_then r s t m n ts es ms clear p us fs ns (e.1 (refused_behind ts us clear h)),
    )
    | inr e ↦ inr (e.0, let a = length-append ms ns in let b = requests-append ts us in let c = exact in let d = asks-requests ts clear in let f = e.1 in omega (arith, a, b, c, d, f))
  ]

  broken_now : says_failed es ≡ true → n ≡ true
  broken_now e = p.broke ∙ ap (λ b. m || b) e ∙ or-true m

  pub does_then : Does r s m (ts ++ us) u o (es ++ fs) (ms ++ ns)
  does_then = record {
    said = subst (λ (bs : List ℕ). SaidOf o bs (text r s (ts ++ us) (ms ++ ns))) (sym (said_in-append es fs))
        (subst (λ (bs : List ℕ). SaidOf o (said_in es ++ said_in fs) bs) (sym (text-append r s ts us ms ns exact))
        (said_then n o (said_in es) (said_in fs) (text r s ts ms) (text r (after r s ts ms) us ns) p.said
        (subst (λ (v : State). SaidOf o (said_in fs) (text r v us ns)) p.state q.said)
        (λ e. (q.silent e).0) (or_true n (says_failed fs) o q.broke)));
    state = q.state ∙ ap (λ v. after r v us ns) p.state ∙ sym (after-append r s ts us ms ns exact);
    count = counted;
    enough = wanted-append r s ts us ms ns exact p.enough ∙ ap (λ v. wanted_by_talk r v us ns) (sym p.state) ∙ q.enough;
    broke = q.broke ∙ ap (λ b. b || says_failed fs) p.broke ∙ sym (or_grouped m (says_failed es)
        (says_failed fs)) ∙ ap (λ b. m || b) (sym (broken-append es fs));
    silent = λ e.
        let mute = or_true m (says_failed es) n p.broke e in (
          said_in-append es fs ∙ ap (λ bs. bs ++ said_in fs) (p.silent e).0 ∙ (q.silent mute).0,
          let a = length-append ms ns in let b = requests-append ts us in let c = (p.silent e).1 in let d = (q.silent mute).1 in omega (arith, a, b, c, d),
        );
    hush = hushes-append es fs p.hush q.hush (λ e. q.still (broken_now e));
    still = λ e. says-append es fs ∙ ap (λ b. b || says_something fs) (p.still e) ∙ q.still (or_true m (says_failed es) n p.broke e);
  }

pub quiet_then : (es fs : Log) → TakesNothing es → TakesNothing fs → TakesNothing (es ++ fs)
quiet_then es fs a b = record {
  still = taken-append es fs ∙ ap (λ bs. bs ++ taken fs) a.still ∙ b.still;
  goes_on = over-append es fs ∙ ap (λ e. e || no_more_bytes fs) a.goes_on ∙ b.goes_on;
  inside = crosses-append es fs ∙ ap (λ e. e || crosses fs) a.inside ∙ b.inside;
}

pub quiet_none : TakesNothing []
quiet_none = record { still = refl; goes_on = refl; inside = refl }

pub clear_then : (ts us : List Turn) → has_refused ts ≡ false → has_refused us ≡ false → has_refused (ts ++ us) ≡ false
clear_then [] us a b = b
clear_then (onward ∷ ts) us a b = clear_then ts us a b
clear_then (asked q ∷ ts) us a b = clear_then ts us a b
clear_then (refused k ∷ ts) us a b = absurd (let f : ⊥ = cc in f)

-- moves and then more, where turns may still come
module _ (r : Rules) (p q v : ConnectionPlace) (s t u : State) (m n o : Bool) (es fs : Log) (ms ns : List ℕ) (going : 0 < q.left)
    (a : MovesConnection r p s m q t n es ms) (b : MovesConnection r q t n v u o fs ns) where
  unfoldable pub moves_then : MovesConnection r p s m v u o (es ++ fs) (ms ++ ns)
  moves_then = record {
    done = a.done ++ b.done;
    does = does_then r s t u m n o a.done b.done es fs ms ns (a.clear going) a.does b.does;
    splits = a.splits ∙ ap (λ ts. a.done ++ ts) b.splits ∙ sym (append_assoc a.done b.done _);
    same = a.same ∙ b.same;
    clear = λ h. clear_then a.done b.done (a.clear going) (b.clear h);
    quiet = quiet_then es fs a.quiet b.quiet;
  }

-- where none is left at hand
pub moves_all : (r : Rules) (p q : ConnectionPlace) (s t : State) (m n : Bool) (es : Log) (ms : List ℕ)
    → turns r q.left q.greeted q.bytes ≡ [] → final r q.left q.greeted q.bytes ≡ q → MovesConnection r p s m q t n es ms → MovesAll r p s m q t n es ms
moves_all r p q s t m n es ms none here a =
    let all : turns r p.left p.greeted p.bytes ≡ a.done = a.splits ∙ ap (λ ts. a.done ++ ts) none ∙ append-nil a.done in record {
      does = subst (λ (ts : List Turn). Does r s m ts t n es ms) (sym all) a.does;
      place = sym (a.same ∙ here);
      clear = λ h. ap has_refused all ∙ a.clear h;
      quiet = a.quiet;
    }

alone : (w : Option Lack) → w ≡ or_next w None
alone None = refl
alone (Some n) = refl

-- none was begun
pub begins_none : (r : Rules) (s : State) (ts : List Turn) → Begins r s ts []
begins_none r s ts = record { done = []; begun = []; rest = ts; parts = refl; few = omega arith; count = inl refl; enough = refl }

-- the one turn was, and asked for its moment
begins_one : (r : Rules) (s : State) (t : Turn) (at : ℕ) → 1 ≡ moments_taken (t ∷ [])
    → Begins r s (t ∷ []) (at ∷ [])
begins_one r s t at e =
    record { done = []; begun = t ∷ []; rest = []; parts = refl; few = omega arith; count = inl e; enough = refl }

-- a turn that broke off before its text was said
pub answers_some_none : (r : Rules) (next : ℕ) (s : State) (m : Bool) (ts : List Turn) → AnswersSome r NoMemory next s m ts [] []
answers_some_none r next s m ts = record { some = record { said = (text r s ts [], refl); most = omega arith; wants = inl tt; silent = λ _. refl; hush = tt; still = λ _. refl; begins = begins_none r s ts }; quiet = quiet_none }

-- why a request has no answer is why it broke off
asked_breaks : (r : Rules) (fault : RunFault) (next : ℕ) (s : State) (m : Bool) (q : Request) (at : ℕ)
    → IsTurnFault next (r.alone s q at) (r.wants s q at) (r.atoms s q at) fault
    → TurnsBreakOffFor r fault next s m (asked q ∷ []) [] (at ∷ [])
asked_breaks r fault next s m q at (inl w) =
    inl (subst (λ v. IsCausedBy v fault) (alone (r.wants s q at)) w)
asked_breaks r fault next s m q at (inr last) = inr (
  file_more fault next (reach next (at ∷ [])) (omega arith) last.2,
  inl (record {
    before = [];
    request = q;
    rest = [];
    parts = refl;
    count = refl;
    first = [];
    moment = at;
    moments = refl;
    enough = refl;
    writes = inl (last.0, last.1);
  }),
)

pub some_asked : (r : Rules) (fault : RunFault) (next : ℕ) (s : State) (m : Bool) (q : Request) (at : ℕ) (es : Log) (ms : List ℕ)
    → Clocked at es ms → IsTurnFault next (r.alone s q at) (r.wants s q at) (r.atoms s q at) fault → AnswersSome r fault next s m (asked q ∷ []) es ms
some_asked r fault next s m q at es ms t w =
    let none = t.nothing in let one = t.one in
    subst (λ (fs : Log). AnswersSome r fault next s m (asked q ∷ []) fs ms) (sym none)
    (subst (λ (ns : List ℕ). AnswersSome r fault next s m (asked q ∷ []) [] ns) (sym one) (record {
      some = record {
        said = (text r s (asked q ∷ []) (at ∷ []), refl);
        most = omega arith;
        wants = asked_breaks r fault next s m q at w;
        silent = λ _. refl;
        hush = tt;
        still = λ _. refl;
        begins = begins_one r s (asked q) at refl;
      };
      quiet = quiet_none;
    }))

-- why what follows a request isn't made is why it broke off
own_breaks : (r : Rules) (fault : RunFault) (next : ℕ) (s : State) (m : Bool) (q : Request) (at : ℕ) (es : Log)
    → IsAnswerFault next (r.wants s q at) (r.own s q at) fault → TurnsBreakOffFor r fault next s m (asked q ∷ []) es (at ∷ [])
own_breaks r fault next s m q at es (inl w) =
    inl (subst (λ v. IsCausedBy v fault) (alone (r.wants s q at)) w)
own_breaks r fault next s m q at es (inr last) = inr (
  file_more fault next (reach next (at ∷ [])) (omega arith) last.2,
  inl (record {
    before = [];
    request = q;
    rest = [];
    parts = refl;
    count = refl;
    first = [];
    moment = at;
    moments = refl;
    enough = refl;
    writes = inr (last.0, last.1);
  }),
)

-- its reply was said, and then what follows it wasn't made
pub some_said : (r : Rules) (fault : RunFault) (next : ℕ) (s : State) (m n : Bool) (q : Request) (at : ℕ) (es : Log)
    → IsAnswerFault next (r.wants s q at) (r.own s q at) fault → Utters m (r.reply s q at) n es []
    → DoesSome r fault next s m (asked q ∷ []) es (at ∷ [])
some_said r fault next s m n q at es w u = record {
  said = subst (IsPrefix (said_in es)) (sym (append-nil (r.reply s q at)))
      (some_of n (said_in es) (r.reply s q at) u.said);
  most = omega arith;
  wants = own_breaks r fault next s m q at es w;
  silent = u.silent;
  hush = u.hush;
  still = u.still;
  begins = begins_one r s (asked q) at refl;
}
  where
    some_of : (n : Bool) (some whole : List ℕ) → SaidOf n some whole → IsPrefix some whole
    some_of true some whole p = p
    some_of false some whole e = ([], sym e ∙ sym (append-nil some))

pub some_refused : (r : Rules) (next : ℕ) (s : State) (m : Bool) (k at : ℕ) (es : Log) (ms : List ℕ) → Clocked at es ms → AnswersSome r NoMemory next s m (refused k ∷ []) es ms
some_refused r next s m k at es ms t =
    let none = t.nothing in let one = t.one in
    subst (λ (fs : Log). AnswersSome r NoMemory next s m (refused k ∷ []) fs ms) (sym none)
    (subst (λ (ns : List ℕ). AnswersSome r NoMemory next s m (refused k ∷ []) [] ns) (sym one) (record {
      some = record { said = (text r s (refused k ∷ []) (at ∷ []), refl); most = omega arith; wants = inl tt; silent = λ _. refl; hush = tt; still = λ _. refl; begins = begins_one r s (refused k) at refl };
      quiet = quiet_none;
    }))

-- turns and then a break
module _ (r : Rules) (fault : RunFault) (next : ℕ) (s t : State) (m n : Bool) (ts us : List Turn) (es fs : Log) (ms ns : List ℕ) (clear : has_refused ts ≡ false)
    (a : Does r s m ts t n es ms) (b : DoesSome r fault (reach next ms) t n us fs ns) where
  told_of : length ms ≡ moments_taken ts
  told_of = exact_count r s t m n ts es ms clear a

  begun_both : (us ks : List Turn) → (length ns ≡ moments_taken (us ++ ks)) ⊎ (length ns ≡ request_count (us ++ ks))
      → (length (ms ++ ns) ≡ moments_taken ((ts ++ us) ++ ks)) ⊎ (length (ms ++ ns) ≡ request_count ((ts ++ us) ++ ks))
  begun_both us ks (inl e) =
      let same = ap moments_taken (append_assoc ts us ks) in
      inl (let a = length-append ms ns in let b = asks-append ts (us ++ ks) in let c = told_of in omega (arith, same, a, b, c, e))
  begun_both us ks (inr e) =
      let same = ap request_count (append_assoc ts us ks) in
      inr (let a = length-append ms ns in let b = requests-append ts (us ++ ks) in let c = told_of in let d = asks-requests ts clear in omega (arith, same, a, b, c, d, e))

  begins_both : Begins r s (ts ++ us) (ms ++ ns)
  begins_both = record {
    done = ts ++ b.begins.done;
    begun = b.begins.begun;
    rest = b.begins.rest;
    parts = ap (λ l. ts ++ l) b.begins.parts ∙ sym (append_assoc ts b.begins.done (b.begins.begun ++ b.begins.rest));
    few = b.begins.few;
    count = begun_both b.begins.done b.begins.begun b.begins.count;
    enough = wanted-append r s ts b.begins.done ms ns told_of a.enough
        ∙ ap (λ (v : State). wanted_by_talk r v b.begins.done ns) (sym a.state) ∙ b.begins.enough;
  }

  pub does_break : DoesSome r fault next s m (ts ++ us) (es ++ fs) (ms ++ ns)
  does_break = record {
    said = subst (λ (bs : List ℕ). IsPrefix bs (text r s (ts ++ us) (ms ++ ns))) (sym (said_in-append es fs))
        (subst (λ (bs : List ℕ). IsPrefix (said_in es ++ said_in fs) bs) (sym (text-append r s ts us ms ns told_of))
        (said_then n true (said_in es) (said_in fs) (text r s ts ms) (text r (after r s ts ms) us ns) a.said
        (subst (λ (v : State). IsPrefix (said_in fs) (text r v us ns)) a.state b.said)
        b.silent (λ _. refl)));
    most = let x = length-append ms ns in let y = asks-append ts us in let k = told_of in let z = b.most in omega (arith, x, y, k, z);
    wants = breaks_behind r fault next s t m n ts us es fs ms ns clear a b.wants;
    silent = λ e. said_in-append es fs ∙ ap (λ bs. bs ++ said_in fs) (a.silent e).0 ∙ b.silent (or_true m (says_failed es) n a.broke e);
    hush =
        hushes-append es fs a.hush b.hush (λ e. b.still (a.broke ∙ ap (λ v. m || v) e ∙ or-true m));
    still = λ e. says-append es fs ∙ ap (λ v. v || says_something fs) (a.still e) ∙ b.still (or_true m (says_failed es) n a.broke e);
    begins = begins_both;
  }

-- moves and then a break
pub moves_break : (r : Rules) (fault : RunFault) (next : ℕ) (p q : ConnectionPlace) (s t : State) (m n : Bool) (es fs : Log) (ms ns : List ℕ) → 0 < q.left
    → MovesConnection r p s m q t n es ms → MovesSome r fault (reach next ms) q t n fs ns → MovesSome r fault next p s m (es ++ fs) (ms ++ ns)
moves_break r fault next p q s t m n es fs ms ns going a b = record {
  some = subst (λ (ts : List Turn). DoesSome r fault next s m ts (es ++ fs) (ms ++ ns)) (sym a.splits)
      (does_break r fault next s t m n a.done (turns r q.left q.greeted q.bytes) es fs ms ns (a.clear going) a.does b.some);
  quiet = quiet_then es fs a.quiet b.quiet;
}

unfoldable pub moves_none : (r : Rules) (p : ConnectionPlace) (s : State) (m : Bool) → MovesConnection r p s m p s m [] []
moves_none r p s m = record { done = []; does = does_none r s m; splits = refl; same = refl; clear = λ _. refl; quiet = quiet_none }

-- where no request may come any more, none is at hand
pub rests_at_end : (r : Rules) (q : ConnectionPlace) → q.left ≡ 0 → AtRest r q
rests_at_end r q e = (ap (λ (n : ℕ). turns r n q.greeted q.bytes) e, ap (λ (n : ℕ). final r n q.greeted q.bytes) e ∙ ap (λ (n : ℕ). at n q.greeted q.bytes) (sym e))

-- a say that failed in a talk in which none had failed
pub utters_failed : (a b : DiskState) (bytes : List ℕ) → talks a.beside ≡ true
    → says_missed a.beside ≡ false
    → (((n : ℕ) × Adds a b (say_failed (take n bytes))) ⊎ Untold a b says_failed says_missed)
    → moments_of b.beside ≡ moments_of a.beside → Keeps a b
    → Stretch a b (λ _ _. Utters false bytes true)
utters_failed a b bytes talking heard (inl part) m keeps =
    stretch_one a b (λ _ _. Utters false bytes true) _ part.1 m (keeps.later, omega arith, tt) keeps
    (utters_part bytes _ _ part.0)
utters_failed a b bytes talking heard (inr untold) m keeps =
    let why = subst (λ (t : Bool). IsUntoldBy t a says_failed says_missed) talking untold.why in
    absurd (true≢false (sym why ∙ heard))
