-- Why turns broke off, with more entries and behind more turns.
use Rattle.std.proofs.Common.{◌≡◌, ◌≤◌, ⊎_elim, inl, inr, ℕ, List, [], ◌∷◌, ◌++◌, length, Bool, true, false, Option, None, refl, sym, ap, subst, ◌∙◌, append_assoc, append-nil, arith, length-append}
use Rattle.std.specs.Prelude.{◌||◌}
use Rattle.std.proofs.lemmas.Bool.{true≢false}
use Rattle.alt_base.proofs.Bools.{neither_first, or_grouped}
use Rattle.alt_machine.specs.State.{State}
use Rattle.alt_machine.specs.Wanted.{Lack}
use Rattle.alt_shell.specs.Log.{Log, said_in, says_failed}
use Rattle.alt_talks.specs.Faults.{IsCausedBy, IsFileFault, reach}
use Rattle.alt_talks.specs.Stretches.{SaidOf, Does, DoesSome, IsWorking, IsWriting, WritesAt, TurnsBreakOffFor}
use Rattle.alt_talks.specs.Talks.{Turn, asked, Request, Rules, has_refused}
use Rattle.alt_talks.specs.TalkTexts.{text, after, moments_taken, wanted_by_talk}
use Rattle.alt_talks.specs.declared.fault.RunFault.{RunFault}
use Rattle.alt_talks.proofs.FileFaults.{file_more, reach_then, reach_wider}
use Rattle.alt_talks.proofs.Stretching.{said_in-append}
use Rattle.alt_talks.proofs.TalkFolds.{after-append, asks-append, text-append, wanted-append}
use Rattle.alt_talks.proofs.TalkIdle.{exact_count}
use Rattle.alt_talks.proofs.TalkLogs.{broken-append}

-- with entries that say the same
pub breaks_same : (r : Rules) (fault : RunFault) (next : ℕ) (s : State) (m : Bool) (ts : List Turn) (es fs : Log)
    (ms : List ℕ) → said_in fs ≡ said_in es → says_failed fs ≡ says_failed es
    → TurnsBreakOffFor r fault next s m ts es ms → TurnsBreakOffFor r fault next s m ts fs ms
breaks_same r fault next s m ts es fs ms said failed (inl cause) = inl cause
breaks_same r fault next s m ts es fs ms said failed (inr work) = inr (
  work.0,
  ⊎_elim (λ (w : IsWriting r s ts ms). inl w) (λ (w : IsWorking r s m ts es ms). inr (record {
    before = w.before;
    request = w.request;
    rest = w.rest;
    parts = w.parts;
    count = w.count;
    enough = w.enough;
    heard = ap (λ (b : Bool). m || b) failed ∙ w.heard;
    said = said ∙ w.said;
  })) work.1,
)

-- with the next file behind that one
breaks_wider : (r : Rules) (fault : RunFault) (k l : ℕ) (s : State) (m : Bool) (ts : List Turn)
    (es : Log) (ms : List ℕ) → k ≤ l → TurnsBreakOffFor r fault k s m ts es ms → TurnsBreakOffFor r fault l s m ts es ms
breaks_wider r fault k l s m ts es ms le (inl cause) = inl cause
breaks_wider r fault k l s m ts es ms le (inr work) =
    inr (file_more fault (reach k ms) (reach l ms) (reach_wider k l ms le) work.0, work.1)

pub some_wider : (r : Rules) (fault : RunFault) (k l : ℕ) (s : State) (m : Bool) (ts : List Turn)
    (es : Log) (ms : List ℕ) → k ≤ l → DoesSome r fault k s m ts es ms → DoesSome r fault l s m ts es ms
some_wider r fault k l s m ts es ms le a = record {
  said = a.said;
  most = a.most;
  wants = breaks_wider r fault k l s m ts es ms le a.wants;
  silent = a.silent;
  hush = a.hush;
  still = a.still;
  begins = a.begins;
}

-- what was said where no say failed is all
all_said : (n : Bool) (some whole : List ℕ) → n ≡ false → SaidOf n some whole → some ≡ whole
all_said true some whole e said = absurd (true≢false e)
all_said false some whole e said = said

-- behind turns that were done, without a refusal
module _ (r : Rules) (fault : RunFault) (next : ℕ) (s t : State) (m n : Bool) (ts us : List Turn) (es fs : Log)
    (ms ns : List ℕ) (clear : has_refused ts ≡ false) (a : Does r s m ts t n es ms) where
  told : length ms ≡ moments_taken ts
  told = exact_count r s t m n ts es ms clear a

  same_wanted : wanted_by_talk r t us ns ≡ wanted_by_talk r s (ts ++ us) (ms ++ ns)
  same_wanted = ap (λ v. wanted_by_talk r v us ns) a.state ∙ sym (wanted-append r s ts us ms ns told a.enough)

  working : IsWorking r t n us fs ns → IsWorking r s m (ts ++ us) (es ++ fs) (ms ++ ns)
  working w =
      let last : List Turn = asked w.request ∷ [] in
      let none : n ≡ false = neither_first n (says_failed fs) w.heard in record {
        before = ts ++ w.before;
        request = w.request;
        rest = w.rest;
        parts = ap (λ l. ts ++ l) w.parts ∙ sym (append_assoc ts w.before (asked w.request ∷ w.rest));
        count = let same = ap moments_taken (append_assoc ts w.before last) in
            let x = length-append ms ns in let y = asks-append ts (w.before ++ last) in
            let z = told in let k = w.count in omega (arith, same, x, y, z, k);
        enough = sym same_wanted ∙ w.enough;
        heard = ap (λ (b : Bool). m || b) (broken-append es fs)
            ∙ or_grouped m (says_failed es) (says_failed fs)
            ∙ sym (ap (λ (b : Bool). b || says_failed fs) a.broke) ∙ w.heard;
        said = said_in-append es fs
            ∙ ap (λ (bs : List ℕ). bs ++ said_in fs)
            (all_said n (said_in es) (text r s ts ms) none a.said)
            ∙ ap (λ (bs : List ℕ). text r s ts ms ++ bs)
            (w.said ∙ ap (λ (v : State). text r v (w.before ++ last) ns) a.state)
            ∙ sym (text-append r s ts (w.before ++ last) ms ns told)
            ∙ ap (λ (ks : List Turn). text r s ks (ms ++ ns)) (sym (append_assoc ts w.before last));
      }

  writing : IsWriting r t us ns → IsWriting r s (ts ++ us) (ms ++ ns)
  writing w =
      let last : List Turn = asked w.request ∷ [] in record {
        before = ts ++ w.before;
        request = w.request;
        rest = w.rest;
        parts = ap (λ l. ts ++ l) w.parts ∙ sym (append_assoc ts w.before (asked w.request ∷ w.rest));
        count = let same = ap moments_taken (append_assoc ts w.before last) in
            let x = length-append ms ns in let y = asks-append ts (w.before ++ last) in
            let z = told in let k = w.count in omega (arith, same, x, y, z, k);
        first = ms ++ w.first;
        moment = w.moment;
        moments = ap (λ (ls : List ℕ). ms ++ ls) w.moments ∙ sym (append_assoc ms w.first (w.moment ∷ []));
        enough = wanted-append r s ts w.before ms w.first told a.enough
            ∙ ap (λ (v : State). wanted_by_talk r v w.before w.first) (sym a.state) ∙ w.enough;
        writes = subst (λ (v : State). WritesAt r v w.request w.moment)
            (ap (λ v. after r v w.before w.first) a.state ∙ sym (after-append r s ts w.before ms w.first told))
            w.writes;
      }

  pub breaks_behind : TurnsBreakOffFor r fault (reach next ms) t n us fs ns
      → TurnsBreakOffFor r fault next s m (ts ++ us) (es ++ fs) (ms ++ ns)
  breaks_behind (inl cause) =
      inl (subst (λ (l : Option Lack). IsCausedBy l fault) same_wanted cause)
  breaks_behind (inr work) = inr (
    file_more fault (reach (reach next ms) ns) (reach next (ms ++ ns)) (reach_then next ms ns) work.0,
    ⊎_elim (λ (w : IsWriting r t us ns). inl (writing w))
        (λ (w : IsWorking r t n us fs ns). inr (working w)) work.1,
  )

-- a request was carried out and its reply said, and then work broke off
pub broke_behind : (r : Rules) (fault : RunFault) (next : ℕ) (s t : State) (m n : Bool) (q : Request) (es : Log)
    (ms : List ℕ) → IsFileFault (reach next ms) fault → n ≡ false → Does r s m (asked q ∷ []) t n es ms
    → DoesSome r fault next s m (asked q ∷ []) es ms
broke_behind r fault next s t m n q es ms why none a =
    let one : length ms ≡ moments_taken (asked q ∷ []) = exact_count r s t m n (asked q ∷ []) es ms refl a in
    let said : said_in es ≡ text r s (asked q ∷ []) ms =
    all_said n (said_in es) (text r s (asked q ∷ []) ms) none a.said in record {
      said = ([], sym said ∙ sym (append-nil (said_in es)));
      most = omega (arith, one);
      wants = inr (
        why,
        inr (record {
          before = [];
          request = q;
          rest = [];
          parts = refl;
          count = one;
          enough = a.enough;
          heard = sym a.broke ∙ none;
          said = said;
        }),
      );
      silent = λ e. (a.silent e).0;
      hush = a.hush;
      still = a.still;
      begins = record {
        done = [];
        begun = asked q ∷ [];
        rest = [];
        parts = refl;
        few = omega arith;
        count = inl one;
        enough = wanted-nothing r s ms;
      };
    }
  where
    wanted-nothing : (r : Rules) (s : State) (ms : List ℕ) → wanted_by_talk r s [] ms ≡ None
    wanted-nothing r s ms = refl
