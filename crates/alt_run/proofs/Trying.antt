-- A trial: its loop over requests, and then its four lines.
use Rattle.std.proofs.Common.{◌≡◌, ◌≤◌, ◌<◌, ◌+◌, ◌*◌, ◌-◌, ◌⊎◌, ℕ, suc, inl, inr, List, [], ◌∷◌, ◌++◌, map, length, take, drop, true, false, refl, sym, ap, subst, ◌∙◌, append_assoc, append-nil, arith, length-append, take-append-drop}
use Rattle.std.proofs.lemmas.List.{length-map, map-append}
use Rattle.alt_base.specs.Prefix.{IsPrefix}
use Rattle.alt_disk.specs.Disk.{DiskState, Goes, IsImage, IsTrusted}
use Rattle.alt_disk.proofs.Calls.{goes_refl, goes_on}
use Rattle.alt_disk.proofs.Runs.{trusted_on}
use Rattle.alt_lines.specs.Trial.{Generator, next_line, next_lines, after_line}
use Rattle.alt_machine.specs.State.{State}
use Rattle.alt_shell.specs.Calls.{Adds, Keeps, ShellCall, Untold}
use Rattle.alt_shell.specs.Log.{Log, Grows, moments_of, until, entry, told_count, said, say_failed, says_failed, says_missed, said_in}
use Rattle.alt_shell.proofs.Telling.{Grows-then, Grows-nil, Tells-nil}
use Rattle.alt_tables.specs.FilesLeft.{most_files}
use Rattle.alt_tables.specs.Images.{StandsFor}
use Rattle.alt_tables.specs.Stands.{Stands, bounds_of}
use Rattle.alt_tables.specs.declared.tables.Tables.{Tables}
use Rattle.alt_tables.proofs.Left.{stands_left}
use Rattle.alt_talks.specs.Runs.{Stretch}
use Rattle.alt_run.specs.Runs.{Rests}
use Rattle.alt_talks.specs.Stops.{Image, StandsBehind, AtEach, AreWithin}
use Rattle.alt_run.specs.Trials.{trial_asks, trial_turns, all_turns, trial_text, IsTried, LeftOfTrial, Tries, TriesSome}
use Rattle.alt_run.specs.private.Tallies.{IsTally, Counted, CountedSome}
use Rattle.alt_run.specs.Turns.{AskedLine, asked_by}
use Rattle.alt_talks.specs.Turns.{Turn, after}
use Rattle.alt_talks.specs.declared.fault.RunFault.{RunFault}
use Rattle.alt_talks.specs.declared.fault.RunFault.TheVariants.{Failed, NoMemory}
use Rattle.alt_run.specs.declared.tally.Tally.{Tally}
use Rattle.alt_run.proofs.TrialRequests.{stands-any, counted_then, counted_break, counted_some_more}
use Rattle.alt_talks.proofs.Stopping.{one-by, until-before, stands-none, stands-all, trusts-kept, within-wider, stands_kept}
use Rattle.alt_talks.proofs.StretchLeaving.{leaves-weaker, leaves-here, spans_two, keeps-spans}

-- ---- the loop

-- The first of these lines were carried out and counted, from each state for which the tables stood.
pub record Trying (a : DiskState) (t0 : Tables) (b : DiskState) (t1 : Tables) (behind : Tally)
    (all rest : List (List ℕ)) : Type 0 where
  pub none : Tally
  pub empty : IsTally none []
  pub done : List (List ℕ)
  pub lines : all ≡ done ++ rest
  pub goes : Goes a b
  pub counted : (s : State) → Stands a t0 s → Counted s (map asked_by done) none behind a b t1
  pub files : (s : State) → Stands a t0 s
      → (bounds_of t1).file ≤ (bounds_of t0).file + length done * most_files

-- at first none
pub trying_none : (a : DiskState) (t0 : Tables) (tally : Tally) (all : List (List ℕ))
    → IsTally tally [] → Trying a t0 a t0 tally all all
trying_none a t0 tally all empty = record {
  none = tally;
  empty = empty;
  done = [];
  lines = refl;
  goes = goes_refl a;
  counted = λ s stands. record {
    stands = stands;
    enough = refl;
    counts = λ ts h. subst (λ (us : List Turn). IsTally tally us) (sym (append-nil ts)) h;
    leaves = leaves-here a (λ _ image. StandsBehind image s [] [])
        (λ trusted t image is_image.
        stands-none image s [] (stands_left a t0 s stands image is_image));
  };
  files = λ s stands. omega arith;
}

-- the lines that are left, where there is one
pub next_left : (count i : ℕ) (g : Generator) → i < count
    → next_lines (count - i) g ≡ next_line g ∷ next_lines (count - (i + 1)) (after_line g)
next_left count i g below =
    ap (λ n. next_lines n g) (let e : count - i ≡ suc (count - (i + 1)) = omega (arith, below) in e)

module _ (a : DiskState) (t0 : Tables) (b : DiskState) (t1 : Tables) (y : Tally)
    (all rest behind : List (List ℕ)) (line : List ℕ) (p : Trying a t0 b t1 y all rest)
    (first : rest ≡ line ∷ behind) where
  -- one line more
  pub trying_line : (c : DiskState) (t2 : Tables) (z : Tally) → Goes b c
      → ((r : State) → Stands b t1 r → Counted r (asked_by line ∷ []) y z b c t2)
      → ((r : State) → Stands b t1 r → (bounds_of t2).file ≤ (bounds_of t1).file + most_files)
      → Trying a t0 c t2 z all behind
  trying_line c t2 z goes go more = record {
    none = p.none;
    empty = p.empty;
    done = p.done ++ line ∷ [];
    lines = p.lines ∙ ap (λ ls. p.done ++ ls) first ∙ sym (append_assoc p.done (line ∷ []) behind);
    goes = goes_on a b c p.goes goes;
    counted = λ s stands.
        let front = p.counted s stands in
        subst (λ (ls : List AskedLine). Counted s ls p.none z a c t2)
        (sym (map-append asked_by p.done (line ∷ [])))
        (counted_then a b c t1 s (map asked_by p.done) (asked_by line ∷ []) p.none y p.goes front t2 z
        (go (after s (trial_turns s (map asked_by p.done))) front.stands));
    files = λ s stands.
        let low = p.files s stands in
        let one = more (after s (trial_turns s (map asked_by p.done))) (p.counted s stands).stands in
        let l = length-append p.done (line ∷ []) in omega (arith, low, one, l);
  }

  -- it broke off
  pub trying_break : (c : DiskState) (fault : RunFault)
      → ((r : State) → Stands b t1 r
      → CountedSome fault (bounds_of t1).file r (asked_by line ∷ []) b c)
      → (s : State) → Stands a t0 s
      → CountedSome fault (bounds_of t0).file s (map asked_by all) a c
  trying_break c fault go s stands =
      let front = p.counted s stands in
      let r : State = after s (trial_turns s (map asked_by p.done)) in
      subst (λ (ls : List AskedLine). CountedSome fault (bounds_of t0).file s ls a c)
      (sym (ap (map asked_by) (p.lines ∙ ap (λ ls. p.done ++ ls) first)
      ∙ map-append asked_by p.done (line ∷ behind)))
      (counted_break a b c t1 s (map asked_by p.done) (asked_by line ∷ map asked_by behind) p.none y
      p.goes front fault (bounds_of t0).file (bounds_of t1).file
      (let low = p.files s stands in let l = length-map p.done asked_by in omega (arith, low, l))
      (counted_some_more b c fault (bounds_of t1).file r (asked_by line ∷ []) (map asked_by behind)
      (go r front.stands)))

-- no line is left
pub trying_all : (a : DiskState) (t0 : Tables) (b : DiskState) (t1 : Tables) (y : Tally)
    (all rest : List (List ℕ)) (p : Trying a t0 b t1 y all rest) → rest ≡ []
    → (s : State) → Stands a t0 s
    → (none : Tally) × IsTally none [] × Counted s (map asked_by all) none y a b t1
trying_all a t0 b t1 y all rest p end s stands = (
  p.none,
  p.empty,
  subst (λ (ls : List AskedLine). Counted s ls p.none y a b t1)
      (ap (map asked_by) (sym (p.lines ∙ ap (λ ls. p.done ++ ls) end ∙ append-nil p.done)))
      (p.counted s stands),
)

-- ---- the four lines

-- nothing was said yet
tried_unsaid : (s : State) (seed count : ℕ) (bytes : List ℕ) (image : Image) → bytes ≡ []
    → StandsBehind image s (all_turns s seed count) [] → IsTried s seed count bytes image
tried_unsaid s seed count bytes image none p = record {
  behind = p;
  all = λ some. absurd (let e = ap length none in omega (arith, e, some));
  front = subst (λ (bs : List ℕ). IsPrefix bs (trial_text s seed count)) (sym none)
      (trial_text s seed count, refl);
}

-- all requests were carried out
tried_whole : (s : State) (seed count : ℕ) (bytes : List ℕ) (image : Image)
    → IsPrefix bytes (trial_text s seed count) → StandsFor image (after s (all_turns s seed count))
    → IsTried s seed count bytes image
tried_whole s seed count bytes image front p = record {
  behind = stands-any image s (all_turns s seed count) (all_turns s seed count)
      (stands-all image s (all_turns s seed count) p);
  all = λ some. p;
  front = front;
}

module _ (old mid new : DiskState) (s : State) (seed count : ℕ) (goes : Goes old mid)
    (leaves : AtEach old mid (λ _ image. StandsBehind image s (all_turns s seed count) [])) where
  -- the requests alone
  leaves_untold : AtEach old mid (LeftOfTrial s seed count [])
  leaves_untold = leaves-weaker old mid (λ _ image. StandsBehind image s (all_turns s seed count) [])
      (LeftOfTrial s seed count []) (λ u image h. tried_unsaid s seed count [] image refl h) leaves

  -- and then some of the text was said
  leaves_told : (es : Log) → AreWithin mid.moment new.moment es
      → ((u : ℕ) → IsPrefix (said_in (until u es)) (trial_text s seed count))
      → (IsTrusted mid → (image : Image) → IsImage mid mid.moment image
      → StandsFor image (after s (all_turns s seed count)))
      → Keeps mid new → AtEach old new (LeftOfTrial s seed count es)
  leaves_told es within front stands keeps trusted =
      spans_two old mid new (λ _ image. StandsBehind image s (all_turns s seed count) [])
      (λ _ image. StandsFor image (after s (all_turns s seed count)))
      (LeftOfTrial s seed count es)
      (leaves trusted)
      (keeps-spans mid new (λ _ image. StandsFor image (after s (all_turns s seed count))) keeps
      (λ u image low is_image. stands (trusted_on old mid goes trusted) image is_image))
      (λ u image before p. tried_unsaid s seed count (said_in (until u es)) image
      (ap said_in (until-before mid.moment new.moment u es within before)) p)
      (λ u image from p. tried_whole s seed count (said_in (until u es)) image (front u) p)

-- The requests of a trial broke off: nothing was said.
pub trial_unsaid : (old mid : DiskState) (s : State) (seed count : ℕ) (fault : RunFault) (next : ℕ)
    → Goes old mid → CountedSome fault next s (trial_asks seed count) old mid
    → Stretch old mid (TriesSome fault next s seed count)
trial_unsaid old mid s seed count fault next goes p = record {
  entries = [];
  told = [];
  grows = subst (λ (log : Log). Grows old.beside log []) (sym goes.beside) (Grows-nil old.beside);
  tells = Tells-nil (moments_of old.beside) (moments_of mid.beside) (ap moments_of goes.beside);
  within = tt;
  later = goes.later;
  trusts = trusted_on old mid goes;
  holds = record {
    said = ((trial_text s seed count), refl);
    rests = record { silent = refl; goes_on = refl; inside = refl };
    unasked = refl;
    begun = p.begun;
    rest = p.rest;
    lines = p.lines;
    wants = p.wants;
    leaves = leaves_untold old mid mid s seed count goes p.leaves;
  };
}

module _ (old mid new : DiskState) (tables : Tables) (s : State) (seed count : ℕ) (none tally : Tally)
    (goes : Goes old mid) (p : Counted s (trial_asks seed count) none tally old mid tables) where
  -- memory was refused for the lines
  pub trial_memory : (next : ℕ) → Stretch old mid (TriesSome NoMemory next s seed count)
  trial_memory next = trial_unsaid old mid s seed count NoMemory next goes
      (record {
        begun = [];
        rest = trial_asks seed count;
        lines = refl;
        wants = inl tt;
        leaves = p.leaves;
      })

  left_by_then : (es : Log) → AreWithin mid.moment new.moment es
      → ((u : ℕ) → IsPrefix (said_in (until u es)) (trial_text s seed count)) → Keeps mid new
      → AtEach old new (LeftOfTrial s seed count es)
  left_by_then es within front keeps =
      leaves_told old mid new s seed count goes p.leaves es within front
      (λ trusted image is_image.
      stands_left mid tables (after s (all_turns s seed count)) p.stands image is_image)
      keeps

  -- they were said
  pub trial_said : (bytes : List ℕ) → bytes ≡ (trial_text s seed count) → ShellCall mid new true
      → Adds mid new (said bytes) → moments_of new.beside ≡ moments_of mid.beside
      → Stretch old new (Tries s seed count)
  trial_said bytes e call added m =
      let one : ℕ × List ℕ = entry new.moment (told_count mid.beside) (said bytes) in
      let text : said_in (one ∷ []) ≡ (trial_text s seed count) = append-nil bytes ∙ e in
      let within : AreWithin mid.moment new.moment (one ∷ []) =
      (call.keeps.later, omega arith, tt) in
      record {
        entries = one ∷ [];
        told = [];
        grows = Grows-then old.beside mid.beside new.beside [] (one ∷ [])
            (subst (λ (log : Log). Grows old.beside log []) (sym goes.beside) (Grows-nil old.beside))
            added;
        tells = Tells-nil (moments_of old.beside) (moments_of new.beside)
            (m ∙ ap moments_of goes.beside);
        within = within-wider old.moment mid.moment new.moment new.moment (one ∷ []) within goes.later
            (omega arith);
        later = let k = call.keeps.later in omega (arith, goes.later, k);
        trusts = λ trusted. trusts-kept mid new call.keeps (trusted_on old mid goes trusted);
        holds = record {
          said = text;
          rests = record { silent = refl; goes_on = refl; inside = refl };
          unasked = refl;
          enough = p.enough;
          leaves = left_by_then (one ∷ []) within
              (one-by one (trial_text s seed count) (subst (λ (bs : List ℕ). IsPrefix bs (trial_text s seed count)) (sym text)
              ([], sym (append-nil (trial_text s seed count))))) call.keeps;
          last = λ trusted image is_image. stands_left new tables (after s (all_turns s seed count))
              (stands_kept mid new call.keeps tables (after s (all_turns s seed count)) p.stands)
              image is_image;
        };
      }

  -- some of them were said
  cut : (es : Log) → Rests es → ((u : ℕ) → IsPrefix (said_in (until u es)) (trial_text s seed count))
      → IsPrefix (said_in es) (trial_text s seed count) → Grows mid.beside new.beside es
      → AreWithin mid.moment new.moment es → ShellCall mid new false
      → moments_of new.beside ≡ moments_of mid.beside
      → (next : ℕ) → Stretch old new (TriesSome Failed next s seed count)
  cut es rests by some g within call m next = record {
    entries = es;
    told = [];
    grows = Grows-then old.beside mid.beside new.beside [] es
        (subst (λ (log : Log). Grows old.beside log []) (sym goes.beside) (Grows-nil old.beside)) g;
    tells = Tells-nil (moments_of old.beside) (moments_of new.beside) (m ∙ ap moments_of goes.beside);
    within = within-wider old.moment mid.moment new.moment new.moment es within goes.later
        (omega arith);
    later = let k = call.keeps.later in omega (arith, goes.later, k);
    trusts = λ trusted. trusts-kept mid new call.keeps (trusted_on old mid goes trusted);
    holds = record {
      said = some;
      rests = rests;
      unasked = refl;
      begun = [];
      rest = trial_asks seed count;
      lines = refl;
      wants = inl tt;
      leaves = left_by_then es within by call.keeps;
    };
  }

  pub trial_cut : (bytes : List ℕ) → bytes ≡ (trial_text s seed count) → ShellCall mid new false
      → moments_of new.beside ≡ moments_of mid.beside
      → (((n : ℕ) × Adds mid new (say_failed (take n bytes)))
      ⊎ Untold mid new says_failed says_missed)
      → (next : ℕ) → Stretch old new (TriesSome Failed next s seed count)
  trial_cut bytes e call m (inl part) next =
      let one : ℕ × List ℕ =
      entry new.moment (told_count mid.beside) (say_failed (take part.0 bytes)) in
      let some : IsPrefix (said_in (one ∷ [])) (trial_text s seed count) = (
        drop part.0 bytes,
        sym e ∙ sym (take-append-drop part.0 bytes)
            ∙ ap (λ (bs : List ℕ). bs ++ drop part.0 bytes) (sym (append-nil (take part.0 bytes))),
      ) in
      cut (one ∷ []) (record { silent = refl; goes_on = refl; inside = refl }) (one-by one (trial_text s seed count) some) some
      part.1 (call.keeps.later, omega arith, tt) call m next
  trial_cut bytes e call m (inr untold) next =
      cut [] (record { silent = refl; goes_on = refl; inside = refl }) (λ u. ((trial_text s seed count), refl)) ((trial_text s seed count), refl)
      untold.log tt call m next
