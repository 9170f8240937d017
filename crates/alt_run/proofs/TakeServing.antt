-- A take, of bytes or of the end, and the lines that are served behind it: with the take in front they serve the input.
use Rattle.std.proofs.Common.{◌≡◌, ◌≤◌, ◌<◌, ◌+◌, ◌*◌, cond, inl, ℕ, List, [], ◌∷◌, ◌++◌, map, length, Bool, true, false, Option, refl, sym, ap, subst, ◌∙◌, append_assoc, append-nil, arith}
use Rattle.std.specs.Prelude.{◌||◌, nat_le}
use Rattle.std.proofs.lemmas.Bool.{le-leb}
use Rattle.alt_base.proofs.Lists.{length-none}
use Rattle.alt_disk.specs.Disk.{DiskState, IsTrusted, IsImage}
use Rattle.alt_lines.specs.Lines.{lines_of}
use Rattle.alt_lines.specs.Unread.{Unread}
use Rattle.alt_machine.specs.State.{State}
use Rattle.alt_shell.specs.Calls.{Adds, Keeps, ShellCall}
use Rattle.alt_shell.specs.Log.{Log, TellsMoments, moments_of, until, entry, told_count, event_of, took, is_end, taken, said_in, ended}
use Rattle.alt_tables.specs.FilesLeft.{most_files}
use Rattle.alt_tables.specs.Stands.{Stands}
use Rattle.alt_tables.specs.declared.tables.Tables.{Tables}
use Rattle.alt_talks.specs.Runs.{OfStretch, Stretch, Leads}
use Rattle.alt_run.specs.Runs.{Rests, Breaks}
use Rattle.alt_run.specs.private.Rungs.{ServesLines, ServesAtHand, BreaksAtHand, HandsOut, ServesInput, EndsInput, GoesOrEnds, ServesSomeInput, LeftBy, asked_now, asked_later, LeftAtHand}
use Rattle.alt_talks.specs.Stops.{Image, IsLeft, AtEach, AreWithin}
use Rattle.alt_tables.specs.Images.{StandsFor}
use Rattle.alt_tables.proofs.Left.{stands_left}
use Rattle.alt_talks.proofs.Stopping.{until-before, said-by, taken-until, ended-until, within-wider, trusts-kept}
use Rattle.alt_talks.proofs.StretchLeaving.{spans_two, keeps-spans}
use Rattle.alt_run.proofs.TurnLaws.{left-nothing-said}
use Rattle.alt_talks.specs.declared.fault.RunFault.{RunFault}
use Rattle.alt_talks.specs.declared.fault.RunFault.TheVariants.{NoMemory}
use Rattle.alt_run.specs.Turns.{AskedLine, turns_of_lines, tasks, asked_of}
use Rattle.alt_shell.proofs.Telling.{Grows-then, Tells-nil}
use Rattle.alt_run.proofs.Serving.{breaks_same}

some_is_no_end : (bytes : List ℕ) → 0 < length bytes → is_end (event_of (0 ∷ 0 ∷ bytes)) ≡ false
some_is_no_end [] h = absurd (omega arith)
some_is_no_end (b ∷ bytes) h = refl

pub took_is_no_end : (told : ℕ) (bytes : List ℕ) → 0 < length bytes
    → is_end (event_of (0 ∷ told ∷ bytes)) ≡ false
took_is_no_end told [] h = absurd (omega arith)
took_is_no_end told (b ∷ bytes) h = refl

-- calls behind a take, which gave these bytes
module _ (a b c : DiskState) (call : ShellCall a b true) (bytes : List ℕ) (g : Adds a b (took bytes))
    (m : moments_of b.beside ≡ moments_of a.beside) where
  abbrev first : ℕ × List ℕ
  first = entry b.moment (told_count a.beside) (took bytes)

  -- the calls with the take in front
  pub with_take : {P Q : OfStretch}
      → ((es : Log) (ms : List ℕ) → AreWithin b.moment c.moment es → P b c es ms
      → Q a c (first ∷ es) ms)
      → Stretch b c P → Stretch a c Q
  with_take law q = record {
    entries = first ∷ q.entries;
    told = q.told;
    grows = Grows-then a.beside b.beside c.beside (first ∷ []) q.entries g q.grows;
    tells = subst (λ (k : Option (List ℕ)). TellsMoments k (moments_of c.beside) q.told) m q.tells;
    within = (
      call.keeps.later,
      q.later,
      within-wider a.moment b.moment c.moment c.moment q.entries q.within call.keeps.later
          (omega arith),
    );
    later = let k = call.keeps.later in omega (arith, k, q.later);
    trusts = λ trusted. q.trusts (trusts-kept a b call.keeps trusted);
    holds = law q.entries q.told q.within q.holds;
  }

  -- nothing is said by the take
  said-take : (t : ℕ) (es : Log) → said_in (until t (first ∷ es)) ≡ said_in (until t es)
  said-take t es = by_test (nat_le b.moment t)
    where
      by_test : (x : Bool) → said_in (cond x (first ∷ until t es) (until t es))
          ≡ said_in (until t es)
      by_test true = refl
      by_test false = refl

  -- what a stop leaves while lines are served that were whole behind the take
  pub leaves_take : (s : State) (u : Unread) (ls : List AskedLine) (es : Log) (ms : List ℕ)
      → AreWithin b.moment c.moment es → Rests es
      → ((IsTrusted a) → (image : Image) → IsImage a a.moment image → StandsFor image s)
      → asked_later u (taken (first ∷ [])) (ended (first ∷ [])) ≡ ls
      → AtEach b c (LeftAtHand s ls es ms) → AtEach a c (LeftBy s u (first ∷ es) ms)
  leaves_take s u ls es ms within rests stands lines leaves trusted =
      spans_two a b c (λ _ image. StandsFor image s) (LeftAtHand s ls es ms)
      (LeftBy s u (first ∷ es) ms)
      (keeps-spans a b (λ _ image. StandsFor image s) call.keeps
      (λ t image low is_image. stands trusted image is_image))
      (leaves (trusts-kept a b call.keeps trusted))
      (λ t image before x. left-nothing-said s
      (asked_later u (taken (until t (first ∷ es))) (ended (until t (first ∷ es)))) ms
      (said_in (until t (first ∷ es))) image
      (said-take t es ∙ ap said_in (until-before b.moment c.moment t es within before)) x)
      (λ t image from x.
      let front : until t (first ∷ es) ≡ first ∷ until t es =
      ap (λ (y : Bool). cond y (first ∷ until t es) (until t es)) (le-leb b.moment t from) in
      let silent : taken (until t es) ≡ [] = taken-until t es rests.silent in
      let going : ended (until t es) ≡ false = ended-until t es rests.goes_on in
      subst (λ (bs : List ℕ). IsLeft s
      (turns_of_lines s (asked_later u (taken (until t (first ∷ es))) (ended (until t (first ∷ es)))) ms) bs
      image)
      (sym (said-take t es))
      (subst (λ (ks : List AskedLine). IsLeft s (turns_of_lines s ks ms) (said_in (until t es)) image)
      (sym lines
      ∙ sym (ap (λ (bs : List ℕ). asked_later u bs (ended (first ∷ [])))
      (ap taken front ∙ ap (λ (bs : List ℕ). bytes ++ bs) silent))
      ∙ sym (ap (asked_later u (taken (until t (first ∷ es))))
      (ap ended front ∙ ap (λ (y : Bool). is_end (event_of first.1) || y) going)))
      x))

-- calls that leave all files, where nothing was said, leave what stood
pub leaves_silent : (a b : DiskState) (tables : Tables) (s : State) (u : Unread) (es : Log)
    → Stands a tables s → Keeps a b → said_in es ≡ [] → AtEach a b (LeftBy s u es [])
leaves_silent a b tables s u es stands keeps silent trusted =
    keeps-spans a b (LeftBy s u es []) keeps
    (λ t image low is_image. left-nothing-said s
    (asked_later u (taken (until t es)) (ended (until t es))) []
    (said_in (until t es)) image
    (length-none (said_in (until t es))
    (let h = said-by t es in let k = ap length silent in omega (arith, h, k)))
    (stands_left a tables s stands image is_image))

-- what a reader asks once it was given a piece
pub given_now : (u : Unread) (piece : List ℕ) → u.ended ≡ false
    → asked_now (record u { bytes = u.bytes ++ piece }) ≡ asked_later u piece false
given_now u piece unended = ap (λ (e : Bool). map asked_of (lines_of u.most e (u.bytes ++ piece)))
    unended

pub given_later : (u : Unread) (piece more : List ℕ) (e : Bool)
    → asked_later (record u { bytes = u.bytes ++ piece }) more e ≡ asked_later u (piece ++ more) e
given_later u piece more e = ap (λ (bs : List ℕ). map asked_of (lines_of u.most e bs))
    (append_assoc u.bytes piece more)

-- what it asks once the input has ended
pub ended_now : (u : Unread) → asked_now (record u { ended = true }) ≡ asked_later u [] true
ended_now u = ap (λ (bs : List ℕ). map asked_of (lines_of u.most true bs))
    (sym (append-nil u.bytes))

module _ (a b c : DiskState) (call : ShellCall a b true) (t1 : Tables) (s : State)
    (stands : Stands a t1 s) (u : Unread) (unended : u.ended ≡ false) where
  abbrev here : IsTrusted a → (image : Image) → IsImage a a.moment image → StandsFor image s
  here = λ trusted image is_image. stands_left a t1 s stands image is_image

  -- some bytes were taken
  module _ (piece : List ℕ) (some : 0 < length piece) (g : Adds a b (took piece))
      (m : moments_of b.beside ≡ moments_of a.beside) where
    abbrev one : ℕ × List ℕ
    one = entry b.moment (told_count a.beside) (took piece)

    abbrev given : Unread
    given = record u { bytes = u.bytes ++ piece }

    all : (es : Log) → taken es ≡ [] → taken (one ∷ es) ≡ piece
    all es silent = ap (λ (bs : List ℕ). piece ++ bs) silent ∙ append-nil piece

    going : (es : Log) → ended es ≡ false → ended (one ∷ es) ≡ false
    going es e = ap (λ (x : Bool). x || ended es) (took_is_no_end (told_count a.beside) piece some)
        ∙ e

    lines_now_given : asked_later u (taken (one ∷ [])) (ended (one ∷ [])) ≡ asked_now given
    lines_now_given = ap (λ (bs : List ℕ). asked_later u bs (ended (one ∷ []))) (all [] refl)
        ∙ ap (asked_later u piece) (going [] refl)
        ∙ sym (given_now u piece unended)

    goes_given : (t2 : Tables) (v : Unread) (next now : ℕ)
        → now ≤ next + tasks (asked_now given) * most_files
        → Leads b c t2 (ServesAtHand s (asked_now given)) → HandsOut given v
        → Leads a c t2 (λ t. GoesOrEnds true next s u now t v)
    goes_given t2 v next now files q outs = record {
      to = q.to;
      stands = q.stands;
      calls = with_take a b c call piece g m
          {P = ServesAtHand s (asked_now given) q.to} {Q = ServesInput next s u now q.to v}
          (λ es ms within x. record {
            done = asked_now given;
            serves = record {
              said = x.serves.said;
              state = x.serves.state;
              count =
                  x.serves.count;
              enough = x.serves.enough;
            };
            lines = λ more e.
                ap (λ (bs : List ℕ). asked_later u (bs ++ more) e) (all es x.rests.silent)
                ∙ sym (given_later u piece more e) ∙ outs.later unended more e;
            goes_on = going es x.rests.goes_on;
            inside = x.rests.inside;
            leaves = leaves_take a b c call piece g m s u (asked_now given) es ms within x.rests here
                lines_now_given x.leaves;
            files = files;
          })
          q.calls;
    }

    -- and all lines that were whole then were served
    pub pull_goes : (t2 : Tables) (w v : Unread) (next now : ℕ) → w ≡ given
        → now ≤ next + tasks (asked_now w) * most_files
        → Leads b c t2 (ServesAtHand s (asked_now w)) → HandsOut w v
        → Leads a c t2 (λ t. GoesOrEnds true next s u now t v)
    pull_goes t2 w v next now same files q outs =
        goes_given t2 v next now
        (subst (λ (x : Unread). now ≤ next + tasks (asked_now x) * most_files) same files)
        (subst (λ (x : Unread). Leads b c t2 (ServesAtHand s (asked_now x))) same
        q)
        (subst (λ (x : Unread). HandsOut x v) same outs)

    -- that broke off
    pub pull_breaks : (fault : RunFault) (next : ℕ) → Stretch b c (BreaksAtHand fault next s (asked_now given))
        → Stretch a c (ServesSomeInput fault next s u)
    pull_breaks fault next q = with_take a b c call piece g m
        {P = BreaksAtHand fault next s (asked_now given)} {Q = ServesSomeInput fault next s u}
        (λ es ms within x. record {
          breaks = subst (λ (ls : List AskedLine). Breaks fault next s ls (one ∷ es) ms)
              (given_now u piece unended
              ∙ ap (λ (bs : List ℕ). asked_later u bs false) (sym (all es x.rests.silent))
              ∙ ap (asked_later u (taken (one ∷ es))) (sym (going es x.rests.goes_on)))
              (record {
                done = x.breaks.done;
                begun = x.breaks.begun;
                rest = x.breaks.rest;
                lines = x.breaks.lines;
                few = x.breaks.few;
                all = x.breaks.all;
                said = x.breaks.said;
                count = x.breaks.count;
                enough = x.breaks.enough;
                wants = breaks_same fault next s x.breaks.done x.breaks.begun es (one ∷ es) ms refl x.breaks.wants;
              });
          inside = x.rests.inside;
          leaves = leaves_take a b c call piece g m s u (asked_now given) es ms within x.rests here
              lines_now_given x.leaves;
        })
        q

    -- there was no memory for them
    pub pull_memory : (next : ℕ) → Stretch a b (ServesSomeInput NoMemory next s u)
    pull_memory next = record {
      entries = one ∷ [];
      told = [];
      grows = g;
      tells = Tells-nil (moments_of a.beside) (moments_of b.beside) m;
      within = (call.keeps.later, omega arith, tt);
      later = call.keeps.later;
      trusts = trusts-kept a b call.keeps;
      holds = record {
        breaks = breaks_took next (asked_later u (taken (one ∷ [])) (ended (one ∷ [])));
        inside = refl;
        leaves = leaves_silent a b t1 s u (one ∷ []) stands call.keeps refl;
      };
    }
      where
        breaks_took : (next : ℕ) (ls : List AskedLine) → Breaks NoMemory next s ls (one ∷ []) []
        breaks_took next ls = record {
          done = [];
          begun = [];
          rest = ls;
          lines = refl;
          few =
              omega arith;
          all = ([], refl);
          said = ([], refl);
          count = refl;
          enough = refl;
          wants = inl tt;
        }

  -- the end was taken
  module _ (piece : List ℕ) (none : piece ≡ []) (g : Adds a b (took piece))
      (m : moments_of b.beside ≡ moments_of a.beside) where
    abbrev last : ℕ × List ℕ
    last = entry b.moment (told_count a.beside) (took [])

    at_end : Adds a b (took [])
    at_end = subst (λ (bs : List ℕ). Adds a b (took bs)) none g

    lines_at_end : asked_later u (taken (last ∷ [])) (ended (last ∷ []))
        ≡ asked_now (record u { ended = true })
    lines_at_end = sym (ended_now u)

    -- and the last lines were served
    pub pull_ends : (t2 : Tables) (v : Unread)
        → Leads b c t2 (ServesAtHand s (asked_now (record u { ended = true })))
        → (next now : ℕ) → Leads a c t2 (λ t. GoesOrEnds false next s u now t v)
    pull_ends t2 v q next now = record {
      to = q.to;
      stands = q.stands;
      calls = with_take a b c call [] at_end m
          {P = ServesAtHand s (asked_now (record u { ended = true })) q.to} {Q = EndsInput s u q.to}
          (λ es ms within x. record {
            serves = subst (λ (ls : List AskedLine). ServesLines s ls q.to (last ∷ es) ms)
                (ended_now u ∙ ap (λ (bs : List ℕ). asked_later u bs true) (sym x.rests.silent))
                (record {
                  said = x.serves.said;
                  state = x.serves.state;
                  count =
                      x.serves.count;
                  enough = x.serves.enough;
                });
            at_end = refl;
            inside = x.rests.inside;
            leaves = leaves_take a b c call [] at_end m s u (asked_now (record u { ended = true })) es
                ms within x.rests here lines_at_end x.leaves;
          })
          q.calls;
    }

    -- that broke off
    pub pull_end_breaks : (fault : RunFault) (next : ℕ)
        → Stretch b c (BreaksAtHand fault next s (asked_now (record u { ended = true })))
        → Stretch a c (ServesSomeInput fault next s u)
    pull_end_breaks fault next q = with_take a b c call [] at_end m
        {P = BreaksAtHand fault next s (asked_now (record u { ended = true }))} {Q =
        ServesSomeInput fault next s u}
        (λ es ms within x. record {
          breaks = subst (λ (ls : List AskedLine). Breaks fault next s ls (last ∷ es) ms)
              (ended_now u ∙ ap (λ (bs : List ℕ). asked_later u bs true) (sym x.rests.silent))
              (record {
                done = x.breaks.done;
                begun = x.breaks.begun;
                rest = x.breaks.rest;
                lines = x.breaks.lines;
                few = x.breaks.few;
                all = x.breaks.all;
                said = x.breaks.said;
                count = x.breaks.count;
                enough = x.breaks.enough;
                wants = breaks_same fault next s x.breaks.done x.breaks.begun es (last ∷ es) ms refl x.breaks.wants;
              });
          inside = x.rests.inside;
          leaves = leaves_take a b c call [] at_end m s u (asked_now (record u { ended = true })) es ms
              within x.rests here lines_at_end x.leaves;
        })
        q
