-- Lines and more lines: what the last of them promises of the disk.
use Rattle.std.proofs.Common.{Option, ◌≡◌, ◌<◌, ℕ, List, [], ◌∷◌, ◌++◌, length, Bool, true, false, IsTrue, ◌&&◌, refl, sym, ap, subst, ◌∙◌, append_assoc, append-nil, Some, None}
use Rattle.std.proofs.Math.Path.{fun_ext}
use Rattle.std.specs.Prelude.{◌||◌, Result, Ok, Err, OnOk}
use Rattle.alt_disk.specs.Disk.{DiskState, Goes, IsTrusted}
use Rattle.alt_tables.specs.HandWorking.{HasEntries}
use Rattle.alt_lines.specs.Unread.{Unread}
use Rattle.alt_shell.specs.Calls.{Adds, Keeps}
use Rattle.alt_shell.specs.Log.{Log, Grows, entry, told_count, took, said, taken, ended}
use Rattle.alt_shell.proofs.Telling.{Grows-then, Grows-nil}
use Rattle.alt_tables.specs.Images.{StandsFor}
use Rattle.alt_tables.specs.Merged.{IsMergedFor}
use Rattle.alt_talks.specs.Works.{HasFewEntries, HasMergedFiles, HasNoEntries}
use Rattle.alt_run.specs.declared.words.Job.{Job}
use Rattle.alt_run.specs.declared.words.Job.TheVariants.{Replay, Serve, Trial}
use Rattle.alt_run.specs.Behind.{AfterJob, ComesWithin, SaysSummary, LastLine, last_of, AreReadable, Behind}
use Rattle.alt_run.specs.private.Brought.{Brings, BringsAtHand, BringsSome, BringsRest}
use Rattle.alt_run.specs.Endings.{IsReadable}
use Rattle.alt_run.specs.private.Rungs.{HandsOut, asked_now, asked_later}
use Rattle.alt_run.specs.Turns.{AskedLine, request, control, unread, asks}
use Rattle.alt_run.specs.declared.lines.Control.TheVariants.{Flush, Merge, Step, Reopen}
use Rattle.alt_talks.specs.declared.fault.RunFault.{RunFault}
use Rattle.alt_run.proofs.Pulling.{fresh}
use Rattle.alt_run.proofs.TakeServing.{took_is_no_end, given_later, ended_now}
use Rattle.alt_talks.proofs.Arriving.{all_behind, all_before, most_behind, most_before, most_silent}
use Rattle.alt_talks.proofs.Stretching.{taken-append, ended-append}
use Rattle.alt_run.proofs.Serving.{rests_then}

-- ---- which line is the last

-- the last of lines and more lines
pub last-append : (was : Option AskedLine) (ls ks : List AskedLine)
    → last_of was (ls ++ ks) ≡ last_of (last_of was ls) ks
last-append was [] ks = refl
last-append was (l ∷ ls) ks = last-append (Some l) ls ks

-- one list of lines after another
pub brings_then : (flush : ℕ) (a b c : DiskState) (ls ks : List AskedLine) → Brings flush ls a b
    → Brings flush ks b c → Brings flush (ls ++ ks) a c
brings_then flush a b c ls ks p q = λ was given.
    subst (λ (l : Option AskedLine). Behind flush l c) (sym (last-append was ls ks))
    (q (last_of was ls) (p was given))

-- one line, whatever was before it
pub brings_line : (flush : ℕ) (l : AskedLine) (a b : DiskState) → Behind flush (Some l) b
    → Brings flush (l ∷ []) a b
brings_line flush l a b is was given = is

-- ---- files that stay

-- calls of the shell alone leave whether the disk can be relied on
trusts_back : (a b : DiskState) → Keeps a b → IsTrusted b → IsTrusted a
trusts_back a b keeps trusted =
    subst (λ (v : Bool). IsTrue v) (λ i. keeps.tells i && keeps.honest i) trusted

-- and what the files are
same_files : (a b : DiskState) → Keeps a b → b.file ≡ a.file
same_files a b keeps = fun_ext keeps.file

-- so they leave how many entries the log has
pub few_kept : (flush : ℕ) (a b : DiskState) → Keeps a b → HasFewEntries flush a
    → HasFewEntries flush b
few_kept flush a b keeps few some trusted n entries = few some (trusts_back a b keeps trusted) n
    (subst (λ (files : ℕ → Option (List ℕ)). HasEntries files n) (same_files a b keeps) entries)

none_kept : (a b : DiskState) → Keeps a b → HasNoEntries a → HasNoEntries b
none_kept a b keeps none trusted n entries = none (trusts_back a b keeps trusted) n
    (subst (λ (files : ℕ → Option (List ℕ)). HasEntries files n) (same_files a b keeps) entries)

merged_kept : (a b : DiskState) → Keeps a b → HasMergedFiles a → HasMergedFiles b
merged_kept a b keeps merged trusted s stands =
    subst (IsMergedFor s) (sym (same_files a b keeps))
    (merged (trusts_back a b keeps trusted) s
    (subst (λ (files : ℕ → Option (List ℕ)). StandsFor files s) (same_files a b keeps) stands))

readable_kept : (a b : DiskState) → Keeps a b → AreReadable a → AreReadable b
readable_kept a b keeps h = λ tells. subst IsReadable (sym (same_files a b keeps))
    (h (subst IsTrue keeps.tells tells))

-- and what a line promises
pub behind_kept : (flush : ℕ) (a b : DiskState) → Keeps a b → (l : Option AskedLine)
    → Behind flush l a → Behind flush l b
behind_kept flush a b keeps None h = h
behind_kept flush a b keeps (Some (request name body)) h = few_kept flush a b keeps h
behind_kept flush a b keeps (Some (control Flush)) h = none_kept a b keeps h
behind_kept flush a b keeps (Some (control Merge)) h = merged_kept a b keeps h
behind_kept flush a b keeps (Some (control Step)) h = few_kept flush a b keeps h
behind_kept flush a b keeps (Some (control Reopen)) h = readable_kept a b keeps h
behind_kept flush a b keeps (Some unread) h = h

-- ---- lines at hand

-- no line
pub at_hand_none : (flush : ℕ) (a : DiskState) → BringsAtHand flush [] a a
at_hand_none flush a = record {
  entries = [];
  grows = Grows-nil a.beside;
  rests = record { silent = refl; goes_on = refl; inside = refl };
  brings = λ was given. given;
}

-- a line whose reply was said
pub at_hand_said : (flush : ℕ) (a b c : DiskState) (bytes : List ℕ) (ls : List AskedLine)
    → Grows a.beside b.beside [] → Adds b c (said bytes) → Brings flush ls a c
    → BringsAtHand flush ls a c
at_hand_said flush a b c bytes ls quiet adds brings = record {
  entries = entry c.moment (told_count b.beside) (said bytes) ∷ [];
  grows = Grows-then a.beside b.beside c.beside []
      (entry c.moment (told_count b.beside) (said bytes) ∷ []) quiet adds;
  rests = record { silent = refl; goes_on = refl; inside = refl };
  brings = brings;
}

-- and behind it work was done
pub at_hand_worked : (flush : ℕ) (a b c d : DiskState) (bytes : List ℕ) (l : AskedLine)
    → Grows a.beside b.beside [] → Adds b c (said bytes) → Goes c d → Behind flush (Some l) d
    → BringsAtHand flush (l ∷ []) a d
at_hand_worked flush a b c d bytes l quiet adds goes is = record {
  entries = entry c.moment (told_count b.beside) (said bytes) ∷ [];
  grows = subst (λ (log : Log). Grows a.beside log
      (entry c.moment (told_count b.beside) (said bytes) ∷ [])) (sym goes.beside)
      (Grows-then a.beside b.beside c.beside []
      (entry c.moment (told_count b.beside) (said bytes) ∷ []) quiet adds);
  rests = record { silent = refl; goes_on = refl; inside = refl };
  brings = brings_line flush l a d is;
}

-- calls of the disk alone say nothing
pub silent_of : (a b : DiskState) → Goes a b → Grows a.beside b.beside []
silent_of a b goes =
    subst (λ (log : Log). Grows a.beside log []) (sym goes.beside) (Grows-nil a.beside)

-- nor do they behind calls of the shell that say nothing
pub silent_then : (a b c : DiskState) → Grows a.beside b.beside [] → Goes b c
    → Grows a.beside c.beside []
silent_then a b c quiet goes =
    subst (λ (log : Log). Grows a.beside log []) (sym goes.beside) quiet

-- lines and more lines
pub at_hand_then : (flush : ℕ) (a b c : DiskState) (ls ks : List AskedLine) → BringsAtHand flush ls a b
    → BringsAtHand flush ks b c → BringsAtHand flush (ls ++ ks) a c
at_hand_then flush a b c ls ks p q = record {
  entries = p.entries ++ q.entries;
  grows = Grows-then a.beside b.beside c.beside p.entries q.entries p.grows q.grows;
  rests = rests_then p.entries q.entries p.rests q.rests;
  brings = brings_then flush a b c ls ks p.brings q.brings;
}

-- ---- taking

module _ (flush : ℕ) (a b c : DiskState) (keeps : Keeps a b) (u : Unread) where
  -- lines that were served behind a take
  behind_take : (ls : List AskedLine) → Brings flush ls b c → Brings flush ls a c
  behind_take ls p = λ was given. p was (behind_kept flush a b keeps was given)

  -- some bytes were taken, and the lines that were whole then were served
  pub some_taken : u.ended ≡ false → (piece : List ℕ) → 0 < length piece
      → Adds a b (took piece) → (w v : Unread) → w ≡ record u { bytes = u.bytes ++ piece }
      → BringsAtHand flush (asked_now w) b c → HandsOut w v → BringsSome flush u v a c
  some_taken unended piece some adds w v same p outs = record {
    done = asked_now w;
    entries = entry b.moment (told_count a.beside) (took piece) ∷ p.entries;
    grows = Grows-then a.beside b.beside c.beside
        (entry b.moment (told_count a.beside) (took piece) ∷ []) p.entries adds p.grows;
    lines = λ more e.
        ap (λ (bs : List ℕ). asked_later u (bs ++ more) e)
        (ap (λ (bs : List ℕ). piece ++ bs) p.rests.silent ∙ append-nil piece)
        ∙ sym (given_later u piece more e)
        ∙ ap (λ (x : Unread). asked_later x more e) (sym same)
        ∙ outs.later (ap (λ (x : Unread). x.ended) same ∙ unended) more e;
    goes_on = ap (λ (x : Bool). x || ended p.entries)
        (took_is_no_end (told_count a.beside) piece some)
        ∙ p.rests.goes_on;
    brings = behind_take (asked_now w) p.brings;
  }

  -- the end was taken, and the last lines were served
  pub rest_taken : (piece : List ℕ) → piece ≡ [] → Adds a b (took piece) → (w : Unread)
      → w ≡ record u { ended = true } → BringsAtHand flush (asked_now w) b c → BringsRest flush u a c
  rest_taken piece none adds w same p = record {
    entries = entry b.moment (told_count a.beside) (took []) ∷ p.entries;
    grows = Grows-then a.beside b.beside c.beside
        (entry b.moment (told_count a.beside) (took []) ∷ []) p.entries
        (subst (λ (bs : List ℕ). Adds a b (took bs)) none adds) p.grows;
    at_end = refl;
    brings = subst (λ (ls : List AskedLine). Brings flush ls a c)
        (ap asked_now same ∙ ended_now u
        ∙ ap (λ (bs : List ℕ). asked_later u bs true) (sym p.rests.silent))
        (behind_take (asked_now w) p.brings);
  }

-- ---- one take after another

-- nothing was taken
pub some_none : (flush : ℕ) (a : DiskState) (u : Unread) → BringsSome flush u u a a
some_none flush a u = record {
  done = [];
  entries = [];
  grows = Grows-nil a.beside;
  lines = λ more e. refl;
  goes_on = refl;
  brings = λ was given. given;
}

module _ (flush : ℕ) (a b c : DiskState) (u v : Unread) (p : BringsSome flush u v a b) where
  -- once more
  pub some_then : (w : Unread) → BringsSome flush v w b c → BringsSome flush u w a c
  some_then w q = record {
    done = p.done ++ q.done;
    entries = p.entries ++ q.entries;
    grows = Grows-then a.beside b.beside c.beside p.entries q.entries p.grows q.grows;
    lines = λ more e.
        ap (λ (bs : List ℕ). asked_later u (bs ++ more) e) (taken-append p.entries q.entries)
        ∙ ap (λ (bs : List ℕ). asked_later u bs e)
        (append_assoc (taken p.entries) (taken q.entries) more)
        ∙ p.lines (taken q.entries ++ more) e
        ∙ ap (λ (ls : List AskedLine). p.done ++ ls) (q.lines more e)
        ∙ sym (append_assoc p.done q.done (asked_later w more e));
    goes_on = ended-append p.entries q.entries
        ∙ ap (λ (e : Bool). e || ended q.entries) p.goes_on ∙ q.goes_on;
    brings = brings_then flush a b c p.done q.done p.brings q.brings;
  }

  -- and then to the end
  pub rest_then : BringsRest flush v b c → BringsRest flush u a c
  rest_then q = record {
    entries = p.entries ++ q.entries;
    grows = Grows-then a.beside b.beside c.beside p.entries q.entries p.grows q.grows;
    at_end = ended-append p.entries q.entries
        ∙ ap (λ (e : Bool). e || ended q.entries) p.goes_on ∙ q.at_end;
    brings = subst (λ (ls : List AskedLine). Brings flush ls a c)
        (sym (ap (λ (bs : List ℕ). asked_later u bs true) (taken-append p.entries q.entries)
        ∙ p.lines (taken q.entries) true))
        (brings_then flush a b c p.done (asked_later v (taken q.entries) true) p.brings q.brings);
  }

-- ---- the whole of a replay

-- all lines of the input were served
pub last_line : (flush : ℕ) (a b : DiskState) → BringsRest flush fresh a b → LastLine flush a b
last_line flush a b p = record {
  entries = p.entries;
  grows = p.grows;
  at_end = p.at_end;
  behind = p.brings None tt;
}

-- behind an opening
pub last_opened : (flush : ℕ) (a b c : DiskState) → Goes a b → LastLine flush b c
    → LastLine flush a c
last_opened flush a b c goes p = record {
  entries = p.entries;
  grows = Grows-then a.beside b.beside c.beside [] p.entries (silent_of a b goes) p.grows;
  at_end = p.at_end;
  behind = p.behind;
}

-- and before a note
pub last_noted : (flush : ℕ) (a b c : DiskState) → Grows b.beside c.beside [] → Keeps b c
    → LastLine flush a b → LastLine flush a c
last_noted flush a b c quiet keeps p = record {
  entries = p.entries;
  grows = subst (λ (es : Log). Grows a.beside c.beside es) (append-nil p.entries)
      (Grows-then a.beside b.beside c.beside p.entries [] p.grows quiet);
  at_end = p.at_end;
  behind = behind_kept flush b c keeps (last_of None (asks true (taken p.entries))) p.behind;
}

-- ---- a trial

-- its four lines were said behind calls of the disk alone
pub summary_opened : (count : ℕ) (a b c : DiskState) → Goes a b → SaysSummary count b c
    → SaysSummary count a c
summary_opened count a b c goes p = record {
  text = p.text;
  is = p.is;
  entries = p.entries;
  grows = Grows-then a.beside b.beside c.beside [] p.entries (silent_of a b goes) p.grows;
  said = p.said;
  rests = p.rests;
}

-- and before a note
summary_noted : (count : ℕ) (a b c : DiskState) → Grows b.beside c.beside []
    → SaysSummary count a b → SaysSummary count a c
summary_noted count a b c quiet p = record {
  text = p.text;
  is = p.is;
  entries = p.entries;
  grows = subst (λ (es : Log). Grows a.beside c.beside es) (append-nil p.entries)
      (Grows-then a.beside b.beside c.beside p.entries [] p.grows quiet);
  said = p.said;
  rests = p.rests;
}

-- however the saying ended
pub summary_behind : (count : ℕ) (a b c : DiskState) → Goes a b
    → (result : Result Unit RunFault) → OnOk result (SaysSummary count b c)
    → OnOk result (SaysSummary count a c)
summary_behind count a b c goes (Ok done) h = summary_opened count a b c goes h
summary_behind count a b c goes (Err fault) h = tt

-- two things at Ok
pub both_ok : {A E : Type 0} (P Q : Type 0) (r : Result A E) → OnOk r P → OnOk r Q → OnOk r (P × Q)
both_ok P Q (Ok x) p q = (p, q)
both_ok P Q (Err e) p q = tt

-- ---- any job

-- behind an opening
pub after_opened : (flush : ℕ) (job : Job) (a b c : DiskState) → Goes a b → AfterJob job flush b c
    → AfterJob job flush a c
after_opened flush Replay a b c goes h = last_opened flush a b c goes h
after_opened flush (Serve per connections) a b c goes h =
    all_behind connections a b c (silent_of a b goes) h
after_opened flush (Trial seed count) a b c goes h = (h.0, summary_opened count a b c goes h.1)

-- however it ended
pub opened_after : (flush : ℕ) (job : Job) (a b c : DiskState) → Goes a b
    → (result : Result Unit RunFault) → OnOk result (AfterJob job flush b c)
    → OnOk result (AfterJob job flush a c)
opened_after flush job a b c goes (Ok done) h = after_opened flush job a b c goes h
opened_after flush job a b c goes (Err fault) h = tt

-- and before a note
pub after_noted : (flush : ℕ) (job : Job) (a b c : DiskState) → Grows b.beside c.beside []
    → Keeps b c → AfterJob job flush a b → AfterJob job flush a c
after_noted flush Replay a b c quiet keeps h = last_noted flush a b c quiet keeps h
after_noted flush (Serve per connections) a b c quiet keeps h =
    all_before connections a b c h quiet
after_noted flush (Trial seed count) a b c quiet keeps h =
    (few_kept flush b c keeps h.0, summary_noted count a b c quiet h.1)

-- ---- how many connections came

-- none by calls of the disk alone
pub within_opening : (job : Job) (a b : DiskState) → Goes a b → ComesWithin job a b
within_opening Replay a b goes = tt
within_opening (Serve per connections) a b goes = most_silent connections a b (silent_of a b goes)
within_opening (Trial seed count) a b goes = tt

-- behind an opening
pub within_opened : (job : Job) (a b c : DiskState) → Goes a b → ComesWithin job b c
    → ComesWithin job a c
within_opened Replay a b c goes h = tt
within_opened (Serve per connections) a b c goes h =
    most_behind connections a b c (silent_of a b goes) h
within_opened (Trial seed count) a b c goes h = tt

-- and before a note
pub within_noted : (job : Job) (a b c : DiskState) → Grows b.beside c.beside []
    → ComesWithin job a b → ComesWithin job a c
within_noted Replay a b c quiet h = tt
within_noted (Serve per connections) a b c quiet h = most_before connections a b c h quiet
within_noted (Trial seed count) a b c quiet h = tt
