-- Writes replayed one after another, the entries of a log, and why an entry isn't replayed.
use Rattle.std.proofs.Common.{◌≡◌, ◌<◌, ◌≤◌, ◌+◌, ◌++◌, ◌∷◌, ℕ, zero, suc, List, [], take, drop, drop-cons, length, max, min, get_or, refl, sym, ap, subst, ◌∙◌, arith}
use Rattle.std.proofs.lemmas.List.{length-take, take_more, take_all}
use Rattle.std.proofs.Common.{take-append-drop}
use Rattle.std.specs.BTreeMap.{get}
use Rattle.std.specs.Ordering.{nat_cmp}
use Rattle.alt_families.specs.Families.{files_in, rows_in}
use Rattle.alt_gatelog.specs.Log.{gate_place}
use Rattle.alt_gatelog.specs.declared.fault.LogFault.{LogFault}
use Rattle.alt_gatelog.specs.declared.fault.LogFault.TheVariants.{Damaged, Failed, NoMemory}
use Rattle.alt_gatelog.specs.declared.form.Form.{Form}
use Rattle.alt_layout.specs.Entries.{HoldWrites, IsEntry, IsNoEntry}
use Rattle.alt_layout.specs.Families.{next_after, with_later}
use Rattle.alt_layout.specs.Sizes.{bytes_in}
use Rattle.alt_layout.proofs.EntryLaws.{holds_none, holds_push}
use Rattle.alt_layout.proofs.FileLaws.{rising-join}
use Rattle.alt_layout.proofs.RowLaws.{with_later-append}
use Rattle.alt_layout.proofs.SizeLaws.{bytes_in-push}
use Rattle.alt_memtable.specs.Rows.{most_bytes}
use Rattle.alt_writes.specs.Bytes.{AllHeld, IsHeldWrite}
use Rattle.alt_writes.specs.Writes.{AreRising, Write}
use Rattle.alt_recovery.specs.Entries.{ExplainsEntry}
use Rattle.alt_recovery.specs.Flushed.{flushed_in}
use Rattle.alt_recovery.specs.Replays.{ExplainsBadEntry, IsJoinedTo, Replays}
use Rattle.alt_recovery.specs.declared.replay.Replay.{Replay}
use Rattle.alt_writes.proofs.PushLaws.{held-join}

-- ---- lists of writes

pub next_after-append : (next : ℕ) (xs ys : List Write)
    → next_after next (xs ++ ys) ≡ next_after (next_after next xs) ys
next_after-append next [] ys = refl
next_after-append next (x ∷ xs) ys = next_after-append (max next (x.number + 1)) xs ys

-- ---- replays

-- nothing was replayed yet
pub replays_none : (r : Replay) → Replays r r [] 0
replays_none r = record {
  held = tt;
  rising = tt;
  least = refl;
  length = λ low. let same : r.length ≡ min (r.length + 0) most_bytes = omega (arith, low) in same;
  flushed = refl;
  rows = λ f. refl;
  files = λ f. refl;
}

-- one replay behind another
pub replays_then : (a b c : Replay) (xs ys : List Write) (m n : ℕ) → Replays a b xs m
    → Replays b c ys n → Replays a c (xs ++ ys) (m + n)
replays_then a b c xs ys m n first later = record {
  held = held-join xs ys first.held later.held;
  rising = rising-join a.least a.least xs ys (omega arith) first.rising
      (subst (λ (n : ℕ). AreRising n ys) first.least later.rising);
  least = later.least ∙ ap (λ (n : ℕ). next_after n ys) first.least
      ∙ sym (next_after-append a.least xs ys);
  length = λ low. length_is low;
  flushed = later.flushed ∙ first.flushed;
  rows = λ f. later.rows f
      ∙ (λ i. with_later (flushed_in (first.flushed i) f) f (first.rows f i) ys)
      ∙ sym (with_later-append (flushed_in a.flushed f) f (rows_in (get nat_cmp a.families f)) xs ys);
  files = λ f. later.files f ∙ first.files f;
}
  where
    length_is : a.length ≤ most_bytes
        → c.length ≡ min (a.length + (m + n)) most_bytes
    length_is low =
        let x = first.length low in
        let within : b.length ≤ most_bytes = omega (arith, x) in
        let y = later.length within in
        omega (arith, x, y)

-- a write alone, whose bytes aren't counted
pub replays_one : (old new : Replay) (w : Write) → IsHeldWrite w → old.least ≤ w.number
    → new.least ≡ w.number + 1 → new.length ≡ old.length → new.flushed ≡ old.flushed
    → IsJoinedTo old.flushed old.families new.families w → Replays old new (w ∷ []) 0
replays_one old new w held low least long flushed joined = record {
  held = (held, tt);
  rising = (low, tt);
  least = omega (arith, low, least);
  length = λ within. let same : new.length ≡ min (old.length + 0) most_bytes =
      omega (arith, long, within) in same;
  flushed = flushed;
  rows = joined.rows;
  files = joined.files;
}

-- the bytes of an entry, counted behind its writes
pub replays_counted : (old now new : Replay) (ws : List Write) (bytes : ℕ)
    → Replays old now ws 0 → new.least ≡ now.least → new.flushed ≡ now.flushed
    → new.families ≡ now.families → new.length ≡ min (now.length + bytes) most_bytes
    → now.length ≡ old.length → Replays old new ws bytes
replays_counted old now new ws bytes replays least flushed families length same = record {
  held = replays.held;
  rising = replays.rising;
  least = least ∙ replays.least;
  length = λ within. length ∙ ap (λ n. min (n + bytes) most_bytes) same;
  flushed = flushed ∙ replays.flushed;
  rows = λ f. ap (λ fs. rows_in (get nat_cmp fs f)) families ∙ replays.rows f;
  files = λ f. ap (λ fs. files_in (get nat_cmp fs f)) families ∙ replays.files f;
}

-- a write of several isn't below the number behind those before it
pub rising_at : (least : ℕ) (ws : List Write) (i : ℕ) (w : Write) → AreRising least ws
    → i < length ws → next_after least (take i ws) ≤ (get_or ws i w).number
rising_at least [] i w rising less = absurd (omega (arith, less))
rising_at least (v ∷ ws) zero w rising less = rising.0
rising_at least (v ∷ ws) (suc i) w rising less =
    let low = rising.0 in
    let top : v.number + 1 ≡ max least (v.number + 1) = omega (arith, low) in
    rising_at (max least (v.number + 1)) ws i w
    (subst (λ (n : ℕ). AreRising n ws) top rising.1) (omega (arith, less))

-- and its bytes can tell it
pub held_at : (ws : List Write) (i : ℕ) (w : Write) → AllHeld ws → i < length ws
    → IsHeldWrite (get_or ws i w)
held_at [] i w held less = absurd (omega (arith, less))
held_at (v ∷ ws) zero w held less = held.0
held_at (v ∷ ws) (suc i) w held less = held_at ws i w held.1 (omega (arith, less))

-- ---- the entries of a log

-- Entries so far hold writes that were replayed.
pub record ReplayedSoFar (form : Form) (old new : Replay) (entries : List (List ℕ)) : Type 0 where
  pub writes : List Write
  pub holds : HoldWrites form entries writes
  pub replays : Replays old new writes (bytes_in entries)

-- no entry yet
pub so_far_none : (form : Form) (r : Replay) (entries : List (List ℕ))
    → ReplayedSoFar form r r (take 0 entries)
so_far_none form r entries =
    record { writes = []; holds = holds_none form; replays = replays_none r }

-- an entry whose writes were replayed
abbrev pub EntryDone : Form → List ℕ → Replay → Replay → Type 0
EntryDone form entry b c =
    (ws : List Write) × IsEntry form entry ws × Replays b c ws (length entry)

-- one entry more
pub so_far_more : (form : Form) (a b c : Replay) (entries : List (List ℕ)) (i : ℕ)
    → i < length entries → ReplayedSoFar form a b (take i entries)
    → EntryDone form (get_or entries i []) b c → ReplayedSoFar form a c (take (i + 1) entries)
so_far_more form a b c entries i within so_far one =
    let entry : List ℕ = get_or entries i [] in
    let bytes : bytes_in (take i entries) + length entry
    ≡ bytes_in (take i entries ++ entry ∷ []) = sym (bytes_in-push (take i entries) entry) in
    subst (ReplayedSoFar form a c) (sym (take_more entries i [] within)) (record {
      writes = so_far.writes ++ one.0;
      holds = holds_push form (take i entries) so_far.writes entry one.0 so_far.holds one.1;
      replays = subst (Replays a c (so_far.writes ++ one.0)) bytes
          (replays_then a b c so_far.writes one.0 (bytes_in (take i entries)) (length entry)
          so_far.replays one.2);
    })

-- a list before a place, what stands there, and what is behind
split : (entries : List (List ℕ)) (i : ℕ) → i < length entries
    → entries ≡ take i entries ++ get_or entries i [] ∷ drop (i + 1) entries
split entries i within =
    let more : suc i ≡ i + 1 = omega arith in
    sym (take-append-drop i entries)
    ∙ ap (λ es. take i entries ++ es) (drop-cons entries i [] within
    ∙ ap (λ (n : ℕ). get_or entries i [] ∷ drop n entries) more)

-- an entry that holds no writes
pub entry_explains : (form : Form) (f : ℕ) (old now : Replay) (entries : List (List ℕ)) (i : ℕ)
    (fault : LogFault) → i < length entries → ReplayedSoFar form old now (take i entries)
    → ExplainsEntry form f entries i now.least fault → ExplainsBadEntry form f entries old.least fault
entry_explains form f old now entries i (Damaged file at) within so_far h =
    let size : i ≡ length (take i entries) = omega (arith, length-take i entries, within) in (
      h.0,
      record {
        front = take i entries;
        writes = so_far.writes;
        entry = get_or entries i [];
        behind = drop (i + 1) entries;
        is = split entries i within;
        holds = so_far.holds;
        held = so_far.replays.held;
        rising = so_far.replays.rising;
        none = subst (λ (n : ℕ). IsNoEntry form n (get_or entries i [])) so_far.replays.least h.2;
        place = h.1 ∙ ap (gate_place entries) size;
      },
    )
entry_explains form f old now entries i Failed within so_far h = tt
entry_explains form f old now entries i NoMemory within so_far h = tt

-- all of them
pub so_far_all : (form : Form) (old new : Replay) (entries : List (List ℕ)) (i : ℕ)
    → length entries ≤ i → ReplayedSoFar form old new (take i entries)
    → (ws : List Write) × HoldWrites form entries ws × Replays old new ws (bytes_in entries)
so_far_all form old new entries i past so_far =
    let all : take i entries ≡ entries = take_all i entries past in (
      so_far.writes,
      subst (λ es. HoldWrites form es so_far.writes) all so_far.holds,
      subst (λ es. Replays old new so_far.writes (bytes_in es)) all so_far.replays,
    )
