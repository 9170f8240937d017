-- The logs of segments replayed one after another, and why what is behind one isn't.
use Rattle.std.proofs.Common.{◌≡◌, ◌<◌, ◌≤◌, ◌+◌, ◌-◌, ◌++◌, ◌∷◌, inl, inr, ℕ, zero, suc, List, [], take, drop, drop-cons, length, get_or, Option, refl, sym, ap, subst, ◌∙◌, append_assoc, append-nil, arith}
use Rattle.std.proofs.lemmas.List.{drop_all, take_more, take_all}
use Rattle.std.proofs.Common.{take-append-drop}
use Rattle.alt_disk.specs.Disk.{DiskState, bytes_or_none}
use Rattle.alt_disk.specs.Runs.{Quiet}
use Rattle.alt_gatelog.proofs.Elsewhere.{reads_log, reads_stays}
use Rattle.alt_gatelog.specs.InHand.{ReadsEntries, file_of_gate_log, form_of}
use Rattle.alt_gatelog.specs.Log.{ExplainsLog as ExplainsGateLog, IsLog}
use Rattle.alt_gatelog.specs.declared.fault.LogFault.{LogFault}
use Rattle.alt_gatelog.specs.declared.fault.LogFault.TheVariants.{Damaged, Failed, NoMemory}
use Rattle.alt_gatelog.specs.declared.form.Form.{Form}
use Rattle.alt_gatelog.specs.declared.gatelog.GateLog.{GateLog}
use Rattle.alt_layout.specs.Entries.{HoldWrites}
use Rattle.alt_layout.specs.Files.{AreSegments, Image, IsSegment, all_of}
use Rattle.alt_layout.specs.Sizes.{SegmentsAreSized, LogIsSized, bytes_in}
use Rattle.alt_layout.proofs.FileLaws.{segments_on, segments_with}
use Rattle.alt_layout.proofs.SizeLaws.{sized_on, sized_with}
use Rattle.alt_writes.specs.Reading.{write_of, writes_of}
use Rattle.alt_writes.specs.Writes.{Write}
use Rattle.alt_writes.specs.declared.read.LoggedWrite.{LoggedWrite}
use Rattle.alt_recovery.specs.Replays.{ExplainsBadEntry, ExplainsSegment, ExplainsSegments, IsBadSegment, Replays, ReplaysLast}
use Rattle.alt_recovery.specs.declared.replay.Replay.{Replay}
use Rattle.alt_recovery.proofs.ReplayLaws.{replays_none, replays_then}

-- ---- one segment

-- a log in hand reads as it read while its file does
pub log_while : (a b : DiskState) (log : GateLog) (entries : List (List ℕ)) → Quiet a b
    → ReadsEntries a log entries → ReadsEntries b log entries
log_while a b log entries quiet reads =
    reads_stays a b log entries (quiet.file (file_of_gate_log log)) reads

-- a segment that is no log
pub no_log_explains : (f least : ℕ) (file : Option (List ℕ)) (fault : LogFault)
    → ExplainsGateLog f (bytes_or_none file) fault → ExplainsSegment f least file fault
no_log_explains f least file (Damaged g at) h = (h.0, inl h.1)
no_log_explains f least file Failed h = tt
no_log_explains f least file NoMemory h = tt

-- one with an entry that is no write
pub log_explains : (form : Form) (f least : ℕ) (file : Option (List ℕ)) (entries : List (List ℕ))
    (fault : LogFault) → IsLog form entries file → ExplainsBadEntry form f entries least fault
    → ExplainsSegment f least file fault
log_explains form f least file entries (Damaged g at) is h = (h.0, inr (form, entries, is, h.1))
log_explains form f least file entries Failed is h = tt
log_explains form f least file entries NoMemory is h = tt

-- a segment that was replayed
abbrev pub SegmentDone : DiskState → GateLog → Replay → Replay → Type 0
SegmentDone s log b c = (ws : List Write) × (entries : List (List ℕ)) × ReadsEntries s log entries
    × HoldWrites (form_of log) entries ws × Replays b c ws (bytes_in entries)

-- is one, and has so many bytes
done_segment : (s : DiskState) (log : GateLog) (b c : Replay) (f : ℕ) (image : Image)
    → file_of_gate_log log ≡ f → s.file f ≡ image f → (done : SegmentDone s log b c)
    → IsSegment done.0 (image f) × LogIsSized (bytes_in done.1) (image f)
done_segment s log b c f image named same done =
    let there : IsLog (form_of log) done.1 (image f) =
    subst (IsLog (form_of log) done.1) (ap s.file named ∙ same) (reads_log s log done.1 done.2) in (
      record { form = form_of log; entries = done.1; log = there; holds = done.3 },
      record { form = form_of log; entries = done.1; log = there; is = refl },
    )

-- ---- several segments

-- Segments so far hold these writes, which were replayed.
pub record SegmentsSoFar (image : Image) (old new : Replay) (segments : List ℕ) : Type 0 where
  pub parts : List (List Write)
  pub bytes : ℕ
  pub are : AreSegments image segments parts
  pub sized : SegmentsAreSized image segments bytes
  pub replays : Replays old new (all_of parts) bytes

-- no segment yet
pub segments_none : (image : Image) (r : Replay) (segments : List ℕ)
    → SegmentsSoFar image r r (take 0 segments)
segments_none image r segments =
    record { parts = []; bytes = 0; are = tt; sized = refl; replays = replays_none r }

all_of-push : (parts : List (List Write)) (ws : List Write) → all_of (parts ++ ws ∷ []) ≡ all_of parts ++ ws
all_of-push [] ws = append-nil ws
all_of-push (us ∷ parts) ws = ap (λ x. us ++ x) (all_of-push parts ws)
    ∙ sym (append_assoc us (all_of parts) ws)

-- the writes of segments, and of one more
pub replays_push : (a b c : Replay) (parts : List (List Write)) (ws : List Write) (m n : ℕ)
    → Replays a b (all_of parts) m → Replays b c ws n
    → Replays a c (all_of (parts ++ ws ∷ [])) (m + n)
replays_push a b c parts ws m n first later =
    subst (λ x. Replays a c x (m + n)) (sym (all_of-push parts ws))
    (replays_then a b c (all_of parts) ws m n first later)

-- one segment more
pub segments_more : (image : Image) (s : DiskState) (a b c : Replay) (segments : List ℕ) (i : ℕ)
    (log : GateLog) → i < length segments → file_of_gate_log log ≡ get_or segments i 0
    → ((f : ℕ) → s.file f ≡ image f) → SegmentsSoFar image a b (take i segments)
    → SegmentDone s log b c → SegmentsSoFar image a c (take (i + 1) segments)
segments_more image s a b c segments i log within named same so_far one =
    let f : ℕ = get_or segments i 0 in
    let last = done_segment s log b c f image named (same f) one in
    subst (SegmentsSoFar image a c) (sym (take_more segments i 0 within)) (record {
      parts = so_far.parts ++ one.0 ∷ [];
      bytes = so_far.bytes + bytes_in one.1;
      are = segments_with image (take i segments) f so_far.parts one.0 so_far.are last.0;
      sized = sized_with image (take i segments) f so_far.bytes (bytes_in one.1) so_far.sized last.1;
      replays = replays_push a b c so_far.parts one.0 so_far.bytes (bytes_in one.1) so_far.replays
          one.4;
    })

-- a segment that wasn't replayed
pub segment_explains : (image other : Image) (old now : Replay) (segments before behind : List ℕ)
    (f : ℕ) (fault : LogFault) → segments ≡ before ++ f ∷ behind → ((g : ℕ) → other g ≡ image g)
    → SegmentsSoFar image old now before → ExplainsSegment f now.least (other f) fault
    → ExplainsSegments image segments old.least fault
segment_explains image other old now segments before behind f (Damaged g at) is same so_far h =
    record {
      before = before;
      behind = behind;
      parts = so_far.parts;
      is = is ∙ ap (λ (n : ℕ). before ++ n ∷ behind) (sym h.0);
      are = so_far.are;
      held = so_far.replays.held;
      rising = so_far.replays.rising;
      bad = subst (λ (n : ℕ). IsBadSegment n (image g) at) so_far.replays.least
          (subst (λ (file : Option (List ℕ)). IsBadSegment now.least file at)
          (same f ∙ ap image (sym h.0)) h.1);
    }
segment_explains image other old now segments before behind f Failed is same so_far h = tt
segment_explains image other old now segments before behind f NoMemory is same so_far h = tt

-- so of those behind which others stand
pub firsts_explain : (image : Image) (segments front rest : List ℕ) (least : ℕ) (fault : LogFault)
    → segments ≡ front ++ rest → ExplainsSegments image front least fault
    → ExplainsSegments image segments least fault
firsts_explain image segments front rest least (Damaged f at) is h = record {
  before = h.before;
  behind = h.behind ++ rest;
  parts = h.parts;
  is = is ∙ ap (λ l. l ++ rest) h.is ∙ append_assoc h.before (f ∷ h.behind) rest;
  are = h.are;
  held = h.held;
  rising = h.rising;
  bad = h.bad;
}
firsts_explain image segments front rest least Failed is h = tt
firsts_explain image segments front rest least NoMemory is h = tt

-- the number at a place splits the list
pub split_at : (xs : List ℕ) (i : ℕ) → i < length xs
    → xs ≡ take i xs ++ get_or xs i 0 ∷ drop (i + 1) xs
split_at xs i within =
    let more : suc i ≡ i + 1 = omega arith in
    sym (take-append-drop i xs)
    ∙ ap (λ es. take i xs ++ es) (drop-cons xs i 0 within
    ∙ ap (λ (n : ℕ). get_or xs i 0 ∷ drop n xs) more)

-- all segments were replayed, where the last one was behind the first ones
pub replays_last : (image : Image) (s : DiskState) (a b c : Replay) (segments firsts : List ℕ)
    (log : GateLog) → segments ≡ firsts ++ file_of_gate_log log ∷ [] → ((f : ℕ) → s.file f ≡ image f)
    → (front : SegmentsSoFar image a b firsts) → SegmentDone s log b c
    → ReplaysLast s segments a c log
replays_last image s a b c segments firsts log is same front one =
    let last = done_segment s log b c (file_of_gate_log log) s.file refl refl one in
    record {
      firsts = firsts;
      fronts = front.parts;
      writes = one.0;
      entries = one.1;
      bytes = front.bytes + bytes_in one.1;
      segments_are = is;
      are = subst (λ fs. AreSegments s.file fs (front.parts ++ one.0 ∷ [])) (sym is)
          (segments_with s.file firsts (file_of_gate_log log) front.parts one.0
          (segments_on image s.file firsts front.parts (λ g there. same g) front.are) last.0);
      sized = subst (λ fs. SegmentsAreSized s.file fs (front.bytes + bytes_in one.1)) (sym is)
          (sized_with s.file firsts (file_of_gate_log log) front.bytes (bytes_in one.1)
          (sized_on image s.file firsts front.bytes (λ g there. same g) front.sized) last.1);
      reads = one.2;
      holds = one.3;
      replays = replays_push a b c front.parts one.0 front.bytes (bytes_in one.1) front.replays
          one.4;
    }

-- what is said of several segments
abbrev pub SegmentsDone : Image → Replay → Replay → List ℕ → Type 0
SegmentsDone image old new segments = (parts : List (List Write)) × (bytes : ℕ)
    × AreSegments image segments parts × SegmentsAreSized image segments bytes
    × Replays old new (all_of parts) bytes

-- all segments in a list
pub segments_all : (image : Image) (old new : Replay) (segments : List ℕ) (i : ℕ)
    → length segments ≤ i → SegmentsSoFar image old new (take i segments)
    → SegmentsDone image old new segments
segments_all image old new segments i past so_far =
    let all : take i segments ≡ segments = take_all i segments past in (
      so_far.parts,
      so_far.bytes,
      subst (λ fs. AreSegments image fs so_far.parts) all so_far.are,
      subst (λ fs. SegmentsAreSized image fs so_far.bytes) all so_far.sized,
      so_far.replays,
    )

-- a list that isn't empty is its front and its last number
pub last_split : (xs : List ℕ) → 0 < length xs
    → xs ≡ take (length xs - 1) xs ++ get_or xs (length xs - 1) 0 ∷ []
last_split xs some =
    split_at xs (length xs - 1) (omega (arith, some))
    ∙ ap (λ rest. take (length xs - 1) xs ++ get_or xs (length xs - 1) 0 ∷ rest)
    (drop_all (length xs - 1 + 1) xs (omega (arith, some)))

-- the same of all segments so far
pub so_far_of : (image : Image) (old new : Replay) (segments : List ℕ)
    → SegmentsDone image old new segments → SegmentsSoFar image old new segments
so_far_of image old new segments done = record {
  parts = done.0;
  bytes = done.1;
  are = done.2;
  sized = done.3;
  replays = done.4;
}

-- the write of what was read at a place
pub write_at : (reads : List LoggedWrite) (i : ℕ) (read : LoggedWrite)
    → get_or (writes_of reads) i (write_of read) ≡ write_of (get_or reads i read)
write_at [] i read = refl
write_at (r ∷ reads) zero read = refl
write_at (r ∷ reads) (suc i) read = write_at reads i read
