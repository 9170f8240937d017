-- A log in hand, while other files change or nothing does.
use Rattle.std.proofs.Common.{◌≡◌, ◌≢◌, ℕ, List, Option, Some, length, refl, ap, sym, ◌∙◌, subst, arith}
use Rattle.alt_disk.specs.Fates.{Fates, Fits}
use Rattle.alt_disk.specs.Disk.{DiskState, IsSettled, Same, now}
use Rattle.alt_disk.specs.Runs.{Run, Quiet}
use Rattle.alt_disk.proofs.Runs.{quiet_same}
use Rattle.alt_gatelog.specs.Log.{IsLog, log_bytes, log_front}
use Rattle.alt_gatelog.specs.InHand.{form_of, ReadsEntries, SameLog, StandsForEntries}
use Rattle.alt_gatelog.specs.declared.form.Form.{Form}
use Rattle.alt_gatelog.specs.declared.gatelog.GateLog.{GateLog}

-- the file of a log that reads as a list is a gated log of it
pub reads_log : (s : DiskState) (log : GateLog) (entries : List (List ℕ)) → ReadsEntries s log entries
    → IsLog (form_of log) entries (s.file log.file)
reads_log s log entries reads = record {
  gate = reads.gate;
  closed = reads.closed;
  rest =
      reads.rest;
  is = reads.file;
  lengths = reads.lengths;
}

-- each stop leaves the log's file with its entries
pub in_each_image : (s : DiskState) (log : GateLog) (entries : List (List ℕ)) → StandsForEntries s log entries
    → (left : Option (List ℕ)) → Fits (now s log.file) left → IsLog (form_of log) entries left
in_each_image s log entries stands left fits =
    subst (IsLog (form_of log) entries) (sym (stands.settled left fits))
    (reads_log s log entries stands.reads)

-- where the file reads as before, so does the log
pub reads_stays : (a b : DiskState) (log : GateLog) (entries : List (List ℕ))
    → b.file log.file ≡ a.file log.file → ReadsEntries a log entries → ReadsEntries b log entries
reads_stays a b log entries same reads = record {
  gate = reads.gate;
  closed = reads.closed;
  rest = reads.rest;
  file = same ∙ reads.file;
  lengths = reads.lengths;
  is_at = reads.is_at;
  are_at = reads.are_at;
}

-- and so does one that is the same
pub reads_same : (s : DiskState) (old new : GateLog) (entries : List (List ℕ)) → SameLog old new
    → ReadsEntries s old entries → ReadsEntries s new entries
reads_same s old new entries same reads = record {
  gate = reads.gate;
  closed = reads.closed;
  rest = reads.rest;
  file = ap s.file same.file ∙ reads.file
      ∙ ap (λ (f : Form). Some (log_bytes f entries reads.gate reads.rest)) (sym same.form);
  lengths = reads.lengths;
  is_at = same.gate ∙ reads.is_at
      ∙ ap (λ (f : Form). length (log_front f entries)) (sym same.form);
  are_at = same.places ∙ reads.are_at;
}

-- with what stood behind its closed gate
pub rest-same : (s : DiskState) (old new : GateLog) (entries : List (List ℕ))
    (same : SameLog old new) (reads : ReadsEntries s old entries)
    → (reads_same s old new entries same reads).rest ≡ reads.rest
unfolding reads_same
rest-same s old new entries same reads = refl

-- which stands too
pub stands_same_log : (s : DiskState) (old new : GateLog) (entries : List (List ℕ))
    → SameLog old new → StandsForEntries s old entries → StandsForEntries s new entries
stands_same_log s old new entries same stands = record {
  reads = reads_same s old new entries same stands.reads;
  settled = subst (IsSettled s) (sym same.file) stands.settled;
}

-- where no file changes a log stands as it stood
pub stands_same : (a b : DiskState) (log : GateLog) (entries : List (List ℕ)) → Same a b
    → StandsForEntries a log entries → StandsForEntries b log entries
stands_same a b log entries same stands = record {
  reads = reads_stays a b log entries (same.file log.file) stands.reads;
  settled = λ left fits. stands.settled left (subst (λ (x : Fates). Fits x left)
      (same.fates log.file) fits) ∙ sym (same.file log.file);
}

-- and calls on another file leave it
pub stays : (a b : DiskState) (log : GateLog) (entries : List (List ℕ)) (f : ℕ)
    (P : ℕ → Option (List ℕ) → Type 0) → StandsForEntries a log entries → Run a b f P → log.file ≢ f
    → StandsForEntries b log entries
stays a b log entries f P stands run other = record {
  reads = reads_stays a b log entries (run.file log.file other) stands.reads;
  settled = λ left fits. stands.settled left (subst (λ (x : Fates). Fits x left)
      (run.fates b.moment log.file other run.later (omega arith)) fits)
      ∙ sym (run.file log.file other);
}

-- and so do calls that leave every file
pub stands_quiet : (a b : DiskState) (log : GateLog) (entries : List (List ℕ))
    → StandsForEntries a log entries → Quiet a b
    → StandsForEntries b log entries
stands_quiet a b log entries stands quiet = stands_same a b log entries
    (quiet_same a b quiet) stands
