-- What each write at the end of a file leaves.
use Rattle.std.proofs.Common.{◌≡◌, ◌+◌, ◌==◌, ℕ, Bool, IsTrue, true, List, [], ◌++◌, length, take, drop, Some, refl, ap, ◌∙◌, arith}
use Rattle.std.proofs.lemmas.List.{take_all, drop_all, append-nil}
use Rattle.std.specs.Prelude.{Result, Ok, Err}
use Rattle.std.specs.Result.{IsErrOf}
use Rattle.std.proofs.lemmas.Bool.{false≢true}
use Rattle.alt_disk.specs.declared.disk.DiskFault.{DiskFault}
use Rattle.alt_disk.specs.declared.disk.DiskFault.TheVariants.{Failed, NoMemory}
use Rattle.alt_disk.specs.Disk.{DiskState, call_answered, Call, Written, Synced, contents, bytes_or_none, overwritten}
use Rattle.alt_disk.specs.Runs.{Run, Spans}
use Rattle.alt_cells.specs.Walks.{Anything as All}
use Rattle.alt_rowfile.specs.Writing.{itself}
use Rattle.alt_disk.proofs.Runs.{RunSoFar, begun, started, run_spans, after_call, after_sync}
use Rattle.alt_rowfile.specs.Sinks.{AnyFileContents, Lasts}

-- bytes put at the end
pub put_end : (old bytes : List ℕ) (at : ℕ) → at ≡ length old
    → overwritten old at bytes ≡ old ++ bytes
put_end old bytes at is =
    let front : take at old ≡ old = take_all at old (omega (arith, is)) in
    let back : drop (at + length bytes) old ≡ [] =
    drop_all (at + length bytes) old (omega (arith, is)) in
    (λ i. front i ++ bytes ++ back i) ∙ append-nil (old ++ bytes)

-- one write leaves what a run of calls on the file may
pub wrote_run : (s0 s1 : DiskState) (f at : ℕ) (bytes : List ℕ) (ok : Bool) → Call s0 s1 ok
    → Written s0 s1 f at bytes ok → RunSoFar s0 s1 f AnyFileContents
wrote_run s0 s1 f at bytes ok call written =
    after_call s0 s0 s1 f AnyFileContents ok (begun s0 f AnyFileContents (λ left fits. tt)) call written.others
    (λ left fits. tt)

-- a sync behind a run of them does so too
pub synced_run : (s0 s1 s2 : DiskState) (f : ℕ) (ok : Bool) → RunSoFar s0 s1 f AnyFileContents
    → Call s1 s2 ok → Synced s1 s2 f ok → RunSoFar s0 s2 f AnyFileContents
synced_run s0 s1 s2 f ok so_far call synced =
    after_sync s0 s1 s2 f AnyFileContents ok so_far call synced (λ left p. tt)

-- what a write leaves of a file that had these bytes
pub put_file : (s0 s1 : DiskState) (f at : ℕ) (done bytes : List ℕ) → contents s0 f ≡ done
    → at ≡ length done → Written s0 s1 f at bytes true → s1.file f ≡ Some (done ++ bytes)
put_file s0 s1 f at done bytes is place written =
    written.file refl
    ∙ ap (λ (l : List ℕ). Some l) (ap (λ (l : List ℕ). overwritten l at bytes) is
    ∙ put_end done bytes at place)

-- what is put at the end of a file stands behind what it had
pub put_contents : (s0 s1 : DiskState) (f at : ℕ) (done bytes : List ℕ) → contents s0 f ≡ done
    → at ≡ length done → Written s0 s1 f at bytes true → contents s1 f ≡ done ++ bytes
put_contents s0 s1 f at done bytes is place written =
    ap bytes_or_none (put_file s0 s1 f at done bytes is place written)

-- and a sync behind it
pub lasts_after : (s0 s1 s2 : DiskState) (f at : ℕ) (done bytes : List ℕ) → contents s0 f ≡ done
    → at ≡ length done → Written s0 s1 f at bytes true → Synced s1 s2 f true
    → s2.file f ≡ s1.file f → Lasts s2 f (done ++ bytes)
lasts_after s0 s1 s2 f at done bytes is place written synced same =
    let there = put_file s0 s1 f at done bytes is place written in
    record { file = same ∙ there; kept = synced.there (done ++ bytes) refl there }

-- a run on the file, as one that leaves all others
pub writer_spans : (s t : DiskState) (f : ℕ) → Run s t f AnyFileContents
    → Spans s t (λ g. IsTrue (g == f)) All
writer_spans s t f run =
    run_spans s t f AnyFileContents (λ g. IsTrue (g == f)) All run (itself f) (λ t image here others. tt)

-- where no call is made the other files stay
pub none_spans : (s : DiskState) (f : ℕ) → Spans s s (λ g. IsTrue (g == f)) All
none_spans s f = writer_spans s s f (started s f AnyFileContents (λ left fits. tt))

-- any answer but Failed leaves the count of faults
pub well_answered : {P : Type 0} (r : Result Unit DiskFault) → ((IsErrOf r Failed → ⊥) → P)
    → IsTrue (call_answered r) → P
well_answered (Ok done) w told = w (λ e. cc e)
well_answered (Err Failed) w told = absurd (false≢true told)
well_answered (Err NoMemory) w told = w (λ e. cc e)
