-- The names, and then the removals.
use Rattle.std.proofs.Common.{◌≡◌, ◌==◌, ◌≤◌, ℕ, List, sym, subst, ◌∙◌, true}
use Rattle.std.specs.Prelude.{⊤}
use Rattle.std.specs.List.{list_any}
use Rattle.alt_disk.specs.Disk.{DiskState}
use Rattle.alt_disk.proofs.Runs.{quiet_on, quiet_spans, quiet_start, spans_on, spans_weaker, tells_of, trusted_on}
use Rattle.alt_disk.proofs.Staying.{tells_on}
use Rattle.alt_manifest.specs.declared.version.Version.{Version}
use Rattle.alt_layout.specs.Files.{IsOf}
use Rattle.alt_flush.specs.Drafts.{IsLeftOver}
use Rattle.alt_flush.proofs.RemoveLaws.{listed_in}
use Rattle.alt_recovery.specs.Others.{IsOther}
use Rattle.alt_hand.specs.Found.{version_in}
use Rattle.alt_hand.proofs.KeepLaws.{found_reads, gone_named, next_past-least}
use Rattle.alt_hand.proofs.recover.keep_named.Goals as goal

pub returns-in-Ok-remove_left_over-clause-gone : goal.returns-in-Ok-remove_left_over-clause-gone
returns-in-Ok-remove_left_over-clause-gone g c told f other =
    let a : DiskState = g.D.Disk.state c.args.disk.now in
    let b : DiskState = g.D.Disk.state c.names.new.self in
    let d : DiskState = g.D.Disk.state c.remove_left_over.new.disk in
    let told_b = tells_on a b c.names.ensures.call.call.goes told in
    gone_named (version_in c.args.engine) c.names.new.list.items a.file d.file (c.in-Ok.ensures.names told)
    (λ h listed apart. c.in-Ok-remove_left_over.ensures.gone told_b h (
      listed_in c.as_slice-2.result.now h
          (subst (λ (l : List ℕ). list_any (λ n. h == n) l ≡ true) (sym c.as_slice-2.ensures.value) listed),
      subst (λ (v : Version). IsOther v h) (sym c.current.ensures) apart,
    ))
    (λ h missing. c.remove_left_over.ensures.none told_b h ((c.names.ensures.same told).file h ∙ missing))
    f other

pub returns-in-Ok-remove_left_over-clause-ok : goal.returns-in-Ok-remove_left_over-clause-ok
returns-in-Ok-remove_left_over-clause-ok g c told l found =
    let a : DiskState = g.D.Disk.state c.args.disk.now in
    let b : DiskState = g.D.Disk.state c.names.new.self in
    let d : DiskState = g.D.Disk.state c.remove_left_over.new.disk in
    let e = c.args.engine in
    let told_b = tells_on a b c.names.ensures.call.call.goes told in
    found_reads a d e l c.next_file.result found
    (λ f of. c.remove_left_over.ensures.kept told_b f
    (subst (λ (v : Version). IsOf v f) (sym c.current.ensures) of) ∙ (c.names.ensures.same told).file f)
    (subst (λ (n : ℕ). e.next_file ≤ n) (sym c.next_file.ensures)
    (next_past-least e.next_file c.as_slice.result.now))
    (returns-in-Ok-remove_left_over-clause-gone g c told) c.has_full.result c.has_full.ensures

pub returns-in-Ok-remove_left_over-clause-any_moment : goal.returns-in-Ok-remove_left_over-clause-any_moment
returns-in-Ok-remove_left_over-clause-any_moment g c trusted =
    let a : DiskState = g.D.Disk.state c.args.disk.now in
    let b : DiskState = g.D.Disk.state c.names.new.self in
    let d : DiskState = g.D.Disk.state c.remove_left_over.new.disk in
    let v = version_in c.args.engine in
    spans_on a b d (IsOther v) (λ _ _. ⊤)
    (quiet_spans a b (IsOther v) (λ _ _. ⊤)
    (quiet_on a a b _ (quiet_start a) c.names.ensures.call.call
    (c.names.ensures.same (tells_of a trusted))) (λ t image is. tt))
    (spans_weaker b d (IsLeftOver c.as_slice-2.result.now c.current.result.now) (IsOther v) (λ _ _. ⊤)
    (λ _ _. ⊤) (c.remove_left_over.ensures.spans (trusted_on a b c.names.ensures.call.call.goes trusted))
    (λ f over. subst (λ (w : Version). IsOther w f) c.current.ensures over.1) (λ t image any. any))

pub returns-in-Err-remove_left_over-clause-any_moment : goal.returns-in-Err-remove_left_over-clause-any_moment
returns-in-Err-remove_left_over-clause-any_moment g c trusted =
    let a : DiskState = g.D.Disk.state c.args.disk.now in
    let b : DiskState = g.D.Disk.state c.names.new.self in
    let d : DiskState = g.D.Disk.state c.remove_left_over.new.disk in
    let v = version_in c.args.engine in
    spans_on a b d (IsOther v) (λ _ _. ⊤)
    (quiet_spans a b (IsOther v) (λ _ _. ⊤)
    (quiet_on a a b _ (quiet_start a) c.names.ensures.call.call
    (c.names.ensures.same (tells_of a trusted))) (λ t image is. tt))
    (spans_weaker b d (IsLeftOver c.as_slice-2.result.now c.current.result.now) (IsOther v) (λ _ _. ⊤)
    (λ _ _. ⊤) (c.remove_left_over.ensures.spans (trusted_on a b c.names.ensures.call.call.goes trusted))
    (λ f over. subst (λ (w : Version). IsOther w f) c.current.ensures over.1) (λ t image any. any))
