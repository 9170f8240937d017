-- One piece more.
use Rattle.std.proofs.Common.{◌≡◌, ◌∙◌, ◌+◌, ◌++◌, ap, subst, arith, take, drop, List, ℕ, IsTrue}
use Rattle.alt_base.proofs.Options.{ok_is_no_error}
use Rattle.sha2.specs.Hashers.{Holds256}
use Rattle.alt_disk.specs.Disk.{DiskState, contents}
use Rattle.alt_disk.proofs.Calls.{goes_on}
use Rattle.alt_disk.proofs.Runs.{quiet_then}
use Rattle.alt_rowblocks.proofs.StreamLaws.{same_bytes, one_piece}
use Rattle.alt_disk.specs.declared.disk.DiskFault.TheVariants.{Failed}
use Rattle.alt_disk.proofs.Staying.{tells_on}
use Rattle.alt_rowblocks.proofs.digest.digest_up_to.Goals as goal

pub pieces-preserved : goal.pieces-preserved
pieces-preserved g c =
    let a : DiskState = g.D.Disk.state c.args.disk.now in
    let b : DiskState = g.D.Disk.state c.pieces.disk in
    let d : DiskState = g.D.Disk.state c.bytes_at.new.disk in
    let f = c.args.f in
    let inv = c.pieces.invariant in
    let told_b = λ (told : IsTrue a.tells). tells_on a b inv.goes told in
    record {
      within = omega (arith, c.min-count.ensures, inv.within, c.pieces-test.true);
      well = c.in_ok-piece.ensures.well (ok_is_no_error c.in_ok-piece.field-0 Failed) ∙ inv.well;
      goes = goes_on a b d inv.goes c.bytes_at.ensures.goes;
      quiet = λ told. quiet_then a b d (inv.quiet told) (c.bytes_at.ensures.quiet (told_b told));
      holds = λ told.
          let bytes = contents a f in
          let at = c.pieces.at in
          let n = c.min-count.result in
          let piece = rw c.in-Some.is at (c.in_ok-piece.ensures.bytes (told_b told)) in
          let whole : take at bytes ++ c.as_slice.result.now ≡ take (at + n) bytes =
          ap (λ (l : List ℕ). take at bytes ++ l) (c.as_slice.ensures.value ∙ piece
          ∙ ap (λ (l : List ℕ). take n (drop at l)) (same_bytes a b f (inv.quiet told)))
          ∙ one_piece bytes at n in
          subst (Holds256 c.update.new.self) whole
          (c.update.ensures (take at bytes) (inv.holds told));
    }
