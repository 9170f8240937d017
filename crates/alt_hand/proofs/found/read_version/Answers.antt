-- The families, and then the segments.
use Rattle.std.proofs.Common.{ℕ, List, refl, sym, ap, subst, ◌∙◌}
use Rattle.alt_disk.specs.Disk.{DiskState}
use Rattle.alt_disk.proofs.Staying.{tells_on}
use Rattle.alt_layout.specs.Families.{flushed_of}
use Rattle.alt_layout.specs.Files.{Image}
use Rattle.alt_manifest.specs.InHand.{version_of}
use Rattle.alt_manifest.specs.declared.version.FamilyVersion.{FamilyVersion}
use Rattle.alt_recovery.specs.Families.{AreOpenedFamilies, ExplainsFamilies}
use Rattle.alt_recovery.specs.Replays.{ExplainsSegments, ReplaysLast}
use Rattle.alt_recovery.specs.declared.replay.Replay.{Replay}
use Rattle.alt_hand.specs.Recovery.{ExplainsStore}
use Rattle.alt_hand.proofs.FoundLaws.{families_explain, found_of, segments_explain, version_there}
use Rattle.alt_hand.proofs.found.read_version.Goals as goal

pub returns-in-Err-clause-damaged : goal.returns-in-Err-clause-damaged
returns-in-Err-clause-damaged g c told reads first =
    let a : DiskState = g.D.Disk.state c.args.disk.now in
    let m = c.args.manifest in
    subst (ExplainsStore a.file) (sym c.from.ensures)
    (families_explain a.file (version_of m) (version_there a m reads first) c.in-Err.fault
    (subst (λ (fs : List FamilyVersion). ExplainsFamilies a.file fs c.in-Err.fault)
    (c.as_slice.ensures ∙ ap (λ v. v.families) c.current.ensures)
    (c.in-Err.ensures.explained told)))

pub returns-in-Ok-replay_segments-clause-ok : goal.returns-in-Ok-replay_segments-clause-ok
returns-in-Ok-replay_segments-clause-ok g c told reads first =
    let a : DiskState = g.D.Disk.state c.args.disk.now in
    let b : DiskState = g.D.Disk.state c.open_families.new.disk in
    let d : DiskState = g.D.Disk.state c.replay_segments.new.disk in
    let m = c.args.manifest in
    let told_b = tells_on a b c.open_families.ensures.goes told in
    let opened = c.in-Ok.ensures.ok told in
    let start : Replay = record {
      families = c.in-Ok.families;
      flushed = c.in_ok-flushed.flushed;
      least = 1;
      length = 0;
    } in
    found_of a b d m c.in-Ok.families c.in_ok-flushed.flushed start c.replay_segments.new.replay
    c.in-Ok-replay_segments.log opened.0 reads first (c.open_families.ensures.quiet told)
    (c.replay_segments.ensures.quiet told_b)
    (subst (λ (fs : List FamilyVersion). AreOpenedFamilies b opened.0 fs c.in-Ok.families)
    (c.as_slice.ensures ∙ ap (λ v. v.families) c.current.ensures) opened.1)
    (λ family. c.in_ok-flushed.ensures family ∙ ap (λ fs. flushed_of fs family)
    (c.as_slice-2.ensures ∙ ap (λ v. v.families) c.current-2.ensures)) refl
    (subst (λ (fs : List ℕ). ReplaysLast d fs start c.replay_segments.new.replay
    c.in-Ok-replay_segments.log)
    (c.as_slice-3.ensures ∙ ap (λ v. v.segments) c.current-3.ensures)
    (c.in-Ok-replay_segments.ensures.ok told_b))
    c.engine_of.result c.engine_of.ensures.manifest c.engine_of.ensures.log
    c.engine_of.ensures.length c.engine_of.ensures.next c.engine_of.ensures.next_file
    c.engine_of.ensures.families

pub returns-in-Err-replay_segments-clause-damaged : goal.returns-in-Err-replay_segments-clause-damaged
returns-in-Err-replay_segments-clause-damaged g c told reads first =
    let a : DiskState = g.D.Disk.state c.args.disk.now in
    let b : DiskState = g.D.Disk.state c.open_families.new.disk in
    let m = c.args.manifest in
    subst (ExplainsStore a.file) (sym c.from-in-Err-replay_segments.ensures)
    (segments_explain a.file (version_of m) (version_there a m reads first)
    c.in-Err-replay_segments.fault
    (subst (λ (fs : List ℕ). ExplainsSegments a.file fs 1 c.in-Err-replay_segments.fault)
    (c.as_slice-3.ensures ∙ ap (λ v. v.segments) c.current-3.ensures)
    (subst (λ (files : Image). ExplainsSegments files c.as_slice-3.result.now 1
    c.in-Err-replay_segments.fault) (λ i f. (c.open_families.ensures.quiet told).file f i)
    (c.in-Err-replay_segments.ensures.explained (tells_on a b c.open_families.ensures.goes told)))))
