use Rattle.std.proofs.Common.{◌≡◌, ◌<◌, ◌+◌, ◌-◌, ◌^◌, ℕ, List, IsTrue, length, sym, ◌∙◌, ap, subst, arith}
use Rattle.std.specs.List.{All}
use Rattle.alt_base.proofs.Options.{ok_is_no_error}
use Rattle.alt_disk.specs.Disk.{DiskState, contents, bytes_or_none}
use Rattle.alt_disk.proofs.Calls.{goes_on}
use Rattle.alt_disk.proofs.Runs.{quiet_then}
use Rattle.alt_gatelog.specs.Parse.{GateIs, HasRoom, HasEntry, IsCutAt}
use Rattle.alt_gatelog.specs.declared.frame.Gate.TheVariants.{Open}
use Rattle.alt_gatelog.proofs.Append.{below_push}
use Rattle.alt_gatelog.specs.declared.fault.LogFault.TheVariants.{Failed}
use Rattle.alt_gatelog.proofs.Entries.{ReadSoFar, read_more, cut_explains}
use Rattle.alt_gatelog.proofs.read.walk.Goals as goal

pub returns-in-Err-clause-damaged : goal.returns-in-Err-clause-damaged
returns-in-Err-clause-damaged g c told =
    let a : DiskState = g.D.Disk.state c.args.disk.now in
    let b : DiskState = g.D.Disk.state c.gates.disk in
    let f = c.args.f in
    let inv = c.gates.invariant in
    let told_b : IsTrue b.tells = subst (λ v. IsTrue v) (sym inv.goes.tells) told in
    let same : contents b f ≡ contents a f = ap bytes_or_none ((inv.quiet told).file f) in
    let cut = subst (λ (bytes : List ℕ). IsCutAt f c.gates.at bytes c.in-Err.fault) same
    (c.in-Err.ensures.damaged told_b (c.requires.size told ∙ ap length (sym same))) in
    cut_explains c.args.form f c.gates.at (contents a f) c.gates.places.items c.in-Err.fault
    (inv.read told) cut

pub gates-preserved : goal.gates-preserved
gates-preserved g c =
    let a : DiskState = g.D.Disk.state c.args.disk.now in
    let b : DiskState = g.D.Disk.state c.gates.disk in
    let d : DiskState = g.D.Disk.state c.gate_at.new.disk in
    let f = c.args.f in
    let inv = c.gates.invariant in
    let gate = c.in-Ok-Open.ensures in
    let n = c.in-Ok-Open.length in
    let left = c.args.size - c.gates.at in
    let room : HasRoom left (Open n) = subst (HasRoom left) c.in-Ok-Open.field-0-is gate.room in
    let told_b = λ (told : IsTrue a.tells). subst (λ v. IsTrue v) (sym inv.goes.tells) told in
    let same = λ (told : IsTrue a.tells). ap bytes_or_none ((inv.quiet told).file f) in
    record {
      within = omega (arith, room, inv.within);
      small = subst (All (λ at. at < 2 ^ 62)) (sym c.in_ok-push-in-Ok-Open.ensures.items)
          (below_push c.gates.places.items c.gates.at inv.small
          (omega (arith, room, c.requires.bound.1)));
      well = gate.well (ok_is_no_error c.in-Ok-Open.field-0 Failed) ∙ inv.well;
      goes = goes_on a b d inv.goes c.gate_at.ensures.goes;
      quiet = λ told. quiet_then a b d (inv.quiet told) (c.gate_at.ensures.quiet (told_b told));
      read = λ told.
          let here = subst (GateIs (contents b f) c.gates.at) c.in-Ok-Open.field-0-is
          (gate.gate (told_b told) (c.requires.size told ∙ ap length (sym (same told)))) in
          let has : HasEntry (contents a f) c.gates.at n =
          subst (λ (bytes : List ℕ). HasEntry bytes c.gates.at n) (same told) here in
          subst (ReadSoFar c.args.form (contents a f) (c.gates.at + (9 + n)))
          (sym c.in_ok-push-in-Ok-Open.ensures.items)
          (read_more c.args.form (contents a f) c.gates.at n c.gates.places.items
          (omega (arith, room, c.requires.bound.1)) (inv.read told) has);
    }
