use Rattle.std.proofs.Common.{◌≡◌, ◌∷◌, [], ◌++◌, List, ℕ, Option, None, Some, ◌∙◌, ap, refl, subst, arith}
use Rattle.alt_disk.specs.Disk.{DiskState, overwritten, bytes_or_none}
use Rattle.alt_disk.proofs.Settled.{synced_settled}
use Rattle.alt_gatelog.specs.Log.{header, log_bytes}
use Rattle.alt_gatelog.specs.InHand.{Lasts}
use Rattle.alt_gatelog.specs.declared.form.Form.{Form}
use Rattle.alt_gatelog.specs.declared.form.Form.TheVariants.{One, Two}
use Rattle.alt_gatelog.proofs.Append.{length-front}
use Rattle.alt_gatelog.proofs.gatelog.GateLog.make.Goals as goal

-- an empty log, written behind nothing
alone : (form : Form) → overwritten [] 0 (header form ++ 0 ∷ []) ≡ log_bytes form [] 0 []
unfolding header
alone One = refl
alone Two = refl

-- and so into a missing file
written : (form : Form) (file : Option (List ℕ)) (bytes : List ℕ) → file ≡ None
    → bytes ≡ header form ++ 0 ∷ []
    → overwritten (bytes_or_none file) 0 bytes ≡ log_bytes form [] 0 []
written form file bytes none is =
    (λ i. overwritten (bytes_or_none (none i)) 0 (is i)) ∙ alone form

pub returns-clause-bytes : goal.returns-clause-bytes
returns-clause-bytes g c trusted =
    let f = c.args.f in
    (c.in_ok-write_and_sync.ensures.ok trusted).file
    ∙ ap (λ (l : List ℕ). Some l) (written c.args.form ((g.D.Disk.state c.args.disk.now).file f)
    c.empty_log.result (c.requires trusted) c.empty_log.ensures)

pub returns-clause-made : goal.returns-clause-made
returns-clause-made g c trusted =
    let s1 : DiskState = g.D.Disk.state c.write_and_sync.new.disk in
    let f = c.args.f in
    let form = c.args.form in
    let none : List (List ℕ) = [] in
    let lasts : Lasts s1 f (log_bytes form [] 0 []) =
    subst (Lasts s1 f) (written form ((g.D.Disk.state c.args.disk.now).file f)
    c.empty_log.result (c.requires trusted) c.empty_log.ensures)
    (c.in_ok-write_and_sync.ensures.ok trusted) in
    record {
      reads = record {
        gate = 0;
        closed = omega arith;
        rest = [];
        file = lasts.file;
        lengths =
            tt;
        is_at = omega (arith, length-front form none);
        are_at = c.reserve.ensures.items ∙ c.new-places.ensures.items;
      };
      settled = synced_settled s1 f (log_bytes form [] 0 []) lasts.file lasts.kept;
    }
