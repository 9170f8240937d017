-- An entry that wasn't read, or holds no writes.
use Rattle.std.proofs.Common.{◌≡◌, ◌++◌, ℕ, List, [], get_or, refl, sym, ap, subst, ◌∙◌}
use Rattle.alt_disk.specs.Disk.{DiskState}
use Rattle.alt_gatelog.specs.InHand.{form_of, ReadsEntries}
use Rattle.alt_gatelog.specs.declared.form.Form.{Form}
use Rattle.alt_gatelog.specs.declared.gatelog.GateLog.{GateLog}
use Rattle.alt_layout.specs.Entries.{IsEntry, IsNoEntry}
use Rattle.alt_writes.specs.Reading.{IsNone, writes_of}
use Rattle.alt_recovery.proofs.EntryLaws.{undamaged_entry}
use Rattle.alt_recovery.proofs.entries.read_entry.Goals as goal

pub returns-in-Err-clause-damaged : goal.returns-in-Err-clause-damaged
returns-in-Err-clause-damaged g c told entries reads =
    undamaged_entry (form_of c.args.log.now) c.args.f entries c.args.i c.args.least c.in-Err.fault
    (c.in-Err.ensures.undamaged told entries reads)

pub returns-in-Err-Bad-clause-damaged : goal.returns-in-Err-Bad-clause-damaged
returns-in-Err-Bad-clause-damaged g c told entries reads =
    let s : DiskState = g.D.Disk.state c.args.disk.now in
    let entry = get_or entries c.args.i [] in
    let form : c.form.result ≡ form_of c.args.log.now =
    c.form.ensures ∙ ap form_of c.in-Ok.ensures.list in
    let read : c.as_slice.result.now ≡ entry =
    c.as_slice.ensures.value ∙ c.in-Ok.ensures.ok told entries reads
    ∙ ap (λ (l : List ℕ). l ++ entry) c.new-bytes.ensures.items in (
      refl,
      c.place.ensures s entries
          (subst (λ (l : GateLog). ReadsEntries s l entries) (sym c.in-Ok.ensures.list) reads),
      subst (λ (x : Form). IsNoEntry x c.args.least entry) form
          (subst (IsNoEntry c.form.result c.args.least) read
          (subst (IsNone (IsNoEntry c.form.result c.args.least c.as_slice.result.now))
          c.in-Err-Bad.field-0-is c.in-Err-Bad.ensures.none)),
    )

pub returns-in-Ok-read_writes-clause-entry : goal.returns-in-Ok-read_writes-clause-entry
returns-in-Ok-read_writes-clause-entry g c told entries reads =
    let entry = get_or entries c.args.i [] in
    let form : c.form.result ≡ form_of c.args.log.now =
    c.form.ensures ∙ ap form_of c.in-Ok.ensures.list in
    let read : c.as_slice.result.now ≡ entry =
    c.as_slice.ensures.value ∙ c.in-Ok.ensures.ok told entries reads
    ∙ ap (λ (l : List ℕ). l ++ entry) c.new-bytes.ensures.items in
    let ws = writes_of c.in-Ok-read_writes.writes.items in
    subst (λ (x : Form). IsEntry x entry ws) form
    (subst (λ (bytes : List ℕ). IsEntry c.form.result bytes ws) read
    c.in-Ok-read_writes.ensures.entry)
