-- The writes of an entry, by the form of its log.
use Rattle.std.proofs.Common.{◌≡◌, IfOk, IfErr, sym, subst}
use Rattle.alt_gatelog.specs.declared.form.Form.{Form}
use Rattle.alt_gatelog.specs.declared.form.Form.TheVariants.{Two}
use Rattle.alt_gatelog.proofs.OneList.{if_err}
use Rattle.alt_layout.specs.Entries.{IsEntry, IsNoEntry}
use Rattle.alt_manifest.proofs.RecoverLaws.{if_both}
use Rattle.alt_writes.specs.Bytes.{AllHeld, IsHeldGroup, group_bytes}
use Rattle.alt_writes.specs.Reading.{IsNoGroup, IsNone, writes_of}
use Rattle.alt_recovery.proofs.EntryLaws.{none_group}
use Rattle.alt_recovery.proofs.entries.read_writes.Goals as goal
use Rattle.alt_writes.proofs.ReadLaws.{none_map}

pub returns-in-One-clause-entry : goal.returns-in-One-clause-entry
returns-in-One-clause-entry c =
    subst (λ (form : Form). IfOk c.read_alone.result
    (λ reads. IsEntry form c.args.bytes.now (writes_of reads.items))) (sym c.in-One.is)
    c.read_alone.ensures.entry

pub returns-in-One-clause-none : goal.returns-in-One-clause-none
returns-in-One-clause-none c =
    subst (λ (form : Form). IfErr c.read_alone.result
    (IsNone (IsNoEntry form c.args.least c.args.bytes.now))) (sym c.in-One.is)
    c.read_alone.ensures.none

pub returns-in-Two-clause-held : goal.returns-in-Two-clause-held
returns-in-Two-clause-held c =
    if_both c.read_group.result (λ reads. IsHeldGroup (writes_of reads.items))
    (λ reads. IsHeldGroup (writes_of reads.items)) (λ reads. AllHeld (writes_of reads.items))
    (λ reads held same. held.writes) c.read_group.ensures.held c.read_group.ensures.held

pub returns-in-Two-clause-entry : goal.returns-in-Two-clause-entry
returns-in-Two-clause-entry c =
    subst (λ (form : Form). IfOk c.read_group.result
    (λ reads. IsEntry form c.args.bytes.now (writes_of reads.items))) (sym c.in-Two.is)
    (if_both c.read_group.result (λ reads. IsHeldGroup (writes_of reads.items))
    (λ reads. c.args.bytes.now ≡ group_bytes (writes_of reads.items))
    (λ reads. IsEntry Two c.args.bytes.now (writes_of reads.items))
    (λ reads held is. (is, held)) c.read_group.ensures.held c.read_group.ensures.bytes)

pub returns-in-Two-clause-none : goal.returns-in-Two-clause-none
returns-in-Two-clause-none c =
    subst (λ (form : Form). IfErr c.read_group.result
    (IsNone (IsNoEntry form c.args.least c.args.bytes.now))) (sym c.in-Two.is)
    (if_err c.read_group.result (IsNone (IsNoGroup c.args.least c.args.bytes.now))
    (IsNone (IsNoEntry Two c.args.least c.args.bytes.now))
    (λ stop. none_map (IsNoGroup c.args.least c.args.bytes.now)
    (IsNoEntry Two c.args.least c.args.bytes.now) stop
    (none_group c.args.least c.args.bytes.now)) c.read_group.ensures.none)
