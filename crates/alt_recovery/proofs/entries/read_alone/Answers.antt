-- One write, in a list.
use Rattle.alt_gatelog.specs.declared.form.Form.TheVariants.{One}
use Rattle.alt_layout.specs.Entries.{IsNoEntry}
use Rattle.alt_writes.specs.Reading.{IsNoWrite}
use Rattle.alt_recovery.proofs.EntryLaws.{none_alone}
use Rattle.alt_recovery.proofs.entries.read_alone.Goals as goal
use Rattle.alt_writes.proofs.ReadLaws.{none_map}

pub returns-in-Err-clause-none : goal.returns-in-Err-clause-none
returns-in-Err-clause-none c =
    none_map (IsNoWrite c.args.least c.args.bytes.now)
    (IsNoEntry One c.args.least c.args.bytes.now) c.in-Err.stop
    (none_alone c.args.least c.args.bytes.now) c.in-Err.ensures.none
