-- What the last of the writes to the table noted goes on, and else the front is read.
use Rattle.std.proofs.Common.{◌≡◌, sym, subst, ◌∙◌, Some}
use Rattle.std.proofs.lemmas.Option.{same_Some}
use Rattle.std.specs.FinMap as map
use Rattle.alt_disk.specs.Disk.{DiskState}
use Rattle.alt_layout.specs.Layout.{Layout}
use Rattle.alt_machine.specs.State.{Table}
use Rattle.alt_tables.specs.Several.{with_batches}
use Rattle.alt_tables.specs.Stands.{catalog_of, next_write_of_tables}
use Rattle.alt_tables.specs.declared.several.Noted.{Noted}
use Rattle.alt_tables.specs.declared.tables.Tables.{Tables}
use Rattle.alt_tables.specs.private.Staging.{IsTouched}
use Rattle.alt_tables.proofs.Ahead.{first_behind, touched_by, untouched_by}
use Rattle.alt_tables.proofs.Noting.{note_is}
use Rattle.alt_tables.proofs.Staged.{ahead_known}
use Rattle.alt_tables.proofs.TrimSteps.{trimmed_known}
use Rattle.alt_tables.proofs.tables.Tables.trim_behind.Goals as goal

pub trim_again-requires-clause-last : goal.trim_again-requires-clause-last
trim_again-requires-clause-last g c =
    (note_is (catalog_of c.args.self.now) (next_write_of_tables c.args.self.now) c.args.table.now
    c.args.notes.now c.in-Some.last.now c.requires.notes (sym c.in-Some.ensures)).1

pub returns-in-Ok-clause-trim : goal.returns-in-Ok-clause-trim
returns-in-Ok-clause-trim g c s r l batches t stands rows distinct ahead at =
    let m : Layout = with_batches l batches in
    let last : Noted = c.in-Some.last.now in
    let (u, at_u, touched) = touched_by l s c.args.moment c.args.notes.now batches r ahead
    c.args.table.now last c.in-Some.ensures in
    let same : u ≡ t = same_Some u t (sym at_u ∙ at) in
    let is : IsTouched l m c.args.moment last.trim t =
    subst (λ (v : Table). IsTouched l m c.args.moment last.trim v) same touched in
    record {
      before = sym is.trimmed;
      again = c.in-Ok.ensures.trim s l m t stands rows
          (ahead_known (g.D.Disk.state c.args.disk.now) c.args.self.now s stands l c.args.moment
          c.args.notes.now batches r ahead c.args.table.now t at) is;
    }

pub returns-in-Err-clause-fault : goal.returns-in-Err-clause-fault
returns-in-Err-clause-fault g c s r l batches stands rows ahead =
    let (u, at, touched) = touched_by l s c.args.moment c.args.notes.now batches r ahead
    c.args.table.now c.in-Some.last.now c.in-Some.ensures in
    c.in-Err.ensures.fault s l (with_batches l batches) u stands touched

pub returns-in-Ok-trim-clause-trim : goal.returns-in-Ok-trim-clause-trim
returns-in-Ok-trim-clause-trim g c s r l batches t stands rows distinct ahead at =
    let a : DiskState = g.D.Disk.state c.args.disk.now in
    let old : Tables = c.args.self.now in
    let still = untouched_by l s c.args.moment c.args.notes.now batches r ahead c.args.table.now
    c.in_default.ensures in
    let was : map.get s.tables c.args.table.now ≡ Some t = sym still.same ∙ at in
    record {
      before = c.trimmed-before.ensures.trimmed
          ∙ trimmed_known a old s c.args.table.now t stands was;
      again = first_behind l (with_batches l batches) t c.args.moment
          (λ family stream key. still.rows t family was stream key) c.in-Ok-trim.trim
          (c.in-Ok-trim.ensures.trim s t l stands was rows)
          (c.in-Ok-trim.ensures.rest s t l stands was rows);
    }
