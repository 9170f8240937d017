-- A file of the family's rows, or nothing where it has none.
use Rattle.std.proofs.Common.{◌≡◌, ◌-◌, inl, [], refl, sym, ap, subst, ◌∙◌, arith, rules}
use Rattle.std.specs.BTreeMap.{get}
use Rattle.std.specs.FinMap.{entries}
use Rattle.std.specs.Ordering.{nat_cmp}
use Rattle.alt_disk.specs.Disk.{DiskState}
use Rattle.alt_layout.specs.Layout.{RowMap}
use Rattle.alt_manifest.specs.declared.version.Version.{Version}
use Rattle.alt_rowfile.specs.InHand.{StandsForRows as RowFileStands}
use Rattle.alt_rowfile.specs.Sinks.{AnyFileContents}
use Rattle.alt_families.specs.Families.{rows_in}
use Rattle.alt_drafts.specs.Drafting.{Makes, files_for, is_some_row, IsLeftOut}
use Rattle.alt_drafts.proofs.DeadLaws.{no_rows_in}
use Rattle.alt_drafts.proofs.MakesLaws.{makes_flush}
use Rattle.alt_drafts.proofs.NeedLaws.{files_for-empty, none_flushed, one_flushed}
use Rattle.alt_drafts.specs.Carrying.{CarriesDraft}
use Rattle.alt_drafts.proofs.CarryDrafts.{carries_flush, carries_same}
use Rattle.alt_flush.specs.Laws.{DropsOnly}
use Rattle.alt_flush.proofs.NamedLaws.{flush_drops}
use Rattle.alt_layout.specs.Families.{files_of, flushed_of}
use Rattle.alt_layout.proofs.FlushedFiles.{of-other}
use Rattle.alt_manifest.specs.declared.version.FamilyVersion.{FamilyVersion}
use Rattle.alt_drafts.proofs.LeftOutLaws.{named_file}
use Rattle.alt_drafts.proofs.flushing.flush_rows.Goals as goal

pub returns-then-not-has_rows-clause-flushed : goal.returns-then-not-has_rows-clause-flushed
returns-then-not-has_rows-clause-flushed g c = none_flushed (get nat_cmp c.args.families.now c.args.family)
    (sym (ap rows_in c.in-Some.ensures.value)
    ∙ no_rows_in c.in-Some.found.now.table.0 (sym c.has_rows.ensures ∙ c.if-not-has_rows.true))

pub returns-in-None-clause-flushed : goal.returns-in-None-clause-flushed
returns-in-None-clause-flushed g c = none_flushed (get nat_cmp c.args.families.now c.args.family)
    (sym (ap rows_in c.in-None.ensures.value))

pub returns-clause-flushed : goal.returns-clause-flushed
returns-clause-flushed g c = one_flushed (get nat_cmp c.args.families.now c.args.family)
    (get nat_cmp c.put_file.new.families c.args.family) c.in_ok-made-in-Some.made
    c.in_ok-put_file.ensures.rows c.in_ok-put_file.ensures.files
    (sym (ap (λ o. is_some_row (entries (rows_in o))) c.in-Some.ensures.value)
    ∙ sym c.has_rows.ensures ∙ c.if-not-has_rows.false)

pub returns-in-None-clause-file : goal.returns-in-None-clause-file
returns-in-None-clause-file g c =
    let none : files_for (entries (rows_in (get nat_cmp c.args.families.now c.args.family))) ≡ 0 =
    sym (ap (λ o. files_for (entries (rows_in o))) c.in-None.ensures.value) ∙ files_for-empty in
    omega (arith, none)

pub returns-clause-makes : goal.returns-clause-makes
returns-clause-makes g c trusted parts l makes =
    let a : DiskState = g.D.Disk.state c.args.disk.now in
    let b : DiskState = g.D.Disk.state c.write_rows.new.disk in
    let made = c.in_ok-made-in-Some in
    subst (λ (v : Version). Makes b v c.put_file.new.families parts l) (sym c.in_ok-next.ensures)
    (makes_flush a b c.args.draft c.args.families.now parts l makes c.args.family
    (let fits = c.ranges.family in omega (arith, fits)) (search rules) AnyFileContents
    (made.ensures.any_moment trusted) made.made made.ensures.file
    (subst (λ (m : RowMap). RowFileStands b made.made (entries m))
    (ap rows_in c.in-Some.ensures.value) (made.ensures.rows trusted))
    c.put_file.new.families c.in_ok-put_file.ensures.rows c.in_ok-put_file.ensures.files
    c.in_ok-put_file.ensures.others)

pub returns-then-not-has_rows-clause-carries : goal.returns-then-not-has_rows-clause-carries
returns-then-not-has_rows-clause-carries g c trusted parts l makes other = carries_same
    (g.D.Disk.state c.args.disk.now) c.args.draft (get nat_cmp c.args.families.now other) other

pub returns-in-None-clause-carries : goal.returns-in-None-clause-carries
returns-in-None-clause-carries g c trusted parts l makes other = carries_same
    (g.D.Disk.state c.args.disk.now) c.args.draft (get nat_cmp c.args.families.now other) other

pub returns-clause-carries : goal.returns-clause-carries
returns-clause-carries g c trusted parts l makes other =
    let a : DiskState = g.D.Disk.state c.args.disk.now in
    let b : DiskState = g.D.Disk.state c.write_rows.new.disk in
    let made = c.in_ok-made-in-Some in
    subst (λ (v : Version). CarriesDraft a b c.args.draft v (get nat_cmp c.args.families.now other)
    (get nat_cmp c.put_file.new.families other) other) (sym c.in_ok-next.ensures)
    (carries_flush a b c.args.draft c.args.families.now parts l makes c.args.family AnyFileContents
    (made.ensures.any_moment trusted) made.made made.ensures.file
    (subst (λ (m : RowMap). RowFileStands b made.made (entries m))
    (ap rows_in c.in-Some.ensures.value) (made.ensures.rows trusted))
    c.put_file.new.families c.in_ok-put_file.ensures.files c.in_ok-put_file.ensures.others other)

pub returns-then-not-has_rows-clause-drops : goal.returns-then-not-has_rows-clause-drops
returns-then-not-has_rows-clause-drops g c f there = inl there

pub returns-in-None-clause-drops : goal.returns-in-None-clause-drops
returns-in-None-clause-drops g c f there = inl there

pub returns-clause-drops : goal.returns-clause-drops
returns-clause-drops g c = subst (λ (v : Version). DropsOnly c.args.draft v [])
    (sym c.in_ok-next.ensures) (flush_drops c.args.draft c.args.family)

pub returns-clause-apart : goal.returns-clause-apart
returns-clause-apart g c other apart = ap (λ (v : Version). files_of v.families other) c.in_ok-next.ensures
    ∙ of-other (λ (f : FamilyVersion). f.files) c.args.family (c.args.draft.next_number - 1)
    c.args.draft.next_file other [] (λ fs. files_of fs other) refl (λ f fs. refl) apart
    c.args.draft.families

pub returns-clause-past : goal.returns-clause-past
returns-clause-past g c other flushed apart left =
    let family = c.args.family in
    let u = c.args.draft in
    subst (λ (v : Version). IsLeftOut v other flushed) (sym c.in_ok-next.ensures) (record {
      named = named_file family (u.next_number - 1) u.next_file other u.families left.named;
      files = of-other (λ (f : FamilyVersion). f.files) family (u.next_number - 1) u.next_file other []
          (λ fs. files_of fs other) refl (λ f fs. refl) apart u.families ∙ left.files;
      flushed = of-other (λ (f : FamilyVersion). f.flushed) family (u.next_number - 1) u.next_file other 0
          (λ fs. flushed_of fs other) refl (λ f fs. refl) apart u.families ∙ left.flushed;
    })

pub returns-then-not-has_rows-clause-past : goal.returns-then-not-has_rows-clause-past
returns-then-not-has_rows-clause-past g c other flushed apart left = left

pub returns-in-None-clause-past : goal.returns-in-None-clause-past
returns-in-None-clause-past g c other flushed apart left = left
