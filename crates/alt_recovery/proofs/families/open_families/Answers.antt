-- From the last family back.
use Rattle.std.proofs.Common.{rules, ◌≡◌, ◌-◌, ℕ, List, IsTrue, drop, length, take, refl, sym, subst, ◌∙◌, arith}
use Rattle.std.proofs.lemmas.List.{drop_all}
use Rattle.std.specs.FinMap.{empty}
use Rattle.alt_disk.specs.Disk.{DiskState}
use Rattle.alt_disk.proofs.Calls.{goes_on, goes_refl}
use Rattle.alt_disk.proofs.Runs.{quiet_start, quiet_then}
use Rattle.alt_disk.proofs.Staying.{tells_on}
use Rattle.alt_families.specs.declared.family.Family.{Family}
use Rattle.alt_manifest.specs.declared.version.FamilyVersion.{FamilyVersion}
use Rattle.alt_recovery.specs.Families.{AreOpenedFamilies}
use Rattle.alt_recovery.specs.Opening.{AreOpened, ExplainsOpening}
use Rattle.alt_recovery.proofs.HeldLaws.{families_more, families_none, families_quiet, family_explains, with_all}
use Rattle.alt_recovery.proofs.NumberLaws.{back_split, drop_back}
use Rattle.alt_recovery.proofs.families.open_families.Goals as goal

pub loop-i-init : goal.loop-i-init
loop-i-init g c =
    let s : DiskState = g.D.Disk.state c.args.disk.now in
    let fs = c.args.families.now in
    record {
      goes = goes_refl s;
      well = refl;
      quiet = λ told. quiet_start s;
      done = λ told. record {
        held = λ f. empty;
        are = subst (λ (l : List FamilyVersion). AreOpenedFamilies s (λ f. empty) l c.new-opened.result)
            (sym (drop_all (length fs - 0) fs (omega arith)))
            (families_none s (λ f. empty) c.new-opened.result c.new-opened.ensures.empty);
      };
    }

pub returns-in-Err-clause-explained : goal.returns-in-Err-clause-explained
returns-in-Err-clause-explained g c told =
    let a : DiskState = g.D.Disk.state c.args.disk.now in
    let b : DiskState = g.D.Disk.state c.loop-i.disk in
    let fs = c.args.families.now in
    let k = length fs - 1 - c.loop-i.i in
    let f = c.index-families-families.result in
    family_explains a.file b.file fs (take k fs) (drop (length fs - c.loop-i.i) fs) f c.in-Err.fault
    (back_split fs c.loop-i.i k f c.loop-i-test.true refl c.index-families-families.is)
    (c.loop-i.invariant.quiet told).file
    (subst (λ (gs : List ℕ). ExplainsOpening b.file gs f.flushed c.in-Err.fault) c.as_slice.ensures
    (c.in-Err.ensures.explained (tells_on a b c.loop-i.invariant.goes told)))

pub loop-i-preserved : goal.loop-i-preserved
loop-i-preserved g c =
    let a : DiskState = g.D.Disk.state c.args.disk.now in
    let b : DiskState = g.D.Disk.state c.loop-i.disk in
    let d : DiskState = g.D.Disk.state c.open_files.new.disk in
    let fs = c.args.families.now in
    let f = c.index-families-families.result in
    let inv = c.loop-i.invariant in
    let rest = drop (length fs - c.loop-i.i) fs in
    let made : Family = record { table = c.new-table.result; files = c.in-Ok.files } in
    let told_b = λ (told : IsTrue a.tells). tells_on a b inv.goes told in
    record {
      goes = goes_on a b d inv.goes c.open_files.ensures.goes;
      well = c.in-Ok.ensures.well (search rules) ∙ inv.well;
      quiet = λ told. quiet_then a b d (inv.quiet told) (c.open_files.ensures.quiet (told_b told));
      done = λ told.
          let so_far = inv.done told in
          let opened = c.in-Ok.ensures.ok (told_b told) in
          record {
            held = with_all so_far.held f.files opened.0;
            are = subst (λ (l : List FamilyVersion). AreOpenedFamilies d
                (with_all so_far.held f.files opened.0) l c.insert.new.self)
                (sym (drop_back fs c.loop-i.i (length fs - 1 - c.loop-i.i) f c.loop-i-test.true refl
                c.index-families-families.is))
                (families_more d so_far.held rest f c.loop-i.opened c.insert.new.self made opened.0
                (families_quiet b d so_far.held rest c.loop-i.opened
                (c.open_files.ensures.quiet (told_b told)) so_far.are)
                (subst (λ (gs : List ℕ). AreOpened d f.flushed gs c.in-Ok.files.items opened.0)
                c.as_slice.ensures opened.1)
                c.new-table.ensures.rows c.in-Ok-insert.ensures.updates.0);
          };
    }

pub returns-clause-ok : goal.returns-clause-ok
returns-clause-ok g c told =
    let d : DiskState = g.D.Disk.state c.loop-i.disk in
    let fs = c.args.families.now in
    let all : length fs - c.loop-i.i ≡ 0 = omega (arith, c.loop-i-test.false) in
    let done = c.loop-i.invariant.done told in (
      done.held,
      subst (λ (n : ℕ). AreOpenedFamilies d done.held (drop n fs) c.loop-i.opened) all done.are,
    )
