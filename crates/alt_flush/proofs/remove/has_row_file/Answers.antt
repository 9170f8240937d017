-- A family more.
use Rattle.std.proofs.Common.{◌+◌, drop, subst, sym}
use Rattle.alt_layout.proofs.FileLaws.{in_either}
use Rattle.alt_manifest.proofs.RuleLaws.{tells_no, tells_yes}
use Rattle.alt_manifest.specs.Versions.{IsIn, row_files}
use Rattle.alt_flush.proofs.RemoveLaws.{row_files_at}
use Rattle.alt_flush.proofs.remove.has_row_file.Goals as goal
use Rattle.alt_manifest.proofs.Among.{in_back, in_front}

pub returns-then-has : goal.returns-then-has
returns-then-has c =
    let file = c.args.file in
    let f = c.family-item.result in
    let rest = row_files (drop (c.loop-family.family-index + 1) c.args.families.now) in
    c.loop-family.invariant.all (subst (λ xs. IsIn xs file)
    (sym (row_files_at c.args.families.now c.loop-family.family-index f c.loop-family-test.true
    c.family-item.is)) (in_front f.files rest file (subst (λ xs. IsIn xs file) c.as_slice.ensures
    (tells_yes c.has.result (IsIn c.as_slice.result.now file) c.has.ensures c.if-has.true))))

pub loop-family-preserved : goal.loop-family-preserved
loop-family-preserved c =
    let file = c.args.file in
    let f = c.family-item.result in
    let rest = row_files (drop (c.loop-family.family-index + 1) c.args.families.now) in
    let at = row_files_at c.args.families.now c.loop-family.family-index f c.loop-family-test.true
    c.family-item.is in
    let no : (IsIn f.files file → ⊥) = subst (λ xs. IsIn xs file → ⊥) c.as_slice.ensures
    (tells_no c.has.result (IsIn c.as_slice.result.now file) c.has.ensures c.if-has.false) in
    record {
      all = λ there. c.loop-family.invariant.all (subst (λ xs. IsIn xs file) (sym at)
          (in_back f.files rest file there));
      rest = λ there. in_either f.files rest file (λ here. absurd (no here)) (λ later. later)
          (subst (λ xs. IsIn xs file) at (c.loop-family.invariant.rest there));
    }
