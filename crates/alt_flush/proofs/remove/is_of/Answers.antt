-- Test by test.
use Rattle.std.proofs.Common.{◌≡◌, ⊎_elim, inr, subst, rules}
use Rattle.alt_layout.specs.Files.{IsOf}
use Rattle.alt_layout.specs.Fresh.{versions_file}
use Rattle.alt_layout.proofs.FileLaws.{in_either}
use Rattle.alt_manifest.proofs.RuleLaws.{tells_both, tells_no, tells_yes}
use Rattle.alt_manifest.specs.Rules.{Reflects}
use Rattle.alt_manifest.specs.Versions.{IsIn, files_named, row_files}
use Rattle.alt_flush.proofs.remove.is_of.Goals as goal
use Rattle.alt_manifest.proofs.Among.{in_back, in_front}

pub returns-then-has : goal.returns-then-has
returns-then-has c =
    let v = c.args.version.now in
    inr (in_front v.segments (row_files v.families) c.args.file
    (subst (λ xs. IsIn xs c.args.file) c.as_slice.ensures
    (tells_yes c.has.result (IsIn c.as_slice.result.now c.args.file) c.has.ensures c.if-has.true)))

pub returns : goal.returns
returns c =
    let v = c.args.version.now in
    let file = c.args.file in
    let not_first : (file ≡ versions_file → ⊥) = λ e. search (rules, c.if-file-eq-VERSIONS.false, e) in
    let no_segment : (IsIn v.segments file → ⊥) =
    subst (λ xs. IsIn xs file → ⊥) c.as_slice.ensures
    (tells_no c.has.result (IsIn c.as_slice.result.now file) c.has.ensures c.if-has.false) in
    tells_both c.has_row_file.result (IsIn (row_files v.families) file) (IsOf v file)
    (λ there. inr (in_back v.segments (row_files v.families) file there))
    (λ of. ⊎_elim (λ (first : file ≡ versions_file). absurd (not_first first))
    (λ (there : IsIn (files_named v) file). in_either v.segments (row_files v.families) file
    (λ here. absurd (no_segment here)) (λ later. later) there) of)
    (subst (λ fs. Reflects c.has_row_file.result (IsIn (row_files fs) file)) c.as_slice-2.ensures
    c.has_row_file.ensures)
