-- One walk more.
use Rattle.std.proofs.Common.{◌≡◌, ◌+◌, ◌++◌, ◌∷◌, [], List, take, add-one, sym, ap, subst, ◌∙◌}
use Rattle.std.proofs.Math.Seq.{take-suc}
use Rattle.alt_merge.specs.Merges.{Each2}
use Rattle.alt_rowfile.specs.declared.rowfile.RowFile.{RowFile}
use Rattle.alt_rowfile.specs.declared.walk.RowFileWalk.{RowFileWalk}
use Rattle.alt_filemerge.specs.FileMerges.{IsWalkOf}
use Rattle.alt_filemerge.proofs.Merged.{each2_pushed}
use Rattle.alt_filemerge.proofs.filemerge.walks_of.Goals as goal

pub loop-file-preserved : goal.loop-file-preserved
loop-file-preserved c =
    let files = c.args.files.now in
    let i = c.loop-file.file-index in
    let more : take (i + 1) files ≡ take i files ++ c.file-item.result ∷ [] =
    ap (λ n. take n files) (add-one i) ∙ take-suc files i c.file-item.result c.loop-file-test.true
    ∙ ap (λ (e : RowFile). take i files ++ e ∷ []) (sym c.file-item.is) in
    subst (λ (l : List RowFile). Each2 IsWalkOf l c.push.new.self.items) (sym more)
    (subst (λ (l : List RowFileWalk). Each2 IsWalkOf (take i files ++ c.file-item.result ∷ []) l)
    (sym c.in_ok-push.ensures.items)
    (each2_pushed IsWalkOf (take i files) c.loop-file.walks.items c.file-item.result c.walk.result
    c.loop-file.invariant
    (record { holds = c.walk.ensures.holds; reads = c.walk.ensures.reads })))
