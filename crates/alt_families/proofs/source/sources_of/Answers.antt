-- One source more.
use Rattle.std.proofs.Common.{◌<◌, ◌≤◌, ◌++◌, ◌∷◌, [], List, length, get_or, drop_of_length-le, refl, ◌∙◌, sym, ap, subst}
use Rattle.alt_rowfile.specs.declared.rowfile.RowFile.{RowFile}
use Rattle.alt_families.specs.declared.source.Source.{Source}
use Rattle.alt_families.specs.declared.source.Source.TheVariants.{Memory, File}
use Rattle.alt_families.proofs.SourceLaws.{SourcesSoFar, sources_first, sources_more, sources_all, sources_wide}
use Rattle.alt_families.proofs.source.sources_of.Goals as goal

pub loop-file-init : goal.loop-file-init
loop-file-init c =
    subst (λ (l : List Source). SourcesSoFar c.args.family.now.table.0 l c.args.family.now.files.items
    c.args.family.now.files.items)
    (sym (c.in_ok-push.ensures.items ∙ ap (λ (l : List Source). l ++ Memory c.walk.result ∷ [])
    c.new-sources.ensures.items))
    (sources_first c.args.family.now.table.0 c.args.family.now.files.items (Memory c.walk.result)
    c.walk.ensures refl)

pub loop-file-preserved : goal.loop-file-preserved
loop-file-preserved c =
    sources_more c.args.family.now.table.0 c.loop-file.sources.items c.push-in-loop-file.new.self.items
    c.args.family.now.files.items c.loop-file.file-index c.file-item.result
    (File c.walk-in-loop-file.result) c.loop-file.invariant
    (subst (λ (l : List RowFile). c.loop-file.file-index < length l) c.deref-file-items.ensures.value
    c.loop-file-test.true)
    (c.file-item.is ∙ ap (λ (l : List RowFile). get_or l c.loop-file.file-index
    c.file-item.result) c.deref-file-items.ensures.value)
    c.in_ok-push-2.ensures.items
    (λ s m reads. c.walk-in-loop-file.ensures.holds s m reads) refl

pub returns-clause-holds : goal.returns-clause-holds
returns-clause-holds c s maps reads =
    sources_all c.args.family.now.table.0 c.loop-file.sources.items c.args.family.now.files.items _
    c.loop-file.invariant (drop_of_length-le c.args.family.now.files.items (subst (λ (l : List RowFile).
    length l ≤ c.loop-file.file-index) c.deref-file-items.ensures.value c.loop-file-test.false)) s maps
    reads

pub returns-clause-widths : goal.returns-clause-widths
returns-clause-widths c =
    sources_wide c.args.family.now.table.0 c.loop-file.sources.items c.args.family.now.files.items _
    c.loop-file.invariant (drop_of_length-le c.args.family.now.files.items (subst (λ (l : List RowFile).
    length l ≤ c.loop-file.file-index) c.deref-file-items.ensures.value c.loop-file-test.false))
