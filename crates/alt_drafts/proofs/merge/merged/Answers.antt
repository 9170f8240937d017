-- The draft with what was made.
use Rattle.std.proofs.Common.{⊎_elim, inl, inr, [], ◌∷◌, take, sym, subst, ◌∙◌, arith}
use Rattle.std.specs.BTreeMap.{get}
use Rattle.std.specs.Ordering.{nat_cmp}
use Rattle.alt_layout.specs.Layout.{Layout}
use Rattle.alt_layout.specs.Merged.{ShowsSame}
use Rattle.alt_manifest.specs.declared.version.Version.{Version}
use Rattle.alt_drafts.specs.Drafting.{Makes, IsLeftOut}
use Rattle.alt_flush.specs.Laws.{DropsOnly}
use Rattle.alt_flush.proofs.NamedLaws.{merge_drops}
use Rattle.alt_layout.specs.Families.{files_of}
use Rattle.alt_layout.specs.Merged.{version_made}
use Rattle.alt_layout.proofs.MergedLaws.{files_made-other, flushed_made}
use Rattle.alt_manifest.specs.Versions.{IsIn, files_named}
use Rattle.alt_drafts.proofs.LeftOutLaws.{in_first, named_made}
use Rattle.alt_drafts.proofs.MergingLaws.{in_hand, merge_made}
use Rattle.alt_drafts.proofs.merge.merged.Goals as goal

pub returns-clause-makes : goal.returns-clause-makes
returns-clause-makes c s parts l number makes may is of =
    let some = may.some in
    let enough = may.enough in
    subst (λ (v : Version). (m : Layout) × Makes s v c.put_made.new.families parts m × ShowsSame l m)
    (sym c.in_ok-draft.ensures) (merge_made s c.args.alive c.args.families.now parts l makes
    c.args.family c.args.taken number c.args.file may c.args.made is of
    c.put_made.new.families c.in_ok-put_made.ensures.rows
    (c.in_ok-put_made.ensures.files (in_hand (get nat_cmp c.args.families.now c.args.family)
    (omega (arith, some, enough)))) c.in_ok-put_made.ensures.others)

pub returns-clause-drops : goal.returns-clause-drops
returns-clause-drops c = subst (λ (v : Version). DropsOnly c.args.alive v
    (files_of c.args.alive.families c.args.family)) (sym c.in_ok-draft.ensures)
    (λ f there. ⊎_elim (λ (on : IsIn (files_named (version_made c.args.alive c.args.family c.args.taken
    (c.args.file ∷ []))) f). inl on)
    (λ (took : IsIn (take c.args.taken (files_of c.args.alive.families c.args.family)) f).
    inr (in_first c.args.taken (files_of c.args.alive.families c.args.family) f took))
    (merge_drops c.args.alive c.args.family c.args.taken (c.args.file ∷ []) f there))

pub returns-clause-past : goal.returns-clause-past
returns-clause-past c other flushed apart left =
    let fs = c.args.alive.families in
    let made = c.args.file ∷ [] in
    subst (λ (v : Version). IsLeftOut v other flushed) (sym c.in_ok-draft.ensures) (record {
      named = named_made c.args.family c.args.taken other made fs left.named;
      files = files_made-other c.args.family c.args.taken made fs other apart ∙ left.files;
      flushed = flushed_made c.args.family c.args.taken made fs other ∙ left.flushed;
    })
