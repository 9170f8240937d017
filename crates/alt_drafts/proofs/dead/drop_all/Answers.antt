-- A family more.
use Rattle.std.proofs.Common.{◌≡◌, ◌+◌, ⊎_elim, take, drop, get_or, refl, arith, ap, ◌∙◌}
use Rattle.std.specs.BTreeMap.{get}
use Rattle.std.specs.Ordering.{nat_cmp}
use Rattle.alt_flush.proofs.RemoveLaws.{in_more}
use Rattle.alt_layout.proofs.MomentLaws.{same_or_not}
use Rattle.alt_manifest.specs.Versions.{IsIn}
use Rattle.alt_drafts.specs.Drafting.{without_families}
use Rattle.alt_drafts.proofs.DeadLaws.{dropped_more, others_more, taken_out, others_stay, without_more}
use Rattle.alt_drafts.proofs.MakesLaws.{empties_same}
use Rattle.alt_drafts.proofs.dead.drop_all.Goals as goal

pub loop-family-init : goal.loop-family-init
loop-family-init c = record {
  makes = λ s parts l live dead makes. (l, makes, empties_same live l);
  version = refl;
  gone = λ family no. absurd no;
  others = λ family no. refl;
}

pub loop-family-preserved : goal.loop-family-preserved
loop-family-preserved c =
    let i = c.loop-family.family-index in
    let dead = c.args.dead.now in
    let family = get_or dead i 0 in
    let within = c.loop-family-test.true in
    let old = c.loop-family.families in
    let new = c.remove.new.self in
    let updates = c.remove.ensures.updates in
    let none = taken_out old new family updates.0 in
    let stay = others_stay old new family updates.0 in
    let draft = c.in_ok-draft.ensures in
    record {
      makes = λ s parts l live are makes. dropped_more s c.loop-family.draft c.in_ok-draft.draft old new
          parts l live dead i within (let fits = c.type_inv.dead i in omega (arith, fits)) draft none stay are
          (c.loop-family.invariant.makes s parts l live are makes);
      version = ap (λ u. without_families u (drop (i + 1) dead)) draft
          ∙ without_more c.loop-family.draft dead i within ∙ c.loop-family.invariant.version;
      gone = λ other there. ⊎_elim
          (λ (before : IsIn (take i dead) other). ⊎_elim
          (λ (e : other ≡ family). ap (get nat_cmp new) e ∙ none)
          (λ (apart : other ≡ family → ⊥). stay other apart
          ∙ c.loop-family.invariant.gone other before) (same_or_not other family))
          (λ (e : other ≡ family). ap (get nat_cmp new) e ∙ none)
          (in_more dead i other within there);
      others = λ other no. others_more old new c.args.families.now dead i other within stay
          c.loop-family.invariant.others no;
    }
