-- Sets are equal as their lists of members.
use Rattle.std.proofs.Common.{◌≡◌, sym, ap, ◌∙◌}
use Rattle.alt_value.specs.Tree.{SS_tree}
use Rattle.alt_value.specs.Stands.{tree_of}
use Rattle.alt_value.proofs.Same.{texts_decide}
use Rattle.alt_value.proofs.compare.is_text_set.Goals as goal

pub returns-in-Ss : goal.returns-in-Ss
returns-in-Ss c =
    let decided = texts_decide c.as_slice.result.now c.as_slice-in-Ss.result.now in
    let seen : tree_of c.args.b.now ≡ SS_tree c.in-Ss.other = ap tree_of c.in-Ss.is in (
      λ yes. ap SS_tree (sym c.as_slice.ensures.same ∙ decided.0 (sym c.eq.ensures ∙ yes)
          ∙ c.as_slice-in-Ss.ensures.same) ∙ sym seen,
      λ e. let same : SS_tree c.args.set.now ≡ SS_tree c.in-Ss.other = e ∙ seen in
          let members : c.args.set.now ≡ c.in-Ss.other = cc in
          c.eq.ensures ∙ decided.1 (c.as_slice.ensures.same ∙ members
          ∙ sym c.as_slice-in-Ss.ensures.same),
    )
