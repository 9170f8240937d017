-- Sets are equal as their lists of members.
use Rattle.std.proofs.Common.{◌≡◌, sym, ap, ◌∙◌}
use Rattle.alt_value.specs.Tree.{BS_tree}
use Rattle.alt_value.specs.Stands.{tree_of}
use Rattle.alt_value.proofs.Same.{texts_decide}
use Rattle.alt_value.proofs.compare.is_bytes_set.Goals as goal

pub returns-in-Bs : goal.returns-in-Bs
returns-in-Bs c =
    let decided = texts_decide c.as_slice.result.now c.as_slice-in-Bs.result.now in
    let seen : tree_of c.args.b.now ≡ BS_tree c.in-Bs.other = ap tree_of c.in-Bs.is in (
      λ yes. ap BS_tree (sym c.as_slice.ensures.same ∙ decided.0 (sym c.eq.ensures ∙ yes)
          ∙ c.as_slice-in-Bs.ensures.same) ∙ sym seen,
      λ e. let same : BS_tree c.args.set.now ≡ BS_tree c.in-Bs.other = e ∙ seen in
          let members : c.args.set.now ≡ c.in-Bs.other = cc in
          c.eq.ensures ∙ decided.1 (c.as_slice.ensures.same ∙ members
          ∙ sym c.as_slice-in-Bs.ensures.same),
    )
