-- Sets are equal as their lists of members.
use Rattle.std.proofs.Common.{◌≡◌, sym, ap, ◌∙◌}
use Rattle.alt_value.specs.Tree.{NS_tree}
use Rattle.alt_value.specs.Stands.{tree_of}
use Rattle.alt_value.proofs.Same.{numbers_decide}
use Rattle.alt_value.proofs.compare.is_number_set.Goals as goal

pub returns-in-Ns : goal.returns-in-Ns
returns-in-Ns c =
    let decided = numbers_decide c.as_slice.result.now c.as_slice-in-Ns.result.now in
    let seen : tree_of c.args.b.now ≡ NS_tree c.in-Ns.other = ap tree_of c.in-Ns.is in (
      λ yes. ap NS_tree (sym c.as_slice.ensures.same ∙ decided.0 (sym c.eq.ensures ∙ yes)
          ∙ c.as_slice-in-Ns.ensures.same) ∙ sym seen,
      λ e. let same : NS_tree c.args.set.now ≡ NS_tree c.in-Ns.other = e ∙ seen in
          let members : c.args.set.now ≡ c.in-Ns.other = cc in
          c.eq.ensures ∙ decided.1 (c.as_slice.ensures.same ∙ members
          ∙ sym c.as_slice-in-Ns.ensures.same),
    )
