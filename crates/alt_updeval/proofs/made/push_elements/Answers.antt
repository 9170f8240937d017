use Rattle.std.proofs.Common.{◌≡◌, ◌++◌, List, sym, ap, subst, ◌∙◌}
use Rattle.std.specs.Prelude.{OnOk}
use Rattle.alt_value.specs.Stands.{tree_of}
use Rattle.alt_value.specs.Tree.{Tree}
use Rattle.alt_value.proofs.Trees.{elements-trees_of}
use Rattle.alt_updeval.specs.Shown.{elements_of}
use Rattle.alt_updeval.proofs.made.push_elements.Goals as goal

pub returns-in-L : goal.returns-in-L
returns-in-L c =
    subst (λ (l : List Tree). OnOk c.push_copies.result
    (c.push_copies.new.list ≡ c.args.list.now ++ l))
    (sym (ap (λ a. elements_of (tree_of a)) c.in-L.is ∙ elements-trees_of _)) c.push_copies.ensures
