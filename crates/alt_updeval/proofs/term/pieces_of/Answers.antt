use Rattle.std.proofs.Common.{ap, ◌∙◌}
use Rattle.std.specs.Prelude.{Ok}
use Rattle.alt_value.proofs.Trees.{elements-trees_of}
use Rattle.alt_updeval.specs.Shown.{operand_value, joined_pieces, list_in_tree}
use Rattle.alt_updeval.proofs.term.pieces_of.Goals as goal

pub returns-in-Lists : goal.returns-in-Lists
returns-in-Lists c = ap (λ m. list_in_tree (operand_value m)) c.in-Lists.is
    ∙ ap Ok (elements-trees_of (joined_pieces c.in-Lists.pieces.items))
