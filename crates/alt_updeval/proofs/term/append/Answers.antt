use Rattle.std.proofs.Common.{sym, ap, ◌∙◌, ◌++◌}
use Rattle.std.specs.Prelude.{Ok}
use Rattle.alt_value.specs.Tree.{L_tree, trees_of}
use Rattle.alt_updeval.specs.Shown.{joined_pieces}
use Rattle.alt_updeval.proofs.Pieces.{joined_are, pieces-append}
use Rattle.alt_updeval.proofs.term.append.Goals as goal

pub returns : goal.returns
returns c =
    joined_are _ _ _ _ c.in_ok-pieces.ensures c.in_ok-more.ensures
    ∙ ap (λ l. Ok (L_tree (trees_of l)))
    (sym (pieces-append c.in_ok-pieces.pieces.items c.in_ok-more.more.items))
    ∙ ap (λ l. Ok (L_tree (trees_of (joined_pieces l))))
    (sym (c.in_ok-extend_from_slice.ensures.items
    ∙ ap (λ m. c.in_ok-pieces.pieces.items ++ m) c.as_slice.ensures.value))
