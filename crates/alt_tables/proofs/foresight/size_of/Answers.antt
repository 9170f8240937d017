-- A size that is within the limit is told.
use Rattle.std.proofs.Common.{ap, ◌∙◌}
use Rattle.std.specs.Prelude.{unwrap_or}
use Rattle.alt_machine.specs.declared.TheConstants.{LARGEST_ITEM}
use Rattle.alt_tables.proofs.Sizing.{size_told}
use Rattle.alt_value.specs.Size.{item_size}
use Rattle.alt_tables.proofs.foresight.size_of.Goals as goal

pub returns : goal.returns
returns c may = c.unwrap_or.ensures
    ∙ ap (λ o. unwrap_or o LARGEST_ITEM) c.item_size_within.ensures.size
    ∙ size_told LARGEST_ITEM (item_size c.args.item.now) may
