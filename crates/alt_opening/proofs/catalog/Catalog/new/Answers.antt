-- The empty list is the empty map.
use Rattle.std.proofs.Common.{ap, ◌∙◌}
use Rattle.alt_opening.proofs.Listed.{tables}
use Rattle.alt_tablerows.proofs.OneColumn.{map-nothing}
use Rattle.alt_opening.proofs.catalog.Catalog.new.Goals as goal

pub returns : goal.returns
returns c = record { empty = ap tables c.new.ensures.items ∙ map-nothing }
