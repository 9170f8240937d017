-- The families of a table that may stand there differ.
use Rattle.alt_opening.proofs.opened.add_table.Goals as goal

pub add-requires-clause-families : goal.add-requires-clause-families
add-requires-clause-families c = c.in_ok-schema.ensures.table.may.good.differ
