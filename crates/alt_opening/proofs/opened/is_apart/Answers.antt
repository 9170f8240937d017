-- No table clashes where all are apart.
use Rattle.alt_opening.proofs.Clashes.{clash_is}
use Rattle.alt_opening.proofs.opened.is_apart.Goals as goal

pub returns : goal.returns
returns c = record {
  apart = clash_is c.args.catalog.now c.args.families.now c.args.schema.now c.clashes.result
      c.requires.families c.clashes.ensures;
}
