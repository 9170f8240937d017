-- A number that was found is below that of the indexes, and of one that is whole.
use Rattle.alt_schema.specs.Indexes.{indexes, is_read_as}
use Rattle.alt_views.proofs.Numbers.{found_read, found_within}
use Rattle.alt_views.proofs.rows.index.index_named.Goals as goal

pub returns-clause-within : goal.returns-clause-within
returns-clause-within c =
    found_within (is_read_as c.args.name.now) (indexes c.args.s.now) c.number_of.result
    c.number_of.ensures.first

pub returns-clause-read : goal.returns-clause-read
returns-clause-read c =
    found_read c.args.s.now c.args.name.now c.number_of.result c.number_of.ensures.first
