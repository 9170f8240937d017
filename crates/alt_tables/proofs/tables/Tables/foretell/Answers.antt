-- Its size is noted. From the first moment on at which the item has expired it is known of, and where there is none it never has.
use Rattle.std.proofs.Common.{◌∙◌}
use Rattle.std.proofs.lemmas.Option.{same_Some}
use Rattle.alt_tables.proofs.Foreseen.{told_none, told_some}
use Rattle.alt_tables.proofs.Sizing.{fits_larger}
use Rattle.alt_tables.proofs.tables.Tables.foretell.Goals as goal

pub returns-in-Some-expires_from-clause-known : goal.returns-in-Some-expires_from-clause-known
returns-in-Some-expires_from-clause-known c d at = told_some c.args.new.now c.in-Some.item
    c.in-Some.is c.in-Some-get.schema.now d (same_Some _ _ (c.in-Some-get.ensures.table ∙ at))
    c.expires_from.result c.expires_from.ensures c.args.table.now c.args.place.now c.note.new.self
    c.in-Some-expires_from.first c.in-Some-expires_from.is c.note.ensures.known

pub returns-in_default-expires_from-clause-known :
    goal.returns-in_default-expires_from-clause-known
returns-in_default-expires_from-clause-known c d at = told_none c.args.new.now c.in-Some.item
    c.in-Some.is c.in-Some-get.schema.now d (same_Some _ _ (c.in-Some-get.ensures.table ∙ at))
    c.expires_from.result c.expires_from.ensures c.args.table.now c.args.place.now
    c.args.self.now.due c.in_default-expires_from.is

pub returns-in-Some-expires_from-clause-fits : goal.returns-in-Some-expires_from-clause-fits
returns-in-Some-expires_from-clause-fits c = fits_larger c.args.new.now c.in-Some.item c.in-Some.is
    c.args.self.now.largest c.size_of.result c.max-self.result c.size_of.ensures c.max-self.ensures

pub returns-in_default-expires_from-clause-fits : goal.returns-in_default-expires_from-clause-fits
returns-in_default-expires_from-clause-fits c = fits_larger c.args.new.now c.in-Some.item
    c.in-Some.is c.args.self.now.largest c.size_of.result c.max-self.result c.size_of.ensures
    c.max-self.ensures
