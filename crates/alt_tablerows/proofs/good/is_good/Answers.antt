-- The tests tell it.
use Rattle.std.proofs.Common.{sym, ◌∙◌}
use Rattle.alt_tablerows.proofs.GoodLaws.{good_is}
use Rattle.alt_tablerows.proofs.good.is_good.Goals as goal

pub returns : goal.returns
returns c =
    let is = good_is c.args.number c.args.family c.args.name.now c.args.schema.now
    c.requires.description c.requires.held c.requires.built in
    record {
      good = (λ e. is.0 (sym c.passes.ensures ∙ e), λ good. c.passes.ensures ∙ is.1 good);
    }
