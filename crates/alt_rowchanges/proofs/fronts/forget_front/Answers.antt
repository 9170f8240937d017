-- Those of other names stay.
use Rattle.std.proofs.Common.{rules}
use Rattle.std.proofs.lemmas.Fn.{filter_same}
use Rattle.std.specs.Prelude.{not}
use Rattle.std.specs.Str.{bytes_eq}
use Rattle.alt_rowchanges.proofs.fronts.forget_front.Goals as goal

pub returns : goal.returns
returns c = filter_same _ (λ e. not (bytes_eq e.table c.args.table.now)) _
    (λ x b f' k. search rules) _ _ c.retain.ensures.filtered
