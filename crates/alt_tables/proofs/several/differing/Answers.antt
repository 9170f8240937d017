-- Those that change what was found stay.
use Rattle.std.proofs.Common.{rules}
use Rattle.std.proofs.lemmas.Fn.{filter_same}
use Rattle.std.specs.Prelude.{not}
use Rattle.alt_machine.specs.Same.{is_same}
use Rattle.alt_tables.specs.declared.several.ItemChange.{ItemChange}
use Rattle.alt_tables.proofs.several.differing.Goals as goal

pub returns : goal.returns
returns c = filter_same _ (λ (e : ItemChange). not (is_same e.found.item e.new)) _
    (λ x b f' k. search rules) _ _ c.retain.ensures.filtered
