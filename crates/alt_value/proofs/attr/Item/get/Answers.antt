-- The search finds the entry of the name, or that there is none.
use Rattle.std.proofs.Common.{sym, ap, ◌∙◌, Some}
use Rattle.alt_value.specs.declared.attr.Pair.{Pair}
use Rattle.alt_value.specs.Stands.{tree_of}
use Rattle.alt_value.specs.Item.{at_name}
use Rattle.alt_value.proofs.Entries.{at_name-stands, at_name-goes}
use Rattle.alt_value.proofs.attr.Item.get.Goals as goal

pub returns-in-Ok : goal.returns-in-Ok
returns-in-Ok c = record {
  value = ap (λ (e : Pair). Some (tree_of e.value)) c.index.ensures
      ∙ sym (at_name-stands c.args.name.now c.self.inside.entries.items c.in-Ok.i c.index.result.now
      c.in-Ok.ensures)
      ∙ ap (at_name c.args.name.now) c.self.view_is;
}

pub returns-in-Err : goal.returns-in-Err
returns-in-Err c = record {
  value = sym (at_name-goes c.args.name.now c.self.inside.entries.items c.in-Err.field-0
      c.in-Err.ensures) ∙ ap (at_name c.args.name.now) c.self.view_is;
}
