-- The search finds the entry of the word, or that there is none.
use Rattle.std.proofs.Common.{sym, ap, ◌∙◌, Some}
use Rattle.alt_expr.specs.declared.word_values.WordValue.{WordValue}
use Rattle.alt_value.specs.Item.{at_name}
use Rattle.alt_expr.proofs.PlacesOfWords.{at_name-stands, at_name-goes}
use Rattle.alt_expr.proofs.word_values.WordValues.get.Goals as goal

pub returns-in-Ok : goal.returns-in-Ok
returns-in-Ok g c = record {
  value = ap (λ (e : WordValue _). Some (g.V.Kept.tree e.value)) c.index.ensures
      ∙ sym (at_name-stands g.V.Kept.tree c.args.word.now c.self.inside.entries.items c.in-Ok.i c.index.result.now
      c.in-Ok.ensures)
      ∙ ap (at_name c.args.word.now) c.self.view_is;
}

pub returns-in-Err : goal.returns-in-Err
returns-in-Err g c = record {
  value = sym (at_name-goes g.V.Kept.tree c.args.word.now c.self.inside.entries.items c.in-Err.field-0
      c.in-Err.ensures) ∙ ap (at_name c.args.word.now) c.self.view_is;
}
