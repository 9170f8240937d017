-- The search tells whether the text is there: the closure compares by the order.
use Rattle.std.proofs.Common.{refl, rules, sym, subst, ◌∙◌}
use Rattle.std.proofs.lemmas.Fn.{always_returns_same}
use Rattle.alt_value.specs.Members.{IsSet, text_order}
use Rattle.alt_value.proofs.Places.{searched}
use Rattle.alt_value.proofs.Texts.{text_total}
use Rattle.alt_value.proofs.text_set.Set+Text.contains.Goals as goal

pub returns : goal.returns
returns c = record {
  has = c.is_ok.ensures.value ∙ searched text_order text_total _ _ _ _ _ refl
      c.as_slice.ensures.same
      (subst (IsSet text_order) (sym c.as_slice.ensures.same) c.as_slice.ensures.members.1)
      c.binary_search_by.ensures.bound
      (c.binary_search_by.ensures.position (λ y. text_order y c.args.m.now)
      (always_returns_same _ _ _ (λ a r q k. (search rules, search rules))));
}
