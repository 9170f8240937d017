-- The map has one name more, as the list does.
use Rattle.std.proofs.Common.{◌≡◌, ◌++◌, ◌∷◌, [], List, ap, sym, subst, ◌∙◌}
use Rattle.alt_schema.specs.Named.{AreOf}
use Rattle.alt_schema.specs.Rules.{is_defined}
use Rattle.alt_description.specs.declared.schema.KeyAttr.{KeyAttr}
use Rattle.alt_schema.proofs.NamedLemmas.{are_of-with}
use Rattle.alt_schema.proofs.named.Definitions.with.Goals as goal

pub invariant_of-result : goal.invariant_of-result
invariant_of-result c =
    let ds = c.self.inside.list in
    let last : List KeyAttr = record { name = c.args.name.now; kind = c.args.kind } ∷ [] in
    let longer : c.push.new.self ≡ ds ++ last
    = c.in_ok-push.ensures.ok
    ∙ (λ j. ds ++ record { name = c.in_ok-text.ensures.copied j; kind = c.args.kind } ∷ []) in
    subst (AreOf c.add.new.self) (sym longer)
    (are_of-with c.self.inside.kinds c.add.new.self ds c.args.name.now c.args.kind
    c.self.invariant (ap (λ l. is_defined l c.args.name.now) c.self.view_is ∙ c.requires.new)
    c.in_ok-add.ensures.added)
