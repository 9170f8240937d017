-- One value more.
use Rattle.std.proofs.Common.{◌≡◌, sym, ap, subst, ◌∙◌, ◌++◌, [], ◌∷◌, map, arith}
use Rattle.std.proofs.lemmas.List.{length-map, map-append}
use Rattle.alt_fields.specs.Bytes.{IsShort}
use Rattle.alt_value.specs.Stands.{tree_of}
use Rattle.alt_value.specs.Values.{IsListOfValues}
use Rattle.alt_value.proofs.Values.{IsListOfValues-push}
use Rattle.alt_value.proofs.attr.AttrList.push.Goals as goal

pub invariant_of-self-2 : goal.invariant_of-self-2
invariant_of-self-2 c =
    let more : map tree_of c.push.new.self.items
    ≡ map tree_of c.self.inside.elements.items ++ tree_of c.args.a ∷ [] =
    ap (map tree_of) c.in_ok-push.ensures.items
    ∙ map-append tree_of c.self.inside.elements.items (c.args.a ∷ []) in
    let short : IsShort (map tree_of c.push.new.self.items) =
    omega (
      arith,
      length-map c.push.new.self.items tree_of,
      c.len-count.type_inv,
      c.len-count.ensures,
    ) in
    subst IsListOfValues (sym more) (IsListOfValues-push _ _ c.self.invariant c.held.ensures.value
    (subst IsShort more short))
