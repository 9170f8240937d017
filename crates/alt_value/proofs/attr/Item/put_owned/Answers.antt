-- The entries change at the one place of the name.
use Rattle.std.proofs.Common.{◌≡◌, refl, sym, ap, subst, ◌∙◌, map, arith}
use Rattle.std.proofs.lemmas.List.{length-map}
use Rattle.alt_value.specs.declared.attr.Pair.{Pair}
use Rattle.alt_value.specs.Stands.{tree_of, pair_of}
use Rattle.alt_fields.specs.Bytes.{IsShort}
use Rattle.alt_value.specs.Item.{with_pair}
use Rattle.alt_value.specs.Place.{NameStandsAt, GoesTo}
use Rattle.alt_value.specs.Values.{IsItemOfValues}
use Rattle.alt_value.proofs.Values.{IsItemOfValues-with_pair}
use Rattle.alt_value.proofs.Entries.{with_pair-stands, with_pair-goes}
use Rattle.alt_value.proofs.attr.Item.put_owned.Goals as goal

replaced : (c : goal.After-drop-name-inside) → map pair_of c.replace.new.entries.items
    ≡ with_pair c.args.name (tree_of c.args.a) c.args.self.now
replaced c =
    let d : Pair = record { name = c.args.name; value = c.args.a } in
    ap (map pair_of) (c.replace.ensures d)
    ∙ sym (with_pair-stands c.args.name c.args.a c.self.inside.entries.items c.in-Ok.i d
    (subst (λ n. NameStandsAt n c.self.inside.entries.items c.in-Ok.i) c.as_str.ensures.same
    c.in-Ok.ensures))
    ∙ ap (with_pair c.args.name (tree_of c.args.a)) c.self.view_is

inserted : (c : goal.After-len-count-in-Err) → map pair_of c.insert.new.self.items
    ≡ with_pair c.args.name (tree_of c.args.a) c.args.self.now
inserted c =
    ap (map pair_of) c.in_ok-insert-in-Err.ensures.items
    ∙ sym (with_pair-goes c.args.name c.args.a c.self.inside.entries.items c.in-Err.i _
    refl refl (subst (λ n. GoesTo n c.self.inside.entries.items c.in-Err.i) c.as_str.ensures.same
    c.in-Err.ensures))
    ∙ ap (with_pair c.args.name (tree_of c.args.a)) c.self.view_is

pub invariant_of-self : goal.invariant_of-self
invariant_of-self c =
    let short : IsShort (map pair_of c.replace.new.entries.items) =
    omega (
      arith,
      length-map c.replace.new.entries.items pair_of,
      c.len-count.type_inv,
      c.len-count.ensures,
    ) in
    rw (replaced c) (IsItemOfValues-with_pair c.args.name
    (tree_of c.args.a) c.args.self.now c.requires c.len-length.ensures.text c.held.ensures.value
    (subst IsShort (replaced c) short) (subst IsItemOfValues c.self.view_is c.self.invariant))

pub invariant_of-self-in-Err : goal.invariant_of-self-in-Err
invariant_of-self-in-Err c =
    let short : IsShort (map pair_of c.insert.new.self.items) =
    omega (
      arith,
      length-map c.insert.new.self.items pair_of,
      c.len-count-in-Err.type_inv,
      c.len-count-in-Err.ensures,
    ) in
    rw (inserted c) (IsItemOfValues-with_pair c.args.name
    (tree_of c.args.a) c.args.self.now c.requires c.len-length.ensures.text c.held.ensures.value
    (subst IsShort (inserted c) short) (subst IsItemOfValues c.self.view_is c.self.invariant))

pub returns-in-Ok-clause-ok : goal.returns-in-Ok-clause-ok
returns-in-Ok-clause-ok c = replaced c

pub returns-in_ok-insert-in-Err-clause-ok : goal.returns-in_ok-insert-in-Err-clause-ok
returns-in_ok-insert-in-Err-clause-ok c = inserted c
