-- The entry of the name is taken out, and no other.
use Rattle.std.proofs.Common.{◌≡◌, sym, ap, subst, ◌∙◌, map, Some}
use Rattle.alt_value.specs.declared.attr.Pair.{Pair}
use Rattle.alt_value.specs.Stands.{tree_of, pair_of}
use Rattle.alt_value.specs.Item.{at_name, without}
use Rattle.alt_value.specs.Values.{IsItemOfValues}
use Rattle.alt_value.proofs.Entries.{at_name-stands, at_name-goes, without-stands, without-goes}
use Rattle.alt_value.proofs.Values.{IsItemOfValues-without}
use Rattle.alt_value.proofs.attr.Item.remove.Goals as goal

left : (c : goal.After-drop-remove) → map pair_of c.remove-value.new.self.items
    ≡ without c.args.name.now c.args.self.now
left c =
    ap (map pair_of) c.remove-value.ensures.items
    ∙ sym (without-stands c.args.name.now c.self.inside.entries.items c.in-Ok.i
    c.self.invariant.names c.in-Ok.ensures)
    ∙ ap (without c.args.name.now) c.self.view_is

pub invariant_of-self : goal.invariant_of-self
invariant_of-self c = rw (left c) (IsItemOfValues-without c.args.name.now c.args.self.now
    (subst IsItemOfValues c.self.view_is c.self.invariant))

pub returns-in-Ok-clause-value : goal.returns-in-Ok-clause-value
returns-in-Ok-clause-value c =
    ap (λ (e : Pair). Some (tree_of e.value)) c.remove-value.ensures.value
    ∙ sym (at_name-stands c.args.name.now c.self.inside.entries.items c.in-Ok.i
    c.remove-value.result c.in-Ok.ensures)
    ∙ ap (at_name c.args.name.now) c.self.view_is

pub returns-in-Ok-clause-rest : goal.returns-in-Ok-clause-rest
returns-in-Ok-clause-rest c = left c

pub returns-in-Err-clause-value : goal.returns-in-Err-clause-value
returns-in-Err-clause-value c =
    sym (at_name-goes c.args.name.now c.self.inside.entries.items c.in-Err.field-0 c.in-Err.ensures)
    ∙ ap (at_name c.args.name.now) c.self.view_is

pub returns-in-Err-clause-rest : goal.returns-in-Err-clause-rest
returns-in-Err-clause-rest c =
    sym c.self.view_is ∙ sym (without-goes c.args.name.now c.self.inside.entries.items
    c.in-Err.field-0 c.in-Err.ensures) ∙ ap (without c.args.name.now) c.self.view_is
