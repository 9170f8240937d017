-- The names that are used, beside those that are defined.
use Rattle.std.proofs.Common.{ap, sym, ◌∙◌}
use Rattle.std.specs.Prelude.{is_some}
use Rattle.std.specs.List.{list_all}
use Rattle.alt_schema.specs.Named.{kind_at}
use Rattle.alt_schema.proofs.InUse.{all_have_kinds, one_has_none}
use Rattle.alt_schema.proofs.rules.uses_exactly.Goals as goal

pub returns-then-branch : goal.returns-then-branch
returns-then-branch c =
    c.all_among.ensures
    ∙ ap (list_all (λ d. is_some (kind_at c.add_used.new.used d.name))) c.as_slice.ensures.members
    ∙ all_have_kinds c.args.b.now c.args.kinds.now c.requires c.new-used.result
    c.add_used.new.used c.new-used.ensures.empty
    (c.in_ok-add_used.ensures.used c.if-branch.true)
    (sym c.if-branch.true ∙ c.in_ok-add_used.ensures.all)

pub returns : goal.returns
returns c =
    one_has_none c.args.b.now c.args.kinds.now c.requires
    (sym c.if-branch.false ∙ c.in_ok-add_used.ensures.all)
