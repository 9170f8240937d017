use Rattle.std.proofs.Common.{List, Option, is_none, ◌||◌, map, ◌∙◌, ap, sym}
use Rattle.std.specs.List.{list_any}
use Rattle.alt_disk.specs.declared.trace.Outline.{Outline}
use Rattle.alt_disk.specs.Stopped.{is_missing, any_missing}
use Rattle.alt_disk.specs.Trace.{option_shape}
use Rattle.alt_disk.proofs.Picking.{any_is}
use Rattle.alt_disk.proofs.pick.may_be_missing.Goals as goal

pub returns-in-Some : goal.returns-in-Some
returns-in-Some c =
    c.has_none.ensures ∙ ap (λ (others : List (Option Outline)). list_any
    (λ other. is_none other) others) c.as_slice.ensures.value
    ∙ any_is c.args.trace.now.others.items
    ∙ ap (λ (last : Option Outline). is_missing (option_shape last) || any_missing
    (map option_shape c.args.trace.now.others.items)) (sym c.in-Some.is)
