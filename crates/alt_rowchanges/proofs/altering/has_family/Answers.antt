-- Each part of its families is looked through.
use Rattle.std.proofs.Common.{◌||◌, sym, ap, ◌∙◌}
use Rattle.std.specs.List.{list_any}
use Rattle.std.specs.Prelude.{◌==◌}
use Rattle.alt_rowchanges.proofs.HasFamily.{has_parts}
use Rattle.alt_rowchanges.proofs.altering.has_family.Goals as goal

pub returns : goal.returns
returns c = c.one_of.ensures
    ∙ (λ j. ((((c.args.schema.now.family == c.args.family)
    || (c.is_indexed-local.ensures
    ∙ ap (list_any (λ i. i.family == c.args.family)) c.as_slice.ensures.members) j)
    || (c.is_indexed-global.ensures
    ∙ ap (list_any (λ i. i.family == c.args.family)) c.as_slice-2.ensures.members) j)
    || c.is_streamed-stream.ensures j))
    ∙ sym (has_parts c.args.family c.args.schema.now)
