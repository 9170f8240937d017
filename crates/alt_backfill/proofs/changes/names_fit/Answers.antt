-- The names of single changes are good where the first that are asked are.
use Rattle.std.proofs.Common.{sym, ap, ◌∙◌, true}
use Rattle.std.specs.Prelude.{◌&&◌, codes}
use Rattle.std.specs.Option.{option_map_or}
use Rattle.serde_json.specs.View.{members_view}
use Rattle.alt_backfill.specs.private.Asked.{first_asked, names_index}
use Rattle.alt_backfill.proofs.Singles.{names_fit_so}
use Rattle.alt_backfill.proofs.changes.names_fit.Goals as goal

pub returns-then-is_name_asked : goal.returns-then-is_name_asked
returns-then-is_name_asked c single =
    c.is_name_asked-then-is_name_asked.ensures
    ∙ ap (λ b. b && option_map_or names_index
    (first_asked (codes "Delete") (members_view c.args.body.now.entries)) true)
    (sym (sym c.is_name_asked.ensures ∙ c.if-is_name_asked.true))
    ∙ names_fit_so (members_view c.args.body.now.entries) single
