-- At the end all are written.
use Rattle.std.proofs.Common.{◌∙◌}
use Rattle.serde_json.specs.Data.{string}
use Rattle.alt_schema.proofs.Shown.{shown_whole}
use Rattle.alt_ops_table.proofs.Pages.{items_by-string}
use Rattle.alt_ops_table.proofs.list.json_of_texts.Goals as goal

pub returns : goal.returns
returns c =
    shown_whole (λ text. string text) c.args.texts.now c.loop-text.text-index
    c.loop-text.values.items c.loop-text-test.false c.loop-text.invariant
    ∙ items_by-string c.args.texts.now
