-- At the end all are shown.
use Rattle.alt_description.specs.Json.{global_json}
use Rattle.alt_description.proofs.Shown.{shown_whole}
use Rattle.alt_description.proofs.json.each_global.Goals as goal

pub returns : goal.returns
returns c =
    shown_whole (global_json c.args.table.now) c.args.indexes.now c.loop-index.index-index
    c.loop-index.values.items c.loop-index-test.false c.loop-index.invariant
