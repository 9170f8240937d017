-- No fault so far: what is left has that of the whole.
use Rattle.std.proofs.Common.{◌≡◌, drop}
use Rattle.serde_json.specs.View.{items_view}
use Rattle.alt_legacy.specs.Faults.{list_fault}
use Rattle.alt_legacy.proofs.fits.list_fits.Given as goal

abbrev pub invariant-loop-value : goal.invariant-loop-value
invariant-loop-value l =
    list_fault (items_view l.values) ≡ list_fault (items_view (drop l.value-index l.values))
