-- Nothing is nested deeper than there are bytes, so what is said of values that are nested so deep
-- at most holds of all.
use Rattle.std.proofs.Common.{◌⊎◌, length, ap, inl, inr, arith, ℕ, List}
use Rattle.std.proofs.lemmas.Result.{IfOk-weaker}
use Rattle.alt_cellbytes.specs.Places.{IsBadValueAt, IsDeepAt}
use Rattle.alt_cellbytes.proofs.Apart.{cell_bytes-apart}
use Rattle.alt_cellbytes.proofs.StopsWithin.{never_deep}
use Rattle.alt_cellbytes.proofs.WholeValues.{whole_has, depth-short}
use Rattle.alt_cellbytes.proofs.reading.attr_of.Goals as goal

-- a place that isn't of what is nested too deep
not_deep : (bytes : List ℕ) (at : ℕ) → IsBadValueAt bytes at ⊎ IsDeepAt (length bytes) bytes at
    → IsBadValueAt bytes at
not_deep bytes at (inl bad) = bad
not_deep bytes at (inr deep) = absurd (never_deep bytes deep.0 deep.1)

pub returns-clause-value : goal.returns-clause-value
returns-clause-value c = IfOk-weaker c.attr_within.result _ _
    (λ a h. (h.0, h.2)) c.attr_within.ensures.value

pub returns-clause-taken : goal.returns-clause-taken
returns-clause-taken c = λ t w e.
    c.attr_within.ensures.taken t w (omega (arith, depth-short t, ap length e)) e

pub returns-clause-place : goal.returns-clause-place
returns-clause-place c = λ at e. (
  not_deep c.args.bytes.now at (c.attr_within.ensures.place at e),
  (λ t w is. c.attr_within.ensures.none at e t w (omega (arith, depth-short t, ap length is)) is),
)

pub returns-clause-apart : goal.returns-clause-apart
returns-clause-apart c = λ t u x y v w e. cell_bytes-apart t u x y (whole_has t v) (whole_has u w) e
