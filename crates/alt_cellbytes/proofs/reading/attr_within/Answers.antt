-- The whole is one value, or stops within it, or is nested too deep, or goes on behind it.
use Rattle.std.proofs.Common.{◌-◌, [], inl, inr, refl, sym, ◌∙◌, length, rules}
use Rattle.std.proofs.lemmas.List.{append-nil}
use Rattle.alt_base.proofs.Numbers.{above_zero_from_test, zero_from_test}
use Rattle.alt_value.specs.CellBytes.{cell_bytes}
use Rattle.alt_value.specs.Stands.{tree_of}
use Rattle.alt_cellbytes.proofs.DeepFirst.{left_shallow, deep_least}
use Rattle.alt_cellbytes.proofs.Stopped.{deep-refuted}
use Rattle.alt_cellbytes.proofs.WholeValues.{whole_has, full_of}
use Rattle.alt_cellbytes.proofs.Wholes.{same_read, nothing_left, stop_place, behind_place, deep_place, first_place}
use Rattle.alt_cellbytes.proofs.reading.attr_within.Goals as goal
use Rattle.alt_fields.proofs.Faults.{one_place}

pub returns-then-is_empty-clause-value : goal.returns-then-is_empty-clause-value
returns-then-is_empty-clause-value c =
    let value = c.in-Ok.ensures.value in (
      (c.held.ensures.value, full_of (tree_of c.in-Ok.a) value.0),
      value.1,
      nothing_left c.args.bytes.now c.in-Ok.rest.now (tree_of c.in-Ok.a) value.2
          (zero_from_test (length c.in-Ok.rest.now) c.if-is_empty.ensures),
    )

pub returns-then-is_empty-clause-taken : goal.returns-then-is_empty-clause-taken
returns-then-is_empty-clause-taken c = λ t w d e.
    let value = c.in-Ok.ensures.value in
    same_read c.args.bytes.now (tree_of c.in-Ok.a) t value.0 (whole_has t w)
    (nothing_left c.args.bytes.now c.in-Ok.rest.now (tree_of c.in-Ok.a) value.2
    (zero_from_test (length c.in-Ok.rest.now) c.if-is_empty.ensures)) e

pub returns-else-is_empty-clause-taken : goal.returns-else-is_empty-clause-taken
returns-else-is_empty-clause-taken c = λ t w d e.
    let value = c.in-Ok.ensures.value in
    absurd ((behind_place c.args.bytes.now c.in-Ok.rest.now (tree_of c.in-Ok.a) _ value.0 value.2
    (above_zero_from_test (length c.in-Ok.rest.now) c.if-is_empty.ensures) refl).1 t
    (whole_has t w) e)

pub returns-else-is_empty-clause-place : goal.returns-else-is_empty-clause-place
returns-else-is_empty-clause-place c = λ at e.
    let value = c.in-Ok.ensures.value in
    inl (behind_place c.args.bytes.now c.in-Ok.rest.now (tree_of c.in-Ok.a) at value.0 value.2
    (above_zero_from_test (length c.in-Ok.rest.now) c.if-is_empty.ensures)
    (sym (one_place (length c.args.bytes.now - length c.in-Ok.rest.now) at e))).0

pub returns-else-is_empty-clause-none : goal.returns-else-is_empty-clause-none
returns-else-is_empty-clause-none c = λ at f t w d e.
    let value = c.in-Ok.ensures.value in
    (behind_place c.args.bytes.now c.in-Ok.rest.now (tree_of c.in-Ok.a) _ value.0 value.2
    (above_zero_from_test (length c.in-Ok.rest.now) c.if-is_empty.ensures) refl).1 t
    (whole_has t w) e

pub returns-in-Err-Left-clause-taken : goal.returns-in-Err-Left-clause-taken
returns-in-Err-Left-clause-taken c = λ t w d e.
    absurd ((stop_place c.args.bytes.now c.in-Err-Left.left _ (search rules) refl).1 t
    (whole_has t w) e)

pub returns-in-Err-Left-clause-place : goal.returns-in-Err-Left-clause-place
returns-in-Err-Left-clause-place c = λ at e.
    inl (stop_place c.args.bytes.now c.in-Err-Left.left at (search rules)
    (sym (one_place (length c.args.bytes.now - c.in-Err-Left.left) at e))).0

pub returns-in-Err-Left-clause-none : goal.returns-in-Err-Left-clause-none
returns-in-Err-Left-clause-none c = λ at f t w d e.
    (stop_place c.args.bytes.now c.in-Err-Left.left _ (search rules) refl).1 t (whole_has t w) e

pub returns-in-Err-Deep-clause-taken : goal.returns-in-Err-Deep-clause-taken
returns-in-Err-Deep-clause-taken c = λ t w d e.
    absurd (deep-refuted c.args.most c.args.bytes.now c.in-Err-Deep.left (search rules) t []
    (whole_has t w) d
    (e ∙ sym (append-nil (cell_bytes t))))

pub returns-in-Err-Deep-clause-place : goal.returns-in-Err-Deep-clause-place
returns-in-Err-Deep-clause-place c = λ at e.
    inr (deep_place c.args.most c.args.bytes.now c.in-Err-Deep.left at (search rules)
    (sym (one_place (length c.args.bytes.now - c.in-Err-Deep.left) at e)))

pub returns-in-Err-Deep-clause-none : goal.returns-in-Err-Deep-clause-none
returns-in-Err-Deep-clause-none c = λ at f t w d e.
    deep-refuted c.args.most c.args.bytes.now c.in-Err-Deep.left (search rules) t []
    (whole_has t w) d
    (e ∙ sym (append-nil (cell_bytes t)))

pub returns-then-is_empty-clause-deep : goal.returns-then-is_empty-clause-deep
returns-then-is_empty-clause-deep c = λ at d. absurd (c.in-Ok.ensures.deep d.0 d.1)

pub returns-else-is_empty-clause-deep : goal.returns-else-is_empty-clause-deep
returns-else-is_empty-clause-deep c = λ at d. absurd (c.in-Ok.ensures.deep d.0 d.1)

pub returns-in-Err-Left-clause-deep : goal.returns-in-Err-Left-clause-deep
returns-in-Err-Left-clause-deep c = λ at d.
    absurd (left_shallow c.in-Err-Left.left d.0 c.in-Err-Left.field-0 (search rules)
    (c.in-Err-Left.ensures.deep d.0 d.1))

pub returns-in-Err-Deep-clause-deep : goal.returns-in-Err-Deep-clause-deep
returns-in-Err-Deep-clause-deep c = λ at d. inr (
  length c.args.bytes.now - c.in-Err-Deep.left,
  refl,
  first_place c.args.most c.args.bytes.now c.in-Err-Deep.left _ (search rules)
      (λ n s. deep_least c.in-Err-Deep.left n c.in-Err-Deep.field-0 (search rules)
      (c.in-Err-Deep.ensures.deep n s)) refl,
)
