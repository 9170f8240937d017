-- One column more, or none.
use Rattle.std.proofs.Common.{◌≡◌, ◌+◌, ◌∷◌, ◌++◌, [], List, ℕ, Option, length, sym, ap, subst, ◌∙◌, arith, length-append}
use Rattle.std.proofs.lemmas.Result.{err_from_is_err_and}
use Rattle.alt_writes.specs.Bytes.{columns_bytes, AreShortCells}
use Rattle.alt_writes.specs.Reading.{NoColumns}
use Rattle.alt_writes.proofs.ReadLaws.{none_map, no_cells-name, no_cells-value, cells_push, short_push}
use Rattle.alt_writes.proofs.read.take_cells.Goals as goal

pub returns-in_err-name-clause-none : goal.returns-in_err-name-clause-none
returns-in_err-name-clause-none c =
    let p = err_from_is_err_and c.from_residual.result
    c.from_residual.ensures.1 in
    rw (p.1, p.2) (none_map _ (NoColumns c.args.count c.args.bytes.now) c.in_err-name.field-0.0
    (no_cells-name c.args.count c.loop-done.cells c.args.bytes.now c.loop-done.rest.now
    (omega (arith, c.loop-done.invariant.count, c.loop-done-test.true))
    c.loop-done.invariant.short c.loop-done.invariant.bytes) c.in_err-name.ensures.none)

pub returns-in-Err-clause-none : goal.returns-in-Err-clause-none
returns-in-Err-clause-none c =
    none_map _ (NoColumns c.args.count c.args.bytes.now) c.in-Err.stop
    (no_cells-value c.args.count c.loop-done.cells c.args.bytes.now c.loop-done.rest.now
    (omega (arith, c.loop-done.invariant.count, c.loop-done-test.true))
    c.loop-done.invariant.short c.loop-done.invariant.bytes c.in_ok-name.name.now
    c.in_ok-name.flagged.now c.in_ok-name.ensures.field.0 c.in_ok-name.ensures.field.1)
    c.in-Err.ensures.none

pub loop-done-preserved : goal.loop-done-preserved
loop-done-preserved c =
    let es = c.loop-done.cells in
    let name = c.in_ok-name.name.now in
    let value = c.in-Ok.value in
    let e : c.push.new.self ≡ es ++ (name, value) ∷ [] = c.in_ok-push-in-Ok.ensures.ok
    ∙ ap (λ (x : List ℕ). es ++ (x, value) ∷ []) c.in_ok-new-in-Ok.ensures.copied in
    record {
      count = ap length e ∙ length-append es ((name, value) ∷ [])
          ∙ ap (λ (n : ℕ). n + 1) c.loop-done.invariant.count;
      short = subst AreShortCells (sym e) (short_push es name value c.loop-done.invariant.short
          c.in_ok-name.ensures.field.0 c.in-Ok.ensures.value.0);
      bytes = cells_push es name value c.args.bytes.now c.loop-done.rest.now
          c.in_ok-name.flagged.now c.in-Ok.behind.now c.loop-done.invariant.bytes
          c.in_ok-name.ensures.field.1 c.in-Ok.ensures.value.1
          ∙ ap (λ (l : List (List ℕ × Option (List ℕ))). columns_bytes l ++ c.in-Ok.behind.now)
          (sym e);
    }
