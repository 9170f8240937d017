-- A block of rows, or none that a writer makes.
use Rattle.std.proofs.Common.{◌≡◌, ◌-◌, ◌∙◌, ◌≤◌, ap, sym, subst, arith, length, refl}
use Rattle.std.specs.Prelude.{List, slice_get, Some}
use Rattle.std.proofs.lemmas.Bool.{false≢true}
use Rattle.alt_rowblocks.specs.Filtering.{FilterHoldsRows}
use Rattle.alt_rowblocks.specs.Format.{Entry, first_key}
use Rattle.alt_rowblocks.specs.Blocks.{IsAbove}
use Rattle.alt_rowblocks.specs.Summaries.{summary_of}
use Rattle.alt_rowblocks.proofs.BlockLaws.{block_read, same_rows, first_at, no_first, no_block}
use Rattle.alt_rowblocks.proofs.BlockRuns.{full_from}
use Rattle.alt_rowblocks.proofs.blocks.read_block.Goals as goal

pub returns-then-decoded-ge4096-clause-none : goal.returns-then-decoded-ge4096-clause-none
returns-then-decoded-ge4096-clause-none c = λ b next.
    let d = rw c.in-Some.is at c.in_ok-decoded.ensures.some in
    let same : c.in-Some.decoded.rows.items ≡ b =
    same_rows c.in-Some.decoded.rows.items b c.args.bytes.now d.0 d.1 next.held next.is in
    let place = d.2 next.block.rows next.block.last (same ∙ next.block.is) in
    let high : 4096 ≤ c.in-Some.decoded.before = omega (arith, c.if-decoded-ge4096.true) in
    omega (arith, place, high, next.block.short)

pub returns-then-not-is_above-clause-none : goal.returns-then-not-is_above-clause-none
returns-then-not-is_above-clause-none c = λ b next.
    let d = rw c.in-Some.is at c.in_ok-decoded.ensures.some in
    let same : c.in-Some.decoded.rows.items ≡ b =
    same_rows c.in-Some.decoded.rows.items b c.args.bytes.now d.0 d.1 next.held next.is in
    let here : Some c.in-Some-first.first.now ≡ slice_get c.in-Some.decoded.rows.items 0 =
    c.in-Some-first.ensures.value
    ∙ ap (λ (l : List Entry). slice_get l 0) c.deref-in-Some-2.ensures.value in
    let key = first_at c.in-Some.decoded.rows.items c.in-Some-first.first.now here
    ∙ ap first_key same in
    false≢true (c.if-not-is_above.ensures.1 (subst (IsAbove c.args.after.now) (sym key) next.above))

pub returns-in-Some-last-clause-some : goal.returns-in-Some-last-clause-some
returns-in-Some-last-clause-some c =
    let d = rw c.in-Some.is at c.in_ok-decoded.ensures.some in
    let rows = c.in-Some.decoded.rows.items in
    let fst : Some c.in-Some-first.first.now ≡ slice_get rows 0 = c.in-Some-first.ensures.value
    ∙ ap (λ (l : List Entry). slice_get l 0) c.deref-in-Some-2.ensures.value in
    let lst : Some c.in-Some-last.last.now ≡ slice_get rows (length rows - 1) =
    c.in-Some-last.ensures.value
    ∙ ap (λ (l : List Entry). slice_get l (length l - 1)) c.deref-in-Some-first.ensures.value in
    block_read rows c.args.bytes.now c.in-Some.decoded.before c.in-Some-first.first.now
    c.in-Some-last.last.now c.args.after.now c.args.is_last c.in_ok-first-in-Some-last.first
    c.in_ok-last-in-Some-last.last c.len-rows.result c.in_ok-summary-in-Some.summary
    c.filter_of-filter.result
    d.0 d.1 d.2 (omega (arith, c.if-decoded-ge4096.false))
    (λ no. full_from c.args.is_last c.else-not-is_last.either no) (omega arith) fst lst
    (c.if-not-is_above.ensures.0 refl)
    c.in_ok-first-in-Some-last.ensures.same c.in_ok-last-in-Some-last.ensures.same
    (omega (arith, c.len-rows.ensures, c.in-Some.decoded.rows.ok)) (c.in_ok-summary-in-Some.ensures
    ∙ ap summary_of c.deref.ensures.value)
    (subst (FilterHoldsRows c.filter_of-filter.result) c.deref-in-Some.ensures.value c.filter_of-filter.ensures)

pub returns-in-Some-clause-none : goal.returns-in-Some-clause-none
returns-in-Some-clause-none c = λ b next.
    let d = rw c.in-Some.is at c.in_ok-decoded.ensures.some in
    let same : c.in-Some.decoded.rows.items ≡ b =
    same_rows c.in-Some.decoded.rows.items b c.args.bytes.now d.0 d.1 next.held next.is in
    no_block b next.block (sym same
    ∙ no_first c.in-Some.decoded.rows.items (c.in-None-first.ensures.value
    ∙ ap (λ (l : List Entry). slice_get l 0) c.deref-in-Some-2.ensures.value))
