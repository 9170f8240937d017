-- What goes isn't changed yet.
use Rattle.std.proofs.Common.{◌≡◌, refl, sym, subst, ℕ, Option, Some, None, All, true, false}
use Rattle.std.proofs.lemmas.Bool.{false≢true}
use Rattle.std.specs.Prelude.{◌≢◌, AllPairs, is_some}
use Rattle.alt_cells.specs.Batches.{has_row}
use Rattle.alt_changes.specs.ChangeRows.{row_key}
use Rattle.alt_changes.specs.TrimRows.{AreLeft}
use Rattle.alt_rowchanges.proofs.trimming.put_trim.Goals as goal

-- an option that is there has a value
with_some : (o : Option ℕ) → true ≡ is_some o → (x : ℕ) × (o ≡ Some x)
with_some None e = absurd (false≢true (sym e))
with_some (Some x) e = (x, refl)

pub trim_rows-requires-clause-rise : goal.trim_rows-requires-clause-rise
trim_rows-requires-clause-rise c =
    let (family, stream) = with_some c.args.schema.now.stream_family (sym c.if-is_none.ensures) in
    (c.requires.rows family stream).rise

pub trim_rows-requires-clause-left : goal.trim_rows-requires-clause-left
trim_rows-requires-clause-left c =
    let (family, stream) = with_some c.args.schema.now.stream_family (sym c.if-is_none.ensures) in
    subst (AreLeft c.args.trim.now.number) (sym c.as_slice.ensures.value)
    (c.requires.rows family stream).left

pub trim_rows-requires-clause-differ : goal.trim_rows-requires-clause-differ
trim_rows-requires-clause-differ c =
    let (family, stream) = with_some c.args.schema.now.stream_family (sym c.if-is_none.ensures) in
    subst (AllPairs (λ (m n : ℕ). m ≢ n)) (sym c.as_slice.ensures.value)
    (c.requires.rows family stream).differ

pub trim_rows-requires-clause-rows : goal.trim_rows-requires-clause-rows
trim_rows-requires-clause-rows c family stream =
    subst (All (λ (n : ℕ). has_row c.args.batch.now family (row_key n) ≡ false))
    (sym c.as_slice.ensures.value) (c.requires.rows family stream).rows
