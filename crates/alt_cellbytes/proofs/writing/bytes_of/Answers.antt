-- The value is one, and its bytes are of no other.
use Rattle.std.proofs.Common.{[], ◌++◌, refl, sym, ap}
use Rattle.alt_value.specs.Stands.{tree_of}
use Rattle.alt_cellbytes.proofs.Apart.{cell_bytes-apart}
use Rattle.alt_cellbytes.proofs.WholeValues.{whole_has}
use Rattle.alt_cellbytes.proofs.writing.bytes_of.Goals as goal

pub returns-clause-again : goal.returns-clause-again
returns-clause-again c = λ full.
    let t = tree_of c.args.a.now in
    let value = c.held.ensures.value in (
      (value, full),
      refl,
      (λ u w e. (cell_bytes-apart u t [] [] (whole_has u w) (whole_has t (value, full))
          (ap (λ s. s ++ []) (sym e))).0),
    )
