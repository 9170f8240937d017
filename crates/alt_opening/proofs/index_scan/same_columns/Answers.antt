-- They are, where their columns are the same, one by one.
use Rattle.std.proofs.Common.{◌∙◌, ◌&&◌, ℕ, List}
use Rattle.std.specs.Cmp.Lexicographic.{pointwise}
use Rattle.std.specs.Str.{bytes_eq}
use Rattle.alt_opening.proofs.IndexKeys as keys
use Rattle.alt_opening.proofs.index_scan.same_columns.Goals as goal

pub returns : goal.returns
returns c = record {
  same = keys.same_columns c.args.a.now c.args.b.now c.eq.result
      (c.eq.ensures
      ∙ (λ i. pointwise (λ (x y : List ℕ × List ℕ). bytes_eq x.0 y.0 && bytes_eq x.1 y.1)
      (c.as_slice.ensures i) (c.as_slice-2.ensures i)));
}
