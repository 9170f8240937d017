-- A row goes, comes, moves or stays.
use Rattle.std.proofs.Common.{◌≡◌, ◌++◌, List, true, false, sym, subst}
use Rattle.std.specs.Prelude.{OnOk}
use Rattle.std.specs.Str.{bytes_eq}
use Rattle.alt_cells.specs.declared.batch.RowChange.{RowChange}
use Rattle.alt_views.proofs.Moved.{goes_new, comes_new, first_new, then_new, both_made, stays}
use Rattle.alt_views.proofs.changes.change_row.Goals as goal

pub make-requires : goal.make-requires
make-requires c = record {
  new = comes_new c.args.family c.args.batch.now c.args.before c.args.after c.in-None-Some.made
      c.in-None-Some.is-0 c.in-None-Some.is-1 c.requires.rows;
}

pub take-requires : goal.take-requires
take-requires c = record {
  new = goes_new c.args.family c.args.batch.now c.args.before c.args.after c.in-Some-None.gone
      c.in-Some-None.is-0 c.in-Some-None.is-1 c.requires.rows;
}

pub returns-then-eq : goal.returns-then-eq
returns-then-eq c =
    let same : bytes_eq c.in-Some-Some.made.key c.in-Some-Some.gone.key ≡ true = cc in
    record {
      changes = subst (λ (cs : List RowChange). OnOk c.change_columns.result
          (c.change_columns.new.batch ≡ c.args.batch.now ++ cs))
          (sym (stays c.args.family c.args.batch.now c.args.before c.args.after
          c.in-Some-Some.gone c.in-Some-Some.made c.in-Some-Some.is-0 c.in-Some-Some.is-1 same))
          c.change_columns.ensures.change;
    }

pub take-requires-in-Some-Some : goal.take-requires-in-Some-Some
take-requires-in-Some-Some c =
    let differ : bytes_eq c.in-Some-Some.made.key c.in-Some-Some.gone.key ≡ false = cc in
    record {
      new = first_new c.args.family c.args.batch.now c.args.before c.args.after
          c.in-Some-Some.gone c.in-Some-Some.made c.in-Some-Some.is-0 c.in-Some-Some.is-1 differ
          c.requires.rows;
    }

pub make-requires-in-Some-Some : goal.make-requires-in-Some-Some
make-requires-in-Some-Some c =
    let differ : bytes_eq c.in-Some-Some.made.key c.in-Some-Some.gone.key ≡ false = cc in
    record {
      new = then_new c.args.family c.args.batch.now c.args.before c.args.after
          c.in-Some-Some.gone c.in-Some-Some.made c.in-Some-Some.is-0 c.in-Some-Some.is-1
          c.take-in-Some-Some.new.batch differ c.requires.rows
          c.in_ok-take-in-Some-Some.ensures.change;
    }

pub returns-in_ok-take-in-Some-Some : goal.returns-in_ok-take-in-Some-Some
returns-in_ok-take-in-Some-Some c =
    let differ : bytes_eq c.in-Some-Some.made.key c.in-Some-Some.gone.key ≡ false = cc in
    record {
      changes = subst (λ (cs : List RowChange). OnOk c.make-in-Some-Some.result
          (c.make-in-Some-Some.new.batch ≡ cs))
          (both_made c.args.family c.args.batch.now c.args.before c.args.after
          c.in-Some-Some.gone c.in-Some-Some.made c.in-Some-Some.is-0 c.in-Some-Some.is-1
          c.take-in-Some-Some.new.batch differ c.in_ok-take-in-Some-Some.ensures.change)
          c.make-in-Some-Some.ensures.change;
    }
