-- The row of the change comes.
use Rattle.std.proofs.Common.{◌≡◌, ◌∙◌, ◌++◌, ◌∷◌, [], true, false, List, Option, option_map, ap, sym}
use Rattle.std.proofs.lemmas.Result.{on_ok_weaker}
use Rattle.alt_cells.specs.declared.batch.RowChange.{RowChange}
use Rattle.alt_changes.proofs.Written.{one_left, row_made}
use Rattle.alt_changes.proofs.changes.change_row.Goals as goal
use Rattle.alt_machine.specs.Same.{is_same}
use Rattle.alt_machine.specs.State.{Change}
use Rattle.alt_value.specs.Tree.{Pair}

pub returns : goal.returns
returns c =
    let old : Option (List Pair) = option_map (λ i. i.now) c.args.old in
    let new : Option (List Pair) = option_map (λ i. i.now) c.args.new in
    let change : Change = record {
      number = c.args.number;
      moment = c.args.moment;
      old = old;
      new = new;
      by = c.args.by;
    } in
    let differ : is_same old new ≡ false = cc (c.same.ensures, c.if-same.false) in
    let of_key : List _ → RowChange = λ key. record {
      family = c.in-Some.family;
      key = key;
      clear = true;
      cells = c.in_ok-cells_of.field-0;
    } in
    record {
      changes = on_ok_weaker c.add.result (λ e. e ∙ ap (λ l. c.args.batch.now ++ l)
          (ap (λ r. r ∷ []) (ap of_key c.in_ok-number_bytes.ensures
          ∙ row_made c.in-Some.family change c.in_ok-cells_of.field-0 c.in_ok-cells_of.ensures)
          ∙ sym (one_left c.args.schema.now c.args.number c.args.moment c.args.by old new
          c.in-Some.family
          c.in-Some.is differ))) c.add.ensures.ok;
    }
