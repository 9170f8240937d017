-- The keys are put back beside the other attributes.
use Rattle.std.proofs.Common.{Err, [], sym, ap, ◌∙◌, append-nil}
use Rattle.std.specs.List.{flat_map}
use Rattle.alt_keyorder.specs.KeyBytes.{key_bytes}
use Rattle.alt_keyorder.specs.Place.{key_values}
use Rattle.alt_views.specs.IndexRows.{beside_keys}
use Rattle.alt_views.specs.Read.{with_values}
use Rattle.alt_views.proofs.Reading.{has_both, put_back, reads_none, reads_not, reads_passed, rest_is, rest_read}
use Rattle.alt_views.proofs.indexed.item_of_index_row.Goals as goal

pub returns-in_err-item : goal.returns-in_err-item
returns-in_err-item c = record {
  reads = λ kept is.
      let rest = rest_read c.args.schema.now c.args.index.now kept c.args.key.now c.args.columns.now is in
      reads_passed kept c.from_residual.result c.in_err-item.field-0.0 c.from_residual.ensures
      (reads_not kept c.in_err-item.field-0.0 (λ bad. c.in_err-item.ensures.none (ap Err bad)
      (beside_keys c.args.schema.now c.args.index.now kept) rest is.shows));
}

pub returns-in_err-at : goal.returns-in_err-at
returns-in_err-at c = record {
  reads = λ kept is.
      let both = has_both c.args.schema.now c.args.index.now kept c.args.key.now c.args.columns.now is in
      let behind = flat_map key_bytes (key_values both.of_table.hash both.of_table.range) in
      let taken = c.in_err-at.ensures.taken both.own behind both.owns.are both.bytes in
      reads_passed kept c.from_residual-in_err-at.result c.in_err-at.field-0.0
      c.from_residual-in_err-at.ensures
      (reads_none (with_values c.args.index.now.hash c.args.index.now.range both.own c.in_ok-item.item)
      c.args.key.now behind c.take_key.new.item c.in_err-at.field-0.0 kept taken);
}

pub returns-in_err-take_key : goal.returns-in_err-take_key
returns-in_err-take_key c = record {
  reads = λ kept is.
      let both = has_both c.args.schema.now c.args.index.now kept c.args.key.now c.args.columns.now is in
      let behind = flat_map key_bytes (key_values both.of_table.hash both.of_table.range) in
      let one = c.in_ok-at.ensures.taken both.own behind both.owns.are both.bytes in
      let two = c.in_err-take_key.ensures.taken both.of_table [] both.keys.are
      (one.1 ∙ sym (append-nil behind)) in
      reads_passed kept c.from_residual-in_err-take_key.result c.in_err-take_key.field-0.0
      c.from_residual-in_err-take_key.ensures
      (reads_none (with_values c.args.schema.now.hash c.args.schema.now.range both.of_table
      c.take_key.new.item) c.args.key.now [] c.take_key-2.new.item c.in_err-take_key.field-0.0 kept two);
}

pub returns : goal.returns
returns c = record {
  reads = λ kept is.
      let d = c.args.schema.now in
      let i = c.args.index.now in
      let both = has_both d i kept c.args.key.now c.args.columns.now is in
      let behind = flat_map key_bytes (key_values both.of_table.hash both.of_table.range) in
      let one = c.in_ok-at.ensures.taken both.own behind both.owns.are both.bytes in
      let two = c.in_ok-take_key.ensures.taken both.of_table [] both.keys.are
      (one.1 ∙ sym (append-nil behind)) in
      let rest = rest_is d i kept c.args.key.now c.args.columns.now is c.in_ok-item.item
      c.in_ok-item.ensures.item in
      two.0
      ∙ ap (with_values d.hash d.range both.of_table)
      (one.0 ∙ ap (with_values i.hash i.range both.own) rest)
      ∙ put_back d i kept c.args.key.now c.args.columns.now is both.own both.of_table both.owns
      both.keys;
}
