-- Each turn reads one element or member more; a value is an object of its kind and payload.
use Rattle.std.proofs.Common.{◌≡◌, refl, sym, subst, List, ◌<◌, length, None, Some, arith}
use Rattle.std.specs.Prelude.{codes}
use Rattle.json.specs.Json.{after_end_array, read_key}
use Rattle.alt_codec.specs.Reading.{value_in}
use Rattle.alt_codec.specs.Scalars.{text_in, number_in, binary_in, truth_in, null_in}
use Rattle.alt_codec.specs.Steps.{map_ok}
use Rattle.alt_value.specs.Stands.{tree_of}
use Rattle.alt_value.specs.Tree.{Pair, S_tree, N_tree, B_tree}
use Rattle.alt_readahead.specs.Payloads.{ReadsFields}
use Rattle.alt_readahead.proofs.Loops.{reads_shorter, elements_begin, elements_turn, elements_end, fields_begin, fields_turn, fields_less, fields_end}
use Rattle.alt_readahead.proofs.Payloads.{reads_kind, reads_list, reads_map, reads_value}
use Rattle.alt_readahead.proofs.direct.+direct.Goals as goal

pub elements_at-elements-init : goal.elements_at-elements-init
elements_at-elements-init t c =
    elements_begin (value_in c.args.room) c.args.depth c.args.reader.now c.new-elements.result
    c.new-elements.ensures.empty

pub elements_at-elements-preserved : goal.elements_at-elements-preserved
elements_at-elements-preserved t c =
    let l = c.elements in
    let going : (after_end_array l.reader ≡ None) × (c.take_end_array.new.self ≡ l.reader) =
    grind arith in
    elements_turn (value_in c.args.room) c.args.depth c.args.reader.now l.reader
    c.take_end_array.new.self c.value_at.new.reader l.elements c.push.new.self
    (tree_of c.in_ok-element.element) l.invariant going.0 going.1 c.in_ok-element.ensures.value
    c.in_ok-push.ensures.ok

pub elements_at-elements-smaller : goal.elements_at-elements-smaller
elements_at-elements-smaller t c =
    let same : c.take_end_array.new.self ≡ c.elements.reader = grind arith in
    reads_shorter (value_in c.args.room) c.args.depth c.elements.reader c.take_end_array.new.self
    c.value_at.new.reader (tree_of c.in_ok-element.element) same c.in_ok-element.ensures.value

pub elements_at-returns : goal.elements_at-returns
elements_at-returns t c =
    let l = c.elements in
    let over : after_end_array l.reader ≡ Some c.take_end_array.new.self = grind arith in
    record {
      elements = elements_end (value_in c.args.room) c.args.depth c.args.reader.now l.reader
          c.take_end_array.new.self l.elements l.invariant over;
    }

pub fields_at-fields-init : goal.fields_at-fields-init
fields_at-fields-init t c =
    fields_begin c.args.depth c.args.room c.args.reader.now c.new-item.result
    c.new-item.ensures.empty

pub fields_at-fields-preserved : goal.fields_at-fields-preserved
fields_at-fields-preserved t c =
    let l = c.fields in
    let k = c.in-Some.name.now in
    let named : read_key l.reader ≡ Some (Some k, c.next_key.new.self) = grind arith in
    let some : 0 < length k = grind arith in
    fields_turn c.args.depth c.args.room c.args.reader.now l.reader c.next_key.new.self
    c.value_at.new.reader l.item c.put.new.self k (tree_of c.in_ok-value.value) l.invariant named
    some c.in_ok-value.ensures.value c.in_ok-put.ensures.ok

pub fields_at-fields-smaller : goal.fields_at-fields-smaller
fields_at-fields-smaller t c =
    let k = c.in-Some.name.now in
    let named : read_key c.fields.reader ≡ Some (Some k, c.next_key.new.self) = grind arith in
    fields_less c.args.depth c.args.room c.args.reader.now c.fields.reader c.next_key.new.self
    c.value_at.new.reader k (tree_of c.in_ok-value.value) named c.in_ok-value.ensures.value

pub fields_at-returns-in-Ok : goal.fields_at-returns-in-Ok
fields_at-returns-in-Ok t c =
    let l = c.fields in
    let over : read_key l.reader ≡ Some (None, c.next_key.new.self) = grind arith in
    record {
      fields = subst (λ (i : List Pair). ReadsFields c.args.depth c.args.room c.args.reader.now i
          c.next_key.new.self) (sym c.in-Ok.ensures.item)
          (fields_end c.args.depth c.args.room c.args.reader.now l.reader c.next_key.new.self
          l.item l.invariant over);
    }

pub list_at-returns : goal.list_at-returns
list_at-returns t c = record {
  value = reads_list c.args.depth c.args.room c.args.reader.now c.open_array.new.reader
      c.elements_at.new.reader c.in_ok-elements.elements (omega (arith, c.requires)) (omega arith)
      c.in_ok-open_array.ensures.passed c.in_ok-elements.ensures.elements;
}

pub map_at-returns : goal.map_at-returns
map_at-returns t c = record {
  value = reads_map c.args.depth c.args.room c.args.reader.now c.open_object.new.reader
      c.fields_at.new.reader c.in_ok-fields.fields (omega (arith, c.requires)) (omega arith)
      c.in_ok-open_object.ensures.passed c.in_ok-fields.ensures.fields;
}

pub value_at-returns : goal.value_at-returns
value_at-returns t c = record {
  value = reads_value c.args.depth c.args.room c.args.reader.now c.open_object.new.reader
      c.name.new.reader c.payload_at.new.reader c.close_object.new.reader c.in_ok-kind.kind.now
      (tree_of c.in_ok-value.value) (omega arith) c.in_ok-open_object.ensures.passed
      c.in_ok-kind.ensures.passed c.in_ok-value.ensures.value c.in_ok-close_object.ensures.passed;
}

pub payload_at-returns-in-S : goal.payload_at-returns-in-S
payload_at-returns-in-S t c = record {
  value = reads_kind (λ d. map_ok S_tree (text_in d)) c.args.room c.args.depth c.args.kind.now
      (codes "S") c.args.reader.now c.text_value.new.reader c.text_value.result
      c.in-S.is (λ d. refl) c.text_value.ensures.value;
}

pub payload_at-returns-in-N : goal.payload_at-returns-in-N
payload_at-returns-in-N t c = record {
  value = reads_kind (λ d. map_ok N_tree (number_in d)) c.args.room c.args.depth c.args.kind.now
      (codes "N") c.args.reader.now c.number_value.new.reader c.number_value.result
      c.in-N.is (λ d. refl) c.number_value.ensures.value;
}

pub payload_at-returns-in-B : goal.payload_at-returns-in-B
payload_at-returns-in-B t c = record {
  value = reads_kind (λ d. map_ok B_tree (binary_in d)) c.args.room c.args.depth c.args.kind.now
      (codes "B") c.args.reader.now c.binary_value.new.reader c.binary_value.result
      c.in-B.is (λ d. refl) c.binary_value.ensures.value;
}

pub payload_at-returns-in-BOOL : goal.payload_at-returns-in-BOOL
payload_at-returns-in-BOOL t c = record {
  value = reads_kind truth_in c.args.room c.args.depth c.args.kind.now
      (codes "BOOL") c.args.reader.now c.truth_value.new.reader c.truth_value.result
      c.in-BOOL.is (λ d. refl) c.truth_value.ensures.value;
}

pub payload_at-returns-in-NULL : goal.payload_at-returns-in-NULL
payload_at-returns-in-NULL t c = record {
  value = reads_kind null_in c.args.room c.args.depth c.args.kind.now
      (codes "NULL") c.args.reader.now c.null_value.new.reader c.null_value.result
      c.in-NULL.is (λ d. refl) c.null_value.ensures.value;
}
