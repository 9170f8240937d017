-- An element or an entry more; a list or a map that is whole; and where one stops.
use Rattle.std.proofs.Common.{◌-◌, refl, sym, ap, subst, ◌∙◌, List, ℕ, ◌∷◌, ◌++◌, length, get_or, rules, arith}
use Rattle.std.specs.List.{flat_map}
use Rattle.std.proofs.lemmas.Result.{err_from_is_err_and, IfErr-weaker}
use Rattle.alt_base.proofs.Lists.{head_tail, cons_same}
use Rattle.alt_value.specs.Item.{with_pair}
use Rattle.alt_value.specs.Stands.{tree_of}
use Rattle.alt_value.specs.Tree.{Tree}
use Rattle.alt_cellbytes.specs.Places.{ValueStops, TooDeep, StopsHere, no_count, entry_bytes}
use Rattle.alt_cellbytes.proofs.Kept.{stop_into, both_map}
use Rattle.alt_cellbytes.proofs.Deep.{elements_within, fields_within}
use Rattle.alt_cellbytes.proofs.DeepFirst.{deep_kind, other_kind, list_deeper, map_deeper, list_uncounted, map_uncounted, elements_ahead, entries_ahead, ahead_stop, name_stop, behind_name, never_ok}
use Rattle.alt_cellbytes.proofs.OneMore.{entry_more, entry_shallow, name_length}
use Rattle.alt_cellbytes.proofs.StopsWithin.{stops_here, list_stops, map_stops, list_deep, map_deep}
use Rattle.alt_cellbytes.proofs.Wholes.{list_whole, map_whole}
use Rattle.alt_cellbytes.proofs.reading.+reading.Goals as goal

pub take_entries-put-requires : goal.take_entries-put-requires
take_entries-put-requires t c = name_length c.loop-done.map c.in_ok-name.name.now
    c.in_ok-name.ensures.name.1

pub take_entries-loop-done-preserved : goal.take_entries-loop-done-preserved
take_entries-loop-done-preserved t c =
    let name = c.in_ok-name.name.now in
    let next = c.in_ok-name.ensures.name.1 in
    let value = c.in-Ok.ensures.value in
    let added = c.in_ok-put-in-Ok.ensures.ok ∙ ap (λ (u : Tree). with_pair name u c.loop-done.map)
    (search rules) in
    let m = entry_more c.loop-done.map c.put.new.self name
    (tree_of c.in-Ok.value) c.loop-done._done c.args.bytes.now
    c.loop-done.rest.now c.in_ok-name.behind.now c.in-Ok.after.now c.loop-done.invariant.count
    c.loop-done.invariant.members c.loop-done.invariant.bytes c.in_ok-name.ensures.name.0 next
    c.in_ok-name.ensures.name.2 value.0 value.2 added in record {
      count = m.0;
      members = m.1;
      shallow = entry_shallow c.args.most c.loop-done.map c.put.new.self name
          (tree_of c.in-Ok.value)
          c.loop-done.invariant.shallow next value.1 added;
      bytes = m.2 ∙ ap (λ (s : List ℕ). flat_map entry_bytes c.put.new.self ++ s) (search rules);
    }

pub take_list-returns-in_err-count-clause-stop : goal.take_list-returns-in_err-count-clause-stop
take_list-returns-in_err-count-clause-stop t c =
    let bytes = c.args.bytes.now in
    let p = err_from_is_err_and c.from_residual.result c.from_residual.ensures.1 in
    rw (p.1, p.2) (stop_into _ (ValueStops (9 ∷ bytes))
    (TooDeep c.args.most (9 ∷ bytes)) c.in_err-count.field-0.0
    (λ n h. stops_here (9 ∷ bytes) n (no_count 9 bytes (omega arith) (omega arith) refl h))
    c.in_err-count.ensures.stop)

pub take_list-returns-in-Ok-clause-value : goal.take_list-returns-in-Ok-clause-value
take_list-returns-in-Ok-clause-value t c =
    let list = c.in-Ok.ensures.elements in
    let w = list_whole c.in-Ok.list c.in_ok-count.count c.args.bytes.now c.in_ok-count.rest.now
    c.in-Ok.rest.now
    c.in_ok-count.ensures.count.0 c.in_ok-count.ensures.count.1 list.0 list.1 list.3 in
    (w.0, omega (arith, elements_within (c.args.most - 1) c.in-Ok.list list.2, c.requires), w.1)

pub take_list-returns-in-Err-clause-stop : goal.take_list-returns-in-Err-clause-stop
take_list-returns-in-Err-clause-stop t c =
    let bytes = c.args.bytes.now in
    let most = c.args.most in
    let count = c.in_ok-count.count in
    let rest = c.in_ok-count.rest.now in
    let told = cons_same 9 9 bytes _ refl c.in_ok-count.ensures.count.1 in
    both_map _ (ValueStops (9 ∷ bytes)) _ (TooDeep most (9 ∷ bytes)) c.in-Err.stop
    (λ n h. list_stops count (9 ∷ bytes) rest n c.in_ok-count.ensures.count.0 told h)
    (λ n h. list_deep most count (9 ∷ bytes) rest n c.requires c.in_ok-count.ensures.count.0 told h)
    c.in-Err.ensures.stop

pub take_map-returns-in_err-count-clause-stop : goal.take_map-returns-in_err-count-clause-stop
take_map-returns-in_err-count-clause-stop t c =
    let bytes = c.args.bytes.now in
    let p = err_from_is_err_and c.from_residual.result c.from_residual.ensures.1 in
    rw (p.1, p.2) (stop_into _ (ValueStops (10 ∷ bytes))
    (TooDeep c.args.most (10 ∷ bytes)) c.in_err-count.field-0.0
    (λ n h. stops_here (10 ∷ bytes) n (no_count 10 bytes (omega arith) (omega arith) refl h))
    c.in_err-count.ensures.stop)

pub take_map-returns-in-Ok-clause-value : goal.take_map-returns-in-Ok-clause-value
take_map-returns-in-Ok-clause-value t c =
    let map = c.in-Ok.ensures.entries in
    let w = map_whole c.in-Ok.map c.in_ok-count.count c.args.bytes.now c.in_ok-count.rest.now
    c.in-Ok.rest.now
    c.in_ok-count.ensures.count.0 c.in_ok-count.ensures.count.1 map.0 map.1 map.3 in
    (w.0, omega (arith, fields_within (c.args.most - 1) c.in-Ok.map map.2, c.requires), w.1)

pub take_map-returns-in-Err-clause-stop : goal.take_map-returns-in-Err-clause-stop
take_map-returns-in-Err-clause-stop t c =
    let bytes = c.args.bytes.now in
    let most = c.args.most in
    let count = c.in_ok-count.count in
    let rest = c.in_ok-count.rest.now in
    let told = cons_same 10 10 bytes _ refl c.in_ok-count.ensures.count.1 in
    both_map _ (ValueStops (10 ∷ bytes)) _ (TooDeep most (10 ∷ bytes)) c.in-Err.stop
    (λ n h. map_stops count (10 ∷ bytes) rest n c.in_ok-count.ensures.count.0 told h)
    (λ n h. map_deep most count (10 ∷ bytes) rest n c.requires c.in_ok-count.ensures.count.0 told h)
    c.in-Err.ensures.stop

pub take_value-returns-in_default-clause-stop : goal.take_value-returns-in_default-clause-stop
take_value-returns-in_default-clause-stop t c =
    IfErr-weaker c.take_flat.result _ _
    (λ s h. stop_into _ (ValueStops c.args.bytes.now) (TooDeep c.args.most c.args.bytes.now) s
    (λ n k. stops_here c.args.bytes.now n
    (subst (λ bytes. StopsHere bytes n) (head_tail c.args.bytes.now c.in-len1-up.len_at_least) k))
    h)
    c.take_flat.ensures.stop

-- ---- nothing is read past the first list or map that is too deep

pub take_elements-returns-in-Err-clause-deep : goal.take_elements-returns-in-Err-clause-deep
take_elements-returns-in-Err-clause-deep t c = λ left non.
    let a = elements_ahead c.args.most c.loop-done.list c.args.count c.args.bytes.now
    c.loop-done.rest.now left c.loop-done.invariant.members c.loop-done.invariant.shallow
    c.loop-done.invariant.bytes non in
    ahead_stop c.args.most left c.loop-done.rest.now c.in-Err.stop a.1 c.in-Err.ensures.stop
    c.in-Err.ensures.deep

pub take_elements-returns-clause-deep : goal.take_elements-returns-clause-deep
take_elements-returns-clause-deep t c = λ left non.
    let a = elements_ahead c.args.most c.loop-done.list c.args.count c.args.bytes.now
    c.loop-done.rest.now left c.loop-done.invariant.members c.loop-done.invariant.shallow
    c.loop-done.invariant.bytes non in
    never_ok (length c.loop-done.list) c.args.count a.0 (search rules)

pub take_entries-returns-in_err-name-clause-deep :
    goal.take_entries-returns-in_err-name-clause-deep
take_entries-returns-in_err-name-clause-deep t c = λ left non.
    let a = entries_ahead c.args.most c.loop-done.map c.args.count c.args.bytes.now
    c.loop-done.rest.now left c.loop-done.invariant.members c.loop-done.invariant.shallow
    c.loop-done.invariant.bytes non in
    let p = err_from_is_err_and c.from_residual.result c.from_residual.ensures.1 in
    rw (p.1, p.2) (name_stop c.args.most c.loop-done.map c.loop-done.rest.now left
    c.in_err-name.field-0.0 a.1 c.in_err-name.ensures.stop)

pub take_entries-returns-in-Err-clause-deep : goal.take_entries-returns-in-Err-clause-deep
take_entries-returns-in-Err-clause-deep t c = λ left non.
    let a = entries_ahead c.args.most c.loop-done.map c.args.count c.args.bytes.now
    c.loop-done.rest.now left c.loop-done.invariant.members c.loop-done.invariant.shallow
    c.loop-done.invariant.bytes non in
    let b = behind_name c.args.most c.loop-done.map c.loop-done.rest.now c.in_ok-name.name.now
    c.in_ok-name.behind.now left a.1 c.in_ok-name.ensures.name.0 c.in_ok-name.ensures.name.2 in
    ahead_stop c.args.most left c.in_ok-name.behind.now c.in-Err.stop b c.in-Err.ensures.stop
    c.in-Err.ensures.deep

pub take_entries-returns-clause-deep : goal.take_entries-returns-clause-deep
take_entries-returns-clause-deep t c = λ left non.
    let a = entries_ahead c.args.most c.loop-done.map c.args.count c.args.bytes.now
    c.loop-done.rest.now left c.loop-done.invariant.members c.loop-done.invariant.shallow
    c.loop-done.invariant.bytes non in
    never_ok (length c.loop-done.map) c.args.count a.0 (search rules)

pub take_list-returns-in_err-count-clause-deep : goal.take_list-returns-in_err-count-clause-deep
take_list-returns-in_err-count-clause-deep t c = λ left s.
    let p = err_from_is_err_and c.from_residual.result c.from_residual.ensures.1 in
    rw (p.1, p.2) (list_uncounted c.args.most c.args.bytes.now left c.in_err-count.field-0.0
    c.requires s c.in_err-count.ensures.stop)

pub take_list-returns-in-Ok-clause-deep : goal.take_list-returns-in-Ok-clause-deep
take_list-returns-in-Ok-clause-deep t c = λ left s.
    c.in-Ok.ensures.deep left (list_deeper c.args.most c.in_ok-count.count c.args.bytes.now
    c.in_ok-count.rest.now left c.requires c.in_ok-count.ensures.count.0
    c.in_ok-count.ensures.count.1 s)

pub take_list-returns-in-Err-clause-deep : goal.take_list-returns-in-Err-clause-deep
take_list-returns-in-Err-clause-deep t c = λ left s.
    c.in-Err.ensures.deep left (list_deeper c.args.most c.in_ok-count.count c.args.bytes.now
    c.in_ok-count.rest.now left c.requires c.in_ok-count.ensures.count.0
    c.in_ok-count.ensures.count.1 s)

pub take_map-returns-in_err-count-clause-deep : goal.take_map-returns-in_err-count-clause-deep
take_map-returns-in_err-count-clause-deep t c = λ left s.
    let p = err_from_is_err_and c.from_residual.result c.from_residual.ensures.1 in
    rw (p.1, p.2) (map_uncounted c.args.most c.args.bytes.now left c.in_err-count.field-0.0
    c.requires s c.in_err-count.ensures.stop)

pub take_map-returns-in-Ok-clause-deep : goal.take_map-returns-in-Ok-clause-deep
take_map-returns-in-Ok-clause-deep t c = λ left s.
    c.in-Ok.ensures.deep left (map_deeper c.args.most c.in_ok-count.count c.args.bytes.now
    c.in_ok-count.rest.now left c.requires c.in_ok-count.ensures.count.0
    c.in_ok-count.ensures.count.1 s)

pub take_map-returns-in-Err-clause-deep : goal.take_map-returns-in-Err-clause-deep
take_map-returns-in-Err-clause-deep t c = λ left s.
    c.in-Err.ensures.deep left (map_deeper c.args.most c.in_ok-count.count c.args.bytes.now
    c.in_ok-count.rest.now left c.requires c.in_ok-count.ensures.count.0
    c.in_ok-count.ensures.count.1 s)

pub take_value-returns-in_default-clause-deep : goal.take_value-returns-in_default-clause-deep
take_value-returns-in_default-clause-deep t c = λ left s.
    absurd (other_kind (get_or c.args.bytes.now 0 0)
    (deep_kind c.args.most (get_or c.args.bytes.now 0 0) _ left
    (subst (λ bytes. TooDeep c.args.most bytes left)
    (sym (head_tail c.args.bytes.now c.in-len1-up.len_at_least)) s))
    (search rules))
