-- What an update leaves, step by step.
use Rattle.std.proofs.Common.{◌≡◌, refl, sym, ap, subst, ◌∙◌, ℕ, zero, suc, ◌+◌, ◌<◌, ◌≤◌, nat_le, T, true, false, List, [], ◌∷◌, take, length, Option, Some, None, Result, Ok, Err, IfSome, arith}
use Rattle.std.specs.Prelude.{slice_get, unwrap_or}
use Rattle.std.specs.FinMap as map
use Rattle.std.specs.FinMap.Entries.{below_all}
use Rattle.std.proofs.lemmas.Bool.{leb-true, leb-false, lt-leb}
use Rattle.alt_base.proofs.Bools.{first_holds, second_holds}
use Rattle.serde_json.specs.Data.{Members}
use Rattle.alt_expr.specs.Faults.{Parsed}
use Rattle.alt_expr.specs.Given.{Given}
use Rattle.alt_expr.specs.UpdateLanguage.{updates, begin_with_names}
use Rattle.alt_expr.specs.declared.fault.ExprFault.{ExprFault}
use Rattle.alt_expr.specs.declared.update.Action.{Action}
use Rattle.alt_expr.proofs.UpdateTexts.{update_of}
use Rattle.alt_machine.specs.declared.Expressions.{Expressions}
use Rattle.alt_machine.specs.declared.Sought.TheVariants.{Key}
use Rattle.alt_machine.specs.Expressions as machine
use Rattle.alt_machine.specs.Members.{table_name}
use Rattle.alt_machine.specs.Ops.UpdateItem.{of_body, item_after, left_by_update, of_left, with_key_attributes}
use Rattle.alt_machine.specs.Refusals.{first_answer, unless_answer, ◌>>=◌}
use Rattle.alt_machine.specs.State.{State, Table}
use Rattle.alt_machine.specs.Targets.{IsPlaced}
use Rattle.alt_machine.specs.Valid.{IsStored, IsValid, deepest}
use Rattle.alt_machine.proofs.Older.{parts_of, said_has, older_begins}
use Rattle.alt_machine.proofs.Said.{found_first, says_update}
use Rattle.alt_machine.proofs.Updates.{may_be_left}
use Rattle.alt_ops_item.specs.private.Updates.{left_or_refusal, WithPart, is_flat}
use Rattle.alt_request.specs.Steps.{Comes, IsMemory, Tested}
use Rattle.alt_request.specs.declared.stop.Stop.{Stop}
use Rattle.alt_request.specs.declared.stop.Stop.TheVariants.{Refused, Fault}
use Rattle.alt_schema.specs.declared.schema.TableSchema.{TableSchema}
use Rattle.alt_shape.specs.Refusals.{Answer}
use Rattle.alt_updparse.proofs.Begins.{update_begins}
use Rattle.alt_value.specs.Item.{IsItem, with_pair}
use Rattle.alt_value.specs.Members.{text_order}
use Rattle.alt_value.specs.Size.{depth, fields_depth}
use Rattle.alt_value.specs.Tree.{Pair, fields_of}
use Rattle.alt_value.proofs.Depths.{value_depth}
use Rattle.alt_value.proofs.TextTies.{above_empty_holds}

-- ---- the key

same_pair : (p q : Pair) → Some p ≡ Some q → p ≡ q
same_pair p q e = cc

-- the attributes of a key are put from the last on
with_key-take : (key item : List Pair) (i : ℕ) (p : Pair) → slice_get key i ≡ Some p
    → with_key_attributes (take (suc i) key) item ≡ with_key_attributes (take i key) (with_pair p.0 p.1 item)
with_key-take [] item i p e = absurd (let f : ⊥ = cc in f)
with_key-take ((name, t) ∷ key) item zero p e =
    ap (λ (q : Pair). with_pair q.0 q.1 item) (same_pair (name, t) p e)
with_key-take ((name, t) ∷ key) item (suc i) p e =
    ap (with_pair name t) (with_key-take key item i p e)

-- one of them was put
pub part_put : (key item new : List Pair) (i : ℕ) → WithPart (slice_get key i) item new
    → with_key_attributes (take i key) new ≡ with_key_attributes (take (i + 1) key) item
part_put key item new i = by (slice_get key i) refl
  where
    by : (o : Option Pair) → slice_get key i ≡ o → WithPart o item new
        → with_key_attributes (take i key) new ≡ with_key_attributes (take (i + 1) key) item
    by None e h = absurd h
    by (Some p) e h = ap (with_key_attributes (take i key)) h ∙ sym (with_key-take key item i p e)
        ∙ ap (λ n. with_key_attributes (take n key) item) (let f : suc i ≡ i + 1 = omega arith in f)

-- each attribute of an item has a name with bytes
below_get : (ps : List Pair) (i : ℕ) (p : Pair) → T (below_all text_order [] ps)
    → slice_get ps i ≡ Some p → 0 < length p.0
below_get [] i p h e = absurd (let f : ⊥ = cc in f)
below_get (q ∷ ps) zero p h e =
    subst (λ (r : Pair). 0 < length r.0) (same_pair q p e)
    (above_empty_holds q.0 (first_holds _ _ h))
below_get (q ∷ ps) (suc i) p h e = below_get ps i p (second_holds _ _ h) e

-- each name of an item has bytes
pub part_named : (ps : List Pair) (i : ℕ) (p : Pair) → IsItem ps → slice_get ps i ≡ Some p
    → 0 < length p.0
part_named ps i p item e = below_get ps i p item.1 e

-- ---- depth

-- the attributes so far, and one more
pub depth-take : (ps : List Pair) (i n : ℕ) (p : Pair) → slice_get ps i ≡ Some p → depth p.1 ≤ n
    → fields_depth (fields_of (take i ps)) ≤ n → fields_depth (fields_of (take (suc i) ps)) ≤ n
depth-take [] i n p e flat h = absurd (let f : ⊥ = cc in f)
depth-take (q ∷ ps) zero n p e flat h =
    omega (arith, flat, ap (λ (r : Pair). depth r.1) (same_pair q p e))
depth-take (q ∷ ps) (suc i) n p e flat h =
    let rest : fields_depth (fields_of (take (suc i) ps)) ≤ n =
    depth-take ps i n p e flat (omega (arith, h)) in omega (arith, h, rest)

-- nothing is found only behind the last
beyond : (ps : List Pair) (i : ℕ) → slice_get ps i ≡ None → length ps ≤ i
beyond [] i e = omega arith
beyond (q ∷ ps) zero e = absurd (let f : ⊥ = cc in f)
beyond (q ∷ ps) (suc i) e = omega (arith, beyond ps i e)

-- one more that isn't too deep
pub flat-take : (ps : List Pair) (i : ℕ) → i < length ps → is_flat (slice_get ps i) ≡ true
    → fields_depth (fields_of (take i ps)) ≤ deepest
    → fields_depth (fields_of (take (i + 1) ps)) ≤ deepest
flat-take ps i within flat h = by (slice_get ps i) refl
  where
    one_more : suc i ≡ i + 1
    one_more = omega arith

    by : (o : Option Pair) → slice_get ps i ≡ o
        → fields_depth (fields_of (take (i + 1) ps)) ≤ deepest
    by None e = absurd (omega (arith, within, beyond ps i e))
    by (Some p) e = subst (λ n. fields_depth (fields_of (take n ps)) ≤ deepest) one_more
        (depth-take ps i deepest p e
        (leb-true (depth p.1) deepest (sym (ap is_flat e) ∙ flat)) h)

-- one that is too deep makes the item so
pub too_deep : (ps : List Pair) (i : ℕ) → is_flat (slice_get ps i) ≡ false
    → nat_le (fields_depth (fields_of ps)) deepest ≡ false
too_deep ps i steep = by (slice_get ps i) refl
  where
    by : (o : Option Pair) → slice_get ps i ≡ o
        → nat_le (fields_depth (fields_of ps)) deepest ≡ false
    by None e = absurd (let f : true ≡ false = sym (ap is_flat e) ∙ steep in let g : ⊥ = cc in g)
    by (Some p) e =
        let high : deepest < depth p.1 =
        leb-false (depth p.1) deepest (sym (ap is_flat e) ∙ steep) in
        let low : depth p.1 ≤ fields_depth (fields_of ps) = value_depth ps i p (sym e) in
        lt-leb (fields_depth (fields_of ps)) deepest (omega (arith, high, low))

-- ---- what is left

module _ (d : TableSchema) (said : Expressions) (key : List Pair) (old : Option (List Pair)) where
  abbrev tested : List Pair → Result (Option (List Pair)) Answer
  tested item = unless_answer (first_answer (of_left d (left_by_update said key old item)))
      (left_by_update said key old item)

  -- no item was made
  pub left-unmade : (stop : Stop) → Comes {X = List Pair} (λ i. i)
      (item_after (unwrap_or said.update []) old) (Err stop)
      → Comes {X = Option (List Pair)} (λ o. o) (left_or_refusal d said key old) (Err stop)
  left-unmade (Refused r) h = (ap (λ x. x >>= tested) h.0, h.1)
  left-unmade (Fault f) h = h

  -- memory was wanting
  pub left-memory : (stop : Stop) → IsMemory stop
      → Comes {X = Option (List Pair)} (λ o. o) (left_or_refusal d said key old) (Err stop)
  left-memory stop h = subst (λ (e : Stop). Comes {X = Option (List Pair)} (λ o. o)
      (left_or_refusal d said key old) (Err e)) (sym h) tt

  module _ (item : List Pair) (after : item_after (unwrap_or said.update []) old ≡ Ok item)
      (new : Option (List Pair)) (is : new ≡ left_by_update said key old item) where
    left_so : left_or_refusal d said key old ≡ unless_answer (first_answer (of_left d new)) new
    left_so = ap (λ x. x >>= tested) after
        ∙ sym (ap (λ o. unless_answer (first_answer (of_left d o)) o) is)

    -- the table refuses it
    pub left-refused : (stop : Stop) → Tested {X = Unit {0}} (of_left d new) (Err stop)
        → Comes {X = Option (List Pair)} (λ o. o) (left_or_refusal d said key old) (Err stop)
    left-refused (Refused r) h = (left_so ∙ ap (λ o. unless_answer o new) h.0, h.1)
    left-refused (Fault f) h = h

    -- it doesn't
    pub left-made : first_answer (of_left d new) ≡ None → left_or_refusal d said key old ≡ Ok new
    left-made h = left_so ∙ ap (λ o. unless_answer o new) h

-- ---- what may be stored

passes : (o : Option Answer) (x y : Option (List Pair)) → unless_answer o x ≡ Ok y
    → (o ≡ None) × (x ≡ y)
passes None x y e = (refl, let f : x ≡ y = cc in f)
passes (Some a) x y e = absurd (let f : ⊥ = cc in f)

-- what is left of what stands at its place may be stored there
pub left_stored : (s : State) (ms : Members) (said : Expressions) (key : List Pair) (t : Table)
    (place : List ℕ) → IsPlaced (of_body ms) Key machine.updating ms t.description said key place
    → IsValid s → map.get s.tables (table_name ms) ≡ Some t → (new : Option (List Pair))
    → left_or_refusal t.description said key (map.get t.items place) ≡ Ok new
    → IfSome new (IsStored t.description place)
left_stored s ms said key t place target valid there None e = tt
left_stored s ms said key t place target valid there (Some new) e =
    let old : Option (List Pair) = map.get t.items place in
    let made = found_first (item_after (unwrap_or said.update []) old)
    (tested t.description said key old) (Some new) e in
    let free = passes (first_answer (of_left t.description (left_by_update said key old made.0)))
    (left_by_update said key old made.0) (Some new) made.2 in
    may_be_left s ms said key t place target old
    (λ was at. (valid.tables (table_name ms) t there).items place was at) made.0 made.1 free.0
    new free.1

-- ---- the update

-- an update that was said, if one was
abbrev said_ok : Option (List Action) → Result (Option (List Action)) Answer
said_ok update = Ok update

none_begins : (update : Option (List Action)) → said_ok None ≡ said_ok update
    → begin_with_names (unwrap_or update []) ≡ true
none_begins None e = refl
none_begins (Some actions) e = absurd (let f : ⊥ = cc in f)

some_is : (actions : List Action) (update : Option (List Action))
    → said_ok (Some actions) ≡ said_ok update → Some actions ≡ update
some_is actions update e = cc

parsed_begins : (g : Given) (text : List ℕ) (r : Result (List Action) ExprFault)
    → Parsed updates g text r → (update : Option (List Action))
    → machine.read_or_refused r ≡ Ok update → begin_with_names (unwrap_or update []) ≡ true
unfolding Parsed updates
parsed_begins g text (Ok actions) h update e =
    ap (λ o. begin_with_names (unwrap_or o [])) (sym (some_is actions update e))
    ∙ ap begin_with_names h.1.2 ∙ update_begins g h.1.0
parsed_begins g text (Err f) h update e = absurd (let k : ⊥ = cc in k)

stated_begins : (g : Given) (text : Option (List ℕ)) (update : Option (List Action))
    → machine.stated_by_text update_of g text ≡ Ok update → begin_with_names (unwrap_or update []) ≡ true
stated_begins g None update e = none_begins update e
stated_begins g (Some text) update e =
    let of_text = update_of g text in
    parsed_begins g text of_text.result of_text.parsed update e

-- each path that an update changes begins with a name
pub said_begins : (texts : machine.Texts) (d : TableSchema) (ms : Members) (g : Given)
    (said : Expressions) → machine.expressions texts d ms g ≡ Ok said
    → begin_with_names (unwrap_or said.update []) ≡ true
said_begins texts d ms g said e =
    let is = parts_of texts d ms g said e in
    said_has texts d ms g (λ update. begin_with_names (unwrap_or update []) ≡ true) said is
    (older_begins texts.older ms is.older is.by_older)
    (stated_begins g (machine.text_at texts.update ms) is.by_texts.update
    (says_update texts d ms g is.by_texts is.spoken).0)
