-- A PutItem and a DeleteItem lead from a valid state to a valid one.
use Rattle.std.proofs.Common.{◌≡◌, refl, subst, ℕ, ◌≤◌, nat_le, Bool, true, false, T, List, [], ◌∷◌, Option, Some, None, Result, Ok, Err, IfOk}
use Rattle.std.specs.Prelude.{codes, if◌then◌else◌}
use Rattle.std.specs.FinMap as map
use Rattle.std.proofs.lemmas.Bool.{leb-true}
use Rattle.std.proofs.lemmas.Option.{same_Some}
use Rattle.serde_json.specs.Data.{Data, Members}
use Rattle.alt_codec.specs.declared.fault.ValueFault.{ValueFault}
use Rattle.alt_codec.specs.Reading.{item_in}
use Rattle.alt_codec.specs.declared.writer.Writer.TheVariants.{User}
use Rattle.alt_machine.specs.declared.TheConstants.{LARGEST_ITEM}
use Rattle.alt_expr.specs.declared.cond.Cond.{Cond}
use Rattle.alt_machine.specs.declared.Sought.TheVariants.{Item, Key}
use Rattle.alt_machine.specs.Conditional.{meets_condition, asked, failed, if_met, writes_if}
use Rattle.alt_machine.specs.Expressions.{conditional}
use Rattle.alt_machine.specs.Keys.{key_fits, place_of}
use Rattle.alt_machine.specs.Members.{table_name, item_at, item_of, unless_fault}
use Rattle.alt_machine.specs.Ops.DeleteItem as delete
use Rattle.alt_machine.specs.Ops.DeleteItem.{delete_item}
use Rattle.alt_machine.specs.Ops.PutItem as put
use Rattle.alt_machine.specs.Ops.PutItem.{of_item, put_item}
use Rattle.alt_machine.specs.Outcomes.{Outcome, says, writes, a_number}
use Rattle.alt_machine.specs.Refusals.{first_answer}
use Rattle.alt_machine.specs.Replies.{item_answer}
use Rattle.alt_machine.specs.Same.{is_same}
use Rattle.alt_machine.specs.State.{State, Table}
use Rattle.alt_machine.specs.Valid.{IsStored, IsValid}
use Rattle.alt_machine.specs.Writes.{item_writes, after_item}
use Rattle.alt_machine.proofs.Chains.{IsStep, Steps, no_steps, one_step, steps-unless}
use Rattle.alt_machine.proofs.Targets.{steps-on_item}
use Rattle.alt_machine.proofs.Lacks.{number_room}
use Rattle.alt_codec.proofs.Fits.{item_names, item_depth, item_full}
use Rattle.alt_machine.proofs.States.{after_item_valid}
use Rattle.alt_machine.proofs.Tests.{unless_holds}
use Rattle.alt_schema.specs.Indexes.{keys_fit}
use Rattle.alt_schema.specs.declared.schema.TableSchema.{TableSchema}
use Rattle.alt_shape.specs.Refusals.{bad_index_key, item_too_large}
use Rattle.alt_shape.specs.Shape.{given}
use Rattle.alt_value.specs.Item.{IsItem}
use Rattle.alt_value.specs.Size.{item_size, fields_depth}
use Rattle.alt_value.specs.Tree.{Pair, fields_of}
use Rattle.alt_value.specs.Values.{fields_full}

-- an item is as one that is read: its names rise, it isn't too deep, and no set in it is empty
pub record IsSound (item : List Pair) : Type 0 where
  pub names : IsItem item
  pub depth : fields_depth (fields_of item) ≤ 32
  pub full : T (fields_full (fields_of item))

-- an item that a reading answers is sound, where the reading answers only items of such names, depth and sets
read_so : (r : Result (List Pair) ValueFault) (item : List Pair) → unless_fault r ≡ Ok item
    → IfOk r IsItem → IfOk r (λ ps. fields_depth (fields_of ps) ≤ 32)
    → IfOk r (λ ps. T (fields_full (fields_of ps))) → IsSound item
read_so (Ok ps) item e names depth full =
    let same : ps ≡ item = (let f : ps ≡ item = cc in f) in
    subst (λ qs. IsSound qs) same (record { names = names; depth = depth; full = full })
read_so (Err f) item e names depth full = absurd (let g : ⊥ = cc in g)

-- so is the item that a member's data is
of_data : (d : Option Data) (item : List Pair) → item_of d ≡ Ok item → IsSound item
of_data None item e = absurd (let g : ⊥ = cc in g)
of_data (Some d) item e = read_so (item_in 32 d) item e (item_names 32 d) (item_depth 32 d)
    (item_full 32 d)

-- and one that was read is
pub is_read : (name : List ℕ) (ms : Members) (item : List Pair) → item_at name ms ≡ Ok item
    → IsSound item
is_read name ms item e = of_data (given name ms) item e

-- such an item that has its place and is refused by none of its table's tests may be stored there
pub may_stand : (d : TableSchema) (place : List ℕ) (item : List Pair) → IsSound item
    → place_of d item ≡ Some place → key_fits d item ≡ true → first_answer (of_item d item) ≡ None
    → IsStored d place item
may_stand d place item read at fits free =
    let indexes = unless_holds (keys_fit d item) bad_index_key _ free in
    let size = unless_holds (nat_le (item_size item) LARGEST_ITEM) item_too_large _ indexes.1 in
    record {
      stands = at;
      fits = fits;
      size = leb-true (item_size item) LARGEST_ITEM size.0;
      depth = read.depth;
      full = read.full;
      names = read.names;
    }

-- the writes of an item that may be stored
pub writes_steps : (s : State) (moment : ℕ) (name : List ℕ) (t : Table) (place : List ℕ)
    (new : Option (List Pair)) → map.get s.tables name ≡ Some t
    → (IsValid s → (item : List Pair) → new ≡ Some item → IsStored t.description place item)
    → IsStep a_number s (item_writes s moment name t place new)
writes_steps s moment name t place new there put = by (is_same (map.get t.items place) new) refl
  where
    by : (b : Bool) → is_same (map.get t.items place) new ≡ b
        → IsStep a_number s (if b then [] else after_item s moment name t place new ∷ [])
    by true e = no_steps a_number s
    by false e = one_step a_number s (after_item s moment name t place new) (λ v enough.
        after_item_valid s moment User name t place new v (number_room s enough) there e (put v))

-- what is done where a condition holds
pub steps-met : (s : State) (condition : Option Cond) (ms : Members) (old : Option (List Pair))
    (go : Outcome) → Steps s go → Steps s (if_met condition ms old go)
steps-met s condition ms old go h = by (meets_condition condition old)
  where
    by : (b : Bool) → Steps s (if b then go
        else says (failed (asked (codes "ReturnValuesOnConditionCheckFailure") ms old)))
    by true = h
    by false = no_steps _ s

-- a write that may be conditional
writes_if-steps : (condition : Option Cond) (s : State) (moment : ℕ) (ms : Members) (t : Table)
    (place : List ℕ) (new : Option (List Pair)) → map.get s.tables (table_name ms) ≡ Some t
    → ((item : List Pair) → new ≡ Some item → IsStored t.description place item)
    → Steps s (writes_if condition s moment ms t place new)
writes_if-steps condition s moment ms t place new there put =
    steps-met s condition ms (map.get t.items place)
    (writes (item_writes s moment (table_name ms) t place new)
    (item_answer (codes "Attributes") (asked (codes "ReturnValues") ms (map.get t.items place))))
    (writes_steps s moment (table_name ms) t place new there (λ v. put))

-- each write of a PutItem leads from a valid state to a valid one
pub put_steps : (s : State) (moment : ℕ) (ms : Members) → Steps s (put_item s moment ms)
unfolding put_item
put_steps s moment ms =
    steps-on_item s (put.of_body ms) Item conditional ms _ (λ said item t place there target.
    steps-unless s (of_item t.description item)
    (writes_if said.condition s moment ms t place (Some item)) (λ free.
    writes_if-steps said.condition s moment ms t place (Some item) there
    (λ i e. subst (λ j. IsStored t.description place j) (same_Some item i e)
    (may_stand t.description place item (is_read (codes "Item") ms item target.read) target.at
    target.fits free))))

-- and each write of a DeleteItem does
pub delete_steps : (s : State) (moment : ℕ) (ms : Members) → Steps s (delete_item s moment ms)
unfolding delete_item
delete_steps s moment ms =
    steps-on_item s (delete.of_body ms) Key conditional ms _ (λ said key t place there target.
    writes_if-steps said.condition s moment ms t place None there
    (λ i e. absurd (let f : ⊥ = cc in f)))
