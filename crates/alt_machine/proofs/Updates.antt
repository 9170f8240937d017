-- An UpdateItem leads from a valid state to a valid one.
use Rattle.std.proofs.Common.{◌≡◌, refl, sym, ap, subst, ◌∙◌, ℕ, ◌==◌, length, nat_le, Bool, true, false, cond, List, [], Option, Some, None, Result, Ok, Err, IfOk}
use Rattle.std.specs.Prelude.{unwrap_or, codes}
use Rattle.std.specs.List.{list_any}
use Rattle.std.specs.FinMap as map
use Rattle.std.proofs.lemmas.Bool.{leb-true}
use Rattle.std.proofs.lemmas.Option.{same_Some}
use Rattle.serde_json.specs.Data.{Members}
use Rattle.alt_expr.specs.Located.{View}
use Rattle.alt_expr.specs.UpdateLanguage.{target}
use Rattle.alt_expr.specs.Updated.{ActionFault, updated}
use Rattle.alt_expr.specs.declared.update.Action.{Action}
use Rattle.alt_machine.specs.declared.Expressions.{Expressions}
use Rattle.alt_machine.specs.declared.Sought.TheVariants.{Key}
use Rattle.alt_machine.specs.Conditional.{seen}
use Rattle.alt_machine.specs.Expressions.{updating, begins_with_key, changes_key}
use Rattle.alt_machine.specs.Keys.{key_fits, place_of, key_count, place_of_key}
use Rattle.alt_machine.specs.Members.{table_name}
use Rattle.alt_machine.specs.Ops.PutItem.{of_item}
use Rattle.alt_machine.specs.Ops.UpdateItem as update
use Rattle.alt_machine.specs.Ops.UpdateItem.{or_update_refusal, names_of, pairs_of, item_after, makes_none, with_key_attributes, left_by_update, of_left, not_empty, returned, leaves, update_item}
use Rattle.alt_machine.specs.Outcomes.{writes}
use Rattle.alt_machine.specs.Refusals.{first_answer, ◌>>=◌}
use Rattle.alt_machine.specs.Replies.{item_answer}
use Rattle.alt_machine.specs.State.{State, Table}
use Rattle.alt_machine.specs.Targets.{IsPlaced}
use Rattle.alt_machine.specs.Valid.{IsStored, deepest}
use Rattle.alt_machine.specs.Writes.{item_writes}
use Rattle.alt_machine.proofs.Chains.{Steps, steps-unless, steps-found}
use Rattle.alt_machine.proofs.Full.{PairsFull, ViewFull, full-at_name}
use Rattle.alt_machine.proofs.FullActions.{ActionsFull}
use Rattle.alt_machine.proofs.FullChanges.{full-updated, full-pairs_of, full-with_key}
use Rattle.alt_machine.proofs.KeyStays.{KeepsKey, still_stands, still_fits}
use Rattle.alt_machine.proofs.Names.{at_name-has_bytes, IsItem-pairs_of, IsItem-with_key, at_name-pairs_of, was_among, at_name-with_key}
use Rattle.alt_machine.proofs.Older.{said_apart, said_full}
use Rattle.alt_machine.proofs.Puts.{IsSound, is_read, may_stand, steps-met, writes_steps}
use Rattle.alt_machine.proofs.Said.{words_full}
use Rattle.alt_machine.proofs.Targets.{steps-on_item}
use Rattle.alt_machine.proofs.Tests.{unless_holds}
use Rattle.alt_machine.proofs.Untouched.{key_stays}
use Rattle.alt_schema.specs.declared.schema.TableSchema.{TableSchema}
use Rattle.alt_shape.specs.Refusals.{nested_too_deep}
use Rattle.alt_value.specs.Item.{IsItem, at_name}
use Rattle.alt_value.specs.Size.{fields_depth}
use Rattle.alt_value.specs.Tree.{Pair, fields_of}

-- an update that changes no part of a key
abbrev KeepsKeys : TableSchema → List Action → Type 0
KeepsKeys d actions = list_any (λ a. begins_with_key d (target a)) actions ≡ false

-- what an update leaves at a place, before the tests of the table: it has the key of the place, its names rise, and no set is empty
record IsLeft (d : TableSchema) (place : List ℕ) (item : List Pair) : Type 0 where
  stands : place_of d item ≡ Some place
  fits : key_fits d item ≡ true
  names : IsItem item
  full : PairsFull item

-- it may be stored there, where no test refuses it
left_stored : (d : TableSchema) (place : List ℕ) (item : List Pair) → IsLeft d place item
    → first_answer (of_left d (Some item)) ≡ None → IsStored d place item
left_stored d place item is free =
    let deep = unless_holds (nat_le (fields_depth (fields_of item)) deepest) nested_too_deep
    (of_item d item) free in
    may_stand d place item (record {
      names = is.names;
      depth = leb-true (fields_depth (fields_of item)) deepest deep.0;
      full = is.full;
    }) is.stands is.fits deep.1

-- ---- what is made of what is there

-- what is there has no empty set
seen_full : (old : Option (List Pair)) → ((item : List Pair) → old ≡ Some item → PairsFull item)
    → ViewFull (seen old)
seen_full None h name = tt
seen_full (Some item) h name = full-at_name name item (h item refl)

-- the attributes that an update was worked out to
worked_out : (actions : List Action) (old : Option (List Pair)) (item : List Pair)
    → item_after actions old ≡ Ok item
    → (view : View) × (updated (seen old) actions ≡ Ok view)
    × (pairs_of view (names_of actions old) ≡ item)
worked_out actions old item e = by (updated (seen old) actions) refl e
  where
    by : (r : Result View ActionFault) → updated (seen old) actions ≡ r
        → (or_update_refusal r >>= (λ view. Ok (pairs_of view (names_of actions old)))) ≡ Ok item
        → (view : View) × (updated (seen old) actions ≡ Ok view)
        × (pairs_of view (names_of actions old) ≡ item)
    by (Ok view) f g = (view, f, cc g)
    by (Err fault) f g = absurd (let k : ⊥ = cc in k)

-- what holds of an answer that is told
of_told : {A E : Type 0} (P : A → Type 0) (r : Result A E) (x : A) → r ≡ Ok x → IfOk r P → P x
of_told P r x e h = subst (λ q. IfOk q P) e h

-- its names rise, and no set in it is empty
after_sound : (actions : List Action) (old : Option (List Pair)) (item : List Pair)
    → ViewFull (seen old) → ActionsFull (seen old) actions → item_after actions old ≡ Ok item
    → IsItem item × PairsFull item
after_sound actions old item full h e =
    let out = worked_out actions old item e in
    let names : List (List ℕ) = names_of actions old in (
      subst IsItem out.2 (IsItem-pairs_of out.0 names),
      subst PairsFull out.2 (full-pairs_of out.0 names (of_told ViewFull
          (updated (seen old) actions) out.0 out.1 (full-updated (seen old) actions full h))),
    )

-- and it has the key of the one that was there
after_keeps : (d : TableSchema) (actions : List Action) (old item : List Pair) → IsItem old
    → KeepsKeys d actions → item_after actions (Some old) ≡ Ok item → KeepsKey d old item
after_keeps d actions old item names keeps e n t is there =
    let out = worked_out actions (Some old) item e in
    let stays : out.0 n ≡ at_name n old = of_told (λ (view : View). view n ≡ at_name n old)
    (updated (seen (Some old)) actions) out.0 out.1
    (key_stays d n is (seen (Some old)) actions keeps) in
    ap (at_name n) (sym out.2)
    ∙ at_name-pairs_of out.0 n t (at_name-has_bytes n t old names there) (stays ∙ there)
    (names_of actions (Some old)) (was_among actions old n t there)

-- ---- what is left

-- of the item that was there
of_old : (d : TableSchema) (place : List ℕ) (actions : List Action) (old item : List Pair)
    → IsStored d place old → KeepsKeys d actions → ActionsFull (seen (Some old)) actions
    → item_after actions (Some old) ≡ Ok item → IsLeft d place item
of_old d place actions old item was keeps h e =
    let kept : KeepsKey d old item = after_keeps d actions old item was.names keeps e in
    let sound = after_sound actions (Some old) item
    (seen_full (Some old) (λ i f. subst PairsFull (same_Some old i f) was.full)) h e in
    record {
      stands = still_stands d old item kept place was.stands;
      fits = still_fits d old item kept place was.stands was.fits;
      names = sound.0;
      full = sound.1;
    }

-- of a new one, which has its key
of_new : (d : TableSchema) (place : List ℕ) (actions : List Action) (key item : List Pair)
    → IsSound key → place_of d key ≡ Some place → key_fits d key ≡ true
    → ActionsFull (seen None) actions → item_after actions None ≡ Ok item
    → IsLeft d place (with_key_attributes key item)
of_new d place actions key item read stands fits h e =
    let kept : KeepsKey d key (with_key_attributes key item) = λ n t is there.
    at_name-with_key n t key item there in
    let sound = after_sound actions None item (λ name. tt) h e in
    record {
      stands = still_stands d key (with_key_attributes key item) kept place stands;
      fits = still_fits d key (with_key_attributes key item) kept place stands fits;
      names = IsItem-with_key key item read.names.1 sound.0;
      full = full-with_key key item read.full sound.1;
    }

-- the place of a key is that of its attributes
place_of-key : (d : TableSchema) (key : List Pair) (place : List ℕ)
    → place_of_key d key ≡ Some place → place_of d key ≡ Some place
place_of-key d key place e = by (length key == key_count d) e
  where
    by : (b : Bool) → cond b (place_of d key) None ≡ Some place → place_of d key ≡ Some place
    by true f = f
    by false f = absurd (let g : ⊥ = cc in g)

-- the actions of an update that changes no key
keeps_keys : (d : TableSchema) (update : Option (List Action)) → changes_key d update ≡ false
    → KeepsKeys d (unwrap_or update [])
keeps_keys d None e = refl
keeps_keys d (Some actions) e = e

-- ---- the operation

module _ (s : State) (ms : Members) (said : Expressions) (key : List Pair) (t : Table)
    (place : List ℕ) (target : IsPlaced (update.of_body ms) Key updating ms t.description said key
    place) where
  abbrev actions : List Action
  actions = unwrap_or said.update []

  -- what the update puts has no empty set, where what is there has none
  acts_full : (view : View) → ViewFull view → ActionsFull view actions
  acts_full view full = said_full updating t.description ms target.words said target.says view
      full (words_full updating ms target.words target.given)

  -- it changes no part of a key
  keeps : KeepsKeys t.description actions
  keeps = keeps_keys t.description said.update
      (said_apart updating t.description ms target.words said target.says)

  -- what is left of what is there may be stored
  pub may_be_left : (old : Option (List Pair))
      → ((was : List Pair) → old ≡ Some was → IsStored t.description place was)
      → (item : List Pair) → item_after actions old ≡ Ok item
      → first_answer (of_left t.description (left_by_update said key old item)) ≡ None
      → (new : List Pair) → left_by_update said key old item ≡ Some new
      → IsStored t.description place new
  may_be_left (Some was) h item e free new is =
      subst (IsStored t.description place) (same_Some item new is)
      (left_stored t.description place item (of_old t.description place actions was item
      (h was refl) keeps (acts_full (seen (Some was)) (seen_full (Some was)
      (λ i f. (h i f).full))) e) free)
  may_be_left None h item e free new is = by (makes_none said.update) free is
    where
      made : List Pair
      made = with_key_attributes key item

      by : (b : Bool) → first_answer (of_left t.description (cond b None (Some made))) ≡ None
          → cond b None (Some made) ≡ Some new → IsStored t.description place new
      by true f g = absurd (let k : ⊥ = cc in k)
      by false f g = subst (IsStored t.description place) (same_Some made new g)
          (left_stored t.description place made (of_new t.description place actions key item
          (is_read (codes "Key") ms key target.read)
          (place_of-key t.description key place target.at) target.fits
          (acts_full (seen None) (λ name. tt)) e) f)

  -- the write of what is left is a step
  leave_steps : (moment : ℕ) (item : List Pair)
      → map.get s.tables (table_name ms) ≡ Some t
      → item_after actions (map.get t.items place) ≡ Ok item
      → Steps s (leaves s moment ms actions t place
      (left_by_update said key (map.get t.items place) item))
  leave_steps moment item there e =
      let old : Option (List Pair) = map.get t.items place in
      let new : Option (List Pair) = left_by_update said key old item in
      steps-unless s (of_left t.description new)
      (writes (item_writes s moment (table_name ms) t place new)
      (item_answer (codes "Attributes") (not_empty (returned ms actions old new)))) (λ free.
      writes_steps s moment (table_name ms) t place new there (λ v i is.
      may_be_left old (λ was at. (v.tables (table_name ms) t there).items place was at) item e
      free i is))

-- each write of an UpdateItem leads from a valid state to a valid one
pub update_steps : (s : State) (moment : ℕ) (ms : Members) → Steps s (update_item s moment ms)
unfolding update_item
update_steps s moment ms =
    steps-on_item s (update.of_body ms) Key updating ms _ (λ said key t place there target.
    let old : Option (List Pair) = map.get t.items place in
    steps-met s said.condition ms old _ (
    steps-found s (item_after (unwrap_or said.update []) old) _ (λ item e.
    leave_steps s ms said key t place target moment item there e)))
