-- UpdateItem: changes the item of a key, or makes one, where a condition holds of what is there (DynamoDB API Reference, "UpdateItem";
-- Developer Guide, "Using update expressions in DynamoDB").
use Rattle.std.specs.Prelude.{ℕ, Bool, true, false, nat_le, if◌then◌else◌, List, [], ◌∷◌, ◌++◌, map, Option, Some, None, option_map, unwrap_or, Result, Ok, Err, codes}
use Rattle.std.specs.FinMap as finite
use Rattle.std.specs.List.{list_all}
use Rattle.std.specs.Option.{option_map_or}
use Rattle.serde_json.specs.Data.{Members}
use Rattle.alt_expr.specs.Located.{View}
use Rattle.alt_expr.specs.Projected.{projected}
use Rattle.alt_expr.specs.UpdateLanguage.{target}
use Rattle.alt_expr.specs.Updated.{ActionFault, no_path, wrong_kind, no_number, put_name, updated}
use Rattle.alt_expr.specs.declared.path.PathPart.{PathPart}
use Rattle.alt_expr.specs.declared.path.PathPart.TheVariants.{Name}
use Rattle.alt_expr.specs.declared.update.Action.{Action}
use Rattle.alt_expr.specs.declared.update.Action.TheVariants.{Remove, Delete}
use Rattle.alt_shape.specs.Bodies as bodies
use Rattle.alt_shape.specs.Refusals.{Answer, refused, bad_update, nested_too_deep}
use Rattle.alt_shape.specs.declared.refusal.Refusal.{Refusal}
use Rattle.alt_schema.specs.declared.schema.TableSchema.{TableSchema}
use Rattle.alt_value.specs.Item.{with_pair}
use Rattle.alt_value.specs.Size.{fields_depth}
use Rattle.alt_value.specs.Tree.{Pair, fields_of}
use Rattle.alt_machine.specs.Body.{MemberRules, body_refusals}
use Rattle.alt_machine.specs.Conditional.{seen, if_met}
use Rattle.alt_machine.specs.declared.Expressions.{Expressions}
use Rattle.alt_machine.specs.declared.Sought.TheVariants.{Key}
use Rattle.alt_machine.specs.Expressions.{updating}
use Rattle.alt_machine.specs.Members.{table_name}
use Rattle.alt_machine.specs.Ops.PutItem.{of_item}
use Rattle.alt_machine.specs.Outcomes.{Outcome, writes, with_found, unless_refused}
use Rattle.alt_machine.specs.Refusals.{◌>>=◌, refuse_unless, number_refusal}
use Rattle.alt_machine.specs.Replies.{member_is_word, item_answer}
use Rattle.alt_machine.specs.State.{State, Table}
use Rattle.alt_machine.specs.Targets.{on_item}
use Rattle.alt_machine.specs.Valid.{deepest}
use Rattle.alt_machine.specs.Writes.{item_writes}

-- the rules of its members
abbrev pub rules : MemberRules
rules = record {
  legacy = codes "Expected" ∷ codes "AttributeUpdates" ∷ [];
  texts = codes "UpdateExpression" ∷ codes "ConditionExpression" ∷ [];
  joined = codes "Expected" ∷ [];
  named = codes "TableName" ∷ [];
}

-- what the body alone says
abbrev pub of_body : Members → List (Option Answer)
of_body ms = body_refusals (bodies.update_item ms) rules ms

-- ---- what becomes of the item

-- the refusal of an update for its first refused action
abbrev pub update_refusal : ActionFault → Refusal
update_refusal no_path = bad_update
update_refusal wrong_kind = bad_update
update_refusal (no_number f) = number_refusal f

-- what an update makes of the attributes that are there, or its refusal
abbrev pub or_update_refusal : Result View ActionFault → Result View Answer
or_update_refusal (Ok view) = Ok view
or_update_refusal (Err f) = Err (refused (update_refusal f))

-- the name of the attribute that a path begins with
abbrev pub attribute_of_path : List PathPart → List ℕ
attribute_of_path (Name name ∷ parts) = name
attribute_of_path parts = []

-- the names of attributes that may be there after an update: those of the item and those that it changes
abbrev pub names_of : List Action → Option (List Pair) → List (List ℕ)
names_of update old =
    map (λ p. p.0) (unwrap_or old []) ++ map (λ action. attribute_of_path (target action)) update

-- the attributes of these names, as pairs with rising names, of which none is empty
abbrev pub pairs_of : View → List (List ℕ) → List Pair
pairs_of view [] = []
pairs_of view (name ∷ names) = option_map_or (λ t. put_name name t (pairs_of view names))
    (view name) (pairs_of view names)

-- The item after an update of the one that is there, or of the empty one where none is; or the refusal of its first refused action.
abbrev pub item_after : List Action → Option (List Pair) → Result (List Pair) Answer
item_after update old = do
  view ← or_update_refusal (updated (seen old) update)
  Ok (pairs_of view (names_of update old))

-- ---- what is left at the place

-- an action that only takes away
abbrev pub takes_away : Action → Bool
takes_away (Remove path) = true
takes_away (Delete name v) = true
takes_away other = false

-- an update of REMOVE and DELETE alone makes no item
abbrev pub makes_none : Option (List Action) → Bool
makes_none update = option_map_or (list_all takes_away) update false

-- an item with the attributes of its key
abbrev pub with_key_attributes : List Pair → List Pair → List Pair
with_key_attributes [] item = item
with_key_attributes ((name, t) ∷ key) item = with_pair name t (with_key_attributes key item)

-- what an update leaves: the item, which has its key where it is new; or none, where none was there and it makes none
abbrev pub left_by_update : Expressions → List Pair → Option (List Pair) → List Pair → Option (List Pair)
left_by_update said key (Some old) item = Some item
left_by_update said key None item = if makes_none said.update then None else Some (with_key_attributes key item)

-- what the table says of what is left
abbrev pub of_left : TableSchema → Option (List Pair) → List (Option Answer)
of_left d None = []
of_left d (Some item) =
    refuse_unless (nat_le (fields_depth (fields_of item)) deepest) nested_too_deep ∷ of_item d item

-- ---- what is answered

-- the parts of an item that an update changes
abbrev pub changed_parts : List Action → Option (List Pair) → Option (List Pair)
changed_parts update = option_map (projected (map target update))

-- an item that has attributes
abbrev pub not_empty : Option (List Pair) → Option (List Pair)
not_empty (Some []) = None
not_empty item = item

-- the item before or after, or what is changed of it, as a member asks for it
abbrev pub returned : Members → List Action → Option (List Pair) → Option (List Pair)
    → Option (List Pair)
returned ms update old new =
    if member_is_word (codes "ReturnValues") (codes "ALL_OLD") ms then old
    else if member_is_word (codes "ReturnValues") (codes "ALL_NEW") ms then new
    else if member_is_word (codes "ReturnValues") (codes "UPDATED_OLD") ms then changed_parts update old
    else if member_is_word (codes "ReturnValues") (codes "UPDATED_NEW") ms then changed_parts update new
    else None

-- ---- the operation

-- what is left is written at its place, where the table takes it
abbrev pub leaves : State → ℕ → Members → List Action → Table → List ℕ → Option (List Pair)
    → Outcome
leaves s moment ms update t place new = unless_refused (of_left t.description new)
    (writes (item_writes s moment (table_name ms) t place new)
    (item_answer (codes "Attributes")
    (not_empty (returned ms update (finite.get t.items place) new))))

-- the item at the place is changed, where the condition holds of it; without an update it stays as it is, or is made of its key
abbrev pub updates_item : State → ℕ → Members → Expressions → List Pair → Table → List ℕ → Outcome
updates_item s moment ms said key t place =
    let update = unwrap_or said.update [] in
    let old = finite.get t.items place in
    if_met said.condition ms old (
    with_found (item_after update old) (λ item.
    leaves s moment ms update t place (left_by_update said key old item)))

-- behind the tests of the body, the key is read and placed in its table, and what is there is changed
unfoldable pub update_item : State → ℕ → Members → Outcome
update_item s moment ms = on_item (of_body ms) Key updating s ms (updates_item s moment ms)
