-- Members of the older interface, which stand in the place of expressions (DynamoDB Developer Guide, "Legacy conditional parameters"). What
-- they mean is said by alt_legacy: its Meets of conditions, its Changes of updates, its Keys of conditions on keys.
use Rattle.std.specs.Prelude.{ℕ, Bool, false, List, [], ◌∷◌, Option, Some, None, option_map, option_and_then, Result, Ok, codes}
use Rattle.serde_json.specs.Data.{Data, Members}
use Rattle.alt_expr.specs.declared.update.Action.{Action}
use Rattle.alt_legacy.specs.Faults.{entries_fault}
use Rattle.alt_legacy.specs.Trees.{condition_in, update_in, paths_in}
use Rattle.alt_legacy.specs.declared.reading.Form.{Form}
use Rattle.alt_legacy.specs.declared.reading.Form.TheVariants.{Expected, Filter}
use Rattle.alt_machine.specs.declared.Expressions.{Expressions}
use Rattle.alt_machine.specs.Refusals.{◌>>=◌, or_refused, refuse_by, value_refusal}
use Rattle.alt_machine.specs.Replies.{member_is_word}
use Rattle.alt_shape.specs.Refusals.{Answer, bad_legacy_parameter}
use Rattle.alt_shape.specs.Shape.{given}

-- the members of an operation that stand in the place of a key condition, of a condition or filter, whose entries have that form, of an
-- update and of a projection, each where it takes one
pub record Older : Type 0 where
  pub keys : Option (List ℕ)
  pub condition : Option (List ℕ)
  pub form : Form
  pub update : Option (List ℕ)
  pub names : Option (List ℕ)

-- a read that may show parts
abbrev pub older_names : Older
older_names = record {
  keys = None;
  condition = None;
  form = Filter;
  update = None;
  names = Some (codes "AttributesToGet");
}

-- a write that may be conditional
abbrev pub older_expected : Older
older_expected = record {
  keys = None;
  condition = Some (codes "Expected");
  form = Expected;
  update = None;
  names = None;
}

-- an update, which may be conditional
abbrev pub older_updates : Older
older_updates = record older_expected { update = Some (codes "AttributeUpdates") }

-- a Scan
abbrev pub older_scan : Older
older_scan = record older_names { condition = Some (codes "ScanFilter") }

-- a Query
abbrev pub older_query : Older
older_query = record older_names {
  keys = Some (codes "KeyConditions");
  condition = Some (codes "QueryFilter");
}

-- the value of a member, where an operation takes it and it is there
abbrev pub older_at : Option (List ℕ) → Members → Option Data
older_at named ms = option_and_then (λ name. given name ms) named

-- ---- values

-- the refusal of the first value of entries that can't be read
abbrev pub of_values : Option Data → Option Answer
of_values entries = refuse_by (option_map value_refusal (option_and_then entries_fault entries))

-- that of all entries, member by member
abbrev pub of_entries : Older → Members → List (Option Answer)
of_entries older ms =
    of_values (older_at older.keys ms) ∷ of_values (older_at older.condition ms) ∷
    of_values (older_at older.update ms) ∷ []

-- ---- what they say

-- the entries of a condition are joined by OR
abbrev pub is_any : Members → Bool
is_any = member_is_word (codes "ConditionalOperator") (codes "OR")

-- what a member says, if it is there; one that isn't of its form is refused
abbrev pub said_by : {A : Type 0} → (Data → Option (Option A)) → Option Data
    → Result (Option A) Answer
said_by read None = Ok None
said_by read (Some d) = or_refused bad_legacy_parameter (read d)

-- an update, where it has an action
abbrev pub some_actions : List Action → Option (List Action)
some_actions [] = None
some_actions (action ∷ actions) = Some (action ∷ actions)

-- each member, in the order of the expressions in whose place they stand
unfoldable pub older_said : Older → Members → Result Expressions Answer
older_said older ms = do
  keys ← said_by (condition_in Filter false) (older_at older.keys ms)
  condition ← said_by (condition_in older.form (is_any ms)) (older_at older.condition ms)
  update ← said_by (λ d. option_map some_actions (update_in d)) (older_at older.update ms)
  projection ← said_by (λ d. option_map Some (paths_in d)) (older_at older.names ms)
  Ok (record {
    key_condition = keys;
    condition = condition;
    update = update;
    projection = projection;
  })
