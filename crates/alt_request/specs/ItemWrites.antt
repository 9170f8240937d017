-- What a write of one item comes to, by what its operation says of itself.
use Rattle.std.specs.Prelude.{◌≡◌, ℕ, List, Option, Some, None, Result, Ok, IfSome, codes}
use Rattle.std.specs.FinMap as map
use Rattle.serde_json.specs.Data.{Members}
use Rattle.alt_expr.specs.Given.{Given}
use Rattle.alt_machine.specs.Body.{MemberRules, body_refusals}
use Rattle.alt_machine.specs.Conditional.{if_met}
use Rattle.alt_machine.specs.declared.Expressions.{Expressions}
use Rattle.alt_machine.specs.declared.Sought.{Sought}
use Rattle.alt_machine.specs.Expressions.{Texts, expressions}
use Rattle.alt_machine.specs.Members.{table_name}
use Rattle.alt_machine.specs.Outcomes.{Outcome, writes, with_found, unless_refused}
use Rattle.alt_machine.specs.Refusals.{first_answer}
use Rattle.alt_machine.specs.Replies.{item_answer}
use Rattle.alt_machine.specs.State.{State, Table}
use Rattle.alt_machine.specs.Targets.{on_item, IsPlaced}
use Rattle.alt_machine.specs.Valid.{IsStored, IsValid}
use Rattle.alt_machine.specs.Writes.{item_writes}
use Rattle.alt_request.specs.Targets.{IsAtHand}
use Rattle.alt_schema.specs.declared.schema.TableSchema.{TableSchema}
use Rattle.alt_shape.specs.Refusals.{Answer}
use Rattle.alt_shape.specs.declared.rule.Broken.{Broken}
use Rattle.alt_value.specs.Tree.{Pair}

-- What an operation that writes one item says of itself: how a body breaks its shape, the rules of its members, whether it gives an item or
-- a key, and which members are expressions; what the table says of the item or key, beside its place; what it leaves of what is there, or
-- its refusal; and what it shows of the item before and after.
pub record Writer : Type 0 where
  pub shape : Members → Option Broken
  pub rules : MemberRules
  pub sought : Sought
  pub texts : Texts
  pub takes : TableSchema → List Pair → List (Option Answer)
  pub leaves : TableSchema → Expressions → List Pair → Option (List Pair)
      → Result (Option (List Pair)) Answer
  pub shows : Members → Expressions → Option (List Pair) → Option (List Pair) → Option (List Pair)

-- Where the condition holds of what is at the place, what the operation leaves of it is written, and the answer shows what the operation
-- shows; or the operation is refused.
abbrev pub changes_item : Writer → State → ℕ → Members → Expressions → List Pair → Table → List ℕ
    → Outcome
changes_item w s moment ms said item t place = if_met said.condition ms (map.get t.items place)
    (with_found (w.leaves t.description said item (map.get t.items place)) (λ new.
    writes (item_writes s moment (table_name ms) t place new)
    (item_answer (codes "Attributes") (w.shows ms said (map.get t.items place) new))))

-- what its body alone is refused for
abbrev pub writer_body_refusals : Writer → Members → List (Option Answer)
writer_body_refusals w ms = body_refusals (w.shape ms) w.rules ms

-- Behind the tests of the body the item or the key is read and placed in its table, which may refuse it; and what is there is changed.
abbrev pub writes_item : Writer → State → ℕ → Members → Outcome
writes_item w s moment ms = on_item (writer_body_refusals w ms) w.sought w.texts s ms
    (λ said item t place. unless_refused (w.takes t.description item)
    (changes_item w s moment ms said item t place))

-- A request says `ms`. What is at hand of it is refused for the same and comes to the same: a body, and the item or the key, where that was
-- read already.
pub record IsAsked (w : Writer) (ms bs : Members) (ahead : Option (List Pair)) : Type 0 where
  pub tests : writer_body_refusals w ms ≡ writer_body_refusals w bs
  pub at_hand : IsAtHand w.sought w.texts ms bs ahead
  pub changed : (s : State) (moment : ℕ) (said : Expressions) (item : List Pair) (t : Table)
      (place : List ℕ)
      → changes_item w s moment ms said item t place ≡ changes_item w s moment bs said item t place

-- expressions that a body says
abbrev pub AreSaid : Writer → Expressions → Type 0
AreSaid w said = (d : TableSchema) × (ms : Members) × (g : Given)
    × (expressions w.texts d ms g ≡ Ok said)

-- What the operation leaves in a valid state may be stored.
abbrev pub LeavesStored : Writer → Type 0
LeavesStored w = (s : State) (ms : Members) (said : Expressions) (item : List Pair) (t : Table)
    (place : List ℕ) → IsPlaced (writer_body_refusals w ms) w.sought w.texts ms t.description said item place
    → first_answer (w.takes t.description item) ≡ None → IsValid s
    → map.get s.tables (table_name ms) ≡ Some t → (new : Option (List Pair))
    → w.leaves t.description said item (map.get t.items place) ≡ Ok new
    → IfSome new (IsStored t.description place)
