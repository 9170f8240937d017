-- What an operation goes on with, as the machine does in each state that has these tables.
use Rattle.std.specs.Prelude.{◌≡◌, ℕ, List, Option, Some, None, Result, Ok, Err}
use Rattle.std.specs.Borrow.{Bor}
use Rattle.std.specs.FinMap as map
use Rattle.serde_json.specs.Data.{Members}
use Rattle.alt_expr.specs.Given.{Given}
use Rattle.alt_machine.specs.declared.Expressions.{Expressions}
use Rattle.alt_machine.specs.declared.Sought.{Sought}
use Rattle.alt_machine.specs.Expressions as machine
use Rattle.alt_machine.specs.Lists.{on_list, IsListed}
use Rattle.alt_machine.specs.Members.{table_name, item_at}
use Rattle.alt_machine.specs.Outcomes.{Outcome, refuses}
use Rattle.alt_machine.specs.Refusals.{first_answer, or_refused, unless_answer, ◌>>=◌}
use Rattle.alt_machine.specs.State.{State, Table, Texts, descriptions}
use Rattle.alt_machine.specs.Targets.{on_table, on_item, member_of, of_length, place_in, IsPlaced}
use Rattle.alt_request.specs.declared.lists.ListTarget.{ListTarget}
use Rattle.alt_said.specs.declared.stop.Stop.{Stop}
use Rattle.alt_said.specs.declared.stop.Stop.TheVariants.{Refused, Fault}
use Rattle.alt_request.specs.declared.targets.Target.{Target}
use Rattle.alt_schema.specs.declared.schema.TableSchema.{TableSchema}
use Rattle.alt_shape.specs.Refusals.{Answer, IsKnown, bad_key}
use Rattle.alt_said.specs.TablesFaults.{IsReadFault}
use Rattle.alt_value.specs.Tree.{Pair}

-- Nothing refuses the body, and that is the description of the table that it names; or the machine refuses the request too, whatever
-- its operation goes on to do.
abbrev pub OnTable : List (Option Answer) → Texts TableSchema → Members
    → Result (Bor TableSchema) Stop → Type 0
OnTable tests catalog ms (Ok d) = (first_answer tests ≡ None)
    × (map.get catalog (table_name ms) ≡ Some d.now)
OnTable tests catalog ms (Err (Refused r)) =
    IsKnown r × ((s : State) (go : Table → Outcome) → descriptions s.tables ≡ catalog
    → on_table tests s ms go ≡ refuses r)
OnTable tests catalog ms (Err (Fault f)) = IsReadFault f

-- the place of an item or a key, where it has one and its key isn't too long
abbrev pub place_that_fits : Sought → TableSchema → List Pair → Result (List ℕ) Answer
place_that_fits sought d item = or_refused bad_key (place_in sought d item)
    >>= (λ place. unless_answer (first_answer (of_length d item)) place)

-- two bodies say the same beside an item: their names and values, their table and their expressions
pub record SaySame (texts : machine.Texts) (ms bs : Members) : Type 0 where
  pub words : machine.words_given texts ms ≡ machine.words_given texts bs
  pub table : table_name ms ≡ table_name bs
  pub says : (d : TableSchema) (g : Given)
      → machine.expressions texts d ms g ≡ machine.expressions texts d bs g

-- the item or the key has its place in the table that is named, and that is what the expressions say
pub record IsAt (tests : List (Option Answer)) (sought : Sought) (texts : machine.Texts)
    (catalog : Texts TableSchema) (ms : Members) (target : Target) : Type 0 where
  pub there : map.get catalog (table_name ms) ≡ Some target.schema.now
  pub placed : IsPlaced tests sought texts ms target.schema.now target.said target.item target.place

-- That is so; or the machine refuses the request too, whatever its operation goes on to do.
abbrev pub OnItem : List (Option Answer) → Sought → machine.Texts → Texts TableSchema → Members
    → Result Target Stop → Type 0
OnItem tests sought texts catalog ms (Ok target) = IsAt tests sought texts catalog ms target
OnItem tests sought texts catalog ms (Err (Refused r)) =
    IsKnown r × ((s : State) (go : Expressions → List Pair → Table → List ℕ → Outcome)
    → descriptions s.tables ≡ catalog → on_item tests sought texts s ms go ≡ refuses r)
OnItem tests sought texts catalog ms (Err (Fault f)) = IsReadFault f

-- That is so behind tests that don't refuse it, of each body that has this item or key and says the same as `bs` beside it.
abbrev pub OnItemRead : Sought → machine.Texts → Texts TableSchema → Members → List Pair
    → Result Target Stop → Type 0
OnItemRead sought texts catalog bs item result = (tests : List (Option Answer)) (ms : Members)
    → SaySame texts ms bs → first_answer tests ≡ None → item_at (member_of sought) ms ≡ Ok item
    → OnItem tests sought texts catalog ms result

-- the item or the key of a body, where it wasn't read already
abbrev pub given_item : Sought → Members → Option (List Pair) → Result (List Pair) Answer
given_item sought bs None = item_at (member_of sought) bs
given_item sought bs (Some item) = Ok item

-- A request says `ms`. What is at hand of it says the same: a body, and the item or the key, where that was read already.
pub record IsAtHand (sought : Sought) (texts : machine.Texts) (ms bs : Members)
    (ahead : Option (List Pair)) : Type 0 where
  pub beside : SaySame texts ms bs
  pub item : item_at (member_of sought) ms ≡ given_item sought bs ahead

-- That is so, behind these tests, of each request of which this is at hand.
abbrev pub OnItemGiven : List (Option Answer) → Sought → machine.Texts → Texts TableSchema → Members
    → Option (List Pair) → Result Target Stop → Type 0
OnItemGiven tests sought texts catalog bs ahead result = (ms : Members)
    → IsAtHand sought texts ms bs ahead → OnItem tests sought texts catalog ms result

-- the table is the one that is named, and those are its index, the start key and what the expressions say to it
pub record IsListedAt (tests : List (Option Answer)) (texts : machine.Texts)
    (catalog : Texts TableSchema) (ms : Members) (target : ListTarget) : Type 0 where
  pub there : map.get catalog (table_name ms) ≡ Some target.schema.now
  pub listed : IsListed tests texts ms target.schema.now target.said target.start target.index

-- That is so; or the machine refuses the request too, whatever its operation goes on to do.
abbrev pub OnList : List (Option Answer) → machine.Texts → Texts TableSchema → Members
    → Result ListTarget Stop → Type 0
OnList tests texts catalog ms (Ok target) = IsListedAt tests texts catalog ms target
OnList tests texts catalog ms (Err (Refused r)) =
    IsKnown r × ((s : State) (go : Expressions → Option (List Pair) → Table → Option ℕ → Outcome)
    → descriptions s.tables ≡ catalog → on_list tests texts s ms go ≡ refuses r)
OnList tests texts catalog ms (Err (Fault f)) = IsReadFault f
