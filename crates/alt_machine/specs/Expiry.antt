-- Time to live: the items of a table whose time is over (Developer Guide, "Using time to live (TTL) in DynamoDB").
use Rattle.std.specs.Prelude.{◌≡◌, ℕ, Bool, false, ◌&&◌, ◌+ℤ◌, List, Option, None, map, take, option_and_then, if◌then◌else◌}
use Rattle.std.specs.FinMap as finite
use Rattle.std.specs.List.{filter, flat_map, list_any}
use Rattle.std.specs.Option.{option_map_or}
use Rattle.std.specs.Ordering.{eq_by_cmp, int_cmp, is_lt, is_le}
use Rattle.alt_codec.specs.declared.writer.Writer.TheVariants.{Expiry}
use Rattle.alt_decimal.specs.Number.{units_in}
use Rattle.alt_schema.specs.declared.schema.TableSchema.{TableSchema}
use Rattle.alt_value.specs.Item.{at_name}
use Rattle.alt_value.specs.Members.{text_order}
use Rattle.alt_value.specs.Tree.{Pair, Tree, N_tree}
use Rattle.alt_machine.specs.declared.Standing.{Standing}
use Rattle.alt_machine.specs.declared.TheConstants.{FIVE_YEARS, MOST_EXPIRED}
use Rattle.alt_machine.specs.Ops.BatchWriteItem.{PlacedWrite, writes_of_all_by}
use Rattle.alt_machine.specs.Outcomes.{last_state}
use Rattle.alt_machine.specs.State.{State, Table}

-- a value is a time that is over at a moment, and was no longer ago than five years
abbrev pub is_over : ℕ → Tree → Bool
is_over moment (N_tree z) = is_lt (int_cmp z (units_in moment))
    && is_le (int_cmp (units_in moment) (z +ℤ units_in FIVE_YEARS))
is_over moment other = false

-- an item has expired: its table has an attribute for that, and the item's time is over
abbrev pub is_expired : TableSchema → ℕ → List Pair → Bool
is_expired d moment item =
    option_map_or (is_over moment) (option_and_then (λ name. at_name name item) d.ttl) false

-- the expired items of a table, by their places
abbrev pub expired_in : ℕ → List ℕ → Table → List Standing
expired_in moment name t = map (λ e. record { table = name; place = e.0 })
    (filter (λ e. is_expired t.description moment e.1) (finite.entries t.items))

-- those of all tables, by the names of the tables
abbrev pub all_expired : State → ℕ → List Standing
all_expired s moment = flat_map (λ e. expired_in moment e.0 e.1) (finite.entries s.tables)

-- those that an ExpireItems deletes
abbrev pub expiring : State → ℕ → List Standing
expiring s moment = take MOST_EXPIRED (all_expired s moment)

-- nothing is to be left there
abbrev pub gone_at : Standing → PlacedWrite
gone_at e = record { table = e.table; place = e.place; new = None }

-- the writes that delete them, of which a stream tells that time to live made them
abbrev pub deletions : State → ℕ → List State
deletions s moment = writes_of_all_by s moment Expiry (map gone_at (expiring s moment))

-- ---- what is left

-- the item at a place of a table, where both are there
abbrev pub item_at_place : State → List ℕ → List ℕ → Option (List Pair)
item_at_place s name place = option_and_then (λ t. finite.get t.items place) (finite.get s.tables name)

-- that is where it stands
abbrev pub is_at : List ℕ → List ℕ → Standing → Bool
is_at name place e = eq_by_cmp text_order name e.table && eq_by_cmp text_order place e.place

-- An ExpireItems deletes exactly the items that it names: it leaves none of them, and every other as it was.
abbrev pub DeletesExpired : Type 0
DeletesExpired = (s : State) (moment : ℕ) (name place : List ℕ)
    → item_at_place (last_state s (deletions s moment)) name place
    ≡ (if list_any (is_at name place) (expiring s moment) then None else item_at_place s name place)
