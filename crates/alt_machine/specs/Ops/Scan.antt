-- Scan: answers a page of all items of a table or of one of its indexes, or of one segment of them, in the order of their places
-- (DynamoDB API Reference, "Scan"; Developer Guide, "Parallel scan").
use Rattle.std.specs.Prelude.{ℕ, Bool, true, false, not, nat_lt, ◌==◌, ◌*◌, ◌/◌, ◌^◌, ◌||◌, List, [], ◌∷◌, Option, Some, None, option_and_then, codes}
use Rattle.std.specs.Option.{option_map_or}
use Rattle.serde_json.specs.Data.{Members}
use Rattle.alt_keyorder.specs.Token.{token_of}
use Rattle.alt_schema.specs.declared.schema.KeyAttr.{KeyAttr}
use Rattle.alt_shape.specs.Bodies as bodies
use Rattle.alt_shape.specs.Refusals.{Answer}
use Rattle.alt_shape.specs.Shape.{given, natural_of}
use Rattle.alt_value.specs.Item.{at_name}
use Rattle.alt_value.specs.Tree.{Tree, Pair}
use Rattle.alt_machine.specs.Body.{MemberRules, paired_refusals}
use Rattle.alt_machine.specs.declared.Expressions.{Expressions}
use Rattle.alt_machine.specs.Expressions.{scanning}
use Rattle.alt_machine.specs.Lists.{is_mismatched, walk_start, listed, pages, on_list}
use Rattle.alt_machine.specs.Outcomes.{Outcome, with_found}
use Rattle.alt_machine.specs.Sources.{index_at, hash_of}
use Rattle.alt_machine.specs.State.{State, Table}

-- the rules of its members
abbrev pub rules : MemberRules
rules = record {
  legacy = codes "ScanFilter" ∷ codes "AttributesToGet" ∷ [];
  texts = codes "FilterExpression" ∷ codes "ProjectionExpression" ∷ [];
  joined = codes "ScanFilter" ∷ [];
  named = codes "TableName" ∷ codes "IndexName" ∷ [];
}

-- ---- segments

-- one of so many segments, numbered from 0
pub record Segment : Type 0 where
  pub number : ℕ
  pub total : ℕ

-- both numbers stand together, or neither is there
abbrev pub are_odd : Option ℕ → Option ℕ → Bool
are_odd None None = false
are_odd (Some number) (Some total) = not (nat_lt number total)
are_odd _ _ = true

-- the whole number at a member
abbrev pub whole_at : List ℕ → Members → Option ℕ
whole_at name ms = option_and_then natural_of (given name ms)

-- Segment and TotalSegments don't stand together, or the segment isn't one of so many
abbrev pub is_segment_odd : Members → Bool
is_segment_odd ms = are_odd (whole_at (codes "Segment") ms) (whole_at (codes "TotalSegments") ms)

-- the segment of these numbers, where they are there
abbrev pub segment_in : Option ℕ → Option ℕ → Option Segment
segment_in (Some number) (Some total) = Some (record { number = number; total = total })
segment_in _ _ = None

-- the segment that is asked for; all items where none is
abbrev pub segment_of : Members → Option Segment
segment_of ms = segment_in (whole_at (codes "Segment") ms) (whole_at (codes "TotalSegments") ms)

-- Segments are equal parts of the tokens: a HASH value is in the one that has this number, rounded down.
abbrev pub has_token : Segment → Tree → Bool
has_token segment hash = token_of hash * segment.total / 2 ^ 64 == segment.number

-- an item is in the segment, by the HASH value of that key
abbrev pub is_in : KeyAttr → Option Segment → List Pair → Bool
is_in hash None item = true
is_in hash (Some segment) item = option_map_or (has_token segment) (at_name hash.name item) false

-- ---- the operation

-- what the body alone says
abbrev pub of_body : Members → List (Option Answer)
of_body ms = paired_refusals (bodies.scan ms) (is_mismatched ms || is_segment_odd ms) rules ms

-- the list is that of the segment
abbrev pub scans : Members → Expressions → Option (List Pair) → Table → Option ℕ → Outcome
scans ms said start t index =
    let i = index_at t.description index in
    with_found (walk_start t.description i None start) (λ place.
    pages t.description i ms said
    (listed true place (is_in (hash_of t.description i) (segment_of ms)) t i))

-- behind the tests, in the table or the index that is asked for, the page of that list is answered
unfoldable pub scan : State → Members → Outcome
scan s ms = on_list (of_body ms) scanning s ms (scans ms)
