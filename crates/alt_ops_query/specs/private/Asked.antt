-- What a key condition asks, and what a segment asks, as ranges of places.
use Rattle.std.specs.Prelude.{◌≡◌, ℕ, Bool, true, List, Option, Some, None, Result, Ok, Err}
use Rattle.alt_expr.specs.KeyForm.{Ask}
use Rattle.alt_expr.specs.Pages.{passes}
use Rattle.alt_expr.specs.declared.cond.Cond.{Cond}
use Rattle.alt_keycond.specs.KeysAsked.{HoldsAsked}
use Rattle.alt_keycond.specs.declared.ask.KeyAsk.{KeyAsk}
use Rattle.alt_keycond.specs.declared.ask.RangeAsk.{RangeAsk}
use Rattle.alt_keycond.specs.declared.ask.RangeAsk.TheVariants as r
use Rattle.alt_keyorder.specs.declared.range.KeyRange.{KeyRange}
use Rattle.alt_machine.specs.Lists.{walk_start}
use Rattle.alt_machine.specs.Ops.Query.{key_asked}
use Rattle.alt_machine.specs.Ops.Scan.{Segment, is_in}
use Rattle.alt_machine.specs.Sources.{hash_of}
use Rattle.alt_machine.specs.Outcomes.{Outcome, refuses, with_found}
use Rattle.alt_ops_query.specs.Places.{HoldsListed}
use Rattle.alt_ops_query.specs.private.Ranges.{IsBeyond}
use Rattle.alt_request.specs.declared.stop.Stop.{Stop}
use Rattle.alt_request.specs.declared.stop.Stop.TheVariants.{Refused, Fault}
use Rattle.alt_schema.specs.declared.schema.IndexSchema.{IndexSchema}
use Rattle.alt_schema.specs.declared.schema.TableSchema.{TableSchema}
use Rattle.alt_shape.specs.Refusals.{IsKnown, refused}
use Rattle.alt_request.specs.TablesFaults.{IsReadFault}
use Rattle.alt_value.specs.Stands.{tree_of}
use Rattle.alt_value.specs.Tree.{Pair}
use Rattle.alt_value.specs.Values.{IsValue}

-- each value that is asked of a RANGE attribute is one of the program
abbrev pub AreHeld : RangeAsk → Type 0
AreHeld r.All = Unit {0}
AreHeld (r.Eq v) = IsValue (tree_of v)
AreHeld (r.Lt v) = IsValue (tree_of v)
AreHeld (r.Le v) = IsValue (tree_of v)
AreHeld (r.Gt v) = IsValue (tree_of v)
AreHeld (r.Ge v) = IsValue (tree_of v)
AreHeld (r.Between low high) = IsValue (tree_of low) × IsValue (tree_of high)
AreHeld (r.Begins v) = IsValue (tree_of v)

-- ---- a Query

-- The range is the part of one that holds the keys of an ask, beyond the start key.
pub record IsRangePlaced (d : TableSchema) (i : Option IndexSchema) (ask : KeyAsk)
    (start : Option (List Pair)) (forward : Bool)
    (range : KeyRange) : Type 0 where
  pub place : Option (List ℕ)
  pub starts : walk_start d i (Some ask.hash) start ≡ Ok place
  pub from : List ℕ
  pub to : Option (List ℕ)
  pub holds : HoldsAsked ask from to
  pub beyond : IsBeyond forward place from to range.from range.to

-- That is so; or the start key is refused.
abbrev pub Places : TableSchema → Option IndexSchema → KeyAsk → Option (List Pair) → Bool
    → Result KeyRange Stop → Type 0
Places d i ask start forward (Ok range) = IsRangePlaced d i ask start forward range
Places d i ask start forward (Err (Refused r)) = IsKnown r
    × (walk_start d i (Some ask.hash) start ≡ Err (refused r))
Places d i ask start forward (Err (Fault f)) = IsReadFault f

-- The range holds the items of which the key condition holds, beyond the start key.
pub record IsRangeAsked (d : TableSchema) (i : Option IndexSchema) (condition : Option Cond)
    (start : Option (List Pair))
    (forward : Bool) (range : KeyRange) : Type 0 where
  pub ask : Ask
  pub asks : key_asked d i condition ≡ Ok ask
  pub place : Option (List ℕ)
  pub starts : walk_start d i (Some ask.hash) start ≡ Ok place
  pub holds : HoldsListed forward place (passes condition) d i range.from range.to

-- That is so; or the machine refuses the request there too, whatever it would go on to do.
abbrev pub IsRangeAskedOrRefused : TableSchema → Option IndexSchema → Option Cond → Option (List Pair) → Bool
    → Result KeyRange Stop
    → Type 0
IsRangeAskedOrRefused d i condition start forward (Ok range) = IsRangeAsked d i condition start forward range
IsRangeAskedOrRefused d i condition start forward (Err (Refused r)) = IsKnown r
    × ((go : Ask → Option (List ℕ) → Outcome)
    → with_found (key_asked d i condition)
    (λ ask. with_found (walk_start d i (Some ask.hash) start) (go ask)) ≡ refuses r)
IsRangeAskedOrRefused d i condition start forward (Err (Fault f)) = IsReadFault f

-- ---- a Scan

-- The range holds the items of the segment, beyond the start key.
pub record IsOfSegment (d : TableSchema) (i : Option IndexSchema) (segment : Option Segment)
    (start : Option (List Pair))
    (range : KeyRange) : Type 0 where
  pub place : Option (List ℕ)
  pub starts : walk_start d i None start ≡ Ok place
  pub holds : HoldsListed true place (is_in (hash_of d i) segment) d i range.from range.to

-- That is so; or the machine refuses the request there too.
abbrev pub Segments : TableSchema → Option IndexSchema → Option Segment → Option (List Pair)
    → Result KeyRange Stop
    → Type 0
Segments d i segment start (Ok range) = IsOfSegment d i segment start range
Segments d i segment start (Err (Refused r)) = IsKnown r × ((go : Option (List ℕ) → Outcome)
    → with_found (walk_start d i None start) go ≡ refuses r)
Segments d i segment start (Err (Fault f)) = IsReadFault f
