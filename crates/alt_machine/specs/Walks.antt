-- The items of a table, or of one of its indexes, one after another in the order of their places, and which of them a walk gives.
use Rattle.std.specs.Prelude.{ℕ, Bool, true, false, List, map, reverse, Option, Some, None}
use Rattle.std.specs.BTreeMap.Range.{entries_between}
use Rattle.std.specs.FinMap as finite
use Rattle.std.specs.Ordering.{is_lt}
use Rattle.std.specs.declared.ops.Bound.{Bound}
use Rattle.std.specs.declared.ops.Bound.TheVariants.{Included, Excluded, Unbounded}
use Rattle.alt_value.specs.Members.{text_order}
use Rattle.alt_value.specs.Tree.{Pair}
use Rattle.alt_schema.specs.declared.schema.IndexSchema.{IndexSchema}
use Rattle.alt_machine.specs.Sources.{items_of}
use Rattle.alt_machine.specs.State.{Table}

-- the items with their places, which rise
abbrev pub placed_items : Table → Option IndexSchema → List (List ℕ × List Pair)
placed_items t i = finite.entries (items_of t i)

-- a list in its own order where a walk goes forward, else in the other
abbrev pub turned : {A : Type 0} → Bool → List A → List A
turned true xs = xs
turned false xs = reverse xs

-- where a range of places ends: below this one, or nowhere
abbrev pub end_bound : Option (List ℕ) → Bound (List ℕ)
end_bound None = Unbounded
end_bound (Some to) = Excluded to

-- The items whose places are in a range: from its first place on, or from its end down.
abbrev pub items_between : Table → Option IndexSchema → List ℕ → Option (List ℕ) → Bool
    → List (List Pair)
items_between t i from to forward = map (λ e. e.1) (turned forward
    (entries_between text_order (Included from) (end_bound to) (placed_items t i)))

-- a place lies strictly beyond the one that a walk starts from, in its direction
abbrev pub is_beyond : Bool → Option (List ℕ) → List ℕ → Bool
is_beyond forward None place = true
is_beyond true (Some start) place = is_lt (text_order start place)
is_beyond false (Some start) place = is_lt (text_order place start)
