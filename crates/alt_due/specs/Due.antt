-- What a list of the items that are due next covers, lists and knows.
use Rattle.std.specs.Prelude.{◌≡◌, ◌+◌, ◌<◌, ◌≤◌, ◌⊎◌, ℕ, Bool, true, false, ◌&&◌, IsTrue, Option, Some, None}
use Rattle.std.specs.declared.ops.Bound.{Bound}
use Rattle.std.specs.declared.ops.Bound.TheVariants.{Excluded, Unbounded}
use Rattle.std.specs.BTreeMap.Range.{is_from_start}
use Rattle.std.specs.BTreeSet.{btree_set_len, contains}
use Rattle.std.specs.Ordering.{is_le, is_lt, nat_cmp}
use Rattle.alt_due.specs.declared.due.Due.{Due}
use Rattle.alt_due.specs.declared.spot.Spot.{Spot}
use Rattle.alt_due.specs.Order.{spot_cmp, term_of, term_cmp}

-- how many entries it has
abbrev pub entry_count : Due → ℕ
entry_count d = btree_set_len d.waiting + btree_set_len d.ready

-- a place is before the end; with no end each is
abbrev pub is_before : Option Spot → Spot → Bool
is_before None spot = true
is_before (Some end) spot = is_lt (spot_cmp spot end)

-- a moment is one of those for which it suffices
abbrev pub suffices_at : Due → ℕ → Bool
suffices_at d moment = is_le (nat_cmp d.since moment) && is_lt (nat_cmp moment d.until)

-- it suffices for a moment and a place
abbrev pub covers : Due → ℕ → Spot → Bool
covers d moment spot = suffices_at d moment && is_before d.end spot

-- a place waits from a moment on
abbrev pub Waits : Due → ℕ → Spot → Type 0
Waits d first spot = IsTrue (contains term_cmp d.waiting (term_of first spot))

-- it lists a place at a moment: the place is ready, or waits for that moment or an earlier one
abbrev pub Lists : Due → ℕ → Spot → Type 0
Lists d moment spot = IsTrue (contains spot_cmp d.ready spot)
    ⊎ ((first : ℕ) × (first ≤ moment) × Waits d first spot)

-- it knows of a place at a moment: where it covers them, it lists the place then
abbrev pub Knows : Due → ℕ → Spot → Type 0
Knows d moment spot = IsTrue (covers d moment spot) → Lists d moment spot

-- it knows of a place from a moment on
abbrev pub KnowsFrom : ℕ → Spot → Due → Type 0
KnowsFrom first spot d = (moment : ℕ) → first ≤ moment → Knows d moment spot

-- it knows all that it knew
abbrev pub KeepsKnown : Due → Due → Type 0
KeepsKnown old new = (moment : ℕ) (spot : Spot) → Knows old moment spot → Knows new moment spot

-- of each place but one
abbrev pub KeepsOthers : Spot → Due → Due → Type 0
KeepsOthers dropped old new = (moment : ℕ) (spot : Spot) → (spot ≡ dropped → ⊥)
    → Knows old moment spot → Knows new moment spot

-- it covers no moment, and so knows of each place
abbrev pub CoversNothing : Due → Type 0
CoversNothing d = (moment : ℕ) → suffices_at d moment ≡ false

-- a place is ready, before the end
abbrev pub IsReady : Due → Spot → Type 0
IsReady d spot = IsTrue (contains spot_cmp d.ready spot && is_before d.end spot)

-- nothing that waits is due at the moment, so that what is listed then is ready
abbrev pub IsRipe : ℕ → Due → Type 0
IsRipe moment d = (first : ℕ) (spot : Spot) → Waits d first spot → moment < first

-- it covers the moment at each place
abbrev pub CoversAll : Due → ℕ → Type 0
CoversAll d moment = (spot : Spot) → IsTrue (covers d moment spot)

-- it lists no place at the moment
abbrev pub ListsNone : Due → ℕ → Type 0
ListsNone d moment = (spot : Spot) → Lists d moment spot → ⊥

-- it knows of no place at the moment, so that nothing is due then
abbrev pub NoneDue : Due → ℕ → Type 0
NoneDue d moment = (spot : Spot) → Knows d moment spot → ⊥

-- behind a place, where there is one
abbrev pub bound_behind : Option Spot → Bound Spot
bound_behind None = Unbounded
bound_behind (Some after) = Excluded after

-- a place is behind another one
abbrev pub is_behind : Option Spot → Spot → Bool
is_behind after spot = is_from_start spot_cmp (bound_behind after) spot

-- the first place that is ready behind a place, or that there is none
abbrev pub FindsNext : Due → Option Spot → Option Spot → Type 0
FindsNext d after None = (spot : Spot) → IsReady d spot → is_behind after spot ≡ false
FindsNext d after (Some next) = IsReady d next × IsTrue (is_behind after next)
    × ((spot : Spot) → IsReady d spot → IsTrue (is_behind after spot)
    → is_lt (spot_cmp spot next) ≡ false)
