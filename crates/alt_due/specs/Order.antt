-- The orders of places and of terms.
use Rattle.std.specs.Prelude.{ℕ, List}
use Rattle.std.specs.declared.cmp.Ordering.{Ordering}
use Rattle.std.specs.Ordering.{nat_cmp, on, then_cmp}
use Rattle.std.specs.Cmp.{IsTotalOrder, nat_cmp_total, on_total, then_total}
use Rattle.std.specs.Cmp.Lexicographic.{nat_list_cmp_total}
use Rattle.alt_value.specs.Members.{text_order}
use Rattle.alt_due.specs.declared.spot.Spot.{Spot}
use Rattle.alt_due.specs.declared.spot.Term.{Term}

-- a place of a table
abbrev pub spot_of : List ℕ → List ℕ → Spot
spot_of table place = record { table = table; place = place }

-- by the table's name, then by the place
abbrev pub spot_cmp : Spot → Spot → Ordering
spot_cmp = then_cmp (on (λ s. s.table) text_order) (on (λ s. s.place) text_order)

-- a place from a moment on
abbrev pub term_of : ℕ → Spot → Term
term_of first at = record { first = first; at = at }

-- by the moment, then by the place
abbrev pub term_cmp : Term → Term → Ordering
term_cmp = then_cmp (on (λ t. t.first) nat_cmp) (on (λ t. t.at) spot_cmp)

-- the order of places is total
pub spot_total : IsTotalOrder spot_cmp
spot_total = then_total (on_total (λ s. s.table) nat_list_cmp_total)
    (on_total (λ s. s.place) nat_list_cmp_total)

-- and so is that of terms
pub term_total : IsTotalOrder term_cmp
term_total = then_total (on_total (λ t. t.first) nat_cmp_total) (on_total (λ t. t.at) spot_total)
