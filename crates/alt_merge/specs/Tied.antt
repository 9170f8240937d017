-- A row in hand with a key.
use Rattle.std.specs.Prelude.{◌≡◌, ◌≢◌, ◌<◌, ◌⊎◌, ℕ, Bool, true, List, length, get_or, take, Option, Some, None, false}
use Rattle.std.specs.declared.cmp.Ordering.TheVariants.{Equal}
use Rattle.std.specs.Ordering.{is_lt, is_eq}
use Rattle.alt_cells.specs.Keys.{key_cmp}
use Rattle.alt_cells.specs.declared.row.RowCells.{RowCells}
use Rattle.alt_cells.specs.Rows.{join_row}
use Rattle.alt_cells.specs.Walks.{walk_cmp}
use Rattle.alt_merge.specs.declared.head.Head.{Head}
use Rattle.alt_merge.specs.declared.head.Head.TheVariants.{Due, Held, End}
use Rattle.alt_merge.specs.Merges.{IsLeast, NoneHeld}

-- it isn't the key's row
abbrev pub NotTied : List ℕ → Head → Type 0
NotTied key Due = Unit {0}
NotTied key (Held other row) = key_cmp key other ≢ Equal
NotTied key End = Unit {0}

-- whether a key comes before the one in hand
abbrev pub comes_before : Bool → List ℕ → Head → Bool
comes_before forward key Due = true
comes_before forward key (Held other row) = is_lt (walk_cmp forward key other)
comes_before forward key End = true

-- the least of those in hand stands there
abbrev pub IsLeastAt : Bool → List Head → ℕ → Type 0
IsLeastAt forward heads at = (at < length heads) × IsLeast forward (get_or heads at Due) heads

-- it is the key's row
abbrev pub is_head_tied : List ℕ → Head → Bool
is_head_tied key Due = false
is_head_tied key (Held other row) = is_eq (key_cmp key other)
is_head_tied key End = false

-- the least of the first few
abbrev pub BestTo : Bool → List Head → ℕ → Option ℕ → Type 0
BestTo forward heads n None = NoneHeld (take n heads)
BestTo forward heads n (Some at) = (at < length heads)
    × IsLeast forward (get_or heads at Due) (take n heads)

-- a row is joined with the one in hand, if that is the key's
abbrev pub JoinsHead : List ℕ → RowCells → Head → Head → RowCells → Type 0
JoinsHead key row old new joined = ((more : RowCells) × (old ≡ Held key more) × (new ≡ Due)
    × (joined ≡ join_row row more)) ⊎ ((new ≡ old) × (is_head_tied key old ≡ false) × (joined ≡ row))
