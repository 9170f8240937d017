-- What is known of the fronts of streams while tables are in hand, so that a write reads nothing of a stream from which it takes nothing.
use Rattle.std.specs.Prelude.{◌≡◌, ◌≤◌, ◌+◌, ℕ, List, [], ◌∷◌, false, not, Option, Some, None, All}
use Rattle.std.specs.FinMap as map
use Rattle.std.specs.List.{filter, find}
use Rattle.std.specs.Str.{bytes_eq}
use Rattle.alt_layout.specs.Layout.{Layout}
use Rattle.alt_machine.specs.State.{Change, Table, Texts}
use Rattle.alt_rowchanges.specs.Leftovers.{leftovers}
use Rattle.alt_rowchanges.specs.declared.fronts.Front.{Front}

-- the moment of the first of these changes
abbrev pub first_moment : List Change → Option ℕ
first_moment [] = None
first_moment (c ∷ cs) = Some c.moment

-- what is known of a table: the first entry of its name
abbrev pub front_at : List ℕ → List Front → Option Front
front_at name known = find (λ (e : Front). bytes_eq e.table name) known

-- without those of a name
abbrev pub without_front : List ℕ → List Front → List Front
without_front name known = filter (λ (e : Front). not (bytes_eq e.table name)) known

-- The front of a table's stream: the moment of the oldest change that it keeps, and a number below which no row is left over.
pub record IsFront (l : Layout) (t : Table) (f : Front) : Type 0 where
  pub oldest : f.oldest ≡ first_moment t.changes
  pub low : (1 ≤ f.from) × (f.from ≤ t.trimmed + 1)
  pub above : (family : ℕ) → t.description.stream_family ≡ Some family
      → All (λ n. f.from ≤ n) (leftovers l family t.trimmed)

-- What is known of a name is the front of the table that has it. Of a table nothing need be known.
abbrev pub AreFronts : Layout → Texts Table → List Front → Type 0
AreFronts l tables known = (name : List ℕ) (f : Front) → front_at name known ≡ Some f
    → (t : Table) × (map.get tables name ≡ Some t) × IsFront l t f

-- Of a table nothing else is known than that moment and that number, and of others what was.
pub record KnowsFront (name : List ℕ) (oldest : Option ℕ) (from : ℕ) (old new : List Front)
    : Type 0 where
  pub own : (f : Front) → front_at name new ≡ Some f → (f.oldest ≡ oldest) × (f.from ≡ from)
  pub others : (q : List ℕ) → bytes_eq name q ≡ false → front_at q new ≡ front_at q old
