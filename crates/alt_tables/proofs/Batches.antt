-- Batches of row changes one after another: the rows behind them, and the states between which they lead.
use Rattle.std.proofs.Common.{◌≡◌, refl, sym, subst, T, List, [], ◌∷◌, ◌++◌, arith}
use Rattle.alt_cells.specs.Batches.{is_distinct}
use Rattle.alt_cells.specs.declared.batch.RowChange.{RowChange}
use Rattle.alt_rowchanges.specs.OpeningHandInHand.{batch_write, batch_writes}
use Rattle.alt_layout.specs.Layout.{Layout, IsPast}
use Rattle.alt_layout.specs.Writes.{with_writes}
use Rattle.alt_layout.proofs.PastLaws.{is_past_after}
use Rattle.alt_machine.specs.State.{State}
use Rattle.alt_machine.specs.Valid.{IsValid}
use Rattle.alt_rowchanges.specs.OpeningStateRows.{Shows, IsHeldWhole}
use Rattle.alt_rowchanges.specs.RowChanges.{Turns, changed_rows}
use Rattle.alt_tables.specs.Several.{BatchesAreDistinct, TurnsAll, with_batches}

-- ---- rows

-- those behind some and then others
pub with_batches-append : (l : Layout) (bs cs : List (List RowChange))
    → with_batches l (bs ++ cs) ≡ with_batches (with_batches l bs) cs
with_batches-append l [] cs = refl
with_batches-append l (b ∷ bs) cs = with_batches-append (changed_rows l b) bs cs

-- each cell is of a write before the next number
pub past_behind : (l : Layout) (bs : List (List RowChange)) → IsPast l → IsPast (with_batches l bs)
past_behind l [] past = past
past_behind l (b ∷ bs) past = past_behind (changed_rows l b) bs
    (is_past_after l (batch_write l b) past (omega arith))

-- They are those behind writes with the next numbers.
pub with_batches-writes : (l : Layout) (bs : List (List RowChange))
    → with_batches l bs ≡ with_writes l (batch_writes l bs)
with_batches-writes l [] = refl
with_batches-writes l (b ∷ bs) = with_batches-writes (changed_rows l b) bs

-- ---- in none a row stands twice

-- so in none of the first, nor in the last
pub distinct_both : (bs : List (List RowChange)) (b : List RowChange) → BatchesAreDistinct (bs ++ b ∷ [])
    → BatchesAreDistinct bs × T (is_distinct b)
distinct_both [] b h = (tt, h.0)
distinct_both (c ∷ cs) b h = let rest = distinct_both cs b h.1 in ((h.0, rest.0), rest.1)

-- and the other way round
pub distinct_more : (bs : List (List RowChange)) (b : List RowChange) → BatchesAreDistinct bs
    → T (is_distinct b) → BatchesAreDistinct (bs ++ b ∷ [])
distinct_more [] b h one = (one, tt)
distinct_more (c ∷ cs) b h one = (h.0, distinct_more cs b h.1 one)

-- ---- states

-- none leaves the state
pub turns_none : (s : State) → IsValid s → IsHeldWhole s → TurnsAll [] s s
turns_none s valid held = record {
  shows = λ distinct l past shows. shows;
  valid = valid;
  held = held;
}

-- one, and then others
pub turns_then : (b : List RowChange) (bs : List (List RowChange)) (s u r : State)
    → Turns b s u → TurnsAll bs u r → TurnsAll (b ∷ bs) s r
turns_then b bs s u r first rest = record {
  shows = λ distinct l past shows. rest.shows distinct.1 (changed_rows l b)
      (is_past_after l (batch_write l b) past (omega arith)) (first.shows distinct.0 l past shows);
  valid = rest.valid;
  held = rest.held;
}

-- others, and then one
pub turns_more : (bs : List (List RowChange)) (b : List RowChange) (s u r : State)
    → TurnsAll bs s u → Turns b u r → TurnsAll (bs ++ b ∷ []) s r
turns_more bs b s u r first last = record {
  shows = λ distinct l past shows.
      let both = distinct_both bs b distinct in
      subst (λ m. Shows m r) (sym (with_batches-append l bs (b ∷ [])))
      (last.shows both.1 (with_batches l bs) (past_behind l bs past)
      (first.shows both.0 l past shows));
  valid = last.valid;
  held = last.held;
}
