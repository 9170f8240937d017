-- Rows that are read one after the other.
use Rattle.std.proofs.Common.{◌≡◌, ◌⊎◌, inl, inr, ⊎_elim, refl, sym, ap, subst, ◌∙◌, ℕ, List, [], ◌∷◌, ◌++◌, Some, None, IsTrue, Less, Equal, Greater}
use Rattle.std.proofs.lemmas.Option.{same_Some}
use Rattle.std.specs.declared.cmp.Ordering.{Ordering}
use Rattle.alt_cells.specs.Changes.{Columns}
use Rattle.alt_cells.specs.Keys.{key_cmp}
use Rattle.alt_disk.specs.Disk.{DiskState}
use Rattle.alt_disk.proofs.Calls.{goes_refl, goes_on}
use Rattle.alt_disk.proofs.Runs.{quiet_start, quiet_then}
use Rattle.alt_engine.specs.InHand.{ReadsLayout, StandsForLayout}
use Rattle.alt_engine.specs.Opened.{StaysOn}
use Rattle.alt_layout.specs.Layout.{Layout, shown}
use Rattle.alt_engine.specs.declared.engine.Engine.{Engine}
use Rattle.alt_opening.specs.Scans.{IsBelow, IsFirstFrom, IsNextRow, RowsWhere, Walked}
use Rattle.alt_opening.proofs.NextRow.{below_after}

-- ---- walks

-- an engine that no call touched
pub stays_still : (s : DiskState) (e : Engine) → StaysOn s s e e
stays_still s e = record { next = refl; reads = λ l h. h; stands = λ l h. h }

-- no walk yet
pub walk_start : (s : DiskState) (e : Engine) → Walked s s e e
walk_start s e = record {
  goes = goes_refl s;
  quiet = λ tells. quiet_start s;
  same = λ tells. stays_still s e;
  bounds = refl;
}

-- one after the other
pub walk_then : (a b c : DiskState) (e f h : Engine) → Walked a b e f → Walked b c f h
    → Walked a c e h
walk_then a b c e f h first then = record {
  goes = goes_on a b c first.goes then.goes;
  quiet = λ tells. quiet_then a b c (first.quiet tells)
      (then.quiet (subst IsTrue (sym first.goes.tells) tells));
  same = λ tells.
      let before : StaysOn a b e f = first.same tells in
      let behind : StaysOn b c f h = then.same (subst IsTrue (sym first.goes.tells) tells) in
      record {
        next = behind.next ∙ before.next;
        reads = λ l reads. behind.reads l (before.reads l reads);
        stands = λ l stands. behind.stands l (before.stands l stands);
      };
  bounds = then.bounds ∙ first.bounds;
}

-- the engine reads as it read
pub reads_on : (a b : DiskState) (e f : Engine) (l : Layout) → Walked a b e f → IsTrue a.tells
    → ReadsLayout a e l → ReadsLayout b f l
reads_on a b e f l walked tells reads = (walked.same tells).reads l reads

-- and stands as it stood
pub stands_on : (a b : DiskState) (e f : Engine) (l : Layout) → Walked a b e f → IsTrue a.tells
    → StandsForLayout a e l → StandsForLayout b f l
stands_on a b e f l walked tells stands = (walked.same tells).stands l stands

-- ---- rows of a family

-- a key is below another, or it isn't
pub below_or_not : (k from : List ℕ) → IsBelow k from ⊎ (IsBelow k from → ⊥)
below_or_not k from = by (key_cmp k from) refl
  where
    by : (o : Ordering) → key_cmp k from ≡ o → IsBelow k from ⊎ (IsBelow k from → ⊥)
    by Less e = inl e
    by Equal e = inr (λ low. let f : Equal ≡ Less = sym e ∙ low in let g : ⊥ = cc in g)
    by Greater e = inr (λ low. let f : Greater ≡ Less = sym e ∙ low in let g : ⊥ = cc in g)

module _ (l : Layout) (family : ℕ) (P : List ℕ → Columns → Type 0) where
  module _ (from : List ℕ) (so_far : RowsWhere (λ k. IsBelow k from) l family P) where
    -- those before the next row
    pub rows_next : (key : List ℕ) (row : Columns) → IsFirstFrom l family from key row
        → RowsWhere (λ k. IsBelow k key) l family P
    rows_next key row first k c low shows = ⊎_elim
        (λ (below : IsBelow k from). so_far k c below shows)
        (λ (above : IsBelow k from → ⊥). absurd (let no : None ≡ Some c =
        sym (first.between k above low) ∙ shows in let f : ⊥ = cc in f))
        (below_or_not k from)

    -- all, where none follows
    pub rows_all : IsNextRow l family from None → RowsWhere (λ k. Unit {0}) l family P
    rows_all none k c here shows = ⊎_elim
        (λ (below : IsBelow k from). so_far k c below shows)
        (λ (above : IsBelow k from → ⊥). absurd (let no : None ≡ Some c =
        sym (none k above) ∙ shows in let f : ⊥ = cc in f))
        (below_or_not k from)

  -- and the one at a key
  pub rows_more : (key : List ℕ) (row : Columns) → RowsWhere (λ k. IsBelow k key) l family P
      → shown l family key ≡ Some row → P key row → (after : List ℕ) → after ≡ key ++ 0 ∷ []
      → RowsWhere (λ k. IsBelow k after) l family P
  rows_more key row so_far shows is after at k c low there = ⊎_elim
      (λ (below : IsBelow k key). so_far k c below there)
      (λ (same : k ≡ key). subst (λ q. P q c) (sym same)
      (subst (P key)
      (same_Some row c (sym shows ∙ ap (shown l family) (sym same) ∙ there)) is))
      (below_after k key (subst (IsBelow k) at low))

  -- where no key is below the first, none was read
  pub rows_none : (from : List ℕ) → from ≡ [] → RowsWhere (λ k. IsBelow k from) l family P
  rows_none from none k c low shows = absurd (by k (subst (IsBelow k) none low))
    where
      by : (k : List ℕ) → IsBelow k [] → ⊥
      by [] low = let f : ⊥ = cc in f
      by (x ∷ xs) low = let f : ⊥ = cc in f
