-- Rows in hand, one for each source: the least of them, joined with its equals, is the first of the
-- joined lists.
use Rattle.std.proofs.Common.{◌≡◌, ◌≢◌, ◌<◌, ℕ, zero, suc, Bool, T, List, [], ◌∷◌, length, get_or, set, refl, sym, ap, subst, ◌∙◌, arith}
use Rattle.std.specs.declared.cmp.Ordering.{Ordering}
use Rattle.std.specs.declared.cmp.Ordering.TheVariants.{Less, Equal, Greater}
use Rattle.std.specs.Ordering.{is_lt}
use Rattle.std.specs.FinMap.Entries.{is_sorted, below_all}
use Rattle.alt_base.proofs.Bools.{both_hold, first_holds, second_holds}
use Rattle.alt_base.proofs.Orderings.{less-holds}
use Rattle.alt_cells.specs.Joined.{all_joined, joined_entries}
use Rattle.alt_cells.specs.declared.row.RowCells.{RowCells}
use Rattle.alt_cells.specs.Rows.{join_row}
use Rattle.alt_cells.specs.Walks.{RowList, walk_cmp}
use Rattle.alt_cells.proofs.Entries.{below_less, below-joined, is_sorted-joined, joined-comm, joined-assoc, joined-one, joined-tied}
use Rattle.alt_cells.proofs.RowLaws.{IsJoin-join_row}
use Rattle.alt_cells.proofs.WalkLaws.{walk_total, walk_exact}
use Rattle.alt_merge.specs.declared.head.Head.{Head}
use Rattle.alt_merge.specs.declared.head.Head.TheVariants.{Due, Held, End}
use Rattle.alt_merge.specs.Merges.{Each2, with_head, with_heads, AllSorted, Ready, NotAbove, AllNotAbove, IsFilled, AllFilled, NoneHeld}
use Rattle.alt_merge.proofs.Lists.{each2_one, each2_at}

module _ (forward : Bool) where
  -- sorted lists joined are sorted
  pub sorted_all : (ls : List RowList) → AllSorted forward ls
      → T (is_sorted (walk_cmp forward) (all_joined (walk_cmp forward) join_row ls))
  sorted_all [] s = tt
  sorted_all (l ∷ ls) s = is_sorted-joined (walk_cmp forward) (walk_total forward) join_row l
      (all_joined (walk_cmp forward) join_row ls) s.0 (sorted_all ls s.1)

  -- the key in hand and what is behind it rise, where they do with the head
  sorted_tail : (h : Head) (key : List ℕ) (row : RowCells) (t : RowList) → h ≡ Held key row
      → T (is_sorted (walk_cmp forward) (with_head h t))
      → T (is_sorted (walk_cmp forward) ((key, row) ∷ t))
  sorted_tail h key row t e s = subst (λ x. T (is_sorted (walk_cmp forward) (with_head x t))) e s

  sorted_due : (heads : List Head) (tails : List RowList) (i : ℕ) (d : Head) (key : List ℕ)
      (row : RowCells) → i < length heads → get_or heads i d ≡ Held key row
      → AllSorted forward (with_heads heads tails)
      → AllSorted forward (with_heads (set heads i Due) tails)
  sorted_due [] tails i d key row lt e s = s
  sorted_due (h ∷ heads) [] zero d key row lt e s = tt
  sorted_due (h ∷ heads) [] (suc i) d key row lt e s = tt
  sorted_due (h ∷ heads) (t ∷ tails) zero d key row lt e s = (
    second_holds (below_all (walk_cmp forward) key t) (is_sorted (walk_cmp forward) t)
        (sorted_tail h key row t e s.0),
    s.1,
  )
  sorted_due (h ∷ heads) (t ∷ tails) (suc i) d key row lt e s =
      (s.0, sorted_due heads tails i d key row (omega arith) e s.1)

  -- a row in hand taken out before the lists
  pub take_head : (heads : List Head) (tails : List RowList) (i : ℕ) (d : Head) (key : List ℕ)
      (row : RowCells) → length heads ≡ length tails → i < length heads
      → get_or heads i d ≡ Held key row → AllSorted forward (with_heads heads tails)
      → all_joined (walk_cmp forward) join_row (with_heads heads tails)
      ≡ joined_entries (walk_cmp forward) join_row ((key, row) ∷ [])
      (all_joined (walk_cmp forward) join_row (with_heads (set heads i Due) tails))
  take_head [] tails i d key row len lt e s = absurd (omega arith)
  take_head (h ∷ heads) [] i d key row len lt e s = absurd (omega arith)
  take_head (h ∷ heads) (t ∷ tails) zero d key row len lt e s =
      let R = walk_cmp forward in
      let o = walk_total forward in
      let rest = all_joined R join_row (with_heads heads tails) in
      let s0 = sorted_tail h key row t e s.0 in
      let below = first_holds (below_all R key t) (is_sorted R t) s0 in
      let st = second_holds (below_all R key t) (is_sorted R t) s0 in
      ap (λ x. joined_entries R join_row (with_head x t) rest) e
      ∙ ap (λ l. joined_entries R join_row l rest) (sym
      (joined-one R o join_row (walk_exact forward) IsJoin-join_row (key, row) t below))
      ∙ joined-assoc R o join_row (walk_exact forward) IsJoin-join_row
      ((key, row) ∷ []) t rest tt st (sorted_all (with_heads heads tails) s.1)
  take_head (h ∷ heads) (t ∷ tails) (suc i) d key row len lt e s =
      let R = walk_cmp forward in
      let o = walk_total forward in
      let x = walk_exact forward in
      let j = IsJoin-join_row in
      let l = with_head h t in
      let rest = all_joined R join_row (with_heads (set heads i Due) tails) in
      let sr = sorted_all (with_heads (set heads i Due) tails)
      (sorted_due heads tails i d key row (omega arith) e s.1) in
      ap (joined_entries R join_row l) (take_head heads tails i d key row (omega arith) (omega arith) e s.1)
      ∙ sym (joined-assoc R o join_row x j l ((key, row) ∷ []) rest s.0 tt sr)
      ∙ ap (λ z. joined_entries R join_row z rest) (joined-comm R o join_row x j l ((key, row) ∷ []) s.0 tt)
      ∙ joined-assoc R o join_row x j ((key, row) ∷ []) l rest tt s.0 sr

  -- all that a source still gives is behind the key, and rises
  abbrev Passed : List ℕ → Head → RowList → Type 0
  Passed key h t = T (below_all (walk_cmp forward) key (with_head h t))
      × T (is_sorted (walk_cmp forward) (with_head h t))

  -- the first n lists are behind the key, the others at or behind it
  abbrev pub ReadyFrom : List ℕ → ℕ → List Head → List RowList → Type 0
  ReadyFrom key zero heads tails = Each2 (Ready forward key) heads tails
  ReadyFrom key (suc n) [] [] = Unit {0}
  ReadyFrom key (suc n) [] (t ∷ tails) = ⊥
  ReadyFrom key (suc n) (h ∷ heads) [] = ⊥
  ReadyFrom key (suc n) (h ∷ heads) (t ∷ tails) = Passed key h t × ReadyFrom key n heads tails

  -- a source that is ready gives what rises
  ready_sorted : (key : List ℕ) (h : Head) (t : RowList) → Ready forward key h t
      → T (is_sorted (walk_cmp forward) (with_head h t))
  ready_sorted key Due t r = r.1
  ready_sorted key (Held other row) t r = r.1
  ready_sorted key End t r = tt

  -- all sources that are ready give what rises
  pub sorted_of : (key : List ℕ) (n : ℕ) (heads : List Head) (tails : List RowList)
      → ReadyFrom key n heads tails → AllSorted forward (with_heads heads tails)
  sorted_of key zero [] [] r = tt
  sorted_of key zero [] (t ∷ tails) r = tt
  sorted_of key zero (h ∷ heads) [] r = tt
  sorted_of key zero (h ∷ heads) (t ∷ tails) r =
      (ready_sorted key h t r.0, sorted_of key zero heads tails r.1)
  sorted_of key (suc n) [] [] r = tt
  sorted_of key (suc n) [] (t ∷ tails) r = tt
  sorted_of key (suc n) (h ∷ heads) [] r = tt
  sorted_of key (suc n) (h ∷ heads) (t ∷ tails) r = (r.0.1, sorted_of key n heads tails r.1)

  -- there are as many heads as lists behind them
  pub length_of : (key : List ℕ) (n : ℕ) (heads : List Head) (tails : List RowList)
      → ReadyFrom key n heads tails → length heads ≡ length tails
  length_of key zero [] [] r = refl
  length_of key zero [] (t ∷ tails) r = absurd r
  length_of key zero (h ∷ heads) [] r = absurd r
  length_of key zero (h ∷ heads) (t ∷ tails) r = ap suc (length_of key zero heads tails r.1)
  length_of key (suc n) [] [] r = refl
  length_of key (suc n) [] (t ∷ tails) r = absurd r
  length_of key (suc n) (h ∷ heads) [] r = absurd r
  length_of key (suc n) (h ∷ heads) (t ∷ tails) r = ap suc (length_of key n heads tails r.1)

  -- where the next head is passed, one list more is behind the key
  pub pass_set : (key : List ℕ) (n : ℕ) (heads : List Head) (tails : List RowList) (d h : Head)
      → ReadyFrom key n heads tails → n < length heads
      → ((t : RowList) → Ready forward key (get_or heads n d) t → Passed key h t)
      → ReadyFrom key (suc n) (set heads n h) tails
  pass_set key zero [] tails d h r lt f = absurd (omega arith)
  pass_set key zero (x ∷ heads) [] d h r lt f = absurd r
  pass_set key zero (x ∷ heads) (t ∷ tails) d h r lt f = (f t r.0, r.1)
  pass_set key (suc n) [] tails d h r lt f = absurd (omega arith)
  pass_set key (suc n) (x ∷ heads) [] d h r lt f = absurd r
  pass_set key (suc n) (x ∷ heads) (t ∷ tails) d h r lt f =
      (r.0, pass_set key n heads tails d h r.1 (omega arith) f)

  -- where all lists are passed, all that is joined of them is behind the key
  below_of : (key : List ℕ) (heads : List Head) (tails : List RowList)
      → ReadyFrom key (length heads) heads tails
      → T (below_all (walk_cmp forward) key (all_joined (walk_cmp forward) join_row
      (with_heads heads tails)))
  below_of key [] [] r = tt
  below_of key [] (t ∷ tails) r = tt
  below_of key (h ∷ heads) [] r = tt
  below_of key (h ∷ heads) (t ∷ tails) r = below-joined (walk_cmp forward)
      (walk_total forward) join_row key (with_head h t)
      (all_joined (walk_cmp forward) join_row (with_heads heads tails)) r.0.0
      (below_of key heads tails r.1)

  -- once all lists are behind it, the row comes first
  pub gathered : (key : List ℕ) (row : RowCells) (heads : List Head) (tails : List RowList)
      → ReadyFrom key (length heads) heads tails
      → joined_entries (walk_cmp forward) join_row ((key, row) ∷ [])
      (all_joined (walk_cmp forward) join_row (with_heads heads tails))
      ≡ (key, row) ∷ all_joined (walk_cmp forward) join_row (with_heads heads tails)
  gathered key row heads tails r = joined-one (walk_cmp forward) (walk_total forward) join_row
      (walk_exact forward) IsJoin-join_row (key, row)
      (all_joined (walk_cmp forward) join_row (with_heads heads tails)) (below_of key heads tails r)

  -- a row of the key in hand joined to it
  pub joins_head : (key : List ℕ) (row more : RowCells) (n : ℕ) (heads : List Head)
      (tails : List RowList) (d : Head) → ReadyFrom key n heads tails → n < length heads
      → get_or heads n d ≡ Held key more
      → joined_entries (walk_cmp forward) join_row ((key, join_row row more) ∷ [])
      (all_joined (walk_cmp forward) join_row (with_heads (set heads n Due) tails))
      ≡ joined_entries (walk_cmp forward) join_row ((key, row) ∷ [])
      (all_joined (walk_cmp forward) join_row (with_heads heads tails))
  joins_head key row more n heads tails d r lt e =
      let R = walk_cmp forward in
      let o = walk_total forward in
      let x = walk_exact forward in
      let s = sorted_of key n heads tails r in
      let rest = all_joined R join_row (with_heads (set heads n Due) tails) in
      let sr = sorted_all (with_heads (set heads n Due) tails)
      (sorted_due heads tails n d key more lt e s) in
      sym (ap (joined_entries R join_row ((key, row) ∷ []))
      (take_head heads tails n d key more (length_of key n heads tails r) lt e s)
      ∙ sym (joined-assoc R o join_row x IsJoin-join_row ((key, row) ∷ [])
      ((key, more) ∷ []) rest tt tt sr)
      ∙ ap (λ z. joined_entries R join_row z rest) (joined-tied R o join_row x IsJoin-join_row key row
      more))

  -- a head that isn't above its key is ready for it
  ready_one : (key : List ℕ) (h : Head) (t : RowList) → IsFilled h → NotAbove forward key h
      → T (is_sorted (walk_cmp forward) (with_head h t)) → Ready forward key h t
  ready_one key Due t f n s = absurd f
  ready_one key (Held other row) t f n s = (n, s)
  ready_one key End t f n s = tt

  ready_each : (key : List ℕ) (heads : List Head) (tails : List RowList)
      → length heads ≡ length tails → AllFilled heads → AllNotAbove forward key heads
      → AllSorted forward (with_heads heads tails) → Each2 (Ready forward key) heads tails
  ready_each key [] [] len f n s = tt
  ready_each key [] (t ∷ tails) len f n s = absurd (omega arith)
  ready_each key (h ∷ heads) [] len f n s = absurd (omega arith)
  ready_each key (h ∷ heads) (t ∷ tails) len f n s =
      (ready_one key h t f.0 n.0 s.0, ready_each key heads tails (omega arith) f.1 n.1 s.1)

  -- the least in hand taken out: the others are at or behind it
  pub ready_start : (key : List ℕ) (row : RowCells) (heads : List Head) (tails : List RowList)
      (i : ℕ) (d : Head) → length heads ≡ length tails → i < length heads
      → get_or heads i d ≡ Held key row → AllFilled heads → AllNotAbove forward key heads
      → AllSorted forward (with_heads heads tails)
      → Each2 (Ready forward key) (set heads i Due) tails
  ready_start key row heads tails i d len lt e f n s =
      let each = ready_each key heads tails len f n s in
      let R = walk_cmp forward in
      let t = get_or tails i [] in
      let here = subst (λ h. Ready forward key h t) e
      (each2_at (Ready forward key) heads tails each i lt d []) in
      each2_one (Ready forward key) heads tails each i Due [] lt (
        first_holds (below_all R key t) (is_sorted R t) here.1,
        second_holds (below_all R key t) (is_sorted R t) here.1,
      )

  -- where nothing is in hand, nothing is left
  pub none_left : (heads : List Head) (tails : List RowList) → AllFilled heads → NoneHeld heads
      → all_joined (walk_cmp forward) join_row (with_heads heads tails) ≡ []
  unfolding joined_entries
  none_left [] tails f n = refl
  none_left (h ∷ heads) [] f n = refl
  none_left (Due ∷ heads) (t ∷ tails) f n = absurd f.0
  none_left (Held key row ∷ heads) (t ∷ tails) f n = absurd (n.0 tt)
  none_left (End ∷ heads) (t ∷ tails) f n = none_left heads tails f.1 n.1

  -- a head that isn't the key's, or is due, is behind it
  pub passes_other : (key other : List ℕ) (row : RowCells) (t : RowList)
      → walk_cmp forward key other ≢ Equal → Ready forward key (Held other row) t
      → Passed key (Held other row) t
  passes_other key other row t ne r =
      let R = walk_cmp forward in
      let less : R key other ≡ Less = only_less (R key other) ne r.0 in (
        both_hold (is_lt (R key other)) (below_all R key t) (less-holds (R key other) less)
            (below_less R (walk_total forward) key other t less
            (first_holds (below_all R other t) (is_sorted R t) r.1)),
        r.1,
      )
    where
      only_less : (o : Ordering) → o ≢ Equal → o ≢ Greater → o ≡ Less
      only_less Less a b = refl
      only_less Equal a b = absurd (a refl)
      only_less Greater a b = absurd (b refl)
