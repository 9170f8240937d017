-- The least of the rows in hand, found one head after another.
use Rattle.std.proofs.Common.{◌≡◌, ◌≢◌, ◌<◌, ℕ, zero, suc, Bool, true, false, List, [], ◌∷◌, length, get_or, take, Option, Some, None, refl, sym, ap, subst, ◌∙◌, arith}
use Rattle.std.specs.declared.cmp.Ordering.{Ordering}
use Rattle.std.specs.declared.cmp.Ordering.TheVariants.{Less, Equal, Greater}
use Rattle.std.specs.Ordering.{is_lt, is_eq, ordering_reverse}
use Rattle.std.specs.Cmp.{tied_itself}
use Rattle.alt_cells.specs.Keys.{key_cmp}
use Rattle.alt_cells.specs.declared.row.RowCells.{RowCells}
use Rattle.alt_cells.specs.Walks.{walk_cmp}
use Rattle.alt_cells.proofs.Entries.{turned_less, turned_greater}
use Rattle.alt_cells.proofs.CellLaws.{key_exact}
use Rattle.alt_cells.proofs.WalkLaws.{walk_total, walk_exact}
use Rattle.alt_merge.specs.declared.head.Head.{Head}
use Rattle.alt_merge.specs.declared.head.Head.TheVariants.{Due, Held, End}
use Rattle.alt_merge.specs.Merges.{NotAbove, AllNotAbove, IsLeast, HeadHoldsRow, NoneHeld}
use Rattle.alt_merge.specs.Tied.{is_head_tied, comes_before, BestTo}

-- an order is one of three
not_both : (o : Ordering) → o ≡ Less → o ≡ Greater → ⊥
not_both o p q = cc

module _ (forward : Bool) where
  -- one head more, which doesn't come before the key
  above_more : (key : List ℕ) (heads : List Head) (i : ℕ) → i < length heads
      → AllNotAbove forward key (take i heads) → NotAbove forward key (get_or heads i Due)
      → AllNotAbove forward key (take (suc i) heads)
  above_more key [] i lt a n = absurd (omega arith)
  above_more key (h ∷ heads) zero lt a n = (n, tt)
  above_more key (h ∷ heads) (suc i) lt a n = (a.0, above_more key heads i (omega arith) a.1 n)

  none_more : (heads : List Head) (i : ℕ) → i < length heads → NoneHeld (take i heads)
      → (HeadHoldsRow (get_or heads i Due) → ⊥) → NoneHeld (take (suc i) heads)
  none_more [] i lt a n = absurd (omega arith)
  none_more (h ∷ heads) zero lt a n = (n, tt)
  none_more (h ∷ heads) (suc i) lt a n = (a.0, none_more heads i (omega arith) a.1 n)

  not_held_above : (key : List ℕ) (h : Head) → (HeadHoldsRow h → ⊥) → NotAbove forward key h
  not_held_above key Due n = tt
  not_held_above key (Held other row) n = absurd (n tt)
  not_held_above key End n = tt

  none_above : (key : List ℕ) (heads : List Head) → NoneHeld heads → AllNotAbove forward key heads
  none_above key [] n = tt
  none_above key (h ∷ heads) n = (not_held_above key h n.0, none_above key heads n.1)

  itself : (key : List ℕ) (row : RowCells) (h : Head) → h ≡ Held key row → NotAbove forward key h
  itself key row h e = subst (NotAbove forward key) (sym e)
      (λ g. tied_not (walk_cmp forward key key) (tied_itself (walk_total forward) key) g)
    where
      tied_not : (o : Ordering) → o ≡ Equal → o ≡ Greater → ⊥
      tied_not o p q = cc

  -- a key before the least comes before all that the least does
  lower : (key least : List ℕ) (heads : List Head) → walk_cmp forward key least ≡ Less
      → AllNotAbove forward least heads → AllNotAbove forward key heads
  lower key least [] p a = tt
  lower key least (Due ∷ heads) p a = (tt, lower key least heads p a.1)
  lower key least (End ∷ heads) p a = (tt, lower key least heads p a.1)
  lower key least (Held other row ∷ heads) p a = (
    λ g. a.0 (turned_greater (walk_cmp forward) (walk_total forward) other least
        ((walk_total forward).trans other key least
        (turned_less (walk_cmp forward) (walk_total forward) key other g) p)),
    lower key least heads p a.1,
  )

  is_less_so : (o : Ordering) → is_lt o ≡ true → o ≡ Less
  is_less_so Less e = refl
  is_less_so Equal e = cc
  is_less_so Greater e = cc

  not_less_so : (o r : Ordering) → is_lt o ≡ false → r ≡ ordering_reverse o → r ≢ Greater
  not_less_so Less r e p g = cc
  not_less_so Equal r e p g = cc
  not_less_so Greater r e p g = cc

  -- the head isn't held
  pub best_same : (heads : List Head) (best : Option ℕ) (i : ℕ) → i < length heads
      → (HeadHoldsRow (get_or heads i Due) → ⊥) → BestTo forward heads i best
      → BestTo forward heads (suc i) best
  best_same heads None i lt n b = none_more heads i lt b n
  best_same heads (Some at) i lt n b = (b.0, least_on (get_or heads at Due) b.1)
    where
      least_on : (h : Head) → IsLeast forward h (take i heads)
          → IsLeast forward h (take (suc i) heads)
      least_on Due l = absurd l
      least_on (Held key row) l = above_more key heads i lt l
          (not_held_above key (get_or heads i Due) n)
      least_on End l = absurd l

  -- it is the first that is held
  pub best_first : (heads : List Head) (i : ℕ) (key : List ℕ) (row : RowCells) → i < length heads
      → get_or heads i Due ≡ Held key row → BestTo forward heads i None
      → BestTo forward heads (suc i) (Some i)
  best_first heads i key row lt e b = (
    lt,
    subst (λ h. IsLeast forward h (take (suc i) heads))
        (sym e) (above_more key heads i lt (none_above key (take i heads) b)
        (itself key row (get_or heads i Due) e)),
  )

  -- it comes before the least so far
  pub best_new : (heads : List Head) (i at : ℕ) (key : List ℕ) (row : RowCells) → i < length heads
      → get_or heads i Due ≡ Held key row → comes_before forward key (get_or heads at Due) ≡ true
      → BestTo forward heads i (Some at) → BestTo forward heads (suc i) (Some i)
  best_new heads i at key row lt e first b = (
    lt,
    subst (λ h. IsLeast forward h (take (suc i) heads)) (sym e)
        (above_more key heads i lt (lower_than (get_or heads at Due) first b.1)
        (itself key row (get_or heads i Due) e)),
  )
    where
      lower_than : (h : Head) → comes_before forward key h ≡ true → IsLeast forward h (take i heads)
          → AllNotAbove forward key (take i heads)
      lower_than Due f l = absurd l
      lower_than (Held least more) f l = lower key least (take i heads)
          (is_less_so (walk_cmp forward key least) f) l
      lower_than End f l = absurd l

  -- it doesn't
  pub best_kept : (heads : List Head) (i at : ℕ) (key : List ℕ) (row : RowCells) → i < length heads
      → get_or heads i Due ≡ Held key row → comes_before forward key (get_or heads at Due) ≡ false
      → BestTo forward heads i (Some at) → BestTo forward heads (suc i) (Some at)
  best_kept heads i at key row lt e first b = (b.0, least_on (get_or heads at Due) first b.1)
    where
      least_on : (h : Head) → comes_before forward key h ≡ false → IsLeast forward h (take i heads)
          → IsLeast forward h (take (suc i) heads)
      least_on Due f l = absurd l
      least_on (Held least more) f l = above_more least heads i lt l
          (subst (NotAbove forward least) (sym e)
          (not_less_so (walk_cmp forward key least) (walk_cmp forward least key) f
          ((walk_total forward).antisymm least key)))
      least_on End f l = absurd l

  -- a head that isn't the key's
  pub not_equal : (key other : List ℕ) → is_eq (key_cmp key other) ≡ false
      → walk_cmp forward key other ≢ Equal
  not_equal key other e p = not_eq (key_cmp key key) (tied_itself (walk_total true) key)
      (subst (λ (k : List ℕ). is_eq (key_cmp key k) ≡ false)
      (sym (walk_exact forward key other p)) e)
    where
      not_eq : (o : Ordering) → o ≡ Equal → is_eq o ≡ false → ⊥
      not_eq Less p q = cc
      not_eq Equal p q = cc
      not_eq Greater p q = cc

-- a head that ties with a key has that key
pub tied_held : (key other : List ℕ) (row : RowCells) (h : Head) → is_head_tied key h ≡ true
    → h ≡ Held other row → h ≡ Held key row
tied_held key other row h t e = e ∙ ap (λ (k : List ℕ). Held k row)
    (sym (key_exact key other (equal (key_cmp key other) (ap (is_head_tied key) (sym e) ∙ t))))
  where
    equal : (o : Ordering) → is_eq o ≡ true → o ≡ Equal
    equal Less p = cc
    equal Equal p = refl
    equal Greater p = cc

-- a head that holds no row isn't one that does
pub not_held : (h : Head) → ((key : List ℕ) (row : RowCells) → h ≡ Held key row → ⊥) → HeadHoldsRow h → ⊥
not_held Due n p = p
not_held (Held key row) n p = n key row refl
not_held End n p = p
