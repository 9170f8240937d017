-- One head more of those that are gathered.
use Rattle.std.proofs.Common.{◌≡◌, ⊎_elim, ◌<◌, ℕ, suc, Bool, false, T, List, [], ◌∷◌, length, get_or, set, sym, ap, subst, ◌∙◌}
use Rattle.std.proofs.lemmas.List.{set-get_or}
use Rattle.std.specs.FinMap.Entries.{is_sorted, below_all}
use Rattle.alt_base.proofs.Bools.{first_holds, second_holds}
use Rattle.alt_cells.specs.Joined.{all_joined, joined_entries}
use Rattle.alt_cells.specs.declared.row.RowCells.{RowCells}
use Rattle.alt_cells.specs.Rows.{join_row}
use Rattle.alt_cells.specs.Walks.{RowList, walk_cmp}
use Rattle.alt_merge.specs.declared.head.Head.{Head}
use Rattle.alt_merge.specs.declared.head.Head.TheVariants.{Due, Held, End}
use Rattle.alt_merge.specs.Merges.{with_head, with_heads, Ready}
use Rattle.alt_merge.specs.Tied.{is_head_tied, JoinsHead}
use Rattle.alt_merge.proofs.Heads.{ReadyFrom, pass_set, joins_head, passes_other}
use Rattle.alt_merge.proofs.Least.{not_equal}

module _ (forward : Bool) (key : List ℕ) where
  taken : (more : RowCells) (t : RowList) → Ready forward key (Held key more) t
      → T (below_all (walk_cmp forward) key t) × T (is_sorted (walk_cmp forward) t)
  taken more t r = (
    first_holds (below_all (walk_cmp forward) key t) (is_sorted (walk_cmp forward) t) r.1,
    second_holds (below_all (walk_cmp forward) key t) (is_sorted (walk_cmp forward) t) r.1,
  )

  left_alone : (h : Head) (t : RowList) → is_head_tied key h ≡ false → Ready forward key h t
      → T (below_all (walk_cmp forward) key (with_head h t))
      × T (is_sorted (walk_cmp forward) (with_head h t))
  left_alone Due t e r = (r.0, r.1)
  left_alone (Held other row) t e r = passes_other forward key other row t
      (not_equal forward key other e) r
  left_alone End t e r = (tt, tt)

  -- one head more that is taken, where it has the key, keeps what the heads and the row stand for together
  pub gather_step : (row joined_row : RowCells) (n : ℕ) (heads : List Head) (tails : List RowList)
      (d h : Head) → ReadyFrom forward key n heads tails → n < length heads
      → JoinsHead key row (get_or heads n d) h joined_row
      → ReadyFrom forward key (suc n) (set heads n h) tails
      × (joined_entries (walk_cmp forward) join_row ((key, joined_row) ∷ [])
      (all_joined (walk_cmp forward) join_row (with_heads (set heads n h) tails))
      ≡ joined_entries (walk_cmp forward) join_row ((key, row) ∷ [])
      (all_joined (walk_cmp forward) join_row (with_heads heads tails)))
  gather_step row joined_row n heads tails d h r lt takes =
      let R = walk_cmp forward in
      let Is : Head → Type 0 = λ x. ReadyFrom forward key (suc n) (set heads n x) tails
      × (joined_entries R join_row ((key, joined_row) ∷ [])
      (all_joined R join_row (with_heads (set heads n x) tails))
      ≡ joined_entries R join_row ((key, row) ∷ []) (all_joined R join_row (with_heads heads tails))) in
      ⊎_elim
      (λ (a : (more : RowCells) × (get_or heads n d ≡ Held key more) × (h ≡ Due)
      × (joined_row ≡ join_row row more)).
      subst Is (sym a.2) (
        pass_set forward key n heads tails d Due r lt
            (λ t ready. taken a.0 t (subst (λ x. Ready forward key x t) a.1 ready)),
        ap (λ v. joined_entries R join_row ((key, v) ∷ [])
            (all_joined R join_row (with_heads (set heads n Due) tails))) a.3
            ∙ joins_head forward key row a.0 n heads tails d r lt a.1,
      ))
      (λ (b : (h ≡ get_or heads n d) × (is_head_tied key (get_or heads n d) ≡ false) × (joined_row ≡ row)).
      subst Is (sym b.0) (
        pass_set forward key n heads tails d (get_or heads n d) r lt
            (λ t ready. left_alone (get_or heads n d) t b.1 ready),
        (λ i. joined_entries R join_row ((key, b.2 i) ∷ [])
            (all_joined R join_row (with_heads (set-get_or heads n d i) tails))),
      ))
      takes
