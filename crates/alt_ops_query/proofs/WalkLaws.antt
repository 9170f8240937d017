-- A walk: what was examined so far, and what is ahead.
use Rattle.std.proofs.Common.{◌≡◌, ◌≢◌, ◌≤◌, ◌+◌, refl, sym, ap, subst, ◌∙◌, ℕ, Bool, true, false, not, List, [], ◌∷◌, ◌++◌, length, Option, Some, None, All, append_assoc, append-nil, length-append, arith}
use Rattle.std.proofs.Math.Nat.{le-add_right}
use Rattle.alt_base.proofs.Lists.{All-ahead}
use Rattle.alt_cells.specs.Walks.{RowMap}
use Rattle.alt_disk.specs.Disk.{DiskState}
use Rattle.alt_expr.specs.Pages as pages
use Rattle.alt_keyorder.specs.declared.range.KeyRange.{KeyRange}
use Rattle.alt_machine.specs.State.{Table}
use Rattle.alt_machine.specs.Walks.{items_between}
use Rattle.alt_ops_query.specs.PageReads.{is_passed_by_page, most_reads_of_page, page_end}
use Rattle.alt_ops_query.specs.private.Filled.{EndsPage, ContinuesPage, HasFilled, is_behind_in_range, paid_for}
use Rattle.alt_ops_query.specs.private.Ranges.{IsBeyond}
use Rattle.alt_paging.specs.declared.pager.Pager.{Pager}
use Rattle.alt_ops_query.proofs.Passing.{beyond_on, fits_behind, fits_passed, paid_more}
use Rattle.alt_paging.specs.Offered.{WasOffered, asked_of_page}
use Rattle.alt_paging.specs.declared.ask.PageAsk.{PageAsk}
use Rattle.alt_schema.specs.declared.schema.IndexSchema.{IndexSchema}
use Rattle.alt_request.specs.TablesReading.{HasRowFiles, family_read}
use Rattle.alt_value.specs.Tree.{Pair}

-- ---- the items of a step

-- a front of the items was examined behind those seen before, and these are ahead
pub record SoFar (before now : Pager) (items ahead : List (List Pair)) (ask : PageAsk)
    (seen : List (List Pair)) : Type 0 where
  pub front : List (List Pair)
  pub is : items ≡ front ++ ahead
  pub examined : WasOffered now ask (seen ++ front)

-- before a step nothing more was examined, and all of its items are ahead
pub none_yet : (pager : Pager) (items : List (List Pair)) (ask : PageAsk)
    (seen : List (List Pair)) → WasOffered pager ask seen
    → SoFar pager pager items items ask seen
none_yet pager items ask seen h = record {
  front = [];
  is = refl;
  examined = subst (WasOffered pager ask) (sym (append-nil seen)) h;
}

-- the next item isn't empty where none of the step's is
pub next_some : (before now : Pager) (items ahead : List (List Pair)) (item : List Pair)
    (ask : PageAsk) (seen : List (List Pair)) → SoFar before now items (item ∷ ahead) ask seen
    → All (λ i. i ≢ []) items → item ≢ []
next_some before now items ahead item ask seen so all =
    All-ahead (λ i. i ≢ []) so.front item ahead (subst (All (λ i. i ≢ [])) so.is all)

-- one item more
pub one_more : (before now then : Pager) (items ahead : List (List Pair)) (item : List Pair)
    (ask : PageAsk) (seen : List (List Pair)) (so : SoFar before now items (item ∷ ahead) ask seen)
    → WasOffered then ask ((seen ++ so.front) ++ item ∷ [])
    → SoFar before then items ahead ask seen
one_more before now then items ahead item ask seen so h = record {
  front = so.front ++ item ∷ [];
  is = so.is ∙ sym (append_assoc so.front (item ∷ []) ahead);
  examined = subst (WasOffered then ask) (append_assoc seen so.front (item ∷ [])) h;
}

-- ---- the steps of a walk

-- Those were examined, and the range that is left has the others and lies beyond a place, up to which the walk paid.
pub record IsWalked (a b : DiskState) (now : Pager) (ask : PageAsk) (t : Table)
    (i : Option IndexSchema) (forward : Bool) (range rest : KeyRange) : Type 0 where
  pub seen : List (List Pair)
  pub examined : WasOffered now ask seen
  pub whole : items_between t i range.from range.to forward
      ≡ seen ++ items_between t i rest.from rest.to forward
  pub place : Option (List ℕ)
  pub beyond : IsBeyond forward place range.from range.to rest.from rest.to
  pub paid : (maps : List RowMap) → HasRowFiles a.file (family_read t.description i) maps
      → b.reads ≤ a.reads
      + paid_for (is_behind_in_range forward range.from range.to place) maps (length seen)

-- before the first step nothing is paid
pub walk_starts : (a : DiskState) (now : Pager) (ask : PageAsk) (t : Table)
    (i : Option IndexSchema) (forward : Bool) (range : KeyRange) → WasOffered now ask []
    → IsWalked a a now ask t i forward range range
walk_starts a now ask t i forward range h = record {
  seen = [];
  examined = h;
  whole = refl;
  place = None;
  beyond = λ key. (λ within. (within, refl), λ both. both.0);
  paid = λ maps has. le-add_right a.reads
      (paid_for (is_behind_in_range forward range.from range.to None) maps 0);
}

-- what two steps pay is what both pay together
total_of : (x y z p q r : ℕ) → y ≤ x + p → z ≤ y + q → p + q ≤ r → z ≤ x + r
total_of x y z p q r h k l = omega (arith, h, k, l)

-- the files of a family stay while the files do
pub same_row_files : (a b : DiskState) (family : ℕ) (maps : List RowMap)
    → ((f : ℕ) → b.file f ≡ a.file f) → HasRowFiles a.file family maps
    → HasRowFiles b.file family maps
same_row_files a b family maps same has =
    subst (λ files. HasRowFiles files family maps) (λ i f. sym (same f) i) has

module _ (a b c : DiskState) (now then : Pager) (ask : PageAsk) (t : Table)
    (i : Option IndexSchema) (forward : Bool) (range rest : KeyRange)
    (so : IsWalked a b now ask t i forward range rest)
    (same : (f : ℕ) → b.file f ≡ a.file f) where
  -- a step more
  pub walk_on : (left : KeyRange) → ContinuesPage b c t i forward ask so.seen then rest left
      → IsWalked a c then ask t i forward range left
  walk_on left step = record {
    seen = so.seen ++ step.front;
    examined = step.examined;
    whole = so.whole ∙ ap (λ l. so.seen ++ l) step.whole
        ∙ sym (append_assoc so.seen step.front (items_between t i left.from left.to forward));
    place = Some step.last;
    beyond = beyond_on forward so.place range.from range.to rest.from rest.to so.beyond step.last
        step.within left.from left.to step.beyond;
    paid = λ maps has.
        let more : length so.seen + 1 ≤ length (so.seen ++ step.front) =
        omega (arith, step.some, length-append so.seen step.front) in
        let before = so.paid maps has in
        let after = step.paid maps (same_row_files a b (family_read t.description i) maps same has)
        in
        let both = paid_more (is_behind_in_range forward range.from range.to so.place)
        (is_behind_in_range forward rest.from rest.to (Some step.last))
        (is_behind_in_range forward range.from range.to (Some step.last))
        (fits_behind forward so.place range.from range.to rest.from rest.to so.beyond step.last
        step.within) maps (length so.seen) (length (so.seen ++ step.front)) more in
        total_of a.reads b.reads c.reads _ _ _ before after both;
  }

  module _ (step : EndsPage b c t i forward ask so.seen
      (items_between t i rest.from rest.to forward) then rest) where
    -- the last one fills the page
    pub walk_ended : HasFilled then ask (items_between t i range.from range.to forward)
    walk_ended = subst (HasFilled then ask) (sym so.whole) step.filled

    -- and then all is paid
    pub walk_paid : (maps : List RowMap) → HasRowFiles a.file (family_read t.description i) maps
        → c.reads ≤ a.reads + most_reads_of_page t i forward range.from range.to (asked_of_page ask)
        (items_between t i range.from range.to forward) maps
    walk_paid maps has =
        let list : List (List Pair) = so.seen ++ items_between t i rest.from rest.to forward in
        let end : Option (List ℕ) = page_end t i (asked_of_page ask) list in
        let before = so.paid maps has in
        let after = step.paid maps (same_row_files a b (family_read t.description i) maps same has)
        in
        let more : length so.seen + 1 ≤ 1 + length (pages.examined ask.limit list) =
        omega (arith, step.more) in
        let both = paid_more (is_behind_in_range forward range.from range.to so.place)
        (is_passed_by_page forward rest.from rest.to end) (is_passed_by_page forward range.from range.to end)
        (fits_passed forward so.place range.from range.to rest.from rest.to so.beyond end
        step.within) maps (length so.seen) (1 + length (pages.examined ask.limit list)) more in
        subst (λ l. c.reads ≤ a.reads + most_reads_of_page t i forward range.from range.to (asked_of_page ask) l
        maps) (sym so.whole) (total_of a.reads b.reads c.reads _ _ _ before after both)

-- a page that doesn't go on has ended
pub ended_by : (more ends : Bool) → more ≡ not ends → more ≡ false → ends ≡ true
ended_by more true e f = refl
ended_by more false e f = absurd (let g : ⊥ = cc in g)
