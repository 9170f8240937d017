-- One item more is offered.
use Rattle.std.proofs.Common.{◌≡◌, refl, sym, ap, ◌∙◌, cond, ℕ, ◌+◌, ◌-◌, ◌<◌, Bool, true, false, not, ◌&&◌, ◌||◌, List, [], ◌∷◌, ◌++◌, length, map, Option, Some, None, is_some, IfSome, unwrap_or, nat_le, ◌==◌, sum_by, arith, length-append}
use Rattle.std.specs.Prelude.{if◌then◌else◌}
use Rattle.std.specs.List.{last_or}
use Rattle.std.proofs.lemmas.List.{map-append}
use Rattle.std.proofs.lemmas.List.Elements.{filter-append}
use Rattle.std.proofs.lemmas.List.Sums.{sum_by_push}
use Rattle.alt_base.proofs.Lists.{last_push}
use Rattle.alt_expr.specs.Pages.{page_bytes, reaches_limit, fills, examined, ends_early, passes, parts, passed}
use Rattle.alt_paging.specs.Counted.{reached}
use Rattle.alt_paging.specs.Offered.{WasOffered, IsPage, ExaminesItem, asked_of_page, last_item_of_page, kept_of_item, unless_counts}
use Rattle.alt_paging.specs.declared.ask.Page.{Page}
use Rattle.alt_paging.specs.declared.ask.PageAsk.{PageAsk}
use Rattle.alt_paging.specs.declared.pager.Pager.{Pager}
use Rattle.alt_paging.proofs.PageLaws.{ends_early_push, examined_push}
use Rattle.alt_value.specs.Size.{item_size}
use Rattle.alt_value.specs.Tree.{Pair}

-- ---- lists with one item more

module _ (ask : PageAsk) (items : List (List Pair)) (item : List Pair) where
  passed_push : passed (asked_of_page ask) (items ++ item ∷ [])
      ≡ passed (asked_of_page ask) items ++ cond (passes ask.filter item) (item ∷ []) []
  passed_push = filter-append (passes ask.filter) items (item ∷ [])

  -- what is kept of them
  kept_push : unless_counts ask.count_only
      (map (parts ask.paths) (passed (asked_of_page ask) (items ++ item ∷ [])))
      ≡ unless_counts ask.count_only (map (parts ask.paths) (passed (asked_of_page ask) items))
      ++ kept_of_item ask item
  kept_push = ap (λ l. unless_counts ask.count_only (map (parts ask.paths) l)) passed_push
      ∙ ap (unless_counts ask.count_only) (map-append (parts ask.paths)
      (passed (asked_of_page ask) items) (cond (passes ask.filter item) (item ∷ []) []))
      ∙ by ask.count_only (passes ask.filter item)
    where
      by : (counts met : Bool) → unless_counts counts
          (map (parts ask.paths) (passed (asked_of_page ask) items)
          ++ map (parts ask.paths) (cond met (item ∷ []) []))
          ≡ unless_counts counts (map (parts ask.paths) (passed (asked_of_page ask) items))
          ++ (if met && not counts then parts ask.paths item ∷ [] else [])
      by true true = refl
      by true false = refl
      by false true = refl
      by false false = refl

  -- how many pass
  count_push : length (passed (asked_of_page ask) (items ++ item ∷ []))
      ≡ length (passed (asked_of_page ask) items) + (if passes ask.filter item then 1 else 0)
  count_push = ap length passed_push
      ∙ length-append (passed (asked_of_page ask) items) (cond (passes ask.filter item) (item ∷ []) [])
      ∙ ap (λ n. length (passed (asked_of_page ask) items) + n) (by (passes ask.filter item))
    where
      by : (met : Bool) → length (cond met (item ∷ []) []) ≡ (if met then 1 else 0)
      by true = refl
      by false = refl

-- nothing is left of the bytes exactly where they fill the page
left_none : (total : ℕ) → (page_bytes - total == 0) ≡ nat_le page_bytes total
left_none total = grind arith

-- the limit is reached by a list of that length
reached_by : (limit : Option ℕ) (items : List (List Pair)) (n : ℕ) → n ≡ length items
    → reached limit n ≡ reaches_limit limit items
reached_by limit items n e = ap (reached limit) e

-- ---- the pager

module _ (ask : PageAsk) (old new : Pager) (items : List (List Pair)) (item : List Pair)
    (was : WasOffered old ask items) (grows : ExaminesItem old item new) (going : old.ended ≡ false) where
  goes_on : ends_early ask.limit items ≡ false
  goes_on = sym was.ended ∙ going

  -- what is left of the bytes
  left_so : new.left ≡ page_bytes - sum_by item_size (items ++ item ∷ [])
  left_so = grows.left ∙ ap (λ n. n - item_size item) was.left
      ∙ (let total = sum_by_push item_size items item in omega (arith, total))

  scanned_so : new.scanned ≡ length (items ++ item ∷ [])
  scanned_so = grows.scanned ∙ ap (λ n. n + 1) was.scanned ∙ sym (length-append items (item ∷ []))

  ended_so : new.ended ≡ ends_early ask.limit (items ++ item ∷ [])
  ended_so = grows.ended
      ∙ (λ i. reached (ap (λ (a : PageAsk). a.limit) was.for i) (scanned_so i)
      || (left_so i == 0))
      ∙ ap (λ b. reached ask.limit (length (items ++ item ∷ [])) || b)
      (left_none (sum_by item_size (items ++ item ∷ [])))
      ∙ sym (ends_early_push ask.limit items item goes_on)

  kept_so : new.kept ≡ unless_counts ask.count_only
      (map (parts ask.paths) (passed (asked_of_page ask) (items ++ item ∷ [])))
  kept_so = grows.kept was.looked ∙ (λ i. was.kept i ++ kept_of_item (was.for i) item)
      ∙ sym (kept_push ask items item)

  count_so : new.count ≡ length (passed (asked_of_page ask) (items ++ item ∷ []))
  count_so = grows.count was.looked
      ∙ (λ i. was.count i + (if passes (ap (λ (a : PageAsk). a.filter) was.for i) item
      then 1 else 0))
      ∙ sym (count_push ask items item)

  last_so : new.last ≡ last_item_of_page ask (items ++ item ∷ [])
  last_so = grows.last ∙ (λ i. if ended_so i then sym (last_push None items item) i else None)
      ∙ ap (λ seen. if ends_early ask.limit (items ++ item ∷ []) then last_or None seen else None)
      (sym (examined_push ask.limit items item goes_on))

  -- with one item more, what was offered is offered
  pub offered_one : WasOffered new ask (items ++ item ∷ [])
  offered_one = record {
    for = grows.ask ∙ was.for;
    looked = grows.looked was.looked;
    kept = kept_so;
    count = count_so;
    scanned = scanned_so;
    left = left_so;
    whole = examined_push ask.limit items item goes_on;
    ended = ended_so;
    last = last_so;
  }

-- ---- the first and the last

not_le : (most : ℕ) → 0 < most → nat_le most 0 ≡ false
not_le most h = grind arith

-- no items end no page
fills_none : (limit : Option ℕ) → IfSome limit (λ most. 0 < most) → fills limit [] ≡ false
fills_none None above = refl
fills_none (Some most) above = by (nat_le most 0) (not_le most above)
  where
    by : (b : Bool) → b ≡ false → (b || false) ≡ false
    by true e = e
    by false e = e

-- a list of no items doesn't end early, as a limit is above 0
pub none_ends : (limit : Option ℕ) → IfSome limit (λ most. 0 < most)
    → ends_early limit [] ≡ false
none_ends limit above =
    ap (λ b. is_some {T = List (List Pair)} (cond b (Some []) None)) (fills_none limit above)

-- of no items none is examined
pub none_examined : (limit : Option ℕ) → examined limit [] ≡ []
none_examined limit = by (fills limit [])
  where
    by : (b : Bool) → unwrap_or {T = List (List Pair)} (cond b (Some []) None) [] ≡ []
    by true = refl
    by false = refl

-- no item ends a page that goes on
pub none_last : (ask : PageAsk) → IfSome ask.limit (λ most. 0 < most) → None ≡ last_item_of_page ask []
none_last ask above = ap (λ b. if b then last_or None (examined ask.limit []) else None)
    (sym (none_ends ask.limit above))

-- of no items none is kept
pub none_kept : (counts : Bool) → unless_counts counts [] ≡ []
none_kept true = refl
none_kept false = refl

-- the page of what was offered
pub page_is : (ask : PageAsk) (pager : Pager) (items : List (List Pair))
    → WasOffered pager ask items → (page : Page) → page.items ≡ pager.kept
    → page.count ≡ pager.count → page.scanned ≡ pager.scanned → page.ended ≡ pager.ended
    → page.last ≡ pager.last → IsPage ask items page
page_is ask pager items was page kept count scanned ended last = record {
  items = kept ∙ was.kept ∙ ap (λ seen. unless_counts ask.count_only
      (map (parts ask.paths) (passed (asked_of_page ask) seen))) (sym was.whole);
  count = count ∙ was.count ∙ ap (λ seen. length (passed (asked_of_page ask) seen)) (sym was.whole);
  scanned = scanned ∙ was.scanned ∙ ap length (sym was.whole);
  ended = ended ∙ was.ended;
  last = last ∙ was.last;
}
