-- What was examined, item by item and step by step.
use Rattle.std.proofs.Common.{◌≡◌, sym, ap, subst, ◌∙◌, true, List, ◌++◌, is_some}
use Rattle.alt_expr.specs.Pages as pages
use Rattle.alt_expr.specs.Pages.{ends_early}
use Rattle.alt_ops_query.specs.private.Filled.{HasFilled}
use Rattle.alt_paging.specs.declared.pager.Pager.{Pager}
use Rattle.alt_paging.specs.Offered.{WasOffered}
use Rattle.alt_paging.specs.declared.ask.PageAsk.{PageAsk}
use Rattle.alt_paging.proofs.PageLaws.{full_prefix-ended, examined-ended}
use Rattle.alt_value.specs.Tree.{Pair}

module _ (pager : Pager) (ask : PageAsk) (list : List (List Pair)) where
  -- all was examined, and the page goes on
  pub filled_all : WasOffered pager ask list → HasFilled pager ask list
  filled_all h = record {
    whole = subst (WasOffered pager ask) (sym h.whole) h;
    ends = ap (ends_early ask.limit) h.whole;
  }

  -- a front was, which ended it
  pub filled_front : (front rest : List (List Pair)) → list ≡ front ++ rest
      → WasOffered pager ask front → ends_early ask.limit front ≡ true
      → HasFilled pager ask list
  filled_front front rest is h ended =
      let seen : pages.examined ask.limit list ≡ front =
      ap (pages.examined ask.limit) is ∙ examined-ended ask.limit front rest ended
      ∙ h.whole in
      record {
        whole = subst (WasOffered pager ask) (sym seen) h;
        ends = ap (ends_early ask.limit) seen ∙ ended ∙ sym (longer_ends
            ∙ ended);
      }
    where
      longer_ends : ends_early ask.limit list ≡ ends_early ask.limit front
      longer_ends = ap (ends_early ask.limit) is
          ∙ ap is_some (full_prefix-ended ask.limit front rest ended)
