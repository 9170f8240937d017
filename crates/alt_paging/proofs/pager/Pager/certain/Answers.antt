-- So many more items neither reach the limit nor fill what is left of the bytes.
use Rattle.std.proofs.Common.{◌≡◌, arith, sym, ap, subst, ◌∙◌, ◌+◌, ◌-◌, ◌/◌, ◌<◌, ◌++◌, inl, inr, length, length-append, sum_by, Option, Some, ℕ, IfSome}
use Rattle.std.proofs.lemmas.List.Sums.{sum_by-append}
use Rattle.alt_expr.specs.Pages.{reaches_limit}
use Rattle.alt_paging.proofs.PageLaws.{ends_early-full, ends_early-more, reaches-length, sum_by-large}
use Rattle.alt_paging.proofs.Sizes.{by_least, no_room, room_left}
use Rattle.alt_paging.specs.declared.ask.PageAsk.{PageAsk}
use Rattle.alt_value.specs.Size.{item_size}
use Rattle.alt_paging.proofs.pager.Pager.certain.Goals as goal

pub returns-in-Some-clause-certain : goal.returns-in-Some-clause-certain
returns-in-Some-clause-certain c ask items more was small few =
    let limit = sym (ap (λ (a : PageAsk). a.limit) was.for) ∙ c.in-Some.is in
    let scanned = was.scanned in
    ends_early-more ask.limit c.args.largest items more (sym was.ended ∙ c.requires.open) small
    (subst (λ (o : Option ℕ). IfSome o (λ most. length items + length more < most)) (sym limit)
    (omega (arith, scanned, few, c.min.ensures)))
    (room_left c.args.self.now.left c.args.largest (length more) _ c.requires.largest
    (c.args.self.now.going c.requires.open) was.left (omega (arith, few, c.min.ensures)))

pub returns-in-None-clause-certain : goal.returns-in-None-clause-certain
returns-in-None-clause-certain c ask items more was small few =
    let limit = sym (ap (λ (a : PageAsk). a.limit) was.for) ∙ c.in-None.is in
    ends_early-more ask.limit c.args.largest items more (sym was.ended ∙ c.requires.open) small
    (subst (λ (o : Option ℕ). IfSome o (λ most. length items + length more < most)) (sym limit) tt)
    (room_left c.args.self.now.left c.args.largest (length more) _ c.requires.largest
    (c.args.self.now.going c.requires.open) was.left few)

pub returns-in-Some-clause-greatest : goal.returns-in-Some-clause-greatest
returns-in-Some-clause-greatest c ask items more was large all =
    let most = c.in-Some.limit in
    let limit : ask.limit ≡ Some most =
    sym (ap (λ (a : PageAsk). a.limit) was.for) ∙ c.in-Some.is in
    let scanned = was.scanned in
    let below = c.args.self.now.within c.requires.open most c.in-Some.is in
    let total = sum_by-append item_size items more in
    let bytes = sum_by-large c.args.largest more large in
    let count = length-append items more in
    let left = (c.args.self.now.left - 1) / c.args.largest + 1 in
    ends_early-full ask.limit items more (sym was.ended ∙ c.requires.open)
    (omega (arith, all, below, c.min.ensures))
    (by_least left (most - c.args.self.now.scanned) (length more) (omega (arith, all, c.min.ensures))
    (λ bytes_left. inr (omega (
      arith,
      total,
      bytes,
      no_room c.args.self.now.left c.args.largest (length more) (sum_by item_size items)
          c.requires.largest (c.args.self.now.going c.requires.open) was.left bytes_left,
    )))
    (λ items_left. inl (ap (λ (o : Option ℕ). reaches_limit o (items ++ more)) limit
    ∙ reaches-length most (items ++ more) (omega (arith, count, items_left, scanned, below)))))

pub returns-in-None-clause-greatest : goal.returns-in-None-clause-greatest
returns-in-None-clause-greatest c ask items more was large all =
    let total = sum_by-append item_size items more in
    let bytes = sum_by-large c.args.largest more large in
    let over = no_room c.args.self.now.left c.args.largest (length more) (sum_by item_size items)
    c.requires.largest (c.args.self.now.going c.requires.open) was.left all in
    ends_early-full ask.limit items more (sym was.ended ∙ c.requires.open)
    (omega (arith, all)) (inr (omega (arith, total, bytes, over)))
