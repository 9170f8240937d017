-- The page that was filled is answered as that of the list.
use Rattle.std.proofs.Common.{◌≡◌, refl, sym, ap, subst, ◌∙◌, ℕ, Bool, true, false, List, [], length, map, Option, Some, None, Result, Ok, Err, IfOk, IfErr, IfSome, option_map}
use Rattle.std.proofs.lemmas.Option.{same_Some}
use Rattle.std.specs.Prelude.{if◌then◌else◌, codes}
use Rattle.std.specs.FinMap as finite
use Rattle.std.specs.List.{last_or}
use Rattle.std.specs.Result.{IsErr, IsErrAnd}
use Rattle.serde_json.specs.Data.{Data, Members, member, no_members, number, unsigned, array}
use Rattle.serde_json.specs.Written.{has_float}
use Rattle.alt_codec.specs.Writing.{json_of_pairs}
use Rattle.alt_expr.specs.Pages as pages
use Rattle.alt_expr.specs.Pages.{Asked, examined, parts, passed}
use Rattle.alt_machine.specs.Lists.{shown_items, key_attributes, page_answer, page_asked, last_examined}
use Rattle.alt_machine.specs.Outcomes.{Outcome, says}
use Rattle.alt_machine.specs.Sources.{index_at, selects}
use Rattle.alt_machine.specs.State.{State, Texts}
use Rattle.alt_machine.specs.declared.Expressions.{Expressions}
use Rattle.alt_ops_query.specs.private.Filled.{HasFilled}
use Rattle.alt_ops_query.specs.private.Paged.{AnswersPage, HasLimit, answer_with, asked_page}
use Rattle.alt_ops_query.specs.private.Replied.{machine_page}
use Rattle.alt_ops_query.specs.private.Stops.{IsFault}
use Rattle.alt_paging.specs.declared.pager.Pager.{Pager}
use Rattle.alt_paging.specs.Offered.{IsPage, asked_of_page, unless_counts}
use Rattle.alt_paging.specs.declared.ask.Page.{Page}
use Rattle.alt_paging.specs.declared.ask.PageAsk.{PageAsk}
use Rattle.alt_request.specs.Carried.{FollowsOutcome}
use Rattle.alt_request.specs.Steps.{IsMemory}
use Rattle.alt_request.specs.declared.stop.Stop.{Stop}
use Rattle.alt_request.specs.declared.stop.Stop.TheVariants.{Refused, Fault}
use Rattle.alt_request.proofs.Carrying.{does_say}
use Rattle.alt_request.proofs.Reaching.{err_is}
use Rattle.alt_schema.specs.declared.schema.IndexSchema.{IndexSchema}
use Rattle.alt_schema.specs.declared.schema.TableSchema.{TableSchema}
use Rattle.alt_schema.specs.Json.{member_if}
use Rattle.alt_shape.specs.Body.{body_json, items_json}
use Rattle.alt_shape.specs.Refusals.{Answer, answered, answer_of}
use Rattle.alt_shape.specs.declared.refusal.Reply.{Reply}
use Rattle.alt_request.specs.TablesDeclaredTableFault.TheVariants.{Spent, Damaged, BadRow, Failed, NoMemory}
use Rattle.alt_value.specs.Tree.{Pair}
use Rattle.alt_views.specs.Readable.{CanRead}

-- the page whose items were examined
page_with : Asked → List (List Pair) → Bool → pages.Page
page_with ask seen ended = record {
  items = map (parts ask.paths) (passed ask seen);
  count = length (passed ask seen);
  scanned = length seen;
  ended = ended;
}

-- the page of what a page of the list examines is that of the list
same_page : (ask : PageAsk) (list : List (List Pair)) (pager : Pager)
    → HasFilled pager ask list
    → pages.page_of (asked_of_page ask) (examined ask.limit list) ≡ pages.page_of (asked_of_page ask) list
unfolding page_with
same_page ask list pager filled = λ i. page_with (asked_of_page ask) (filled.whole.whole i)
    (filled.ends i)

-- where counts alone are wanted no items are shown
none_shown : (ms : Members) (items : List (List Pair)) → selects (codes "COUNT") ms ≡ true
    → shown_items ms items ≡ None
none_shown ms items is = ap (λ c. if c then None else Some (array (items_json items))) is

-- so items that are left out where counts alone are wanted make no difference
counts_shown : (ms : Members) (items : List (List Pair)) (b : Bool) → b ≡ selects (codes "COUNT") ms
    → shown_items ms (unless_counts b items) ≡ shown_items ms items
counts_shown ms items false is = refl
counts_shown ms items true is = none_shown ms [] (sym is) ∙ sym (none_shown ms items (sym is))

module _ (d : TableSchema) (x : Option IndexSchema) (ms : Members) (ask : PageAsk)
    (list : List (List Pair))
    (pager : Pager) (filled : HasFilled pager ask list)
    (counts : ask.count_only ≡ selects (codes "COUNT") ms) (page : Page)
    (is : IsPage ask (examined ask.limit list) page) where
  -- the page of the list
  abbrev whole : pages.Page
  whole = pages.page_of (asked_of_page ask) list

  page_is : machine_page page ≡ record whole { items = unless_counts ask.count_only whole.items }
  page_is = λ i. record {
    items = (is.items ∙ ap (λ (p : pages.Page). unless_counts ask.count_only p.items)
        (same_page ask list pager filled)) i;
    count = (is.count ∙ ap (λ (p : pages.Page). p.count) (same_page ask list pager filled)) i;
    scanned = (is.scanned
        ∙ ap (λ (p : pages.Page). p.scanned) (same_page ask list pager filled)) i;
    ended = (is.ended ∙ ap (λ (p : pages.Page). p.ended) (same_page ask list pager filled)) i;
  }

  last_is : page.last ≡ last_examined (asked_of_page ask) list
  last_is = is.last ∙ (λ i. if filled.ends i then last_or None (filled.whole.whole i) else None)

  -- the page that was filled is answered as the machine answers the whole list
  pub answered_so : page_answer d x ms (machine_page page) page.last
      ≡ answer_with d x ms ask list
  answered_so = (λ i. page_answer d x ms (page_is i) (last_is i))
      ∙ ap with_shown (counts_shown ms whole.items ask.count_only counts)
    where
      with_shown : Option Data → Answer
      with_shown shown = answered (member (codes "Count") (number (unsigned whole.count))
          (member_if (codes "Items") shown
          (member_if (codes "LastEvaluatedKey") (option_map
          (λ i. json_of_pairs (key_attributes d x i)) (last_examined (asked_of_page ask) list))
          (member (codes "ScannedCount") (number (unsigned whole.scanned)) no_members))))

  -- so is a reply that has it
  pub answered_by : (answer : Answer) → answer ≡ page_answer d x ms (machine_page page) page.last
      → answer ≡ answer_with d x ms ask list
  answered_by answer e = e ∙ answered_so

-- ---- what is done

-- the page is answered, or memory was wanting for it
pub page_does : (file : ℕ) (now : State → Type 0) (s : State) (d : TableSchema)
    (x : Option IndexSchema) (ms : Members) (ask : PageAsk)
    (list : List (List Pair)) (pager : Pager) (r : Result Reply Stop) → now s
    → HasFilled pager ask list → ask.count_only ≡ selects (codes "COUNT") ms
    → IfOk r (λ reply. AnswersPage d x ms pager (answer_of reply))
    → IfOk r (λ reply. has_float (body_json reply.body) ≡ false) → IfErr r IsMemory
    → FollowsOutcome file now s (says (answer_with d x ms ask list)) r
page_does file now s d x ms ask list pager (Ok reply) stands filled counts told plain cause =
    does_say file now (answer_with d x ms ask list) s (Ok reply)
    (told ask list filled counts, plain) stands
page_does file now s d x ms ask list pager (Err stop) stands filled counts told plain cause =
    subst (λ e. FollowsOutcome file now s (says (answer_with d x ms ask list)) (Err e)) (sym cause)
    (does_say file now (answer_with d x ms ask list) s (Err (Fault NoMemory)) refl stands)

-- the walk stopped before it
pub fault_does : (file : ℕ) (now : State → Type 0) (s : State) (outcome : Outcome) (stop : Stop)
    → IsFault stop → now s → FollowsOutcome file now s outcome (Err stop)
fault_does file now s outcome (Refused r) h stands = absurd h
fault_does file now s outcome (Fault (Spent n)) h stands = absurd h
fault_does _ now s outcome (Fault (Damaged file at)) h stands = absurd h
fault_does file now s outcome (Fault (BadRow family key)) h stands = absurd h
fault_does file now s outcome (Fault Failed) h stands = tt
fault_does file now s outcome (Fault NoMemory) h stands = tt

-- and that is what is handed on
pub does_fault : (file : ℕ) (now : State → Type 0) (s : State) (outcome : Outcome)
    (r : Result Reply Stop) (stop : Stop) → IsErr r × IsErrAnd r (λ e. e ≡ stop) → IsFault stop → now s
    → FollowsOutcome file now s outcome r
does_fault file now s outcome r stop same fault stands =
    subst (FollowsOutcome file now s outcome) (sym (err_is r stop same))
    (fault_does file now s outcome stop fault stands)

-- what is asked of the page is what the request asks
pub asked_is : (ms : Members) (said : Expressions) (ask : PageAsk)
    → ask ≡ asked_page ms said.condition said.projection → HasLimit ms
    → asked_of_page ask ≡ page_asked ms said
asked_is ms said ask is limit = ap asked_of_page is ∙ ap asked limit
  where
    asked : Option ℕ → Asked
    asked most = record { limit = most; condition = said.condition; paths = said.projection }

-- so its page is answered
pub page_asks : (d : TableSchema) (x : Option IndexSchema) (ms : Members) (said : Expressions)
    (list : List (List Pair))
    (ask : PageAsk) → ask ≡ asked_page ms said.condition said.projection → HasLimit ms
    → answer_with d x ms ask list ≡ page_answer d x ms (pages.page_of (page_asked ms said) list)
    (last_examined (page_asked ms said) list)
page_asks d x ms said list ask is limit =
    ap (λ (a : Asked). page_answer d x ms (pages.page_of a list) (last_examined a list))
    (asked_is ms said ask is limit)

-- the description of a table is the one that was found
pub told_of : (found : Option TableSchema) (index : Option ℕ) (ms : Members) (pager : Pager)
    (r : Result Reply Stop) (d : TableSchema) → Some d ≡ found
    → IfOk r (λ reply. AnswersPage d (index_at d index) ms pager (answer_of reply))
    → IfOk r (λ reply. (x : TableSchema) → found ≡ Some x
    → AnswersPage x (index_at x index) ms pager (answer_of reply))
told_of found index ms pager (Ok reply) d is h =
    λ x at. subst (λ y. AnswersPage y (index_at y index) ms pager (answer_of reply))
    (same_Some d x (is ∙ at)) h
told_of found index ms pager (Err stop) d is h = tt

-- and so is what holds of each description that is there
pub within_of : (catalog : Texts TableSchema) (name : List ℕ) (index : Option ℕ) (d : TableSchema)
    → finite.get catalog name ≡ Some d → IfSome index (λ n. CanRead d n)
    → (x : TableSchema) → finite.get catalog name ≡ Some x
    → IfSome index (λ n. CanRead x n)
within_of catalog name index d is h x at = subst (λ y. IfSome index (λ n. CanRead y n))
    (same_Some d x (sym is ∙ at)) h

-- the reply is that of the description at hand
pub told_at : (catalog : Texts TableSchema) (name : List ℕ) (index : Option ℕ) (ms : Members)
    (pager : Pager) (r : Result Reply Stop) (d : TableSchema)
    → finite.get catalog name ≡ Some d
    → IfOk r (λ reply. (x : TableSchema) → finite.get catalog name ≡ Some x
    → AnswersPage x (index_at x index) ms pager (answer_of reply))
    → IfOk r (λ reply. AnswersPage d (index_at d index) ms pager (answer_of reply))
told_at catalog name index ms pager (Ok reply) d at h = h d at
told_at catalog name index ms pager (Err stop) d at h = tt
