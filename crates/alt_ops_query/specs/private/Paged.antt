-- What a request asks of its page, and the page that is answered.
use Rattle.std.specs.Prelude.{◌≡◌, ℕ, ◌&&◌, ◌^◌, nat_lt, List, Option, Some, None, if◌then◌else◌, codes}
use Rattle.serde_json.specs.Data.{Members}
use Rattle.alt_expr.specs.Pages as pages
use Rattle.alt_expr.specs.declared.cond.Cond.{Cond}
use Rattle.alt_expr.specs.declared.path.PathPart.{PathPart}
use Rattle.alt_machine.specs.Lists.{last_examined, page_answer}
use Rattle.alt_machine.specs.Ops.Scan.{whole_at}
use Rattle.alt_machine.specs.Sources.{selects}
use Rattle.alt_ops_query.specs.private.Filled.{HasFilled}
use Rattle.alt_paging.specs.declared.pager.Pager.{Pager}
use Rattle.alt_paging.specs.Offered.{asked_of_page}
use Rattle.alt_paging.specs.declared.ask.PageAsk.{PageAsk}
use Rattle.alt_schema.specs.declared.schema.IndexSchema.{IndexSchema}
use Rattle.alt_schema.specs.declared.schema.TableSchema.{TableSchema}
use Rattle.alt_shape.specs.Refusals.{Answer}
use Rattle.alt_value.specs.Tree.{Pair}

-- a limit of 1 to 2^32 - 1
abbrev pub limit_in : Option ℕ → Option ℕ
limit_in None = None
limit_in (Some most) = if nat_lt 0 most && nat_lt most (2 ^ 32) then Some most else None

-- a request has no limit that isn't one of these
abbrev pub HasLimit : Members → Type 0
HasLimit ms = limit_in (whole_at (codes "Limit") ms) ≡ whole_at (codes "Limit") ms

-- what is asked of the page
abbrev pub asked_page : Members → Option Cond → Option (List (List PathPart)) → PageAsk
asked_page ms filter paths = record {
  limit = limit_in (whole_at (codes "Limit") ms);
  filter = filter;
  paths = paths;
  count_only = selects (codes "COUNT") ms;
}

-- the answer with the page of a list
abbrev pub answer_with : TableSchema → Option IndexSchema → Members → PageAsk
    → List (List Pair) → Answer
answer_with d i ms ask list = page_answer d i ms (pages.page_of (asked_of_page ask) list)
    (last_examined (asked_of_page ask) list)

-- What was filled is answered as the page of each list of which it is one.
abbrev pub AnswersPage : TableSchema → Option IndexSchema → Members → Pager → Answer → Type 0
AnswersPage d i ms pager answer = (ask : PageAsk) (list : List (List Pair))
    → HasFilled pager ask list → ask.count_only ≡ selects (codes "COUNT") ms
    → answer ≡ answer_with d i ms ask list
