-- The step was the last, or the range beyond its last item has the others; and it paid for what it passed.
use Rattle.std.proofs.Common.{◌≡◌, ◌≢◌, ◌≤◌, ◌<◌, sym, ap, subst, ◌∙◌, ◌++◌, [], List, All, take, length, arith}
use Rattle.alt_machine.specs.Sources.{index_at}
use Rattle.alt_machine.specs.Walks.{items_between}
use Rattle.alt_ops_query.specs.private.Filled.{Examines}
use Rattle.alt_ops_query.proofs.Steps.{items_all, placed_some, step_ended, step_last, step_on}
use Rattle.alt_ops_query.proofs.Described.{sized_at, stored_at}
use Rattle.alt_value.specs.Size.{item_size}
use Rattle.alt_value.specs.Tree.{Pair}
use Rattle.alt_ops_query.proofs.walking.step.Goals as goal
use Rattle.alt_ops_query.proofs.walking.step.Goals.{then-not-more-via-then-not-more, then-not-more-via-else-not-more+then-got-most}

pub returns-then-not-more-clause-steps : goal.returns-then-not-more-clause-steps
returns-then-not-more-clause-steps g c s t ask seen stands at h =
    let a = g.D.Disk.state c.args.disk.now in
    let b = g.D.Disk.state c.rows.new.disk in
    let i = index_at t.description c.args.index in
    let from = c.args.range.from in
    let to = c.args.range.to in
    let most = c.min-most.result in
    let asks : 0 < most = omega (arith, c.certain.ensures.some, c.min-most.ensures) in
    let items = c.rows.new.out.items in
    let pager = c.examine.new.pager in
    let list : List (List Pair) = items_between t i from to c.args.forward in
    let given : items ≡ take most list = c.in_ok-last.ensures.rows s t stands at
    ∙ ap (λ l. l ++ take most list) c.new-items.ensures.items in
    let stored = stored_at a c.args.tables.now s stands c.args.table.now t at c.args.index
    c.requires.index in
    let some : All (λ i. i ≢ []) items = subst (All (λ i. i ≢ [])) (sym given)
    (items_all t i c.args.forward from to (λ x. x ≢ [])
    (λ place item here. placed_some t i item place (stored place item here)) most) in
    let largest = c.largest-largest.result in
    let sized : All (λ x. item_size x ≤ largest) items =
    subst (All (λ x. item_size x ≤ largest)) (sym given)
    (items_all t i c.args.forward from to (λ x. item_size x ≤ largest)
    (sized_at a c.args.tables.now s stands c.args.table.now t at largest
    (λ place item here. c.largest-largest.ensures.sized a s stands c.args.table.now place t item at here)
    c.args.index c.requires.index) most) in
    let examined : Examines pager ask seen items c.in_ok-more.more =
    c.in_ok-more.ensures.examines ask seen h some in
    elim c.then-not-more.branch [
      | then-not-more-via-then-not-more w ↦ step_ended a b t i stored c.args.forward c.args.range
          pager ask seen items most c.in_ok-last.last given (c.in_ok-last.ensures.last s t stands
          at) asks
          (λ maps. c.in_ok-last.ensures.reads s t maps stands at)
          largest (subst (λ b. Examines pager ask seen items b) w.if-not-more.true examined) sized
          (λ more all few. c.certain.ensures.certain ask seen more h all
          (omega (arith, few, c.min-most.ensures)))
      | then-not-more-via-else-not-more+then-got-most w ↦ step_last a b t i stored c.args.forward
          c.args.range pager ask seen items most c.in_ok-last.last given
          (c.in_ok-last.ensures.last s t stands at) asks
          (λ maps. c.in_ok-last.ensures.reads s t maps stands at)
          (subst (λ b. Examines pager ask seen items b) w.if-not-more.false examined)
          (omega (arith, w.if-got-most.true, c.len-got.ensures))
    ]

pub returns-clause-steps : goal.returns-clause-steps
returns-clause-steps g c s t ask seen stands at h =
    let a = g.D.Disk.state c.args.disk.now in
    let b = g.D.Disk.state c.rows.new.disk in
    let i = index_at t.description c.args.index in
    let from = c.args.range.from in
    let to = c.args.range.to in
    let most = c.min-most.result in
    let asks : 0 < most = omega (arith, c.certain.ensures.some, c.min-most.ensures) in
    let items = c.rows.new.out.items in
    let pager = c.examine.new.pager in
    let list : List (List Pair) = items_between t i from to c.args.forward in
    let given : items ≡ take most list = c.in_ok-last.ensures.rows s t stands at
    ∙ ap (λ l. l ++ take most list) c.new-items.ensures.items in
    let stored = stored_at a c.args.tables.now s stands c.args.table.now t at c.args.index
    c.requires.index in
    let some : All (λ i. i ≢ []) items = subst (All (λ i. i ≢ [])) (sym given)
    (items_all t i c.args.forward from to (λ x. x ≢ [])
    (λ place item here. placed_some t i item place (stored place item here)) most) in
    let examined : Examines pager ask seen items c.in_ok-more.more =
    c.in_ok-more.ensures.examines ask seen h some in
    let many : most ≤ length items = omega (arith, c.if-got-most.false, c.len-got.ensures) in
    step_on a b t i stored c.args.forward c.args.range pager ask seen items most
    c.in_ok-last.last given (c.in_ok-last.ensures.last s t stands at)
    asks (λ maps. c.in_ok-last.ensures.reads s t maps stands at)
    (subst (λ b. Examines pager ask seen items b) c.if-not-more.false examined).0 many
    c.in_ok-beyond.field-0 c.in_ok-beyond.ensures.beyond
