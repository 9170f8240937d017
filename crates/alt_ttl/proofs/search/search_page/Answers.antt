-- There are enough, or the page was the last, or its last item says where to go on.
use Rattle.std.proofs.Common.{◌≤◌, ◌++◌, ◌∷◌, [], true, sym, ap, subst, ◌∙◌, List, ℕ, None, take, length, arith}
use Rattle.alt_machine.specs.declared.Standing.{Standing}
use Rattle.alt_machine.specs.declared.TheConstants.{MOST_EXPIRED}
use Rattle.alt_machine.specs.Walks.{items_between}
use Rattle.alt_ops_query.proofs.Described.{described, stored_at}
use Rattle.alt_request.specs.TablesStands.{catalog_of}
use Rattle.alt_ttl.specs.private.Searched.{left_in, standings_of}
use Rattle.alt_ttl.proofs.Founds.{taken_named}
use Rattle.alt_ttl.proofs.Fronts.{take_few, take_full}
use Rattle.alt_ttl.proofs.Searching.{page_last, page_none, page_on}
use Rattle.alt_value.specs.Tree.{Pair}
use Rattle.alt_ttl.proofs.search.search_page.Goals as goal

pub returns-then-len-ge-MOST_EXPIRED-clause-left : goal.returns-then-len-ge-MOST_EXPIRED-clause-left
returns-then-len-ge-MOST_EXPIRED-clause-left g c s t stands at =
    sym (take_full MOST_EXPIRED c.args.out.now.items
    (standings_of t.description c.args.name.now c.args.moment
    (items_between t None c.args.from None true)) c.requires.few
    (omega (arith, c.len.ensures, c.if-len-ge-MOST_EXPIRED.true)))

pub returns-then-got-clause-left : goal.returns-then-got-clause-left
returns-then-got-clause-left g c s t stands at =
    let a = g.D.Disk.state c.args.disk.now in
    let name = c.args.name.now in
    let out : List Standing = c.args.out.now.items in
    let items : List (List Pair) = c.rows.new.out.items in
    let list : List (List Pair) = items_between t None c.args.from None true in
    page_last name t c.args.moment
    (stored_at a c.args.tables.now s stands name t at None (λ d e. tt))
    out c.put_expired.new.out.items c.args.from 64 items
    (c.in-Ok.ensures.rows s t stands at ∙ ap (λ l. l ++ take 64 list) c.new-items.ensures.items)
    (c.in_ok-put_expired.ensures.put
    ∙ ap (λ d. take MOST_EXPIRED (out ++ standings_of d name c.args.moment items))
    (described a c.args.tables.now s stands name t at c.rows.new.self c.in-Some.schema.now
    c.in-Ok.ensures.only.catalog c.in-Some.ensures.table))
    (omega (arith, c.if-got.true, c.len-got.ensures))

pub returns-then-got-clause-few : goal.returns-then-got-clause-few
returns-then-got-clause-few g c =
    subst (λ (l : List Standing). length l ≤ MOST_EXPIRED) (sym c.in_ok-put_expired.ensures.put)
    (take_few MOST_EXPIRED (c.args.out.now.items ++ standings_of c.in-Some.schema.now
    c.args.name.now c.args.moment c.rows.new.out.items))

pub returns-then-got-clause-named : goal.returns-then-got-clause-named
returns-then-got-clause-named g c =
    taken_named (catalog_of c.args.tables.now) c.in-Some.schema.now c.args.name.now c.args.moment
    c.rows.new.out.items c.args.out.now.items c.put_expired.new.out.items c.requires.there
    c.requires.named c.in_ok-put_expired.ensures.put

pub returns-in-Some-last-clause-left : goal.returns-in-Some-last-clause-left
returns-in-Some-last-clause-left g c s t stands at =
    let a = g.D.Disk.state c.args.disk.now in
    let name = c.args.name.now in
    let out : List Standing = c.args.out.now.items in
    let items : List (List Pair) = c.rows.new.out.items in
    let list : List (List Pair) = items_between t None c.args.from None true in
    ap (left_in name t c.args.moment c.put_expired.new.out.items)
    (c.in_ok-behind-in-Some-last.ensures
    ∙ ap (λ (p : List ℕ). p ++ 0 ∷ []) c.as_slice.ensures.same)
    ∙ page_on name t c.args.moment
    (stored_at a c.args.tables.now s stands name t at None (λ d e. tt))
    out c.put_expired.new.out.items c.args.from 64 items
    (c.in-Ok.ensures.rows s t stands at ∙ ap (λ l. l ++ take 64 list) c.new-items.ensures.items)
    (c.in_ok-put_expired.ensures.put
    ∙ ap (λ d. take MOST_EXPIRED (out ++ standings_of d name c.args.moment items))
    (described a c.args.tables.now s stands name t at c.rows.new.self c.in-Some.schema.now
    c.in-Ok.ensures.only.catalog c.in-Some.ensures.table))
    (omega arith) (omega (arith, c.if-got.false, c.len-got.ensures)) c.in-Ok.last
    c.in-Some-last.place (c.in-Ok.ensures.last s t stands at) c.in-Some-last.is

pub returns-in-Some-last-clause-few : goal.returns-in-Some-last-clause-few
returns-in-Some-last-clause-few g c =
    subst (λ (l : List Standing). length l ≤ MOST_EXPIRED) (sym c.in_ok-put_expired.ensures.put)
    (take_few MOST_EXPIRED (c.args.out.now.items ++ standings_of c.in-Some.schema.now
    c.args.name.now c.args.moment c.rows.new.out.items))

pub returns-in-Some-last-clause-named : goal.returns-in-Some-last-clause-named
returns-in-Some-last-clause-named g c =
    taken_named (catalog_of c.args.tables.now) c.in-Some.schema.now c.args.name.now c.args.moment
    c.rows.new.out.items c.args.out.now.items c.put_expired.new.out.items c.requires.there
    c.requires.named c.in_ok-put_expired.ensures.put

pub returns-clause-left : goal.returns-clause-left
returns-clause-left g c s t stands at =
    let a = g.D.Disk.state c.args.disk.now in
    let list : List (List Pair) = items_between t None c.args.from None true in
    absurd (page_none c.args.name.now t c.args.moment
    (stored_at a c.args.tables.now s stands c.args.name.now t at None (λ d e. tt))
    c.args.from 64 c.rows.new.out.items
    (c.in-Ok.ensures.rows s t stands at ∙ ap (λ l. l ++ take 64 list) c.new-items.ensures.items)
    (omega arith) (omega (arith, c.if-got.false, c.len-got.ensures)) c.in-Ok.last
    (c.in-Ok.ensures.last s t stands at) c.in-None.is)

pub returns-clause-few : goal.returns-clause-few
returns-clause-few g c =
    subst (λ (l : List Standing). length l ≤ MOST_EXPIRED) (sym c.in_ok-put_expired.ensures.put)
    (take_few MOST_EXPIRED (c.args.out.now.items ++ standings_of c.in-Some.schema.now
    c.args.name.now c.args.moment c.rows.new.out.items))

pub returns-clause-named : goal.returns-clause-named
returns-clause-named g c =
    taken_named (catalog_of c.args.tables.now) c.in-Some.schema.now c.args.name.now c.args.moment
    c.rows.new.out.items c.args.out.now.items c.put_expired.new.out.items c.requires.there
    c.requires.named c.in_ok-put_expired.ensures.put
