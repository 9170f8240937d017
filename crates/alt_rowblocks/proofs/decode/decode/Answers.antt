-- One row more, or none that could be the next.
use Rattle.std.proofs.Common.{refl, sym, subst, length, List, ◌-◌}
use Rattle.std.proofs.lemmas.Bool.{false≢true}
use Rattle.alt_base.proofs.Numbers.{above_zero_from_test}
use Rattle.alt_rowblocks.specs.Format.{Entry}
use Rattle.alt_rowblocks.specs.Decoding.{IsNextKey}
use Rattle.alt_rowblocks.proofs.DecodeLaws.{one_row_more, no_rows_next, no_key_next, left_shorter}
use Rattle.alt_rowblocks.proofs.decode.decode.Goals as goal

pub returns-then-not-is_next_key-clause-none : goal.returns-then-not-is_next_key-clause-none
returns-then-not-is_next_key-clause-none c =
    let p = rw c.in-Some.is at c.in_ok-key.ensures.some in
    no_key_next c.args.bytes.now c.rows.rest.now c.in-Some.behind.now c.rows.before
    c.rows.rows.items c.in-Some.key c.in-Some.row c.rows.invariant p.0 p.1
    (λ next. false≢true
    (c.if-not-is_next_key.ensures.1
    (subst (λ (l : List Entry). IsNextKey l c.in-Some.key) (sym c.deref.ensures.value) next)))

pub rows-smaller : goal.rows-smaller
rows-smaller c =
    let p = rw c.in-Some.is at c.in_ok-key.ensures.some in
    left_shorter c.rows.rest.now c.in-Some.behind.now c.in-Some.key c.in-Some.row p.1

pub rows-preserved : goal.rows-preserved
rows-preserved c =
    let p = rw c.in-Some.is at c.in_ok-key.ensures.some in
    one_row_more c.args.bytes.now c.rows.rest.now c.in-Some.behind.now c.rows.before
    (length c.args.bytes.now - length c.rows.rest.now)
    c.rows.rows.items c.push.new.self.items c.in-Some.key c.in-Some.row
    c.rows.invariant p.0
    (subst (λ (l : List Entry). IsNextKey l c.in-Some.key) c.deref.ensures.value
    (c.if-not-is_next_key.ensures.0 refl)) p.1 refl c.in_ok-push-in-Some.ensures.items

pub returns-in-None-clause-none : goal.returns-in-None-clause-none
returns-in-None-clause-none c =
    let p = rw c.in-None.is at c.in_ok-key.ensures.none in
    no_rows_next c.args.bytes.now c.rows.rest.now c.rows.before c.rows.rows.items c.rows.invariant
    (above_zero_from_test (length c.rows.rest.now) c.rows-test.ensures) p
