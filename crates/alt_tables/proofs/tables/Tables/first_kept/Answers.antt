-- A page of changes more, until one of them is kept or there are no more.
use Rattle.std.proofs.Common.{◌≡◌, refl, ◌≤◌, ◌+◌, sym, ap, subst, ◌∙◌, ℕ, length, map, take, inl, inr, true, rules, arith}
use Rattle.std.proofs.lemmas.Bool.{eqb-true}
use Rattle.std.proofs.lemmas.List.{length-map}
use Rattle.std.specs.Prelude.{◌==◌, ◌-◌}
use Rattle.alt_changes.specs.ChangeRows.{change_in}
use Rattle.alt_machine.specs.Ops.GetRecords.{changes_from}
use Rattle.alt_rowchanges.specs.Trims.{IsKeptFrom}
use Rattle.alt_tables.proofs.Looking.{fails_behind, fails_told}
use Rattle.alt_tables.proofs.Standing.{keeps_nothing, keeps_then, ready_kept, stands_kept}
use Rattle.alt_tables.proofs.TrimSteps.{walk_begins, walk_ends, walk_further}
use Rattle.alt_tables.proofs.tables.Tables.first_kept.Goals as goal

-- a number from 1 on is one more than the one before it
whole : (n : ℕ) → 1 ≤ n → n ≡ n - 1 + 1
whole n more = omega (arith, more)

-- a list without a length has none
none_in : (m n : ℕ) → n ≡ m → true ≡ (m == 0) → n ≡ 0
none_in m n same e = same ∙ eqb-true m 0 (sym e)

pub pages-init : goal.pages-init
pages-init g c = record {
  keeps = keeps_nothing (g.D.Disk.state c.args.disk.now) c.args.self.now;
  walked = λ s t stands at. walk_begins (g.D.Disk.state c.args.disk.now) c.args.self.now s
      c.args.table.now t stands at c.args.moment c.args.before c.requires.before;
}

pub changes-requires-clause-ready : goal.changes-requires-clause-ready
changes-requires-clause-ready g c = ready_kept (g.D.Disk.state c.args.disk.now)
    (g.D.Disk.state c.pages.disk) c.args.self.now c.pages.self c.pages.invariant.keeps
    c.requires.ready

pub returns-in-Err-clause-keeps : goal.returns-in-Err-clause-keeps
returns-in-Err-clause-keeps g c = keeps_then (g.D.Disk.state c.args.disk.now)
    (g.D.Disk.state c.pages.disk) (g.D.Disk.state c.changes.new.disk) c.args.self.now c.pages.self
    c.changes.new.self c.pages.invariant.keeps c.changes.ensures.keeps

pub returns-in-Err-clause-fails : goal.returns-in-Err-clause-fails
returns-in-Err-clause-fails g c = fails_told refl (fails_behind c.pages.invariant.keeps.reads.goes
    (stands_kept (g.D.Disk.state c.args.disk.now) (g.D.Disk.state c.pages.disk) c.args.self.now
    c.pages.self c.pages.invariant.keeps) c.in-Err.ensures.fails)

pub returns-then-is_some-clause-keeps : goal.returns-then-is_some-clause-keeps
returns-then-is_some-clause-keeps g c = keeps_then (g.D.Disk.state c.args.disk.now)
    (g.D.Disk.state c.pages.disk) (g.D.Disk.state c.changes.new.disk) c.args.self.now c.pages.self
    c.changes.new.self c.pages.invariant.keeps c.changes.ensures.keeps

pub returns-then-is_empty-clause-keeps : goal.returns-then-is_empty-clause-keeps
returns-then-is_empty-clause-keeps g c = keeps_then (g.D.Disk.state c.args.disk.now)
    (g.D.Disk.state c.pages.disk) (g.D.Disk.state c.changes.new.disk) c.args.self.now c.pages.self
    c.changes.new.self c.pages.invariant.keeps c.changes.ensures.keeps

pub returns-then-is_some-clause-kept : goal.returns-then-is_some-clause-kept
returns-then-is_some-clause-kept g c s t stands at =
    let walked = c.pages.invariant.walked s t stands at in
    let below = walked.below in
    let last = stands.valid.next_number.1 in
    walk_ends (g.D.Disk.state c.args.disk.now) c.args.self.now s c.args.table.now t stands at
    c.args.moment c.pages.number walked (c.ahead.result - 1) (map change_in c.in-Ok.page.items)
    (c.in-Ok.ensures.changes s t (stands_kept (g.D.Disk.state c.args.disk.now)
    (g.D.Disk.state c.pages.disk) c.args.self.now c.pages.self c.pages.invariant.keeps s stands) at
    ∙ ap (λ n. take c.ahead.result (changes_from n t.changes))
    (c.next.ensures (omega (arith, below, last)))
    ∙ ap (λ n. take n (changes_from (c.pages.number + 1) t.changes))
    (whole c.ahead.result c.ahead.ensures))
    c.kept_in-last.result
    (subst (λ (xs : _). IsKeptFrom c.args.moment c.pages.number (map change_in xs)
    c.kept_in-last.result) c.as_slice.ensures.value c.kept_in-last.ensures)
    (inr (search rules))

pub returns-then-is_empty-clause-kept : goal.returns-then-is_empty-clause-kept
returns-then-is_empty-clause-kept g c s t stands at =
    let walked = c.pages.invariant.walked s t stands at in
    let below = walked.below in
    let last = stands.valid.next_number.1 in
    walk_ends (g.D.Disk.state c.args.disk.now) c.args.self.now s c.args.table.now t stands at
    c.args.moment c.pages.number walked (c.ahead.result - 1) (map change_in c.in-Ok.page.items)
    (c.in-Ok.ensures.changes s t (stands_kept (g.D.Disk.state c.args.disk.now)
    (g.D.Disk.state c.pages.disk) c.args.self.now c.pages.self c.pages.invariant.keeps s stands) at
    ∙ ap (λ n. take c.ahead.result (changes_from n t.changes))
    (c.next.ensures (omega (arith, below, last)))
    ∙ ap (λ n. take n (changes_from (c.pages.number + 1) t.changes))
    (whole c.ahead.result c.ahead.ensures))
    c.kept_in-last.result
    (subst (λ (xs : _). IsKeptFrom c.args.moment c.pages.number (map change_in xs)
    c.kept_in-last.result) c.as_slice.ensures.value c.kept_in-last.ensures)
    (inl (length-map c.in-Ok.page.items change_in
    ∙ none_in c.in-Ok.page.len (length c.in-Ok.page.items) (omega (arith, c.in-Ok.page.ok))
    c.if-is_empty.ensures))

pub pages-preserved : goal.pages-preserved
pages-preserved g c = record {
  keeps = keeps_then (g.D.Disk.state c.args.disk.now)
      (g.D.Disk.state c.pages.disk) (g.D.Disk.state c.changes.new.disk) c.args.self.now c.pages.self
      c.changes.new.self c.pages.invariant.keeps c.changes.ensures.keeps;
  walked = λ s t stands at.
      let walked = c.pages.invariant.walked s t stands at in
      let below = walked.below in
      let last = stands.valid.next_number.1 in
      walk_further (g.D.Disk.state c.args.disk.now) c.args.self.now s c.args.table.now t stands at
      c.args.moment c.pages.number walked c.ahead.result (map change_in c.in-Ok.page.items)
      (c.in-Ok.ensures.changes s t (stands_kept (g.D.Disk.state c.args.disk.now)
      (g.D.Disk.state c.pages.disk) c.args.self.now c.pages.self c.pages.invariant.keeps s stands) at
      ∙ ap (λ n. take c.ahead.result (changes_from n t.changes))
      (c.next.ensures (omega (arith, below, last))))
      c.kept_in-last.result
      (subst (λ (xs : _). IsKeptFrom c.args.moment c.pages.number (map change_in xs)
      c.kept_in-last.result) c.as_slice.ensures.value c.kept_in-last.ensures)
      (search rules);
}
