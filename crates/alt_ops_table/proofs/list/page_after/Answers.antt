-- A name more; at the end the page is full or nothing is left.
use Rattle.std.proofs.Common.{◌∙◌, arith, ap, ◌++◌, ◌∷◌, [], ◌+◌, List, ℕ, Some, length}
use Rattle.std.proofs.lemmas.List.{length-append}
use Rattle.alt_machine.specs.Ops.ListTables.{names_after}
use Rattle.alt_request.specs.TablesStands.{catalog_of}
use Rattle.alt_ops_table.proofs.Pages.{Ends, is_full, is_last, named_more, page-names, page-more}
use Rattle.alt_ops_table.proofs.list.page_after.Goals as goal
use Rattle.alt_ops_table.proofs.list.page_after.Goals.{else-loop-test, then-loop-test+in_default}

pub loop-preserved : goal.loop-preserved
loop-preserved c =
    let is = c.in_ok-push.ensures.items ∙ ap (λ (y : List ℕ). c.loop.names.items ++ y ∷ [])
    c.in_ok-new.ensures.copied in (
      c.as_str-last.utf8,
      ap length is ∙ length-append c.loop.names.items (c.as_str-last.result.now ∷ [])
          ∙ ap (λ n. n + 1) c.loop.invariant.1,
      named_more c.args.start.now c.loop.last.now c.as_str-last.result.now
          (catalog_of c.args.tables.now) c.loop.names.items c.push.new.self.items
          (ap (λ (x : List ℕ). Some x) c.as_str-last.ensures.same ∙ c.in-Some.ensures.name) is
          c.loop.invariant.2,
    )

pub returns-clause-names : goal.returns-clause-names
returns-clause-names c =
    let rest = names_after c.loop.last.now (catalog_of c.args.tables.now) in
    let ends : Ends c.args.most c.loop.names.items rest = elim c.loop-test.branch [
      | else-loop-test w ↦ is_full (omega (arith, c.loop.invariant.1))
      | then-loop-test+in_default w ↦ is_last w.in_default.ensures.name
          (omega (arith, c.loop.invariant.1))
    ] in
    page-names c.args.most c.loop.names.items rest _ ends c.loop.invariant.2

pub returns-clause-more : goal.returns-clause-more
returns-clause-more c =
    let rest = names_after c.loop.last.now (catalog_of c.args.tables.now) in
    let ends : Ends c.args.most c.loop.names.items rest = elim c.loop-test.branch [
      | else-loop-test w ↦ is_full (omega (arith, c.loop.invariant.1))
      | then-loop-test+in_default w ↦ is_last w.in_default.ensures.name
          (omega (arith, c.loop.invariant.1))
    ] in
    c.is_some-more.ensures ∙ page-more (λ s. s.now.name) c.table_after-2.result c.args.most
    c.loop.names.items rest _ ends c.loop.invariant.2 c.table_after-2.ensures.name
