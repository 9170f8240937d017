-- The page or the changes end with the piece, or both go on behind it.
use Rattle.std.proofs.Common.{◌≡◌, List, map, take, All, sym, subst, arith}
use Rattle.std.proofs.lemmas.List.{length-map}
use Rattle.alt_changes.specs.ChangeRows.{change_in}
use Rattle.alt_machine.specs.Ops.GetRecords.{changes_from}
use Rattle.alt_machine.specs.State.{Change}
use Rattle.alt_streams.specs.private.Paged.{IsFit, Puts}
use Rattle.alt_streams.proofs.Pieces.{described, piece_fit, puts_at, read_found, rising, step_full, step_last, step_on, there}
use Rattle.alt_streams.proofs.paging.step.Goals as goal
use Rattle.alt_streams.proofs.paging.step.Goals.{then-not-more-via-then-not-more, then-not-more-via-else-not-more+then-got-most}

pub returns-in_err-more-clause-fault : goal.returns-in_err-more-clause-fault
returns-in_err-more-clause-fault g c s stands =
    let got = c.in_ok-changes.changes.items in
    let (t, at) = there (g.D.Disk.state c.args.disk.now) c.args.tables.now s stands c.args.table.now
    c.changes.new.self c.changes.ensures.only.catalog c.in-Some.schema.now c.in-Some.ensures.table in
    read_found c.from_residual-in_err-more.result c.in_err-more.field-0.0
    c.from_residual-in_err-more.ensures (c.in_err-more.ensures.fault
    (subst (All IsFit) (sym (c.in_ok-changes.ensures.changes s t stands at))
    (piece_fit s stands.valid c.args.table.now t at c.args.page.now.next c.piece-most.result)))

pub returns-then-not-more-clause-steps : goal.returns-then-not-more-clause-steps
returns-then-not-more-clause-steps g c s t shows most from seen stands at view h =
    let got : List Change = map change_in c.in_ok-changes.changes.items in
    let is : got ≡ take c.piece-most.result (changes_from c.args.page.now.next t.changes) =
    c.in_ok-changes.ensures.changes s t stands at in
    let same = described (g.D.Disk.state c.args.disk.now) c.args.tables.now s stands
    c.args.table.now
    c.changes.new.self c.changes.ensures.only.catalog c.in-Some.schema.now
    c.in-Some.ensures.table t at in
    let fit : All IsFit got = subst (All IsFit) (sym is)
    (piece_fit s stands.valid c.args.table.now t at c.args.page.now.next c.piece-most.result) in
    let puts : Puts t.description shows most from c.put_all.new.page seen got c.in_ok-more.more =
    puts_at c.in-Some.schema.now t.description same c.args.page.now c.put_all.new.page got
    c.in_ok-more.more c.in_ok-more.ensures.puts shows most from seen view h fit in
    let rise = rising s stands.valid c.args.table.now t at in
    elim c.then-not-more.branch [
      | then-not-more-via-then-not-more w ↦ step_full t.description shows most from seen t rise
          c.args.page.now c.put_all.new.page h c.piece-most.result got is
          (subst (Puts t.description shows most from c.put_all.new.page seen got)
          w.if-not-more.true puts)
      | then-not-more-via-else-not-more+then-got-most w ↦
          step_last t.description shows most from seen t
          rise c.args.page.now c.put_all.new.page h c.piece-most.result got is
          (subst (Puts t.description shows most from c.put_all.new.page seen got)
          w.if-not-more.false puts)
          (omega (
            arith,
            w.if-got-most.true,
            c.len-got.ensures,
            length-map c.in_ok-changes.changes.items change_in,
          ))
    ]

pub returns-clause-steps : goal.returns-clause-steps
returns-clause-steps g c s t shows most from seen stands at view h =
    let got : List Change = map change_in c.in_ok-changes.changes.items in
    let is : got ≡ take c.piece-most.result (changes_from c.args.page.now.next t.changes) =
    c.in_ok-changes.ensures.changes s t stands at in
    let same = described (g.D.Disk.state c.args.disk.now) c.args.tables.now s stands
    c.args.table.now
    c.changes.new.self c.changes.ensures.only.catalog c.in-Some.schema.now
    c.in-Some.ensures.table t at in
    let fit : All IsFit got = subst (All IsFit) (sym is)
    (piece_fit s stands.valid c.args.table.now t at c.args.page.now.next c.piece-most.result) in
    let puts : Puts t.description shows most from c.put_all.new.page seen got c.in_ok-more.more =
    puts_at c.in-Some.schema.now t.description same c.args.page.now c.put_all.new.page got
    c.in_ok-more.more c.in_ok-more.ensures.puts shows most from seen view h fit in
    step_on t.description shows most from seen t (rising s stands.valid c.args.table.now t at)
    c.args.page.now c.put_all.new.page h c.piece-most.result got is
    (subst (Puts t.description shows most from c.put_all.new.page seen got)
    c.if-not-more.false puts)
