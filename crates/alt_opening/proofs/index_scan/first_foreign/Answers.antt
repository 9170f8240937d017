-- One row more.
use Rattle.std.proofs.Common.{◌≡◌, sym, ap, subst, ◌∙◌, ◌++◌, ◌∷◌, [], None, IsTrue}
use Rattle.std.proofs.lemmas.Bool.{false≢true}
use Rattle.std.proofs.lemmas.Option.{same_Some}
use Rattle.alt_schema.specs.declared.schema.IndexSchema.{IndexSchema}
use Rattle.alt_opening.specs.private.IndexScans.{HasRow}
use Rattle.alt_opening.specs.Scans.{IsFirstFrom, IsNextRow, Walked}
use Rattle.alt_opening.proofs.IndexSteps.{foreign_first, foreign_none}
use Rattle.alt_opening.proofs.Ahead.{ahead_then, none_ahead}
use Rattle.alt_opening.proofs.Scanning.{walk_start, walk_then, reads_on, rows_none, rows_next, rows_all, rows_more}
use Rattle.alt_opening.proofs.index_scan.first_foreign.Goals as goal

pub rows-init : goal.rows-init
rows-init g c = record {
  walked = walk_start (g.D.Disk.state c.args.disk.now) c.args.engine.now;
  own = λ tells layout i reads at made read. rows_none layout i.family
      (HasRow layout c.args.schema.now i) c.from_vec-from.result
      (c.from_vec-from.ensures.same ∙ c.new.ensures.items);
  ahead = λ tells layout reads. none_ahead layout c.index_at.result.now.family c.from_vec-from.result
      c.new-ahead.result.items c.new-ahead.ensures.items;
}

pub returns-in-Ok-None-clause-first : goal.returns-in-Ok-None-clause-first
returns-in-Ok-None-clause-first g c tells l i reads at made read =
    let family : c.index_at.result.now.family ≡ i.family = ap (λ (x : IndexSchema). x.family)
    (same_Some _ _ (c.index_at.ensures.index ∙ at)) in
    foreign_none l c.args.schema.now i (rows_all l i.family (HasRow l c.args.schema.now i)
    c.rows.from (c.rows.invariant.own tells l i reads at made read)
    (subst (λ f. IsNextRow l f c.rows.from None) family
    (subst (IsNextRow l c.index_at.result.now.family c.rows.from) c.in-Ok-None.field-0-is
    (c.in-Ok-None.ensures.row
    (subst IsTrue (sym c.rows.invariant.walked.goes.tells) tells) l
    (reads_on (g.D.Disk.state c.args.disk.now) (g.D.Disk.state c.rows.disk) c.args.engine.now
    c.rows.engine l c.rows.invariant.walked tells reads)
    (c.rows.invariant.ahead tells l reads)))))

pub returns-in-Ok-false-clause-first : goal.returns-in-Ok-false-clause-first
returns-in-Ok-false-clause-first g c tells l i reads at made read =
    let family : c.index_at.result.now.family ≡ i.family = ap (λ (x : IndexSchema). x.family)
    (same_Some _ _ (c.index_at.ensures.index ∙ at)) in
    let first : IsFirstFrom l i.family c.rows.from c.in-Ok-Some.next.0 c.in-Ok-Some.next.1 =
    subst (λ f. IsFirstFrom l f c.rows.from c.in-Ok-Some.next.0 c.in-Ok-Some.next.1) family
    (subst (IsNextRow l c.index_at.result.now.family c.rows.from) c.in-Ok-Some.field-0-is
    (c.in-Ok-Some.ensures.row
    (subst IsTrue (sym c.rows.invariant.walked.goes.tells) tells) l
    (reads_on (g.D.Disk.state c.args.disk.now) (g.D.Disk.state c.rows.disk) c.args.engine.now
    c.rows.engine l c.rows.invariant.walked tells reads)
    (c.rows.invariant.ahead tells l reads))) in
    let walked : Walked (g.D.Disk.state c.args.disk.now) (g.D.Disk.state c.next_row.new.disk)
    c.args.engine.now c.next_row.new.engine = walk_then (g.D.Disk.state c.args.disk.now)
    (g.D.Disk.state c.rows.disk) (g.D.Disk.state c.next_row.new.disk) c.args.engine.now
    c.rows.engine c.next_row.new.engine c.rows.invariant.walked c.next_row.ensures.walked in
    let own = c.in-Ok-false.ensures.own (subst IsTrue (sym walked.goes.tells) tells) l i
    (reads_on (g.D.Disk.state c.args.disk.now) (g.D.Disk.state c.next_row.new.disk)
    c.args.engine.now c.next_row.new.engine l walked tells reads) at made read in
    foreign_first l c.args.schema.now i c.in-Ok-Some.next.0 c.in-Ok-Some.next.1
    (rows_next l i.family (HasRow l c.args.schema.now i) c.rows.from
    (c.rows.invariant.own tells l i reads at made read) c.in-Ok-Some.next.0 c.in-Ok-Some.next.1
    first) first.shows (λ has. false≢true (sym c.in-Ok-false.field-0-test ∙ own.1 has))

pub rows-preserved : goal.rows-preserved
rows-preserved g c =
    let walked : Walked (g.D.Disk.state c.args.disk.now) (g.D.Disk.state c.next_row.new.disk)
    c.args.engine.now c.next_row.new.engine = walk_then (g.D.Disk.state c.args.disk.now)
    (g.D.Disk.state c.rows.disk) (g.D.Disk.state c.next_row.new.disk) c.args.engine.now
    c.rows.engine c.next_row.new.engine c.rows.invariant.walked c.next_row.ensures.walked in
    record {
      walked = walk_then (g.D.Disk.state c.args.disk.now) (g.D.Disk.state c.next_row.new.disk)
          (g.D.Disk.state c.is_own.new.disk) c.args.engine.now c.next_row.new.engine
          c.is_own.new.engine walked c.is_own.ensures.walked;
      own = λ tells l i reads at made read.
          let family : c.index_at.result.now.family ≡ i.family = ap (λ (x : IndexSchema). x.family)
          (same_Some _ _ (c.index_at.ensures.index ∙ at)) in
          let first : IsFirstFrom l i.family c.rows.from c.in-Ok-Some.next.0
          c.in-Ok-Some.next.1 =
          subst (λ f. IsFirstFrom l f c.rows.from c.in-Ok-Some.next.0 c.in-Ok-Some.next.1) family
          (subst (IsNextRow l c.index_at.result.now.family c.rows.from) c.in-Ok-Some.field-0-is
          (c.in-Ok-Some.ensures.row
          (subst IsTrue (sym c.rows.invariant.walked.goes.tells) tells) l
          (reads_on (g.D.Disk.state c.args.disk.now) (g.D.Disk.state c.rows.disk)
          c.args.engine.now c.rows.engine l c.rows.invariant.walked tells reads)
          (c.rows.invariant.ahead tells l reads))) in
          let own = c.in-Ok-true.ensures.own (subst IsTrue (sym walked.goes.tells) tells) l i
          (reads_on (g.D.Disk.state c.args.disk.now) (g.D.Disk.state c.next_row.new.disk)
          c.args.engine.now c.next_row.new.engine l walked tells reads) at made read in
          rows_more l i.family (HasRow l c.args.schema.now i) c.in-Ok-Some.next.0
          c.in-Ok-Some.next.1
          (rows_next l i.family (HasRow l c.args.schema.now i) c.rows.from
          (c.rows.invariant.own tells l i reads at made read) c.in-Ok-Some.next.0
          c.in-Ok-Some.next.1 first) first.shows (own.0 c.in-Ok-true.field-0-test) c.in-Ok.after
          (c.in-Ok.ensures ∙ ap (λ k. k ++ 0 ∷ []) c.as_slice.ensures.same);
      ahead = λ tells l reads. ahead_then l c.index_at.result.now.family c.in-Ok-Some.field-0 c.in-Ok-Some.next
          c.next_row.new.ahead.items c.in-Ok-Some.field-0-is
          (c.in-Ok-Some.ensures.ahead (subst IsTrue (sym c.rows.invariant.walked.goes.tells) tells) l
          (reads_on (g.D.Disk.state c.args.disk.now) (g.D.Disk.state c.rows.disk) c.args.engine.now
          c.rows.engine l c.rows.invariant.walked tells reads)
          (c.rows.invariant.ahead tells l reads))
          c.in-Ok.after
          (c.in-Ok.ensures ∙ ap (λ k. k ++ 0 ∷ []) c.as_slice.ensures.same);
    }

pub returns-in-Ok-None-clause-walked : goal.returns-in-Ok-None-clause-walked
returns-in-Ok-None-clause-walked g c =
    walk_then (g.D.Disk.state c.args.disk.now) (g.D.Disk.state c.rows.disk) (g.D.Disk.state
    c.next_row.new.disk) c.args.engine.now c.rows.engine c.next_row.new.engine
    c.rows.invariant.walked c.next_row.ensures.walked

pub returns-in-Err-clause-walked : goal.returns-in-Err-clause-walked
returns-in-Err-clause-walked g c =
    walk_then (g.D.Disk.state c.args.disk.now) (g.D.Disk.state c.rows.disk) (g.D.Disk.state
    c.next_row.new.disk) c.args.engine.now c.rows.engine c.next_row.new.engine
    c.rows.invariant.walked c.next_row.ensures.walked

pub returns-in-Ok-false-clause-walked : goal.returns-in-Ok-false-clause-walked
returns-in-Ok-false-clause-walked g c =
    walk_then (g.D.Disk.state c.args.disk.now) (g.D.Disk.state c.next_row.new.disk) (g.D.Disk.state
    c.is_own.new.disk) c.args.engine.now c.next_row.new.engine c.is_own.new.engine (walk_then
    (g.D.Disk.state c.args.disk.now) (g.D.Disk.state c.rows.disk) (g.D.Disk.state
    c.next_row.new.disk) c.args.engine.now c.rows.engine c.next_row.new.engine
    c.rows.invariant.walked c.next_row.ensures.walked) c.is_own.ensures.walked

pub returns-in-Err-is_own-clause-walked : goal.returns-in-Err-is_own-clause-walked
returns-in-Err-is_own-clause-walked g c =
    walk_then (g.D.Disk.state c.args.disk.now) (g.D.Disk.state c.next_row.new.disk) (g.D.Disk.state
    c.is_own.new.disk) c.args.engine.now c.next_row.new.engine c.is_own.new.engine (walk_then
    (g.D.Disk.state c.args.disk.now) (g.D.Disk.state c.rows.disk) (g.D.Disk.state
    c.next_row.new.disk) c.args.engine.now c.rows.engine c.next_row.new.engine
    c.rows.invariant.walked c.next_row.ensures.walked) c.is_own.ensures.walked

pub returns-in-Err-key_after-clause-walked : goal.returns-in-Err-key_after-clause-walked
returns-in-Err-key_after-clause-walked g c =
    walk_then (g.D.Disk.state c.args.disk.now) (g.D.Disk.state c.next_row.new.disk) (g.D.Disk.state
    c.is_own.new.disk) c.args.engine.now c.next_row.new.engine c.is_own.new.engine (walk_then
    (g.D.Disk.state c.args.disk.now) (g.D.Disk.state c.rows.disk) (g.D.Disk.state
    c.next_row.new.disk) c.args.engine.now c.rows.engine c.next_row.new.engine
    c.rows.invariant.walked c.next_row.ensures.walked) c.is_own.ensures.walked

pub returns-in-Err-clause-fault : goal.returns-in-Err-clause-fault
returns-in-Err-clause-fault g c tells l reads =
    c.in-Err.ensures.fault (subst IsTrue (sym c.rows.invariant.walked.goes.tells) tells) l
    (reads_on (g.D.Disk.state c.args.disk.now) (g.D.Disk.state c.rows.disk) c.args.engine.now
    c.rows.engine l c.rows.invariant.walked tells reads)

pub returns-in-Err-is_own-clause-fault : goal.returns-in-Err-is_own-clause-fault
returns-in-Err-is_own-clause-fault g c tells l reads =
    let walked : Walked (g.D.Disk.state c.args.disk.now) (g.D.Disk.state c.next_row.new.disk)
    c.args.engine.now c.next_row.new.engine = walk_then (g.D.Disk.state c.args.disk.now)
    (g.D.Disk.state c.rows.disk) (g.D.Disk.state c.next_row.new.disk) c.args.engine.now
    c.rows.engine c.next_row.new.engine c.rows.invariant.walked c.next_row.ensures.walked in
    c.in-Err-is_own.ensures.fault (subst IsTrue (sym walked.goes.tells) tells) l (reads_on
    (g.D.Disk.state c.args.disk.now) (g.D.Disk.state c.next_row.new.disk) c.args.engine.now
    c.next_row.new.engine l walked tells reads)
