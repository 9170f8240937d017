-- One item more.
use Rattle.std.proofs.Common.{refl, sym, ap, subst, ◌∙◌, ◌++◌, ◌∷◌, [], None, IsTrue}
use Rattle.alt_opening.specs.Scans.{IsFirstFrom, IsNextRow, Walked}
use Rattle.alt_opening.proofs.IndexSteps.{missing_all, missing_more, missing_none}
use Rattle.alt_opening.proofs.Ahead.{ahead_then, none_ahead}
use Rattle.alt_opening.proofs.Scanning.{walk_start, walk_then, reads_on}
use Rattle.alt_opening.proofs.index_scan.least_missing.Goals as goal

pub rows-init : goal.rows-init
rows-init g c = record {
  walked = walk_start (g.D.Disk.state c.args.disk.now) c.args.engine.now;
  least = λ tells layout i reads at read. missing_none layout c.args.schema.now i
      c.from_vec-from.result (c.from_vec-from.ensures.same ∙ c.new.ensures.items) None refl;
  ahead = λ tells layout reads. none_ahead layout c.args.schema.now.family c.from_vec-from.result
      c.new-ahead.result.items c.new-ahead.ensures.items;
}

pub returns-in-Ok-None-clause-least : goal.returns-in-Ok-None-clause-least
returns-in-Ok-None-clause-least g c tells l i reads at read =
    missing_all l c.args.schema.now i c.rows.from c.rows.least
    (c.rows.invariant.least tells l i reads at read)
    (subst (IsNextRow l c.args.schema.now.family c.rows.from) c.in-Ok-None.field-0-is
    (c.in-Ok-None.ensures.row
    (subst IsTrue (sym c.rows.invariant.walked.goes.tells) tells) l
    (reads_on (g.D.Disk.state c.args.disk.now) (g.D.Disk.state c.rows.disk) c.args.engine.now
    c.rows.engine l c.rows.invariant.walked tells reads)
    (c.rows.invariant.ahead tells l reads)))

pub rows-preserved : goal.rows-preserved
rows-preserved g c =
    let walked : Walked (g.D.Disk.state c.args.disk.now) (g.D.Disk.state c.next_row.new.disk)
    c.args.engine.now c.next_row.new.engine = walk_then (g.D.Disk.state c.args.disk.now)
    (g.D.Disk.state c.rows.disk) (g.D.Disk.state c.next_row.new.disk) c.args.engine.now
    c.rows.engine c.next_row.new.engine c.rows.invariant.walked c.next_row.ensures.walked in
    record {
      walked = walk_then (g.D.Disk.state c.args.disk.now) (g.D.Disk.state c.next_row.new.disk)
          (g.D.Disk.state c.missing_key.new.disk) c.args.engine.now c.next_row.new.engine
          c.missing_key.new.engine walked c.missing_key.ensures.walked;
      least = λ tells l i reads at read.
          let first : IsFirstFrom l c.args.schema.now.family c.rows.from c.in-Ok-Some.next.0
          c.in-Ok-Some.next.1 =
          subst (IsNextRow l c.args.schema.now.family c.rows.from) c.in-Ok-Some.field-0-is
          (c.in-Ok-Some.ensures.row
          (subst IsTrue (sym c.rows.invariant.walked.goes.tells) tells) l
          (reads_on (g.D.Disk.state c.args.disk.now) (g.D.Disk.state c.rows.disk)
          c.args.engine.now c.rows.engine l c.rows.invariant.walked tells reads)
          (c.rows.invariant.ahead tells l reads)) in
          missing_more l c.args.schema.now i c.rows.from c.rows.least
          (c.rows.invariant.least tells l i reads at read) read c.in-Ok-Some.next.0
          c.in-Ok-Some.next.1 first c.in-Ok.missing
          (c.in-Ok.ensures.missing (subst IsTrue (sym walked.goes.tells) tells) l i
          (reads_on (g.D.Disk.state c.args.disk.now) (g.D.Disk.state c.next_row.new.disk)
          c.args.engine.now c.next_row.new.engine l walked tells reads) at)
          c.in-Ok-key_after.after
          (c.in-Ok-key_after.ensures ∙ ap (λ k. k ++ 0 ∷ []) c.as_slice.ensures.same)
          c.lesser-least.result c.lesser-least.ensures;
      ahead = λ tells l reads. ahead_then l c.args.schema.now.family c.in-Ok-Some.field-0 c.in-Ok-Some.next
          c.next_row.new.ahead.items c.in-Ok-Some.field-0-is
          (c.in-Ok-Some.ensures.ahead (subst IsTrue (sym c.rows.invariant.walked.goes.tells) tells) l
          (reads_on (g.D.Disk.state c.args.disk.now) (g.D.Disk.state c.rows.disk) c.args.engine.now
          c.rows.engine l c.rows.invariant.walked tells reads)
          (c.rows.invariant.ahead tells l reads))
          c.in-Ok-key_after.after
          (c.in-Ok-key_after.ensures ∙ ap (λ k. k ++ 0 ∷ []) c.as_slice.ensures.same);
    }

pub returns-in-Ok-None-clause-walked : goal.returns-in-Ok-None-clause-walked
returns-in-Ok-None-clause-walked g c =
    walk_then (g.D.Disk.state c.args.disk.now) (g.D.Disk.state c.rows.disk) (g.D.Disk.state
    c.next_row.new.disk) c.args.engine.now c.rows.engine c.next_row.new.engine
    c.rows.invariant.walked c.next_row.ensures.walked

pub returns-in-Err-clause-walked : goal.returns-in-Err-clause-walked
returns-in-Err-clause-walked g c =
    walk_then (g.D.Disk.state c.args.disk.now) (g.D.Disk.state c.rows.disk) (g.D.Disk.state
    c.next_row.new.disk) c.args.engine.now c.rows.engine c.next_row.new.engine
    c.rows.invariant.walked c.next_row.ensures.walked

pub returns-in-Err-missing_key-clause-walked : goal.returns-in-Err-missing_key-clause-walked
returns-in-Err-missing_key-clause-walked g c =
    walk_then (g.D.Disk.state c.args.disk.now) (g.D.Disk.state c.next_row.new.disk) (g.D.Disk.state
    c.missing_key.new.disk) c.args.engine.now c.next_row.new.engine c.missing_key.new.engine
    (walk_then (g.D.Disk.state c.args.disk.now) (g.D.Disk.state c.rows.disk) (g.D.Disk.state
    c.next_row.new.disk) c.args.engine.now c.rows.engine c.next_row.new.engine
    c.rows.invariant.walked c.next_row.ensures.walked) c.missing_key.ensures.walked

pub returns-in-Err-key_after-clause-walked : goal.returns-in-Err-key_after-clause-walked
returns-in-Err-key_after-clause-walked g c =
    walk_then (g.D.Disk.state c.args.disk.now) (g.D.Disk.state c.next_row.new.disk) (g.D.Disk.state
    c.missing_key.new.disk) c.args.engine.now c.next_row.new.engine c.missing_key.new.engine
    (walk_then (g.D.Disk.state c.args.disk.now) (g.D.Disk.state c.rows.disk) (g.D.Disk.state
    c.next_row.new.disk) c.args.engine.now c.rows.engine c.next_row.new.engine
    c.rows.invariant.walked c.next_row.ensures.walked) c.missing_key.ensures.walked

pub returns-in-Err-clause-fault : goal.returns-in-Err-clause-fault
returns-in-Err-clause-fault g c tells l reads =
    c.in-Err.ensures.fault (subst IsTrue (sym c.rows.invariant.walked.goes.tells) tells) l
    (reads_on (g.D.Disk.state c.args.disk.now) (g.D.Disk.state c.rows.disk) c.args.engine.now
    c.rows.engine l c.rows.invariant.walked tells reads)

pub returns-in-Err-missing_key-clause-fault : goal.returns-in-Err-missing_key-clause-fault
returns-in-Err-missing_key-clause-fault g c tells l reads =
    let walked : Walked (g.D.Disk.state c.args.disk.now) (g.D.Disk.state c.next_row.new.disk)
    c.args.engine.now c.next_row.new.engine = walk_then (g.D.Disk.state c.args.disk.now)
    (g.D.Disk.state c.rows.disk) (g.D.Disk.state c.next_row.new.disk) c.args.engine.now
    c.rows.engine c.next_row.new.engine c.rows.invariant.walked c.next_row.ensures.walked in
    c.in-Err-missing_key.ensures.fault (subst IsTrue (sym walked.goes.tells) tells) l (reads_on
    (g.D.Disk.state c.args.disk.now) (g.D.Disk.state c.next_row.new.disk) c.args.engine.now
    c.next_row.new.engine l walked tells reads)
