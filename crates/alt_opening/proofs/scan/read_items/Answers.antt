-- One row more.
use Rattle.std.proofs.Common.{sym, ap, subst, ◌∙◌, ◌++◌, ◌∷◌, [], refl, Err, IsTrue}
use Rattle.alt_opening.specs.Scans.{IsItemRow, IsNextRow, IsFirstFrom}
use Rattle.alt_tablerows.specs.ItemTests.{IsWithin}
use Rattle.alt_opening.proofs.Ahead.{ahead_then, none_ahead}
use Rattle.alt_opening.proofs.Scanning.{walk_start, walk_then, reads_on, rows_none, rows_next, rows_all, rows_more}
use Rattle.alt_opening.proofs.DeviceFaults.{device_item}
use Rattle.alt_opening.proofs.Sizing.{sized_more}
use Rattle.alt_opening.proofs.scan.read_items.Goals as goal

pub rows-init : goal.rows-init
rows-init g c = record {
  walked = walk_start (g.D.Disk.state c.args.disk.now) c.args.engine.now;
  items = λ tells layout reads. rows_none layout c.args.schema.now.family
      (IsItemRow c.args.schema.now) c.from_vec-from.result
      (c.from_vec-from.ensures.same ∙ c.new.ensures.items);
  sized = λ tells layout reads. rows_none layout c.args.schema.now.family (IsWithin 0)
      c.from_vec-from.result (c.from_vec-from.ensures.same ∙ c.new.ensures.items);
  ahead = λ tells layout reads. none_ahead layout c.args.schema.now.family c.from_vec-from.result
      c.new-ahead.result.items c.new-ahead.ensures.items;
}

pub returns-in-Ok-None-clause-read : goal.returns-in-Ok-None-clause-read
returns-in-Ok-None-clause-read g c tells l reads =
    rows_all l c.args.schema.now.family (IsItemRow c.args.schema.now) c.rows.from
    (c.rows.invariant.items tells l reads)
    (subst (IsNextRow l c.args.schema.now.family c.rows.from) c.in-Ok-None.field-0-is
    (c.in-Ok-None.ensures.row
    (subst IsTrue (sym c.rows.invariant.walked.goes.tells) tells) l
    (reads_on (g.D.Disk.state c.args.disk.now) (g.D.Disk.state c.rows.disk) c.args.engine.now
    c.rows.engine l c.rows.invariant.walked tells reads)
    (c.rows.invariant.ahead tells l reads)))

pub returns-in-Ok-None-clause-largest : goal.returns-in-Ok-None-clause-largest
returns-in-Ok-None-clause-largest g c tells l reads =
    rows_all l c.args.schema.now.family (IsWithin c.rows.largest) c.rows.from
    (c.rows.invariant.sized tells l reads)
    (subst (IsNextRow l c.args.schema.now.family c.rows.from) c.in-Ok-None.field-0-is
    (c.in-Ok-None.ensures.row
    (subst IsTrue (sym c.rows.invariant.walked.goes.tells) tells) l
    (reads_on (g.D.Disk.state c.args.disk.now) (g.D.Disk.state c.rows.disk) c.args.engine.now
    c.rows.engine l c.rows.invariant.walked tells reads)
    (c.rows.invariant.ahead tells l reads)))

pub returns-in-Err-Bad-clause-wrong : goal.returns-in-Err-Bad-clause-wrong
returns-in-Err-Bad-clause-wrong g c tells l reads =
    let first : IsFirstFrom l c.args.schema.now.family c.rows.from c.in-Ok-Some.next.0
    c.in-Ok-Some.next.1 =
    subst (IsNextRow l c.args.schema.now.family c.rows.from) c.in-Ok-Some.field-0-is
    (c.in-Ok-Some.ensures.row
    (subst IsTrue (sym c.rows.invariant.walked.goes.tells) tells) l
    (reads_on (g.D.Disk.state c.args.disk.now) (g.D.Disk.state c.rows.disk) c.args.engine.now
    c.rows.engine l c.rows.invariant.walked tells reads)
    (c.rows.invariant.ahead tells l reads)) in (
      refl,
      record {
        before = rows_next l c.args.schema.now.family (IsItemRow c.args.schema.now) c.rows.from
            (c.rows.invariant.items tells l reads)
            c.in-Ok-Some.next.0 c.in-Ok-Some.next.1 first;
        row = c.in-Ok-Some.next.1;
        shows = first.shows;
        none = c.in-Err-Bad.ensures.none (ap (λ f. Err f) c.in-Err-Bad.field-0-is);
      },
    )

pub rows-preserved : goal.rows-preserved
rows-preserved g c = record {
  walked = walk_then (g.D.Disk.state c.args.disk.now) (g.D.Disk.state c.rows.disk)
      (g.D.Disk.state c.next_row.new.disk) c.args.engine.now c.rows.engine c.next_row.new.engine
      c.rows.invariant.walked c.next_row.ensures.walked;
  items = λ tells l reads.
      let first : IsFirstFrom l c.args.schema.now.family c.rows.from c.in-Ok-Some.next.0
      c.in-Ok-Some.next.1 =
      subst (IsNextRow l c.args.schema.now.family c.rows.from) c.in-Ok-Some.field-0-is
      (c.in-Ok-Some.ensures.row
      (subst IsTrue (sym c.rows.invariant.walked.goes.tells) tells) l
      (reads_on (g.D.Disk.state c.args.disk.now) (g.D.Disk.state c.rows.disk) c.args.engine.now
      c.rows.engine l c.rows.invariant.walked tells reads)
      (c.rows.invariant.ahead tells l reads)) in
      rows_more l c.args.schema.now.family (IsItemRow c.args.schema.now) c.in-Ok-Some.next.0
      c.in-Ok-Some.next.1
      (rows_next l c.args.schema.now.family (IsItemRow c.args.schema.now) c.rows.from
      (c.rows.invariant.items tells l reads)
      c.in-Ok-Some.next.0 c.in-Ok-Some.next.1 first) first.shows c.in-Ok.ensures.item
      c.in-Ok-key_after.after
      (c.in-Ok-key_after.ensures ∙ ap (λ k. k ++ 0 ∷ []) c.as_slice.ensures.same);
  sized = λ tells l reads.
      let first : IsFirstFrom l c.args.schema.now.family c.rows.from c.in-Ok-Some.next.0
      c.in-Ok-Some.next.1 =
      subst (IsNextRow l c.args.schema.now.family c.rows.from) c.in-Ok-Some.field-0-is
      (c.in-Ok-Some.ensures.row
      (subst IsTrue (sym c.rows.invariant.walked.goes.tells) tells) l
      (reads_on (g.D.Disk.state c.args.disk.now) (g.D.Disk.state c.rows.disk) c.args.engine.now
      c.rows.engine l c.rows.invariant.walked tells reads)
      (c.rows.invariant.ahead tells l reads)) in
      sized_more l c.args.schema.now.family c.rows.largest c.in-Ok.size c.max-largest.result
      c.max-largest.ensures c.rows.from (c.rows.invariant.sized tells l reads)
      c.in-Ok-Some.next.0 c.in-Ok-Some.next.1 first c.in-Ok.ensures.size
      c.in-Ok-key_after.after
      (c.in-Ok-key_after.ensures ∙ ap (λ k. k ++ 0 ∷ []) c.as_slice.ensures.same);
  ahead = λ tells l reads. ahead_then l c.args.schema.now.family c.in-Ok-Some.field-0 c.in-Ok-Some.next
      c.next_row.new.ahead.items c.in-Ok-Some.field-0-is
      (c.in-Ok-Some.ensures.ahead (subst IsTrue (sym c.rows.invariant.walked.goes.tells) tells) l
      (reads_on (g.D.Disk.state c.args.disk.now) (g.D.Disk.state c.rows.disk) c.args.engine.now
      c.rows.engine l c.rows.invariant.walked tells reads)
      (c.rows.invariant.ahead tells l reads))
      c.in-Ok-key_after.after
      (c.in-Ok-key_after.ensures ∙ ap (λ k. k ++ 0 ∷ []) c.as_slice.ensures.same);
}

pub returns-in-Ok-None-clause-walked : goal.returns-in-Ok-None-clause-walked
returns-in-Ok-None-clause-walked g c =
    walk_then (g.D.Disk.state c.args.disk.now) (g.D.Disk.state c.rows.disk) (g.D.Disk.state
    c.next_row.new.disk) c.args.engine.now c.rows.engine c.next_row.new.engine
    c.rows.invariant.walked c.next_row.ensures.walked

pub returns-in-Err-clause-walked : goal.returns-in-Err-clause-walked
returns-in-Err-clause-walked g c =
    walk_then (g.D.Disk.state c.args.disk.now) (g.D.Disk.state c.rows.disk) (g.D.Disk.state
    c.next_row.new.disk) c.args.engine.now c.rows.engine c.next_row.new.engine
    c.rows.invariant.walked c.next_row.ensures.walked

pub returns-in-Err-Bad-clause-walked : goal.returns-in-Err-Bad-clause-walked
returns-in-Err-Bad-clause-walked g c =
    walk_then (g.D.Disk.state c.args.disk.now) (g.D.Disk.state c.rows.disk) (g.D.Disk.state
    c.next_row.new.disk) c.args.engine.now c.rows.engine c.next_row.new.engine
    c.rows.invariant.walked c.next_row.ensures.walked

pub returns-in-Err-NoMemory-clause-walked : goal.returns-in-Err-NoMemory-clause-walked
returns-in-Err-NoMemory-clause-walked g c =
    walk_then (g.D.Disk.state c.args.disk.now) (g.D.Disk.state c.rows.disk) (g.D.Disk.state
    c.next_row.new.disk) c.args.engine.now c.rows.engine c.next_row.new.engine
    c.rows.invariant.walked c.next_row.ensures.walked

pub returns-in-Err-key_after-clause-walked : goal.returns-in-Err-key_after-clause-walked
returns-in-Err-key_after-clause-walked g c =
    walk_then (g.D.Disk.state c.args.disk.now) (g.D.Disk.state c.rows.disk) (g.D.Disk.state
    c.next_row.new.disk) c.args.engine.now c.rows.engine c.next_row.new.engine
    c.rows.invariant.walked c.next_row.ensures.walked

pub returns-in-Err-clause-wrong : goal.returns-in-Err-clause-wrong
returns-in-Err-clause-wrong g c tells l reads =
    device_item l c.args.schema.now c.in-Err.fault (c.in-Err.ensures.fault (subst IsTrue (sym
    c.rows.invariant.walked.goes.tells) tells) l (reads_on (g.D.Disk.state c.args.disk.now)
    (g.D.Disk.state c.rows.disk) c.args.engine.now c.rows.engine l c.rows.invariant.walked tells
    reads))
