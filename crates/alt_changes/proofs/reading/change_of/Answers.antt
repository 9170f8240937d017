-- A row is that of the change that was read, or it is bad where a cell of it is.
use Rattle.std.proofs.Common.{◌≡◌, true, false, Err, ap, subst, refl, codes}
use Rattle.std.specs.FinMap.{entries}
use Rattle.std.specs.List.{list_all}
use Rattle.alt_base.proofs.Options.{told_error}
use Rattle.alt_changes.specs.NoChange.{IsBadItem, IsBadMoment, IsBadWriter, in_moment, in_new, in_old, in_writer, is_column}
use Rattle.alt_changes.proofs.Found.{MomentRead, change_read, item_good, moment_good, no_bad_moment, no_bad_new, no_bad_old, no_bad_writer, no_others, some_moment}
use Rattle.alt_changes.proofs.reading.change_of.Goals as goal
use Rattle.alt_fields.specs.declared.bytes.BytesFault.TheVariants.{Bad}

-- ---- the moment is bad

pub returns-in_err-moment-clause-none : goal.returns-in_err-moment-clause-none
returns-in_err-moment-clause-none c at bad other read is =
    no_bad_moment c.args.row.now other is at (c.in_err-moment.ensures.bad at
    (ap Err (told_error c.from_residual.result c.in_err-moment.field-0.0 (Bad at)
    c.from_residual.ensures bad)))

pub returns-in_err-moment-clause-place : goal.returns-in_err-moment-clause-place
returns-in_err-moment-clause-place c at bad =
    let there : IsBadMoment c.args.row.now at = c.in_err-moment.ensures.bad at
    (ap Err (told_error c.from_residual.result c.in_err-moment.field-0.0 (Bad at)
    c.from_residual.ensures bad)) in
    in_moment there.0 there.1 there.2

-- ---- the new item is

pub returns-in_err-new-clause-none : goal.returns-in_err-new-clause-none
returns-in_err-new-clause-none c at bad other read is =
    no_bad_new c.args.row.now other is at read (c.in_err-new.ensures.bad at
    (ap Err (told_error c.from_residual-in_err-new.result c.in_err-new.field-0.0 (Bad at)
    c.from_residual-in_err-new.ensures bad)))

pub returns-in_err-new-clause-place : goal.returns-in_err-new-clause-place
returns-in_err-new-clause-place c at bad =
    let there : IsBadItem c.args.row.now (codes "n") at = c.in_err-new.ensures.bad at
    (ap Err (told_error c.from_residual-in_err-new.result c.in_err-new.field-0.0 (Bad at)
    c.from_residual-in_err-new.ensures bad)) in
    in_new (moment_good c.args.row.now c.in_ok-moment.moment c.in_ok-moment.ensures.moment)
    there.0 there.1 there.2

-- ---- the old item is

pub returns-in_err-old-clause-none : goal.returns-in_err-old-clause-none
returns-in_err-old-clause-none c at bad other read is =
    no_bad_old c.args.row.now other is at read (c.in_err-old.ensures.bad at
    (ap Err (told_error c.from_residual-in_err-old.result c.in_err-old.field-0.0 (Bad at)
    c.from_residual-in_err-old.ensures bad)))

pub returns-in_err-old-clause-place : goal.returns-in_err-old-clause-place
returns-in_err-old-clause-place c at bad =
    let there : IsBadItem c.args.row.now (codes "o") at = c.in_err-old.ensures.bad at
    (ap Err (told_error c.from_residual-in_err-old.result c.in_err-old.field-0.0 (Bad at)
    c.from_residual-in_err-old.ensures bad)) in
    in_old (moment_good c.args.row.now c.in_ok-moment.moment c.in_ok-moment.ensures.moment)
    (item_good c.args.row.now (codes "n") c.in_ok-new.new c.in_ok-new.ensures.item)
    there.0 there.1 there.2

-- ---- the cell of who wrote the change is

pub returns-in_err-by-clause-none : goal.returns-in_err-by-clause-none
returns-in_err-by-clause-none c at bad other read is =
    no_bad_writer c.args.row.now other is at (c.in_err-by.ensures.bad at
    (ap Err (told_error c.from_residual-in_err-by.result c.in_err-by.field-0.0 (Bad at)
    c.from_residual-in_err-by.ensures bad)))

pub returns-in_err-by-clause-place : goal.returns-in_err-by-clause-place
returns-in_err-by-clause-place c at bad =
    let there : IsBadWriter c.args.row.now at = c.in_err-by.ensures.bad at
    (ap Err (told_error c.from_residual-in_err-by.result c.in_err-by.field-0.0 (Bad at)
    c.from_residual-in_err-by.ensures bad)) in
    in_writer (moment_good c.args.row.now c.in_ok-moment.moment c.in_ok-moment.ensures.moment)
    (item_good c.args.row.now (codes "n") c.in_ok-new.new c.in_ok-new.ensures.item)
    (item_good c.args.row.now (codes "o") c.in_ok-old.old c.in_ok-old.ensures.item)
    there.0 there.1 there.2 there.3

-- ---- a cell is missing, or is too many

pub returns-in_default-clause-none : goal.returns-in_default-clause-none
returns-in_default-clause-none c at bad other read is =
    some_moment c.args.row.now other is
    (subst (MomentRead c.args.row.now) c.in_default.is c.in_ok-moment.ensures.moment)

pub returns-then-not-has_no_others-clause-none : goal.returns-then-not-has_no_others-clause-none
returns-then-not-has_no_others-clause-none c at bad other read is =
    let more : list_all (λ e. is_column e.0) (entries c.args.row.now) ≡ false =
    cc (c.has_no_others.ensures, c.if-not-has_no_others.true) in
    no_others c.args.row.now other is more

-- ---- the change

pub returns-clause-change : goal.returns-clause-change
returns-clause-change c =
    let alone : list_all (λ e. is_column e.0) (entries c.args.row.now) ≡ true =
    cc (c.has_no_others.ensures, c.if-not-has_no_others.false) in
    let read = change_read c.args.row.now (record {
      number = c.args.number;
      moment = c.in-Some.moment;
      old = c.in_ok-old.old;
      new = c.in_ok-new.new;
      by = c.in_ok-by.by;
    }) (subst (MomentRead c.args.row.now) c.in-Some.is c.in_ok-moment.ensures.moment)
    c.in_ok-new.ensures.item c.in_ok-old.ensures.item c.in_ok-by.ensures.writer alone in
    (refl, read.0, read.1)
