-- The engine reads as the files are, and its rows are those of a state, or none's.
use Rattle.std.proofs.Common.{refl, sym, ap, subst, ◌∙◌, IsTrue, arith}
use Rattle.alt_disk.proofs.Runs.{tells_of, trusted_on}
use Rattle.alt_engine.specs.InHand.{Bounds, last_form_of_engine, next_file_of_engine}
use Rattle.alt_engine.proofs.HandSegmentFiles.{files_made-few}
use Rattle.alt_opening.specs.FirstFiles.{IsFirstFile}
use Rattle.alt_opening.proofs.Recovering.{stands_then, rows_explain, rows_no_state, files_explain, files_no_state, left_at_once, left_before, stands_like, stands_behind}
use Rattle.alt_opening.proofs.recover.open_store.Goals as goal

pub returns-in-Err-clause-no_state : goal.returns-in-Err-clause-no_state
returns-in-Err-clause-no_state g c tells =
    files_no_state (g.D.Disk.state c.args.disk.now).file c.in-Err.fault c.from.result
    c.from.ensures (c.in-Err.ensures.no_layout tells)

pub returns-in-Ok-read_rows-clause-reads : goal.returns-in-Ok-read_rows-clause-reads
returns-in-Ok-read_rows-clause-reads g c tells =
    let (l, is, reads) = c.in-Ok.ensures.ok tells in
    let (s, made) = c.in-Ok-read_rows.ensures.read
    (subst IsTrue (sym c.in-Ok.ensures.goes.tells) tells) l reads in (
      s,
      record {
        layout = l;
        is = is;
        shows = made.shows;
        valid = made.valid;
        held = made.held;
      },
    )

pub returns-in-Ok-read_rows-clause-stands : goal.returns-in-Ok-read_rows-clause-stands
returns-in-Ok-read_rows-clause-stands g c trusted r stands =
    let tells = tells_of (g.D.Disk.state c.args.disk.now) trusted in
    let (l, is, reads) = c.in-Ok.ensures.ok tells in
    let (s, made) = c.in-Ok-read_rows.ensures.read
    (subst IsTrue (sym c.in-Ok.ensures.goes.tells) tells) l reads in
    stands_then (g.D.Disk.state c.args.disk.now) (g.D.Disk.state c.recover.new.disk)
    (g.D.Disk.state c.read_rows.new.disk) c.in-Ok.engine c.read_rows.new.engine l is reads
    c.in-Ok-read_rows.ensures.walked _ refl s made
    (trusted_on (g.D.Disk.state c.args.disk.now) (g.D.Disk.state c.recover.new.disk)
    c.in-Ok.ensures.goes trusted) (c.in-Ok.ensures.stands trusted l reads) r stands

pub returns-in-Err-read_rows-clause-explained : goal.returns-in-Err-read_rows-clause-explained
returns-in-Err-read_rows-clause-explained g c tells =
    let (l, is, reads) = c.in-Ok.ensures.ok tells in
    rows_explain (g.D.Disk.state c.args.disk.now).file l is c.in-Err-read_rows.fault
    (c.in-Err-read_rows.ensures.wrong (subst IsTrue (sym c.in-Ok.ensures.goes.tells) tells) l reads)

pub returns-in-Err-read_rows-clause-no_state : goal.returns-in-Err-read_rows-clause-no_state
returns-in-Err-read_rows-clause-no_state g c tells =
    let (l, is, reads) = c.in-Ok.ensures.ok tells in
    rows_no_state (g.D.Disk.state c.args.disk.now).file l is c.in-Err-read_rows.fault
    (c.in-Err-read_rows.ensures.wrong (subst IsTrue (sym c.in-Ok.ensures.goes.tells) tells) l reads)

pub returns-in-Err-clause-explained : goal.returns-in-Err-clause-explained
returns-in-Err-clause-explained g c tells =
    files_explain (g.D.Disk.state c.args.disk.now).file c.in-Err.fault c.from.result
    c.from.ensures (c.in-Err.ensures.damaged tells)

-- ---- what is left

pub returns-in-Err-clause-any_moment : goal.returns-in-Err-clause-any_moment
returns-in-Err-clause-any_moment g c trusted =
    left_at_once (g.D.Disk.state c.args.disk.now) (g.D.Disk.state c.recover.new.disk)
    (c.in-Err.ensures.any_moment trusted)

pub returns-in-Ok-read_rows-clause-any_moment : goal.returns-in-Ok-read_rows-clause-any_moment
returns-in-Ok-read_rows-clause-any_moment g c trusted =
    left_before (g.D.Disk.state c.args.disk.now) (g.D.Disk.state c.recover.new.disk)
    (g.D.Disk.state c.read_rows.new.disk) (c.in-Ok.ensures.any_moment trusted)
    (c.in-Ok-read_rows.ensures.walked.quiet (tells_of (g.D.Disk.state c.recover.new.disk)
    (trusted_on (g.D.Disk.state c.args.disk.now) (g.D.Disk.state c.recover.new.disk)
    c.in-Ok.ensures.goes trusted)))

pub returns-in-Err-read_rows-clause-any_moment : goal.returns-in-Err-read_rows-clause-any_moment
returns-in-Err-read_rows-clause-any_moment g c trusted =
    left_before (g.D.Disk.state c.args.disk.now) (g.D.Disk.state c.recover.new.disk)
    (g.D.Disk.state c.read_rows.new.disk) (c.in-Ok.ensures.any_moment trusted)
    (c.in-Err-read_rows.ensures.walked.quiet (tells_of (g.D.Disk.state c.recover.new.disk)
    (trusted_on (g.D.Disk.state c.args.disk.now) (g.D.Disk.state c.recover.new.disk)
    c.in-Ok.ensures.goes trusted)))

pub returns-in-Err-clause-files : goal.returns-in-Err-clause-files
returns-in-Err-clause-files g c tells = stands_like (g.D.Disk.state c.args.disk.now).file
    (g.D.Disk.state c.recover.new.disk).file (c.in-Err.ensures.files tells)

pub returns-in-Ok-read_rows-clause-files : goal.returns-in-Ok-read_rows-clause-files
returns-in-Ok-read_rows-clause-files g c tells =
    stands_behind (g.D.Disk.state c.args.disk.now) (g.D.Disk.state c.recover.new.disk)
    (g.D.Disk.state c.read_rows.new.disk) (c.in-Ok.ensures.files tells)
    (c.in-Ok-read_rows.ensures.walked.quiet
    (subst IsTrue (sym c.in-Ok.ensures.goes.tells) tells))

pub returns-in-Err-read_rows-clause-files : goal.returns-in-Err-read_rows-clause-files
returns-in-Err-read_rows-clause-files g c tells =
    stands_behind (g.D.Disk.state c.args.disk.now) (g.D.Disk.state c.recover.new.disk)
    (g.D.Disk.state c.read_rows.new.disk) (c.in-Ok.ensures.files tells)
    (c.in-Err-read_rows.ensures.walked.quiet
    (subst IsTrue (sym c.in-Ok.ensures.goes.tells) tells))

-- ---- the next file

pub returns-in-Ok-read_rows-clause-next_file : goal.returns-in-Ok-read_rows-clause-next_file
returns-in-Ok-read_rows-clause-next_file g c tells v last =
    subst (λ (b : Bounds). IsFirstFile v (g.D.Disk.state c.args.disk.now).file b.file)
    (sym c.in-Ok-read_rows.ensures.walked.bounds)
    (let few = files_made-few (last_form_of_engine c.in-Ok.engine) in record {
      next = next_file_of_engine c.in-Ok.engine;
      is = c.in-Ok.ensures.next_file tells v last;
      least = omega arith;
      most = omega (arith, few);
    })

pub returns-in-Ok-read_rows-clause-limits : goal.returns-in-Ok-read_rows-clause-limits
returns-in-Ok-read_rows-clause-limits g c =
    ap (λ (b : Bounds). b.limits) c.in-Ok-read_rows.ensures.walked.bounds ∙ c.in-Ok.ensures.limits
