-- Those that change something are got ready, and then they are made as one entry.
use Rattle.std.proofs.Common.{◌≡◌, ◌≤◌, ◌<◌, ◌+◌, ◌-◌, ◌^◌, ◌==◌, inl, inr, refl, sym, ap, subst, ◌∙◌, ℕ, Bool, true, false, cond, List, [], ◌∷◌, length, map as each, min, arith}
use Rattle.std.proofs.Math.Nat.{min-le_left}
use Rattle.std.specs.Prelude.{not}
use Rattle.alt_cells.specs.declared.batch.RowChange.{RowChange}
use Rattle.alt_disk.specs.Disk.{DiskState}
use Rattle.alt_disk.proofs.Runs.{quiet_start, trusted_back, trusted_on}
use Rattle.alt_rowchanges.specs.OpeningEngineInHand.{Bounds, bounds_of_engine as engine_bounds}
use Rattle.alt_layout.specs.Layout.{Layout}
use Rattle.alt_machine.specs.declared.TheConstants.{NUMBERS_END}
use Rattle.alt_machine.specs.Ops.BatchWriteItem.{writes_of_all_by}
use Rattle.alt_machine.specs.Outcomes.{last_state, together}
use Rattle.alt_machine.specs.Same.{is_same}
use Rattle.alt_machine.specs.State.{State}
use Rattle.alt_tables.specs.Faults.{AreAllMade}
use Rattle.alt_tables.specs.Several.{TurnsAll, batches_of, with_batches, written_at}
use Rattle.alt_tables.specs.Stands.{HasRows, Stands, catalog_of, next_write_of_tables}
use Rattle.alt_tables.specs.declared.several.ItemChange.{ItemChange}
use Rattle.alt_tables.specs.declared.tables.Tables.{Tables}
use Rattle.alt_tables.specs.private.Staging.{IsStaged, differing_of}
use Rattle.alt_tables.proofs.Holding.{leaves_quiet}
use Rattle.alt_tables.proofs.Left.{leaves_reads}
use Rattle.alt_tables.proofs.MakingAll.{apart_left, count_left, differ_left, found_left, leave_then, may_left, rows_left, stand_then, still_holds, still_rows, writes_left}
use Rattle.alt_tables.proofs.tables.Tables.write_all.Goals as goal

-- ---- how many there are

zero_of : (n : ℕ) → true ≡ (n == 0) → n ≡ 0
zero_of n e = grind arith

some_of : (n : ℕ) → false ≡ (n == 0) → 1 ≤ n
some_of n e = grind arith

none_in : (cs : List ItemChange) → length cs ≡ 0 → cs ≡ []
none_in [] e = refl
none_in (c ∷ cs) e = absurd (omega (arith, e))

over : (n m r : ℕ) → r ≡ min n m → NUMBERS_END < r → NUMBERS_END < n
over n m r is more = let low = min-le_left n m in omega (arith, is, more, low)

under : (n r : ℕ) → r ≡ min n (2 ^ 64 - 1) → r ≤ NUMBERS_END → n ≤ NUMBERS_END
under n r is low = grind arith

few_left : (cs : List ItemChange) → length (differing_of cs) ≤ length cs
few_left [] = omega arith
few_left (c ∷ cs) = by (not (is_same c.found.item c.new)) (few_left cs)
  where
    by : (b : Bool) → length (differing_of cs) ≤ length cs
        → length (cond b (c ∷ differing_of cs) (differing_of cs)) ≤ length (c ∷ cs)
    by true rest = omega (arith, rest)
    by false rest = omega (arith, rest)

-- ---- none changes something

pub returns-then-is_empty-clause-writes : goal.returns-then-is_empty-clause-writes
returns-then-is_empty-clause-writes g c s stands =
    let a : DiskState = g.D.Disk.state c.args.disk.now in
    let old : Tables = c.args.self.now in
    let cs : List ItemChange = c.args.changes.items in
    let ds : List ItemChange = c.differing-changes.result.items in
    let none : writes_of_all_by s c.args.moment c.args.by (each written_at cs) ≡ [] =
    writes_left (catalog_of old) cs ds c.differing-changes.ensures c.requires.may c.requires.apart s
    (c.requires.found s stands) c.args.moment c.args.by
    ∙ ap (λ es. writes_of_all_by s c.args.moment c.args.by (each written_at es))
    (none_in ds (sym c.differing-changes.result.ok.0 ∙ zero_of _ c.if-is_empty.ensures)) in
    subst (AreAllMade (Stands a old) s) (sym none)
    (record { state = stands; enough = let most = stands.valid.next_number.1 in omega (arith, most) })

pub returns-then-is_empty-clause-count : goal.returns-then-is_empty-clause-count
returns-then-is_empty-clause-count g c s stands =
    let a : DiskState = g.D.Disk.state c.args.disk.now in
    let old : Tables = c.args.self.now in
    let cs : List ItemChange = c.args.changes.items in
    let ds : List ItemChange = c.differing-changes.result.items in
    sym (ap length (writes_left (catalog_of old) cs ds c.differing-changes.ensures c.requires.may
    c.requires.apart s (c.requires.found s stands) c.args.moment c.args.by
    ∙ ap (λ es. writes_of_all_by s c.args.moment c.args.by (each written_at es))
    (none_in ds (sym c.differing-changes.result.ok.0 ∙ zero_of _ c.if-is_empty.ensures))))

pub returns-then-is_empty-clause-disk : goal.returns-then-is_empty-clause-disk
returns-then-is_empty-clause-disk g c s stands =
    leaves_quiet (g.D.Disk.state c.args.disk.now) (g.D.Disk.state c.args.disk.now)
    c.args.self.now.engine s (together s
    (writes_of_all_by s c.args.moment c.args.by (each written_at c.args.changes.items)))
    stands.rows stands.valid (quiet_start (g.D.Disk.state c.args.disk.now))

pub returns-then-is_empty-clause-rows : goal.returns-then-is_empty-clause-rows
returns-then-is_empty-clause-rows g c s l stands rows =
    let a : DiskState = g.D.Disk.state c.args.disk.now in
    let old : Tables = c.args.self.now in
    let cs : List ItemChange = c.args.changes.items in
    let ds : List ItemChange = c.differing-changes.result.items in
    subst (λ bs. HasRows a old (with_batches l bs))
    (sym (rows_left (catalog_of old) cs ds c.differing-changes.ensures c.requires.may
    c.requires.apart s (c.requires.found s stands) c.args.moment c.args.by l
    ∙ ap (λ es. batches_of l s c.args.moment c.args.by (each written_at es))
    (none_in ds (sym c.differing-changes.result.ok.0 ∙ zero_of _ c.if-is_empty.ensures)))) rows

-- ---- there aren't numbers for all

pub returns-then-saturating_add-gt-NUMBERS_END-clause-writes :
    goal.returns-then-saturating_add-gt-NUMBERS_END-clause-writes
returns-then-saturating_add-gt-NUMBERS_END-clause-writes g c s stands =
    let a : DiskState = g.D.Disk.state c.args.disk.now in
    let old : Tables = c.args.self.now in
    let cs : List ItemChange = c.args.changes.items in
    let ds : List ItemChange = c.differing-changes.result.items in
    let count = count_left (catalog_of old) cs ds c.differing-changes.ensures c.requires.may
    c.requires.apart s (c.requires.found s stands) c.args.moment c.args.by a old refl stands in
    let more = over _ _ c.saturating_add.result c.saturating_add.ensures
    c.if-saturating_add-gt-NUMBERS_END.true in (
      inl (
        refl,
        omega (
          arith,
          count,
          more,
          stands.number,
          c.next_number.ensures.next,
          c.len-count.ensures,
          c.differing-changes.result.ok.0,
        ),
      ),
      stands,
    )

pub returns-then-saturating_add-gt-NUMBERS_END-clause-disk :
    goal.returns-then-saturating_add-gt-NUMBERS_END-clause-disk
returns-then-saturating_add-gt-NUMBERS_END-clause-disk g c s stands =
    leaves_quiet (g.D.Disk.state c.args.disk.now) (g.D.Disk.state c.args.disk.now)
    c.args.self.now.engine s (together s
    (writes_of_all_by s c.args.moment c.args.by (each written_at c.args.changes.items)))
    stands.rows stands.valid (quiet_start (g.D.Disk.state c.args.disk.now))

-- ---- there is no file for their segment

pub returns-in-Some-clause-writes : goal.returns-in-Some-clause-writes
returns-in-Some-clause-writes g c s stands =
    let a : DiskState = g.D.Disk.state c.args.disk.now in
    let old : Tables = c.args.self.now in
    let cs : List ItemChange = c.args.changes.items in
    let ds : List ItemChange = c.differing-changes.result.items in
    let count = count_left (catalog_of old) cs ds c.differing-changes.ensures c.requires.may
    c.requires.apart s (c.requires.found s stands) c.args.moment c.args.by a old refl stands in
    let low = under (c.next_number.result + c.len-count.result) c.saturating_add.result
    c.saturating_add.ensures c.if-saturating_add-gt-NUMBERS_END.false in (
      inr (
        omega (
          arith,
          count,
          low,
          stands.number,
          c.next_number.ensures.next,
          c.len-count.ensures,
          c.differing-changes.result.ok.0,
        ),
        (
          let some = some_of _ c.if-is_empty.ensures in
              omega (arith, count, some, c.differing-changes.result.ok.0),
          c.in-Some.ensures.last,
        ),
      ),
      stands,
    )

pub returns-in-Some-clause-disk : goal.returns-in-Some-clause-disk
returns-in-Some-clause-disk g c s stands =
    leaves_quiet (g.D.Disk.state c.args.disk.now) (g.D.Disk.state c.args.disk.now)
    c.args.self.now.engine s (together s
    (writes_of_all_by s c.args.moment c.args.by (each written_at c.args.changes.items)))
    stands.rows stands.valid (quiet_start (g.D.Disk.state c.args.disk.now))

-- ---- they are got ready

pub stage_all-requires-clause-may : goal.stage_all-requires-clause-may
stage_all-requires-clause-may g c =
    let a : DiskState = g.D.Disk.state c.args.disk.now in
    let old : Tables = c.args.self.now in
    let cs : List ItemChange = c.args.changes.items in
    let ds : List ItemChange = c.differing-changes.result.items in
    may_left (catalog_of old) cs ds c.differing-changes.ensures c.requires.may c.requires.apart

pub stage_all-requires-clause-apart : goal.stage_all-requires-clause-apart
stage_all-requires-clause-apart g c =
    let a : DiskState = g.D.Disk.state c.args.disk.now in
    let old : Tables = c.args.self.now in
    let cs : List ItemChange = c.args.changes.items in
    let ds : List ItemChange = c.differing-changes.result.items in
    apart_left (catalog_of old) cs ds c.differing-changes.ensures c.requires.may c.requires.apart

pub stage_all-requires-clause-differ : goal.stage_all-requires-clause-differ
stage_all-requires-clause-differ g c =
    let a : DiskState = g.D.Disk.state c.args.disk.now in
    let old : Tables = c.args.self.now in
    let cs : List ItemChange = c.args.changes.items in
    let ds : List ItemChange = c.differing-changes.result.items in
    differ_left (catalog_of old) cs ds c.differing-changes.ensures c.requires.may c.requires.apart

pub stage_all-requires-clause-found : goal.stage_all-requires-clause-found
stage_all-requires-clause-found g c s stands =
    let a : DiskState = g.D.Disk.state c.args.disk.now in
    let old : Tables = c.args.self.now in
    let cs : List ItemChange = c.args.changes.items in
    let ds : List ItemChange = c.differing-changes.result.items in
    found_left (catalog_of old) cs ds c.differing-changes.ensures c.requires.may c.requires.apart s
    (c.requires.found s stands) c.args.moment c.args.by

pub returns-in-Err-clause-disk : goal.returns-in-Err-clause-disk
returns-in-Err-clause-disk g c s stands =
    leaves_reads (g.D.Disk.state c.args.disk.now) (g.D.Disk.state c.stage_all.new.disk)
    c.args.self.now s (together s
    (writes_of_all_by s c.args.moment c.args.by (each written_at c.args.changes.items)))
    c.stage_all.ensures.keeps.reads stands

pub returns-in_err-know_all-clause-disk : goal.returns-in_err-know_all-clause-disk
returns-in_err-know_all-clause-disk g c s stands =
    leaves_reads (g.D.Disk.state c.args.disk.now) (g.D.Disk.state c.stage_all.new.disk)
    c.args.self.now s (together s
    (writes_of_all_by s c.args.moment c.args.by (each written_at c.args.changes.items)))
    c.stage_all.ensures.keeps.reads stands

-- ---- they are made

pub make_all-requires-clause-ready : goal.make_all-requires-clause-ready
make_all-requires-clause-ready g c trusted =
    let a : DiskState = g.D.Disk.state c.args.disk.now in
    let m : DiskState = g.D.Disk.state c.stage_all.new.disk in
    let (s, stands) = c.requires.ready (trusted_back a m c.stage_all.ensures.keeps.reads.goes
    trusted) in (
      s,
      still_holds a m c.args.self.now c.stage_all.new.self c.know_all.new.self
          c.stage_all.ensures.keeps c.know_all.ensures.kept.0 s stands,
    )

pub make_all-requires-clause-file : goal.make_all-requires-clause-file
make_all-requires-clause-file g c = subst (λ (b : Bounds). b.file < 2 ^ 32)
    (sym (ap engine_bounds c.know_all.ensures.kept.0 ∙ c.stage_all.ensures.keeps.limits))
    (c.in_default.ensures.none refl)

pub returns-in-Ok-make_all-clause-writes : goal.returns-in-Ok-make_all-clause-writes
returns-in-Ok-make_all-clause-writes g c s stands =
    let a : DiskState = g.D.Disk.state c.args.disk.now in
    let old : Tables = c.args.self.now in
    let cs : List ItemChange = c.args.changes.items in
    let ds : List ItemChange = c.differing-changes.result.items in
    let m : DiskState = g.D.Disk.state c.stage_all.new.disk in
    let b : DiskState = g.D.Disk.state c.make_all.new.disk in
    let mid : Tables = c.stage_all.new.self in
    let known : Tables = c.know_all.new.self in
    let new : Tables = c.make_all.new.self in
    let l : Layout = stands.rows.layout in
    let made : List (List RowChange) = c.in-Ok.staged.batches.items in
    let count = count_left (catalog_of old) cs ds c.differing-changes.ensures c.requires.may
    c.requires.apart s (c.requires.found s stands) c.args.moment c.args.by a old refl stands in
    let are : IsStaged l s c.args.moment c.args.by (each written_at ds) c.in-Ok.staged =
    c.in-Ok.ensures.staged s l stands stands.rows.is in
    let last : State =
    last_state s (writes_of_all_by s c.args.moment c.args.by (each written_at ds)) in
    let given : c.as_slice.result.now ≡ made = c.as_slice.ensures.value in
    record {
      state = subst (λ ts. Stands b new (last_state s ts)) (sym (writes_left (catalog_of old) cs ds
          c.differing-changes.ensures c.requires.may c.requires.apart s (c.requires.found s stands)
          c.args.moment c.args.by))
          (stand_then a m old mid known c.stage_all.ensures.keeps c.know_all.ensures.kept.0 s stands
          b new c.args.moment c.args.by (each written_at ds) c.in-Ok.staged are
          c.in_ok-know_all.ensures.known
          (c.in-Ok-make_all.ensures.ok s last
          (still_holds a m old mid known c.stage_all.ensures.keeps c.know_all.ensures.kept.0 s stands)
          (subst (λ bs. TurnsAll bs s last) (sym given) are.ahead.turns))
          (subst (λ bs. HasRows b new (with_batches l bs)) given
          (c.in-Ok-make_all.ensures.rows
          (trusted_on a m c.stage_all.ensures.keeps.reads.goes stands.rows.trusted) l
          (still_rows a m old mid known c.stage_all.ensures.keeps c.know_all.ensures.kept.0 s stands l
          stands.rows.is)))
          (c.make_all.ensures.kept.0 ∙ c.know_all.ensures.kept.1)
          (c.make_all.ensures.kept.1 ∙ c.know_all.ensures.kept.2)
          (c.make_all.ensures.kept.2 ∙ c.know_all.ensures.kept.3)
          c.make_all.ensures.kept.3 c.make_all.ensures.kept.4
          c.in-Ok.ensures.foretold (c.make_all.ensures.kept.5 ∙ c.know_all.ensures.kept.4)
          c.in-Ok.ensures.fits (c.make_all.ensures.kept.7 ∙ c.know_all.ensures.kept.6)
          (c.make_all.ensures.kept.6 ∙ c.know_all.ensures.kept.5)
          (subst (λ bs. next_write_of_tables new ≡ next_write_of_tables known + length bs) given
          c.in-Ok-make_all.ensures.next));
      enough = let low = under (c.next_number.result + c.len-count.result) c.saturating_add.result
          c.saturating_add.ensures c.if-saturating_add-gt-NUMBERS_END.false in
          omega (
            arith,
            count,
            low,
            stands.number,
            c.next_number.ensures.next,
            c.len-count.ensures,
            c.differing-changes.result.ok.0,
          );
    }

pub returns-in-Ok-make_all-clause-count : goal.returns-in-Ok-make_all-clause-count
returns-in-Ok-make_all-clause-count g c s stands =
    let a : DiskState = g.D.Disk.state c.args.disk.now in
    let old : Tables = c.args.self.now in
    let cs : List ItemChange = c.args.changes.items in
    let ds : List ItemChange = c.differing-changes.result.items in
    let count = count_left (catalog_of old) cs ds c.differing-changes.ensures c.requires.may
    c.requires.apart s (c.requires.found s stands) c.args.moment c.args.by a old refl stands in
    c.len-count.ensures ∙ c.differing-changes.result.ok.0 ∙ sym count

pub returns-in-Ok-make_all-clause-most : goal.returns-in-Ok-make_all-clause-most
returns-in-Ok-make_all-clause-most g c =
    let few = few_left c.args.changes.items in
    let same : length c.differing-changes.result.items ≡ length (differing_of c.args.changes.items) =
    ap length c.differing-changes.ensures in
    omega (arith, few, same, c.len-count.ensures, c.differing-changes.result.ok.0)

pub returns-in-Ok-make_all-clause-rows : goal.returns-in-Ok-make_all-clause-rows
returns-in-Ok-make_all-clause-rows g c s l stands rows =
    let a : DiskState = g.D.Disk.state c.args.disk.now in
    let old : Tables = c.args.self.now in
    let cs : List ItemChange = c.args.changes.items in
    let ds : List ItemChange = c.differing-changes.result.items in
    let m : DiskState = g.D.Disk.state c.stage_all.new.disk in
    let b : DiskState = g.D.Disk.state c.make_all.new.disk in
    let mid : Tables = c.stage_all.new.self in
    let known : Tables = c.know_all.new.self in
    let new : Tables = c.make_all.new.self in
    let are : IsStaged l s c.args.moment c.args.by (each written_at ds) c.in-Ok.staged =
    c.in-Ok.ensures.staged s l stands rows in
    subst (λ bs. HasRows b new (with_batches l bs))
    (c.as_slice.ensures.value ∙ are.batches ∙ sym (rows_left (catalog_of old) cs ds
    c.differing-changes.ensures c.requires.may c.requires.apart s (c.requires.found s stands)
    c.args.moment c.args.by l))
    (c.in-Ok-make_all.ensures.rows
    (trusted_on a m c.stage_all.ensures.keeps.reads.goes stands.rows.trusted) l
    (still_rows a m old mid known c.stage_all.ensures.keeps c.know_all.ensures.kept.0 s stands l
    rows))

pub returns-in-Ok-make_all-clause-disk : goal.returns-in-Ok-make_all-clause-disk
returns-in-Ok-make_all-clause-disk g c s stands =
    let a : DiskState = g.D.Disk.state c.args.disk.now in
    let old : Tables = c.args.self.now in
    let cs : List ItemChange = c.args.changes.items in
    let ds : List ItemChange = c.differing-changes.result.items in
    let m : DiskState = g.D.Disk.state c.stage_all.new.disk in
    let b : DiskState = g.D.Disk.state c.make_all.new.disk in
    let mid : Tables = c.stage_all.new.self in
    let known : Tables = c.know_all.new.self in
    let new : Tables = c.make_all.new.self in
    let count = count_left (catalog_of old) cs ds c.differing-changes.ensures c.requires.may
    c.requires.apart s (c.requires.found s stands) c.args.moment c.args.by a old refl stands in
    let are : IsStaged stands.rows.layout s c.args.moment c.args.by (each written_at ds)
    c.in-Ok.staged = c.in-Ok.ensures.staged s stands.rows.layout stands stands.rows.is in
    let last : State =
    last_state s (writes_of_all_by s c.args.moment c.args.by (each written_at ds)) in
    let some = some_of _ c.if-is_empty.ensures in
    leave_then a m old mid known c.stage_all.ensures.keeps c.know_all.ensures.kept.0 s stands b new
    c.args.moment c.args.by (each written_at ds) c.in-Ok.staged are
    (writes_of_all_by s c.args.moment c.args.by (each written_at cs))
    (writes_left (catalog_of old) cs ds c.differing-changes.ensures c.requires.may c.requires.apart s
    (c.requires.found s stands) c.args.moment c.args.by)
    (omega (arith, count, some, c.differing-changes.result.ok.0))
    (c.make_all.ensures.disk s last
    (still_holds a m old mid known c.stage_all.ensures.keeps c.know_all.ensures.kept.0 s stands)
    stands.valid (subst (λ bs. TurnsAll bs s last) (sym c.as_slice.ensures.value) are.ahead.turns))

pub returns-clause-disk : goal.returns-clause-disk
returns-clause-disk g c s stands =
    let a : DiskState = g.D.Disk.state c.args.disk.now in
    let old : Tables = c.args.self.now in
    let cs : List ItemChange = c.args.changes.items in
    let ds : List ItemChange = c.differing-changes.result.items in
    let m : DiskState = g.D.Disk.state c.stage_all.new.disk in
    let b : DiskState = g.D.Disk.state c.make_all.new.disk in
    let mid : Tables = c.stage_all.new.self in
    let known : Tables = c.know_all.new.self in
    let new : Tables = c.make_all.new.self in
    let count = count_left (catalog_of old) cs ds c.differing-changes.ensures c.requires.may
    c.requires.apart s (c.requires.found s stands) c.args.moment c.args.by a old refl stands in
    let are : IsStaged stands.rows.layout s c.args.moment c.args.by (each written_at ds)
    c.in-Ok.staged = c.in-Ok.ensures.staged s stands.rows.layout stands stands.rows.is in
    let last : State =
    last_state s (writes_of_all_by s c.args.moment c.args.by (each written_at ds)) in
    let some = some_of _ c.if-is_empty.ensures in
    leave_then a m old mid known c.stage_all.ensures.keeps c.know_all.ensures.kept.0 s stands b new
    c.args.moment c.args.by (each written_at ds) c.in-Ok.staged are
    (writes_of_all_by s c.args.moment c.args.by (each written_at cs))
    (writes_left (catalog_of old) cs ds c.differing-changes.ensures c.requires.may c.requires.apart s
    (c.requires.found s stands) c.args.moment c.args.by)
    (omega (arith, count, some, c.differing-changes.result.ok.0))
    (c.make_all.ensures.disk s last
    (still_holds a m old mid known c.stage_all.ensures.keeps c.know_all.ensures.kept.0 s stands)
    stands.valid (subst (λ bs. TurnsAll bs s last) (sym c.as_slice.ensures.value) are.ahead.turns))
